-- At a locking site a ticket is held until its holder is prepared: a younger transaction that would take one dies.
use Rattle.std.proofs.Common.{◌≡◌, List, [], ◌∷◌, reverse, refl}
use Rattle.mdb_base.specs.declared.names.Engine.TheVariants.{Locking}
use Rattle.mdb_base.specs.declared.replies.Reply.TheVariants as Reply_is
use Rattle.mdb_base.specs.declared.replies.Why.TheVariants as Because
use Rattle.presumptions.specs.declared.Protocol.TheVariants as By
use Rattle.fed_rules.specs.declared.answers.Answer.TheVariants as Say
use Rattle.fed_rules.specs.declared.commands.Line.{Line}
use Rattle.fed_rules.specs.declared.scenario.Scenario.{Scenario}
use Rattle.fed_rules.specs.Right.{story_told}
use Rattle.fed_rules.specs.Story.{Story, lines_of}
use Rattle.fed_rules.proofs.Opened.{opened}
use Rattle.fed_rules.proofs.Spelled.{tid, set, site, step_at, global, scenario_of, go, give, take, place, line}

abbrev scenario : Scenario
scenario =
    scenario_of
    (site 1 Locking By.Nothing ∷ [])
    []
    (global 1 (step_at 1 (set 1 1) ∷ []) ∷ global 2 (step_at 1 (set 2 2) ∷ []) ∷ [])

-- the lines of the commands, the first one first
abbrev printed : List Line
printed =
    line (go 1) (Say.Begun (tid 1 0)) (place 1 0 ∷ [])
    ∷ line (go 2) (Say.Begun (tid 2 0)) (place 1 1 ∷ [])
    ∷ line (give 1 0) (Say.Did (tid 1 0) Reply_is.Done) (place 1 0 ∷ [])
    ∷ line (give 1 1) (Say.Did (tid 2 0) Reply_is.Done) (place 1 1 ∷ [])
    ∷ line (take 1 0) Say.Only (place 1 2 ∷ [])
    ∷ line (take 1 1) Say.Only (place 1 3 ∷ [])
    ∷ line (give 1 2) (Say.Did (tid 1 0) (Reply_is.Ticket 1)) (place 1 2 ∷ [])
    ∷ line (take 1 2) Say.Only (place 1 4 ∷ [])
    ∷ line (give 1 3) (Say.Did (tid 2 0) (Reply_is.Refused (Because.Die (tid 1 0)))) (place 1 3 ∷ [])
    ∷ []

-- the last line first
abbrev lines : List Line
lines = reverse printed

abbrev story : Story
story = story_told scenario lines

lines_are_right : lines_of story ≡ lines
unfolding opened
lines_are_right = refl
