-- By the conservative policy an attempt takes no ticket beside another one with a site in common, which takes its own: its Takes are held back
-- until the other one is decided. Both transactions of the opposite tickets then go on, and no cycle is closed.
use Rattle.std.proofs.Common.{◌≡◌, None, false, List, [], ◌∷◌, reverse, refl}
use Rattle.mdb_base.specs.declared.names.Engine.TheVariants.{Validation}
use Rattle.mdb_base.specs.declared.replies.Reply.TheVariants as Reply_is
use Rattle.presumptions.specs.declared.Decision.TheVariants as Decided
use Rattle.presumptions.specs.declared.Protocol.TheVariants as By
use Rattle.fed_rules.specs.declared.answers.Answer.TheVariants as Say
use Rattle.fed_rules.specs.declared.commands.Line.{Line}
use Rattle.fed_rules.specs.declared.scenario.Scenario.{Scenario}
use Rattle.fed_rules.specs.Right.{story_told}
use Rattle.fed_rules.specs.Story.{Story, lines_of}
use Rattle.fed_rules.proofs.Opened.{opened}
use Rattle.fed_rules.proofs.Spelled.{tid, get, set, site, step_at, global, scenario_of, conservatively, go, again, give, take, place, line}

abbrev scenario : Scenario
scenario =
    conservatively
    (scenario_of
    (site 1 Validation By.Nothing ∷ site 2 Validation By.Nothing ∷ [])
    []
    (global 1 (step_at 1 (get 1) ∷ step_at 2 (set 2 5) ∷ [])
    ∷ global 2 (step_at 2 (get 2) ∷ step_at 1 (set 1 7) ∷ []) ∷ []))

-- the lines of the commands, the first one first
abbrev printed : List Line
printed =
    line (go 1) (Say.Begun (tid 1 0)) (place 1 0 ∷ [])
    ∷ line (go 2) (Say.Begun (tid 2 0)) (place 2 0 ∷ [])
    ∷ line (give 1 0) (Say.Did (tid 1 0) (Reply_is.Value 0)) (place 1 0 ∷ [])
    ∷ line (take 1 0) Say.Only (place 1 1 ∷ place 2 1 ∷ [])
    ∷ line (give 2 0) (Say.Did (tid 2 0) (Reply_is.Value 0)) (place 2 0 ∷ [])
    ∷ line (take 2 0) Say.Defers (place 1 2 ∷ [])
    ∷ line (give 1 2) (Say.Did (tid 2 0) Reply_is.Done) (place 1 1 ∷ [])
    ∷ line (take 1 1) Say.Defers []
    ∷ line (again (tid 2 0)) Say.Defers []
    ∷ line (give 1 1) (Say.Did (tid 1 0) (Reply_is.Ticket 1)) (place 1 2 ∷ [])
    ∷ line (take 1 2) Say.Only (place 1 3 ∷ [])
    ∷ line (give 1 3) (Say.VotesYes (tid 1 0) 1) (place 1 3 ∷ [])
    ∷ line (take 1 3) Say.Voted []
    ∷ line (give 2 1) (Say.Did (tid 1 0) Reply_is.Done) (place 2 1 ∷ [])
    ∷ line (take 2 1) Say.Only (place 2 2 ∷ [])
    ∷ line (give 2 2) (Say.Did (tid 1 0) (Reply_is.Ticket 1)) (place 2 2 ∷ [])
    ∷ line (take 2 2) Say.Only (place 2 3 ∷ [])
    ∷ line (give 2 3) (Say.VotesYes (tid 1 0) 1) (place 2 3 ∷ [])
    ∷ line (take 2 3) (Say.Decides Decided.Commit None false) (place 1 4 ∷ place 2 4 ∷ [])
    ∷ line (again (tid 2 0)) Say.Only (place 1 5 ∷ place 2 5 ∷ [])
    ∷ []

-- the last line first
abbrev lines : List Line
lines = reverse printed

abbrev story : Story
story = story_told scenario lines

lines_are_right : lines_of story ≡ lines
unfolding opened
lines_are_right = refl
