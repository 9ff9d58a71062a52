-- A site stops between the append and the sync of a local commit record, and nothing of it is kept: the transaction is aborted.
use Rattle.std.proofs.Common.{◌≡◌, List, [], ◌∷◌, ◌++◌, map, reverse, refl}
use Rattle.mdb_base.specs.declared.names.Engine.TheVariants.{Locking}
use Rattle.mdb_base.specs.declared.names.Tid.{Tid}
use Rattle.presumptions.specs.declared.Protocol.TheVariants as By
use Rattle.fed_rules.specs.declared.answers.Answer.TheVariants as Say
use Rattle.fed_rules.specs.declared.commands.Line.{Line}
use Rattle.fed_rules.specs.declared.scenario.Scenario.{Scenario}
use Rattle.fed_rules.specs.Closing.{closed}
use Rattle.fed_rules.specs.Reports.{printed_order}
use Rattle.fed_rules.specs.Right.{story_told}
use Rattle.fed_rules.specs.Story.{Story, lines_of}
use Rattle.fed_rules.proofs.Opened.{opened}
use Rattle.fed_rules.proofs.Spelled.{key, tid, set, site, local, scenario_of, begin, step, commit, abort, fate, trip, back, line}

abbrev scenario : Scenario
scenario =
    scenario_of
    (site 1 Locking By.Abort ∷ [])
    []
    (local 1 1 (set 5 1 ∷ []) ∷ [])

-- the lines of the commands, the first one first
abbrev printed : List Line
printed =
    line (begin 1) (Say.Begun (tid 1 0)) []
    ∷ line (step 1) (Say.Wrote (key 5) 1) []
    ∷ line (trip 1 1 0) Say.Set []
    ∷ line (commit 1) (Say.Stopped 2) []
    ∷ line (back 1) (Say.UpSite 2 0) []
    ∷ line (fate 1) Say.Ended []
    ∷ line (begin 1) (Say.Begun (tid 1 1)) []
    ∷ []

-- the lines that closing adds
abbrev closing : List Line
closing =
    line (abort 1) (Say.Aborted (tid 1 1)) []
    ∷ []

-- the last line first
abbrev lines : List Line
lines = reverse (printed ++ closing)

abbrev story : Story
story = story_told scenario lines

lines_are_right : lines_of story ≡ lines
unfolding opened
lines_are_right = refl

-- closing makes those lines and no others
closing_is_right : closed scenario (map (λ line. line.command) (reverse printed)) ≡ map (λ line. line.command) lines
unfolding opened
closing_is_right = refl

abbrev order : List Tid
order = []

order_is_right : printed_order scenario story ≡ order
unfolding opened
order_is_right = refl
