-- Backward validation with prepared transactions: a key that was read is in the writes of one that is prepared.
-- Closing gives the prepared one up; its site asks, and is answered abort by its presumption.
use Rattle.std.proofs.Common.{◌≡◌, Some, true, List, [], ◌∷◌, ◌++◌, map, reverse, refl}
use Rattle.mdb_base.specs.declared.names.Engine.TheVariants.{Validation}
use Rattle.mdb_base.specs.declared.names.Tid.{Tid}
use Rattle.mdb_base.specs.declared.replies.Reply.TheVariants as Reply_is
use Rattle.presumptions.specs.declared.Decision.TheVariants as Decided
use Rattle.presumptions.specs.declared.Protocol.TheVariants as By
use Rattle.fed_rules.specs.declared.answers.Answer.TheVariants as Say
use Rattle.fed_rules.specs.declared.answers.Cause.TheVariants as For
use Rattle.fed_rules.specs.declared.commands.Line.{Line}
use Rattle.fed_rules.specs.declared.report.Report.{Report}
use Rattle.fed_rules.specs.declared.scenario.Scenario.{Scenario}
use Rattle.fed_rules.specs.Closing.{closed}
use Rattle.fed_rules.specs.Orders.{due_of}
use Rattle.fed_rules.specs.Reports.{report_of}
use Rattle.fed_rules.specs.Right.{story_told}
use Rattle.fed_rules.specs.Scenarios.{sites}
use Rattle.fed_rules.specs.Story.{Story, lines_of}
use Rattle.fed_rules.proofs.Opened.{opened}
use Rattle.fed_rules.proofs.Spelled.{key, tid, get, set, site, step_at, local, global, scenario_of, begin, step, commit, go, late, give, take, ask, place, line, ended, table}

abbrev scenario : Scenario
scenario =
    scenario_of
    (site 1 Validation By.Abort ∷ [])
    []
    (local 1 1 (get 5 ∷ set 6 1 ∷ []) ∷ local 2 1 (set 5 9 ∷ []) ∷ global 3 (step_at 1 (set 5 9) ∷ []) ∷ [])

-- the lines of the commands, the first one first
abbrev printed : List Line
printed =
    line (go 3) (Say.Begun (tid 3 0)) (place 1 0 ∷ [])
    ∷ line (give 1 0) (Say.Did (tid 3 0) Reply_is.Done) (place 1 0 ∷ [])
    ∷ line (take 1 0) Say.Only (place 1 1 ∷ [])
    ∷ line (give 1 1) (Say.Did (tid 3 0) (Reply_is.Ticket 1)) (place 1 1 ∷ [])
    ∷ line (take 1 1) Say.Only (place 1 2 ∷ [])
    ∷ line (give 1 2) (Say.VotesYes (tid 3 0) 1) (place 1 2 ∷ [])
    ∷ line (begin 1) (Say.Begun (tid 1 0)) []
    ∷ line (step 1) (Say.Read (key 5) 0) []
    ∷ line (step 1) (Say.Wrote (key 6) 1) []
    ∷ line (commit 1) (Say.Invalid (tid 3 0) (key 5)) []
    ∷ []

-- the lines that closing adds
abbrev closing : List Line
closing =
    line (late (tid 3 0)) (Say.Decides Decided.Abort (Some For.Late) true) (place 1 3 ∷ [])
    ∷ line (ask 1 (tid 3 0)) (Say.Asks (tid 3 0)) (place 1 3 ∷ [])
    ∷ line (take 1 3) (Say.Presumes Decided.Abort) (place 1 4 ∷ [])
    ∷ line (give 1 4) (Say.Settles (tid 3 0) Decided.Abort) []
    ∷ []

-- the last line first
abbrev lines : List Line
lines = reverse (printed ++ closing)

abbrev story : Story
story = story_told scenario lines

lines_are_right : lines_of story ≡ lines
unfolding opened
lines_are_right = refl

-- closing makes those lines and no others
closing_is_right : closed scenario (map (λ line. line.command) (reverse printed)) ≡ map (λ line. line.command) lines
unfolding opened
closing_is_right = refl

abbrev order : List Tid
order = []

abbrev report : Report
report =
    record {
      order = order;
      reads = [];
      outcomes = ended (tid 3 0) Decided.Abort ∷ [];
      forgotten = tid 3 0 ∷ [];
      tables = table 1 [] ∷ [];
    }

report_is_right : report_of scenario story ≡ report
unfolding opened
report_is_right = refl

each_table_is_due : map (due_of scenario story) (sites scenario) ≡ map (λ table. table.rows) report.tables
unfolding opened
each_table_is_due = refl
