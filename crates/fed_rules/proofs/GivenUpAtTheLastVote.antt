-- A global transaction is given up where one vote is missing. The sites that presume nothing and commit acknowledge;
-- the one that presumes abort loses its unforced end at a stop, asks, and is answered abort by its presumption.
use Rattle.std.proofs.Common.{◌≡◌, Some, false, List, [], ◌∷◌, map, reverse, refl}
use Rattle.mdb_base.specs.declared.names.Engine.TheVariants.{Locking, Timestamp, Validation}
use Rattle.mdb_base.specs.declared.names.Tid.{Tid}
use Rattle.mdb_base.specs.declared.replies.Reply.TheVariants as Reply_is
use Rattle.presumptions.specs.declared.Decision.TheVariants as Decided
use Rattle.presumptions.specs.declared.Protocol.TheVariants as By
use Rattle.fed_rules.specs.declared.answers.Answer.TheVariants as Say
use Rattle.fed_rules.specs.declared.answers.Cause.TheVariants as For
use Rattle.fed_rules.specs.declared.commands.Line.{Line}
use Rattle.fed_rules.specs.declared.report.Report.{Report}
use Rattle.fed_rules.specs.declared.scenario.Scenario.{Scenario}
use Rattle.fed_rules.specs.Closing.{closed}
use Rattle.fed_rules.specs.Orders.{due_of}
use Rattle.fed_rules.specs.Reports.{report_of}
use Rattle.fed_rules.specs.Right.{story_told}
use Rattle.fed_rules.specs.Scenarios.{sites}
use Rattle.fed_rules.specs.Story.{Story, lines_of}
use Rattle.fed_rules.proofs.Opened.{opened}
use Rattle.fed_rules.proofs.Spelled.{tid, set, site, step_at, global, scenario_of, go, late, give, take, ask, halt, back, place, line, ended, table}

abbrev scenario : Scenario
scenario =
    scenario_of
    (site 1 Locking By.Nothing ∷ site 2 Timestamp By.Abort ∷ site 3 Validation By.Commit ∷ [])
    []
    (global 1 (step_at 1 (set 1 11) ∷ step_at 2 (set 2 22) ∷ step_at 3 (set 3 33) ∷ []) ∷ [])

-- the lines of the commands, the first one first
abbrev printed : List Line
printed =
    line (go 1) (Say.Begun (tid 1 0)) (place 1 0 ∷ [])
    ∷ line (give 1 0) (Say.Did (tid 1 0) Reply_is.Done) (place 1 0 ∷ [])
    ∷ line (take 1 0) Say.Only (place 1 1 ∷ place 2 0 ∷ [])
    ∷ line (give 1 1) (Say.Did (tid 1 0) (Reply_is.Ticket 1)) (place 1 1 ∷ [])
    ∷ line (take 1 1) Say.Initiates (place 1 2 ∷ [])
    ∷ line (give 1 2) (Say.VotesYes (tid 1 0) 1) (place 1 2 ∷ [])
    ∷ line (take 1 2) Say.Voted []
    ∷ line (give 2 0) (Say.Did (tid 1 0) Reply_is.Done) (place 2 0 ∷ [])
    ∷ line (take 2 0) Say.Only (place 2 1 ∷ place 3 0 ∷ [])
    ∷ line (give 2 1) (Say.Did (tid 1 0) (Reply_is.Ticket 1)) (place 2 1 ∷ [])
    ∷ line (take 2 1) Say.Only (place 2 2 ∷ [])
    ∷ line (give 2 2) (Say.VotesYes (tid 1 0) 1) (place 2 2 ∷ [])
    ∷ line (take 2 2) Say.Voted []
    ∷ line (give 3 0) (Say.Did (tid 1 0) Reply_is.Done) (place 3 0 ∷ [])
    ∷ line (take 3 0) Say.Only (place 3 1 ∷ [])
    ∷ line (give 3 1) (Say.Did (tid 1 0) (Reply_is.Ticket 1)) (place 3 1 ∷ [])
    ∷ line (take 3 1) Say.Only (place 3 2 ∷ [])
    ∷ line (give 3 2) (Say.VotesYes (tid 1 0) 1) (place 3 2 ∷ [])
    ∷ line (late (tid 1 0)) (Say.Decides Decided.Abort (Some For.Late) false) (place 1 3 ∷ place 2 3 ∷ place 3 3 ∷ [])
    ∷ line (give 2 3) (Say.Settles (tid 1 0) Decided.Abort) []
    ∷ line (give 1 3) (Say.Settles (tid 1 0) Decided.Abort) (place 1 3 ∷ [])
    ∷ line (take 1 3) Say.Acked []
    ∷ line (give 3 3) (Say.Settles (tid 1 0) Decided.Abort) (place 3 3 ∷ [])
    ∷ line (take 3 3) Say.Forgets []
    ∷ line (halt 2 0) (Say.Stopped 3) []
    ∷ line (back 2) (Say.UpSite 2 1) []
    ∷ line (ask 2 (tid 1 0)) (Say.Asks (tid 1 0)) (place 2 3 ∷ [])
    ∷ line (take 2 3) (Say.Presumes Decided.Abort) (place 2 4 ∷ [])
    ∷ line (give 2 4) (Say.Settles (tid 1 0) Decided.Abort) []
    ∷ line (take 3 2) Say.Ignored []
    ∷ []

-- the last line first
abbrev lines : List Line
lines = reverse printed

abbrev story : Story
story = story_told scenario lines

lines_are_right : lines_of story ≡ lines
unfolding opened
lines_are_right = refl

nothing_is_left_to_close : closed scenario (map (λ line. line.command) lines) ≡ map (λ line. line.command) lines
unfolding opened
nothing_is_left_to_close = refl

abbrev order : List Tid
order = []

abbrev report : Report
report =
    record {
      order = order;
      reads = [];
      outcomes = ended (tid 1 0) Decided.Abort ∷ [];
      forgotten = tid 1 0 ∷ [];
      tables = table 1 [] ∷ table 2 [] ∷ table 3 [] ∷ [];
    }

report_is_right : report_of scenario story ≡ report
unfolding opened
report_is_right = refl

each_table_is_due : map (due_of scenario story) (sites scenario) ≡ map (λ table. table.rows) report.tables
unfolding opened
each_table_is_due = refl
