-- A global transaction commits at three sites, of which one presumes nothing, one presumes abort and one presumes commit.
-- The first two must acknowledge. The third loses its unforced end at a stop, asks, and is answered commit by its presumption.
use Rattle.std.proofs.Common.{◌≡◌, None, false, List, [], ◌∷◌, map, reverse, refl}
use Rattle.mdb_base.specs.declared.names.Engine.TheVariants.{Locking, Timestamp, Validation}
use Rattle.mdb_base.specs.declared.names.Tid.{Tid}
use Rattle.mdb_base.specs.declared.replies.Reply.TheVariants as Reply_is
use Rattle.presumptions.specs.declared.Decision.TheVariants as Decided
use Rattle.presumptions.specs.declared.Protocol.TheVariants as By
use Rattle.fed_rules.specs.declared.answers.Answer.TheVariants as Say
use Rattle.fed_rules.specs.declared.commands.Line.{Line}
use Rattle.fed_rules.specs.declared.report.Report.{Report}
use Rattle.fed_rules.specs.declared.scenario.Scenario.{Scenario}
use Rattle.fed_rules.specs.Closing.{closed}
use Rattle.fed_rules.specs.Orders.{orders, IsMerge, due_of, first_tables, programs_of}
use Rattle.fed_rules.specs.Reports.{report_of}
use Rattle.fed_rules.specs.Right.{story_told}
use Rattle.fed_rules.specs.Scenarios.{sites}
use Rattle.fed_rules.specs.Serial.{serial_reads, serial_tables}
use Rattle.fed_rules.specs.Story.{Story, lines_of}
use Rattle.fed_rules.proofs.Opened.{opened}
use Rattle.fed_rules.proofs.Spelled.{at, key, tid, set, site, step_at, global, scenario_of, go, give, take, ask, halt, back, place, line, entry, read_by, ended, table}

abbrev pub scenario : Scenario
scenario =
    scenario_of
    (site 1 Locking By.Nothing ∷ site 2 Timestamp By.Abort ∷ site 3 Validation By.Commit ∷ [])
    []
    (global 1 (step_at 1 (set 1 11) ∷ step_at 2 (set 2 22) ∷ step_at 3 (set 3 33) ∷ []) ∷ [])

-- the lines of the commands, the first one first
abbrev pub printed : List Line
printed =
    line (go 1) (Say.Begun (tid 1 0)) (place 1 0 ∷ [])
    ∷ line (give 1 0) (Say.Did (tid 1 0) Reply_is.Done) (place 1 0 ∷ [])
    ∷ line (take 1 0) Say.Only (place 1 1 ∷ place 2 0 ∷ [])
    ∷ line (give 1 1) (Say.Did (tid 1 0) (Reply_is.Ticket 1)) (place 1 1 ∷ [])
    ∷ line (take 1 1) Say.Initiates (place 1 2 ∷ [])
    ∷ line (give 1 2) (Say.VotesYes (tid 1 0) 1) (place 1 2 ∷ [])
    ∷ line (take 1 2) Say.Voted []
    ∷ line (give 2 0) (Say.Did (tid 1 0) Reply_is.Done) (place 2 0 ∷ [])
    ∷ line (take 2 0) Say.Only (place 2 1 ∷ place 3 0 ∷ [])
    ∷ line (give 2 1) (Say.Did (tid 1 0) (Reply_is.Ticket 1)) (place 2 1 ∷ [])
    ∷ line (take 2 1) Say.Only (place 2 2 ∷ [])
    ∷ line (give 2 2) (Say.VotesYes (tid 1 0) 1) (place 2 2 ∷ [])
    ∷ line (take 2 2) Say.Voted []
    ∷ line (give 3 0) (Say.Did (tid 1 0) Reply_is.Done) (place 3 0 ∷ [])
    ∷ line (take 3 0) Say.Only (place 3 1 ∷ [])
    ∷ line (give 3 1) (Say.Did (tid 1 0) (Reply_is.Ticket 1)) (place 3 1 ∷ [])
    ∷ line (take 3 1) Say.Only (place 3 2 ∷ [])
    ∷ line (give 3 2) (Say.VotesYes (tid 1 0) 1) (place 3 2 ∷ [])
    ∷ line (take 3 2) (Say.Decides Decided.Commit None false) (place 1 3 ∷ place 2 3 ∷ place 3 3 ∷ [])
    ∷ line (give 3 3) (Say.Settles (tid 1 0) Decided.Commit) []
    ∷ line (give 1 3) (Say.Settles (tid 1 0) Decided.Commit) (place 1 3 ∷ [])
    ∷ line (take 1 3) Say.Acked []
    ∷ line (give 2 3) (Say.Settles (tid 1 0) Decided.Commit) (place 2 3 ∷ [])
    ∷ line (take 2 3) Say.Forgets []
    ∷ line (halt 3 0) (Say.Stopped 3) []
    ∷ line (back 3) (Say.UpSite 2 1) []
    ∷ line (ask 3 (tid 1 0)) (Say.Asks (tid 1 0)) (place 3 3 ∷ [])
    ∷ line (take 3 3) (Say.Presumes Decided.Commit) (place 3 4 ∷ [])
    ∷ line (give 3 4) (Say.Settles (tid 1 0) Decided.Commit) []
    ∷ []

-- the last line first
abbrev lines : List Line
lines = reverse printed

abbrev story : Story
story = story_told scenario lines

lines_are_right : lines_of story ≡ lines
unfolding opened
lines_are_right = refl

nothing_is_left_to_close : closed scenario (map (λ line. line.command) lines) ≡ map (λ line. line.command) lines
unfolding opened
nothing_is_left_to_close = refl

abbrev order : List Tid
order = tid 1 0 ∷ []

abbrev report : Report
report =
    record {
      order = order;
      reads = read_by (tid 1 0) [] ∷ [];
      outcomes = ended (tid 1 0) Decided.Commit ∷ [];
      forgotten = tid 1 0 ∷ [];
      tables = table 1 (entry 1 11 ∷ []) ∷ table 2 (entry 2 22 ∷ []) ∷ table 3 (entry 3 33 ∷ []) ∷ [];
    }

report_is_right : report_of scenario story ≡ report
unfolding opened
report_is_right = refl

site_orders : orders scenario story ≡ (tid 1 0 ∷ []) ∷ (tid 1 0 ∷ []) ∷ (tid 1 0 ∷ []) ∷ []
unfolding opened
site_orders = refl

order_is_a_merge : IsMerge scenario story order
order_is_a_merge = rw site_orders (record { kept = (refl, (refl, (refl, tt))); named = refl })

-- running the programs of the order one after another gives each read and each table
serial_run_gives_the_reads : serial_reads (programs_of scenario order) (first_tables scenario) ≡ [] ∷ []
serial_run_gives_the_reads = refl

serial_run_gives_table_1 : map (serial_tables (programs_of scenario order) (first_tables scenario) (at 1)) (key 1 ∷ []) ≡ 11 ∷ []
serial_run_gives_table_1 = refl

serial_run_gives_table_2 : map (serial_tables (programs_of scenario order) (first_tables scenario) (at 2)) (key 2 ∷ []) ≡ 22 ∷ []
serial_run_gives_table_2 = refl

serial_run_gives_table_3 : map (serial_tables (programs_of scenario order) (first_tables scenario) (at 3)) (key 3 ∷ []) ≡ 33 ∷ []
serial_run_gives_table_3 = refl

each_table_is_due : map (due_of scenario story) (sites scenario) ≡ map (λ table. table.rows) report.tables
unfolding opened
each_table_is_due = refl
