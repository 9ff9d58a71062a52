-- A transfer of 100 from a locking site to a validation site, with a local audit at each.
use Rattle.std.proofs.Common.{◌≡◌, None, false, List, [], ◌∷◌, map, reverse, refl}
use Rattle.mdb_base.specs.declared.names.Engine.TheVariants.{Locking, Validation}
use Rattle.mdb_base.specs.declared.names.Tid.{Tid}
use Rattle.mdb_base.specs.declared.replies.Reply.TheVariants as Reply_is
use Rattle.presumptions.specs.declared.Decision.TheVariants as Decided
use Rattle.presumptions.specs.declared.Protocol.TheVariants as By
use Rattle.fed_rules.specs.declared.answers.Answer.TheVariants as Say
use Rattle.fed_rules.specs.declared.commands.Line.{Line}
use Rattle.fed_rules.specs.declared.report.Report.{Report}
use Rattle.fed_rules.specs.declared.scenario.Scenario.{Scenario}
use Rattle.fed_rules.specs.Closing.{closed}
use Rattle.fed_rules.specs.Orders.{orders, IsMerge, due_of, first_tables, programs_of}
use Rattle.fed_rules.specs.Reports.{report_of}
use Rattle.fed_rules.specs.Right.{story_told}
use Rattle.fed_rules.specs.Scenarios.{sites}
use Rattle.fed_rules.specs.Serial.{serial_reads, serial_tables}
use Rattle.fed_rules.specs.Story.{Story, lines_of}
use Rattle.fed_rules.proofs.Opened.{opened}
use Rattle.fed_rules.proofs.Spelled.{at, key, tid, get, add, site, item, step_at, local, global, scenario_of, begin, step, commit, go, give, take, place, line, entry, read_by, ended, table}

abbrev scenario : Scenario
scenario =
    scenario_of
    (site 1 Locking By.Abort ∷ site 2 Validation By.Commit ∷ [])
    (item 1 10 500 ∷ item 2 20 40 ∷ [])
    (global 1 (step_at 1 (get 10) ∷ step_at 1 (add 10 0 18446744073709551516) ∷ step_at 2 (get 20) ∷ step_at 2 (add 20 1 100) ∷ [])
    ∷ local 2 1 (get 10 ∷ [])
    ∷ local 3 2 (get 20 ∷ []) ∷ [])

-- the lines of the commands, the first one first
abbrev printed : List Line
printed =
    line (go 1) (Say.Begun (tid 1 0)) (place 1 0 ∷ [])
    ∷ line (give 1 0) (Say.Did (tid 1 0) (Reply_is.Value 500)) (place 1 0 ∷ [])
    ∷ line (take 1 0) Say.Only (place 1 1 ∷ [])
    ∷ line (give 1 1) (Say.Did (tid 1 0) Reply_is.Done) (place 1 1 ∷ [])
    ∷ line (take 1 1) Say.Only (place 1 2 ∷ place 2 0 ∷ [])
    ∷ line (give 1 2) (Say.Did (tid 1 0) (Reply_is.Ticket 1)) (place 1 2 ∷ [])
    ∷ line (take 1 2) Say.Initiates (place 1 3 ∷ [])
    ∷ line (give 1 3) (Say.VotesYes (tid 1 0) 1) (place 1 3 ∷ [])
    ∷ line (take 1 3) Say.Voted []
    ∷ line (give 2 0) (Say.Did (tid 1 0) (Reply_is.Value 40)) (place 2 0 ∷ [])
    ∷ line (take 2 0) Say.Only (place 2 1 ∷ [])
    ∷ line (give 2 1) (Say.Did (tid 1 0) Reply_is.Done) (place 2 1 ∷ [])
    ∷ line (take 2 1) Say.Only (place 2 2 ∷ [])
    ∷ line (give 2 2) (Say.Did (tid 1 0) (Reply_is.Ticket 1)) (place 2 2 ∷ [])
    ∷ line (take 2 2) Say.Only (place 2 3 ∷ [])
    ∷ line (give 2 3) (Say.VotesYes (tid 1 0) 1) (place 2 3 ∷ [])
    ∷ line (take 2 3) (Say.Decides Decided.Commit None false) (place 1 4 ∷ place 2 4 ∷ [])
    ∷ line (give 1 4) (Say.Settles (tid 1 0) Decided.Commit) (place 1 4 ∷ [])
    ∷ line (take 1 4) Say.Forgets []
    ∷ line (give 2 4) (Say.Settles (tid 1 0) Decided.Commit) []
    ∷ line (begin 2) (Say.Begun (tid 2 0)) []
    ∷ line (step 2) (Say.Read (key 10) 400) []
    ∷ line (commit 2) (Say.Sealed (tid 2 0) 4) []
    ∷ line (begin 3) (Say.Begun (tid 3 0)) []
    ∷ line (step 3) (Say.Read (key 20) 140) []
    ∷ line (commit 3) (Say.Sealed (tid 3 0) 4) []
    ∷ []

-- the last line first
abbrev lines : List Line
lines = reverse printed

abbrev story : Story
story = story_told scenario lines

lines_are_right : lines_of story ≡ lines
unfolding opened
lines_are_right = refl

nothing_is_left_to_close : closed scenario (map (λ line. line.command) lines) ≡ map (λ line. line.command) lines
unfolding opened
nothing_is_left_to_close = refl

abbrev order : List Tid
order = tid 1 0 ∷ tid 2 0 ∷ tid 3 0 ∷ []

abbrev report : Report
report =
    record {
      order = order;
      reads = read_by (tid 1 0) (500 ∷ 40 ∷ []) ∷ read_by (tid 2 0) (400 ∷ []) ∷ read_by (tid 3 0) (140 ∷ []) ∷ [];
      outcomes = ended (tid 1 0) Decided.Commit ∷ [];
      forgotten = tid 1 0 ∷ [];
      tables = table 1 (entry 10 400 ∷ []) ∷ table 2 (entry 20 140 ∷ []) ∷ [];
    }

report_is_right : report_of scenario story ≡ report
unfolding opened
report_is_right = refl

site_orders : orders scenario story ≡ (tid 1 0 ∷ tid 2 0 ∷ []) ∷ (tid 1 0 ∷ tid 3 0 ∷ []) ∷ []
unfolding opened
site_orders = refl

order_is_a_merge : IsMerge scenario story order
order_is_a_merge = rw site_orders (record { kept = (refl, (refl, tt)); named = refl })

-- running the programs of the order one after another gives each read and each table
serial_run_gives_the_reads : serial_reads (programs_of scenario order) (first_tables scenario) ≡ (500 ∷ 40 ∷ []) ∷ (400 ∷ []) ∷ (140 ∷ []) ∷ []
serial_run_gives_the_reads = refl

serial_run_gives_table_1 : map (serial_tables (programs_of scenario order) (first_tables scenario) (at 1)) (key 10 ∷ []) ≡ 400 ∷ []
serial_run_gives_table_1 = refl

serial_run_gives_table_2 : map (serial_tables (programs_of scenario order) (first_tables scenario) (at 2)) (key 20 ∷ []) ≡ 140 ∷ []
serial_run_gives_table_2 = refl

each_table_is_due : map (due_of scenario story) (sites scenario) ≡ map (λ table. table.rows) report.tables
unfolding opened
each_table_is_due = refl
