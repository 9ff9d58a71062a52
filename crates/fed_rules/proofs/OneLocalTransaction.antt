-- A local transaction reads, writes and commits.
use Rattle.std.proofs.Common.{◌≡◌, List, [], ◌∷◌, map, reverse, refl}
use Rattle.mdb_base.specs.declared.names.Engine.TheVariants.{Locking}
use Rattle.mdb_base.specs.declared.names.Tid.{Tid}
use Rattle.presumptions.specs.declared.Protocol.TheVariants as By
use Rattle.fed_rules.specs.declared.answers.Answer.TheVariants as Say
use Rattle.fed_rules.specs.declared.commands.Line.{Line}
use Rattle.fed_rules.specs.declared.report.Report.{Report}
use Rattle.fed_rules.specs.declared.scenario.Scenario.{Scenario}
use Rattle.fed_rules.specs.Closing.{closed}
use Rattle.fed_rules.specs.Orders.{orders, IsMerge, due_of, first_tables, programs_of}
use Rattle.fed_rules.specs.Reports.{report_of}
use Rattle.fed_rules.specs.Right.{story_told}
use Rattle.fed_rules.specs.Scenarios.{sites}
use Rattle.fed_rules.specs.Serial.{serial_reads, serial_tables}
use Rattle.fed_rules.specs.Disk.{held_bytes}
use Rattle.fed_rules.specs.SitePast.{disk}
use Rattle.fed_rules.specs.Story.{Story, lines_of, past_of}
use Rattle.fed_rules.proofs.Opened.{opened}
use Rattle.fed_rules.proofs.Spelled.{at, key, tid, get, add, site, local, scenario_of, begin, step, commit, line, entry, read_by, table}

abbrev scenario : Scenario
scenario =
    scenario_of
    (site 1 Locking By.Nothing ∷ [])
    []
    (local 1 1 (get 5 ∷ add 5 0 7 ∷ []) ∷ [])

-- the lines of the commands, the first one first
abbrev printed : List Line
printed =
    line (begin 1) (Say.Begun (tid 1 0)) []
    ∷ line (step 1) (Say.Read (key 5) 0) []
    ∷ line (step 1) (Say.Wrote (key 5) 7) []
    ∷ line (commit 1) (Say.Sealed (tid 1 0) 2) []
    ∷ []

-- the last line first
abbrev lines : List Line
lines = reverse printed

abbrev story : Story
story = story_told scenario lines

lines_are_right : lines_of story ≡ lines
unfolding opened
lines_are_right = refl

nothing_is_left_to_close : closed scenario (map (λ line. line.command) lines) ≡ map (λ line. line.command) lines
unfolding opened
nothing_is_left_to_close = refl

-- the disk holds a Setup of 42 bytes, a Start of 41 and a Local of 62
site_1_holds : held_bytes (disk (record { site = at 1; engine = Locking; protocol = By.Nothing; items = [] }) (past_of (at 1) story)) ≡ 145
unfolding opened
site_1_holds = refl

abbrev order : List Tid
order = tid 1 0 ∷ []

abbrev report : Report
report =
    record {
      order = order;
      reads = read_by (tid 1 0) (0 ∷ []) ∷ [];
      outcomes = [];
      forgotten = [];
      tables = table 1 (entry 5 7 ∷ []) ∷ [];
    }

report_is_right : report_of scenario story ≡ report
unfolding opened
report_is_right = refl

site_orders : orders scenario story ≡ (tid 1 0 ∷ []) ∷ []
unfolding opened
site_orders = refl

order_is_a_merge : IsMerge scenario story order
order_is_a_merge = rw site_orders (record { kept = (refl, tt); named = refl })

-- running the programs of the order one after another gives each read and each table
serial_run_gives_the_reads : serial_reads (programs_of scenario order) (first_tables scenario) ≡ (0 ∷ []) ∷ []
serial_run_gives_the_reads = refl

serial_run_gives_table_1 : map (serial_tables (programs_of scenario order) (first_tables scenario) (at 1)) (key 5 ∷ []) ≡ 7 ∷ []
serial_run_gives_table_1 = refl

each_table_is_due : map (due_of scenario story) (sites scenario) ≡ map (λ table. table.rows) report.tables
unfolding opened
each_table_is_due = refl
