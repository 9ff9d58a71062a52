-- Wait-die: the younger transaction dies by the older one that holds the lock, and commits at its second attempt.
use Rattle.std.proofs.Common.{◌≡◌, List, [], ◌∷◌, map, reverse, refl}
use Rattle.mdb_base.specs.declared.names.Engine.TheVariants.{Locking}
use Rattle.mdb_base.specs.declared.names.Tid.{Tid}
use Rattle.presumptions.specs.declared.Protocol.TheVariants as By
use Rattle.fed_rules.specs.declared.answers.Answer.TheVariants as Say
use Rattle.fed_rules.specs.declared.commands.Line.{Line}
use Rattle.fed_rules.specs.declared.scenario.Scenario.{Scenario}
use Rattle.fed_rules.specs.Closing.{closed}
use Rattle.fed_rules.specs.Orders.{orders, IsMerge, table_of, first_tables, programs_of}
use Rattle.fed_rules.specs.Reports.{printed_order}
use Rattle.fed_rules.specs.Right.{story_told}
use Rattle.fed_rules.specs.Serial.{serial_tables}
use Rattle.fed_rules.specs.Story.{Story, lines_of}
use Rattle.fed_rules.proofs.Opened.{opened}
use Rattle.fed_rules.proofs.Spelled.{at, key, tid, set, site, local, scenario_of, begin, step, commit, line, entry}

abbrev scenario : Scenario
scenario =
    scenario_of
    (site 1 Locking By.Abort ∷ [])
    []
    (local 1 1 (set 5 1 ∷ []) ∷ local 2 1 (set 5 2 ∷ []) ∷ [])

-- the lines of the commands, the first one first
abbrev printed : List Line
printed =
    line (begin 1) (Say.Begun (tid 1 0)) []
    ∷ line (begin 2) (Say.Begun (tid 2 0)) []
    ∷ line (step 1) (Say.Wrote (key 5) 1) []
    ∷ line (step 2) (Say.Dies (tid 1 0)) []
    ∷ line (begin 2) (Say.Begun (tid 2 1)) []
    ∷ line (commit 1) (Say.Sealed (tid 1 0) 4) []
    ∷ line (step 2) (Say.Wrote (key 5) 2) []
    ∷ line (commit 2) (Say.Sealed (tid 2 1) 5) []
    ∷ []

-- the last line first
abbrev lines : List Line
lines = reverse printed

abbrev story : Story
story = story_told scenario lines

lines_are_right : lines_of story ≡ lines
unfolding opened
lines_are_right = refl

nothing_is_left_to_close : closed scenario (map (λ line. line.command) lines) ≡ map (λ line. line.command) lines
unfolding opened
nothing_is_left_to_close = refl

abbrev order : List Tid
order = tid 1 0 ∷ tid 2 1 ∷ []

order_is_right : printed_order scenario story ≡ order
unfolding opened
order_is_right = refl

table_1_is_right : table_of scenario story (at 1) ≡ entry 5 2 ∷ []
unfolding opened
table_1_is_right = refl

site_orders : orders scenario story ≡ (tid 1 0 ∷ tid 2 1 ∷ []) ∷ []
unfolding opened
site_orders = refl

order_is_a_merge : IsMerge scenario story order
order_is_a_merge = rw site_orders (record { kept = (refl, tt); named = refl })

-- running the programs of the order one after another gives each read and each table
serial_run_gives_table_1 : map (serial_tables (programs_of scenario order) (first_tables scenario) (at 1)) (key 5 ∷ []) ≡ 2 ∷ []
serial_run_gives_table_1 = refl
