-- Addition is modulo 2^64, at the last key of the last site, by the last transaction number.
use Rattle.std.proofs.Common.{◌≡◌, List, [], ◌∷◌, map, reverse, refl}
use Rattle.mdb_base.specs.declared.names.Engine.TheVariants.{Timestamp}
use Rattle.mdb_base.specs.declared.names.Tid.{Tid}
use Rattle.presumptions.specs.declared.Protocol.TheVariants as By
use Rattle.fed_rules.specs.declared.answers.Answer.TheVariants as Say
use Rattle.fed_rules.specs.declared.commands.Line.{Line}
use Rattle.fed_rules.specs.declared.scenario.Scenario.{Scenario}
use Rattle.fed_rules.specs.Closing.{closed}
use Rattle.fed_rules.specs.Orders.{orders, IsMerge, table_of, first_tables, programs_of}
use Rattle.fed_rules.specs.Reports.{printed_order}
use Rattle.fed_rules.specs.Right.{story_told}
use Rattle.fed_rules.specs.Serial.{serial_tables}
use Rattle.fed_rules.specs.Story.{Story, lines_of}
use Rattle.fed_rules.proofs.Opened.{opened}
use Rattle.fed_rules.proofs.Spelled.{at, key, tid, get, add, site, item, local, scenario_of, begin, step, commit, line, entry}

abbrev scenario : Scenario
scenario =
    scenario_of
    (site 8 Timestamp By.Nothing ∷ [])
    (item 8 65535 18446744073709551615 ∷ [])
    (local 1024 8 (get 65535 ∷ add 65535 0 1 ∷ []) ∷ [])

-- the lines of the commands, the first one first
abbrev printed : List Line
printed =
    line (begin 1024) (Say.Begun (tid 1024 0)) []
    ∷ line (step 1024) (Say.Read (key 65535) 18446744073709551615) []
    ∷ line (step 1024) (Say.Wrote (key 65535) 0) []
    ∷ line (commit 1024) (Say.Sealed (tid 1024 0) 1) []
    ∷ []

-- the last line first
abbrev lines : List Line
lines = reverse printed

abbrev story : Story
story = story_told scenario lines

lines_are_right : lines_of story ≡ lines
unfolding opened
lines_are_right = refl

nothing_is_left_to_close : closed scenario (map (λ line. line.command) lines) ≡ map (λ line. line.command) lines
unfolding opened
nothing_is_left_to_close = refl

abbrev order : List Tid
order = tid 1024 0 ∷ []

order_is_right : printed_order scenario story ≡ order
unfolding opened
order_is_right = refl

table_8_is_right : table_of scenario story (at 8) ≡ entry 65535 0 ∷ []
unfolding opened
table_8_is_right = refl

site_orders : orders scenario story ≡ (tid 1024 0 ∷ []) ∷ []
unfolding opened
site_orders = refl

order_is_a_merge : IsMerge scenario story order
order_is_a_merge = rw site_orders (record { kept = (refl, tt); named = refl })

-- running the programs of the order one after another gives each read and each table
serial_run_gives_table_8 : map (serial_tables (programs_of scenario order) (first_tables scenario) (at 8)) (key 65535 ∷ []) ≡ 0 ∷ []
serial_run_gives_table_8 = refl
