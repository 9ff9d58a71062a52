-- A site stops between the append and the sync of a local commit record, and the whole frame is kept: the transaction is committed.
use Rattle.std.proofs.Common.{◌≡◌, List, [], ◌∷◌, map, reverse, refl}
use Rattle.mdb_base.specs.declared.names.Engine.TheVariants.{Locking}
use Rattle.mdb_base.specs.declared.names.Tid.{Tid}
use Rattle.presumptions.specs.declared.Protocol.TheVariants as By
use Rattle.fed_rules.specs.declared.answers.Answer.TheVariants as Say
use Rattle.fed_rules.specs.declared.commands.Line.{Line}
use Rattle.fed_rules.specs.declared.scenario.Scenario.{Scenario}
use Rattle.fed_rules.specs.Closing.{closed}
use Rattle.fed_rules.specs.Orders.{orders, IsMerge}
use Rattle.fed_rules.specs.Reports.{printed_order}
use Rattle.fed_rules.specs.Right.{story_told}
use Rattle.fed_rules.specs.Story.{Story, lines_of}
use Rattle.fed_rules.proofs.Opened.{opened}
use Rattle.fed_rules.proofs.Spelled.{key, tid, set, site, local, scenario_of, begin, step, commit, fate, trip, back, line}

abbrev scenario : Scenario
scenario =
    scenario_of
    (site 1 Locking By.Abort ∷ [])
    []
    (local 1 1 (set 5 1 ∷ []) ∷ [])

-- the lines of the commands, the first one first
abbrev printed : List Line
printed =
    line (begin 1) (Say.Begun (tid 1 0)) []
    ∷ line (step 1) (Say.Wrote (key 5) 1) []
    ∷ line (trip 1 1 65535) Say.Set []
    ∷ line (commit 1) (Say.Stopped 3) []
    ∷ line (begin 1) Say.Down []
    ∷ line (back 1) (Say.UpSite 2 0) []
    ∷ line (fate 1) (Say.Committed (tid 1 0)) []
    ∷ line (begin 1) (Say.Committed (tid 1 0)) []
    ∷ []

-- the last line first
abbrev lines : List Line
lines = reverse printed

abbrev story : Story
story = story_told scenario lines

lines_are_right : lines_of story ≡ lines
unfolding opened
lines_are_right = refl

nothing_is_left_to_close : closed scenario (map (λ line. line.command) lines) ≡ map (λ line. line.command) lines
unfolding opened
nothing_is_left_to_close = refl

abbrev order : List Tid
order = tid 1 0 ∷ []

order_is_right : printed_order scenario story ≡ order
unfolding opened
order_is_right = refl

site_orders : orders scenario story ≡ (tid 1 0 ∷ []) ∷ []
unfolding opened
site_orders = refl

order_is_a_merge : IsMerge scenario story order
order_is_a_merge = rw site_orders (record { kept = (refl, tt); named = refl })
