-- Multiversion: a read waits for an older write, and an older read is answered the older version, before and behind the commit of the younger write.
use Rattle.std.proofs.Common.{◌≡◌, List, [], ◌∷◌, map, reverse, refl}
use Rattle.mdb_base.specs.declared.names.Engine.TheVariants.{Multiversion}
use Rattle.mdb_base.specs.declared.names.Tid.{Tid}
use Rattle.presumptions.specs.declared.Protocol.TheVariants as By
use Rattle.fed_rules.specs.declared.answers.Answer.TheVariants as Say
use Rattle.fed_rules.specs.declared.commands.Line.{Line}
use Rattle.fed_rules.specs.declared.scenario.Scenario.{Scenario}
use Rattle.fed_rules.specs.Closing.{closed}
use Rattle.fed_rules.specs.Orders.{orders, IsMerge}
use Rattle.fed_rules.specs.Reports.{printed_order}
use Rattle.fed_rules.specs.Right.{story_told}
use Rattle.fed_rules.specs.Story.{Story, lines_of}
use Rattle.fed_rules.proofs.Opened.{opened}
use Rattle.fed_rules.proofs.Spelled.{key, tid, get, set, site, local, scenario_of, begin, step, commit, line}

abbrev scenario : Scenario
scenario =
    scenario_of
    (site 1 Multiversion By.Nothing ∷ [])
    []
    (local 1 1 (get 5 ∷ []) ∷ local 2 1 (set 5 9 ∷ []) ∷ local 3 1 (get 5 ∷ []) ∷ [])

-- the lines of the commands, the first one first
abbrev printed : List Line
printed =
    line (begin 1) (Say.Begun (tid 1 0)) []
    ∷ line (begin 2) (Say.Begun (tid 2 0)) []
    ∷ line (begin 3) (Say.Begun (tid 3 0)) []
    ∷ line (step 2) (Say.Wrote (key 5) 9) []
    ∷ line (step 3) (Say.Waits (tid 2 0)) []
    ∷ line (step 1) (Say.Read (key 5) 0) []
    ∷ line (commit 2) (Say.Sealed (tid 2 0) 2) []
    ∷ line (step 3) (Say.Read (key 5) 9) []
    ∷ line (commit 3) (Say.Sealed (tid 3 0) 3) []
    ∷ line (commit 1) (Say.Sealed (tid 1 0) 1) []
    ∷ []

-- the last line first
abbrev lines : List Line
lines = reverse printed

abbrev story : Story
story = story_told scenario lines

lines_are_right : lines_of story ≡ lines
unfolding opened
lines_are_right = refl

nothing_is_left_to_close : closed scenario (map (λ line. line.command) lines) ≡ map (λ line. line.command) lines
unfolding opened
nothing_is_left_to_close = refl

abbrev order : List Tid
order = tid 1 0 ∷ tid 2 0 ∷ tid 3 0 ∷ []

order_is_right : printed_order scenario story ≡ order
unfolding opened
order_is_right = refl

site_orders : orders scenario story ≡ (tid 1 0 ∷ tid 2 0 ∷ tid 3 0 ∷ []) ∷ []
unfolding opened
site_orders = refl

order_is_a_merge : IsMerge scenario story order
order_is_a_merge = rw site_orders (record { kept = (refl, tt); named = refl })
