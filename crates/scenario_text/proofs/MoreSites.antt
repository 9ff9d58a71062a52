-- What lines say of the sites before them they say of more sites, too.
use Rattle.std.proofs.Common.{ℕ, Bool, true, false, ◌&&◌, ◌||◌, IsTrue, List, Option, Some, None, refl}
use Rattle.std.specs.Prelude.{nat_le, ◌==◌}
use Rattle.mdb_base.specs.declared.names.SiteId.{SiteId}
use Rattle.mdb_base.specs.declared.acts.Step.{Step}
use Rattle.mdb_base.specs.Names.{same_site}
use Rattle.mdb_base.proofs.ForCallers.{is_true_both}
use Rattle.fed_rules.specs.declared.commands.Command.{Command}
use Rattle.fed_rules.specs.declared.commands.Command.TheVariants as commands
use Rattle.fed_rules.specs.declared.scenario.SiteLine.{SiteLine}
use Rattle.fed_rules.specs.declared.scenario.TxLine.{TxLine}
use Rattle.fed_rules.specs.declared.scenario.LinkLine.{LinkLine}
use Rattle.fed_rules.specs.declared.scenario.StopLine.{StopLine}
use Rattle.fed_rules.specs.Plans.{is_between, is_declared, is_actor, is_in_place, is_transaction, is_link, is_stop}
use Rattle.scenario_text.specs.Kept.{is_command}
use Rattle.scenario_text.proofs.ListLemmas.{first, second, each_of-weaker}

or_weaker : (a b c : Bool) → (IsTrue b → IsTrue c) → IsTrue (a || b) → IsTrue (a || c)
or_weaker true b c f h = refl
or_weaker false b c f h = f h

-- each site that the first list declares, the second declares
abbrev pub Declares : List SiteLine → List SiteLine → Type 0
Declares sites more = (site : SiteId) → IsTrue (is_declared sites site) → IsTrue (is_declared more site)

in_place_more : (sites more : List SiteLine) → Declares sites more → (home : Option SiteId) (step : Step) → IsTrue (is_in_place sites home step) → IsTrue (is_in_place more home step)
in_place_more sites more grows None step h = grows step.site h
in_place_more sites more grows (Some home) step h = is_true_both _ _ (grows home (first _ _ h)) (second (is_declared sites home) (same_site step.site home) h)

pub transaction_more : (sites more : List SiteLine) → Declares sites more → (line : TxLine) → IsTrue (is_transaction sites line) → IsTrue (is_transaction more line)
transaction_more sites more grows line h =
    let number = is_between 1 1024 line.tx.0 in
    is_true_both _ _ (first number _ h) (each_of-weaker (is_in_place sites line.home) (is_in_place more line.home) (in_place_more sites more grows line.home) line.program (second number _ h))

pub link_more : (sites more : List SiteLine) → Declares sites more → (line : LinkLine) → IsTrue (is_link sites line) → IsTrue (is_link more line)
link_more sites more grows line h =
    let front = is_declared sites line.site && nat_le line.place 65535 in
    let there = first front _ h in
    is_true_both _ _ (is_true_both _ _ (grows line.site (first (is_declared sites line.site) _ there)) (second (is_declared sites line.site) _ there)) (second front _ h)

pub actor_more : (sites more : List SiteLine) → Declares sites more → (actor : ℕ) → IsTrue (is_actor sites actor) → IsTrue (is_actor more actor)
actor_more sites more grows actor h = or_weaker (actor == 0) _ _ (grows (record { 0 = actor })) h

pub stop_more : (sites more : List SiteLine) → Declares sites more → (line : StopLine) → IsTrue (is_stop sites line) → IsTrue (is_stop more line)
stop_more sites more grows line h =
    let front = is_actor sites line.actor && is_between 1 1000 line.calls in
    let there = first front _ h in
    is_true_both _ _ (is_true_both _ _ (actor_more sites more grows line.actor (first (is_actor sites line.actor) _ there)) (second (is_actor sites line.actor) _ there)) (second front _ h)

site_and : (sites more : List SiteLine) → Declares sites more → (site : SiteId) (b : Bool) → IsTrue (is_declared sites site && b) → IsTrue (is_declared more site && b)
site_and sites more grows site b h = is_true_both _ _ (grows site (first (is_declared sites site) b h)) (second (is_declared sites site) b h)

actor_and : (sites more : List SiteLine) → Declares sites more → (actor : ℕ) (b : Bool) → IsTrue (is_actor sites actor && b) → IsTrue (is_actor more actor && b)
actor_and sites more grows actor b h = is_true_both _ _ (actor_more sites more grows actor (first (is_actor sites actor) b h)) (second (is_actor sites actor) b h)

pub command_more : (sites more : List SiteLine) → Declares sites more → (c : Command) → IsTrue (is_command sites c) → IsTrue (is_command more c)
command_more sites more grows (commands.Begin tx) h = h
command_more sites more grows (commands.Step tx) h = h
command_more sites more grows (commands.Commit tx) h = h
command_more sites more grows (commands.Abort tx) h = h
command_more sites more grows (commands.Fate tx) h = h
command_more sites more grows (commands.Go tx) h = h
command_more sites more grows (commands.Again tid) h = h
command_more sites more grows (commands.Late tid) h = h
command_more sites more grows (commands.Give site place) h = grows site h
command_more sites more grows (commands.Take site place) h = grows site h
command_more sites more grows (commands.Ask site tid) h = site_and sites more grows site _ h
command_more sites more grows (commands.Drop site tid) h = site_and sites more grows site _ h
command_more sites more grows (commands.Halt actor cut) h = actor_and sites more grows actor _ h
command_more sites more grows (commands.Trip actor calls cut) h =
    let front = is_actor sites actor && nat_le calls 1000 in
    is_true_both _ _ (actor_and sites more grows actor (nat_le calls 1000) (first front _ h)) (second front _ h)
command_more sites more grows (commands.Back actor) h = actor_more sites more grows actor h
command_more sites more grows (commands.Check actor) h = actor_more sites more grows actor h
