use Rattle.std.proofs.Common.{List, map, refl, reverse, sym, subst}
use Rattle.std.proofs.lemmas.Result.{IfOk-weaker}
use Rattle.fed_rules.specs.SiteRecords.{Held}
use Rattle.usable_journals.specs.Fronts.{IsByTicket, TakesFirst, held_read}
use Rattle.usable_journals.proofs.FrontWhole.{taken_other}
use Rattle.usable_journals.proofs.front_order.take_first.Goals as goal

pub returns-in_ok-helds-in-Checkpoint : goal.returns-in_ok-helds-in-Checkpoint
returns-in_ok-helds-in-Checkpoint c =
    let sorted : List Held = reverse c.in_ok-helds-in-Checkpoint.helds.items in
    IfOk-weaker c.prepare_all.result _ _
    (λ fits takes.
    subst (λ e. TakesFirst c.args.front.now c.prepare_all.new.front e fits) (sym c.in-Checkpoint.is)
    (map held_read sorted, (sorted, subst (λ (hs : List Held). IsByTicket hs sorted) c.as_slice.ensures c.in_ok-helds-in-Checkpoint.ensures, refl), takes)) c.prepare_all.ensures

pub returns-in_default : goal.returns-in_default
returns-in_default c =
    IfOk-weaker c.take.result _ _ (λ fits takes. taken_other c.args.front.now c.take.new.self c.args.first.now fits c.in_default.not-Checkpoint takes) c.take.ensures
