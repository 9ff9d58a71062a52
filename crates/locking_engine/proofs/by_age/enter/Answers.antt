use Rattle.std.proofs.Common.{not, sym, ap, ◌∙◌, subst}
use Rattle.std.proofs.lemmas.Bool.{cond-true}
use Rattle.locking_engine.specs.ByAge.{IsByAge}
use Rattle.locking_engine.proofs.ByAge.{entered, was_counted, was_there, with_run-by_age}
use Rattle.locking_engine.proofs.by_age.enter.Goals as goal

pub returns-then-stands_at-clause-items : goal.returns-then-stands_at-clause-items
returns-then-stands_at-clause-items c = sym (cond-true _ _ _ (was_there c.args.run.rank _ _ _ c.as_slice-held.ensures.value c.stands_at.ensures ∙ c.if-stands_at.true))

pub returns-then-stands_at-clause-fresh : goal.returns-then-stands_at-clause-fresh
returns-then-stands_at-clause-fresh c = ap not (sym (was_there c.args.run.rank _ _ _ c.as_slice-held.ensures.value c.stands_at.ensures ∙ c.if-stands_at.true))

pub returns-clause-items : goal.returns-clause-items
returns-clause-items c =
    entered c.args.run c.args.holders.now.items _ c.place_for-place.result c.requires
    (was_counted c.args.run.rank _ _ _ c.as_slice-held.ensures.value c.place_for-place.ensures.count)
    (was_there c.args.run.rank _ _ _ c.as_slice-held.ensures.value c.stands_at.ensures ∙ c.if-stands_at.false) c.in_ok-insert.ensures.items

pub returns-clause-order : goal.returns-clause-order
returns-clause-order c =
    let items = entered c.args.run c.args.holders.now.items _ c.place_for-place.result c.requires
    (was_counted c.args.run.rank _ _ _ c.as_slice-held.ensures.value c.place_for-place.ensures.count)
    (was_there c.args.run.rank _ _ _ c.as_slice-held.ensures.value c.stands_at.ensures ∙ c.if-stands_at.false) c.in_ok-insert.ensures.items in
    subst IsByAge (sym items) (with_run-by_age c.args.run c.args.holders.now.items c.requires)

pub returns-clause-fresh : goal.returns-clause-fresh
returns-clause-fresh c = ap not (sym (was_there c.args.run.rank _ _ _ c.as_slice-held.ensures.value c.stands_at.ensures ∙ c.if-stands_at.false))
