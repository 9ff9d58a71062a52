use Rattle.std.proofs.Common.{sym, ◌∙◌}
use Rattle.usable_journals.specs.Fronts.{may_hold}
use Rattle.usable_journals.proofs.KeyLaws.{next_fails, next_passes}
use Rattle.usable_journals.proofs.fronts.Front.may_hold_all.Goals as goal

pub returns-then-not-may_hold : goal.returns-then-not-may_hold
returns-then-not-may_hold c =
    next_fails (may_hold c.args.self.now c.args.number) c.args.writes.now c.loop-put.put-index _ c.loop-put-test.true (sym c.may_hold.ensures ∙ c.if-not-may_hold.true) c.loop-put.invariant

pub loop-put-preserved : goal.loop-put-preserved
loop-put-preserved c =
    next_passes (may_hold c.args.self.now c.args.number) c.args.writes.now c.loop-put.put-index _ c.loop-put-test.true (sym c.may_hold.ensures ∙ c.if-not-may_hold.false) c.loop-put.invariant
