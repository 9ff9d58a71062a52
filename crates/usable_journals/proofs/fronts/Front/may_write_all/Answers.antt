use Rattle.std.proofs.Common.{sym, ◌∙◌}
use Rattle.usable_journals.specs.Fronts.{may_write}
use Rattle.usable_journals.proofs.KeyLaws.{next_fails, next_passes}
use Rattle.usable_journals.proofs.fronts.Front.may_write_all.Goals as goal

pub returns-then-not-may_write : goal.returns-then-not-may_write
returns-then-not-may_write c =
    next_fails (may_write c.args.self.now c.args.number) c.args.writes.now c.loop-put.put-index _ c.loop-put-test.true (sym c.may_write.ensures ∙ c.if-not-may_write.true) c.loop-put.invariant

pub loop-put-preserved : goal.loop-put-preserved
loop-put-preserved c =
    next_passes (may_write c.args.self.now c.args.number) c.args.writes.now c.loop-put.put-index _ c.loop-put-test.true (sym c.may_write.ensures ∙ c.if-not-may_write.false) c.loop-put.invariant
