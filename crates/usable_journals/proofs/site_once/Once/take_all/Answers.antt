use Rattle.std.proofs.Common.{Bool, true, false, ◌+◌, subst}
use Rattle.usable_journals.specs.OnceTold.{Takes}
use Rattle.usable_journals.proofs.OnceLaws.{all_last, all_next}
use Rattle.usable_journals.proofs.site_once.Once.take_all.Goals as goal

pub returns-then-not-branch : goal.returns-then-not-branch
returns-then-not-branch c =
    let x = c.entry-item.result in
    all_last c.args.self.now c.take.new.self c.take.new.self c.args.entries.now (c.loop-entry.entry-index + 1)
    (all_next c.args.self.now c.loop-entry.self c.take.new.self c.args.entries.now c.loop-entry.entry-index x false c.loop-entry-test.true c.loop-entry.invariant
    (subst (λ e. Takes c.loop-entry.self c.take.new.self e false) c.entry-item.is
    (subst (λ (b : Bool). Takes c.loop-entry.self c.take.new.self x b) c.if-not-branch.true c.in_ok-take.ensures)))

pub loop-entry-preserved : goal.loop-entry-preserved
loop-entry-preserved c =
    let x = c.entry-item.result in
    all_next c.args.self.now c.loop-entry.self c.take.new.self c.args.entries.now c.loop-entry.entry-index x true c.loop-entry-test.true c.loop-entry.invariant
    (subst (λ e. Takes c.loop-entry.self c.take.new.self e true) c.entry-item.is
    (subst (λ (b : Bool). Takes c.loop-entry.self c.take.new.self x b) c.if-not-branch.false c.in_ok-take.ensures))
