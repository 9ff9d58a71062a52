use Rattle.std.proofs.Common.{Bool, true, false, ◌+◌, subst}
use Rattle.usable_journals.specs.Numbers.{Puts, numbers_of}
use Rattle.usable_journals.proofs.NumberLaws.{all_last, all_next}
use Rattle.usable_journals.proofs.numbers.take_all.Goals as goal

pub returns-then-not-branch : goal.returns-then-not-branch
returns-then-not-branch c =
    let x = c.entry-item.result in
    all_last c.args.numbers.now c.take.new.numbers c.take.new.numbers c.args.entries.now (c.loop-entry.entry-index + 1)
    (all_next c.args.numbers.now c.loop-entry.numbers c.take.new.numbers c.args.entries.now c.loop-entry.entry-index x false c.loop-entry-test.true c.loop-entry.invariant
    (subst (λ e. Puts c.loop-entry.numbers c.take.new.numbers (numbers_of e) false) c.entry-item.is
    (subst (λ (b : Bool). Puts c.loop-entry.numbers c.take.new.numbers (numbers_of x) b) c.if-not-branch.true c.in_ok-take.ensures)))

pub loop-entry-preserved : goal.loop-entry-preserved
loop-entry-preserved c =
    let x = c.entry-item.result in
    all_next c.args.numbers.now c.loop-entry.numbers c.take.new.numbers c.args.entries.now c.loop-entry.entry-index x true c.loop-entry-test.true c.loop-entry.invariant
    (subst (λ e. Puts c.loop-entry.numbers c.take.new.numbers (numbers_of e) true) c.entry-item.is
    (subst (λ (b : Bool). Puts c.loop-entry.numbers c.take.new.numbers (numbers_of x) b) c.if-not-branch.false c.in_ok-take.ensures))
