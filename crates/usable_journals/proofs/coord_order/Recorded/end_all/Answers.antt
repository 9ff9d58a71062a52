use Rattle.std.proofs.Common.{Bool, ◌-◌, get_or, subst, arith}
use Rattle.usable_journals.specs.Recorded.{TakesAll}
use Rattle.usable_journals.proofs.Recording.{end_at, ends_last, ends_next}
use Rattle.usable_journals.proofs.coord_order.Recorded.end_all.Goals as goal

pub returns-then-not-branch : goal.returns-then-not-branch
returns-then-not-branch c =
    let d = c.index-committed-left.result in
    let x = get_or c.args.committed.now (c.loop-left.left - 1) d in
    ends_last c.args.tids.now c.args.self.now c.loop-left.self c.end_unless.new.self c.end_unless.new.self c.args.committed.now c.loop-left.left d (omega arith)
    c.loop-left.invariant.within c.loop-left.invariant.taken
    (subst (λ (b : Bool). TakesAll c.loop-left.self c.end_unless.new.self (end_at c.args.tids.now x) b) c.if-not-branch.true c.in_ok-end_unless.ensures)

pub loop-left-preserved : goal.loop-left-preserved
loop-left-preserved c = record {
  within = omega arith;
  taken =
      let d = c.index-committed-left.result in
      let x = get_or c.args.committed.now (c.loop-left.left - 1) d in
      ends_next c.args.tids.now c.args.self.now c.loop-left.self c.end_unless.new.self c.args.committed.now c.loop-left.left d (omega arith)
      c.loop-left.invariant.within c.loop-left.invariant.taken
      (subst (λ (b : Bool). TakesAll c.loop-left.self c.end_unless.new.self (end_at c.args.tids.now x) b) c.if-not-branch.false c.in_ok-end_unless.ensures);
}
