use Rattle.std.proofs.Common.{Bool, ◌-◌, get_or, subst, arith}
use Rattle.fed_rules.specs.Reopened.{commit_read}
use Rattle.usable_journals.specs.Recorded.{Takes}
use Rattle.usable_journals.proofs.Recording.{takes_last, takes_next}
use Rattle.usable_journals.proofs.coord_order.Recorded.commit_all.Goals as goal

pub returns-then-not-branch : goal.returns-then-not-branch
returns-then-not-branch c =
    let d = c.index-committed-left.result in
    let x = get_or c.args.committed.now (c.loop-left.left - 1) d in
    takes_last commit_read c.args.self.now c.loop-left.self c.commit.new.self c.commit.new.self c.args.committed.now c.loop-left.left d (omega arith) c.loop-left.invariant.within
    c.loop-left.invariant.taken
    (subst (λ (b : Bool). Takes c.loop-left.self c.commit.new.self (commit_read x) b) c.if-not-branch.true (c.in_ok-commit.ensures x.tickets))

pub loop-left-preserved : goal.loop-left-preserved
loop-left-preserved c = record {
  within = omega arith;
  taken =
      let d = c.index-committed-left.result in
      let x = get_or c.args.committed.now (c.loop-left.left - 1) d in
      takes_next commit_read c.args.self.now c.loop-left.self c.commit.new.self c.args.committed.now c.loop-left.left d (omega arith) c.loop-left.invariant.within
      c.loop-left.invariant.taken
      (subst (λ (b : Bool). Takes c.loop-left.self c.commit.new.self (commit_read x) b) c.if-not-branch.false (c.in_ok-commit.ensures x.tickets));
}
