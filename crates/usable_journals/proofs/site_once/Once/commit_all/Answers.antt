use Rattle.std.proofs.Common.{Bool, true, false, [], ◌-◌, get_or, subst, arith}
use Rattle.fed_rules.specs.Reopened.{local_read, nobody}
use Rattle.usable_journals.specs.OnceTold.{Takes}
use Rattle.usable_journals.proofs.OnceLaws.{takes_last, takes_next, takes_whole}
use Rattle.usable_journals.proofs.site_once.Once.commit_all.Goals as goal

pub returns-then-not-branch : goal.returns-then-not-branch
returns-then-not-branch c counter =
    let x = get_or c.args.locals.now (c.loop-left.left - 1) nobody in
    takes_last (local_read counter) c.args.self.now c.commit.new.self c.commit.new.self c.args.locals.now (c.loop-left.left - 1)
    (takes_next (local_read counter) c.args.self.now c.loop-left.self c.commit.new.self c.args.locals.now c.loop-left.left nobody false (omega arith) c.loop-left.invariant.within
    (c.loop-left.invariant.taken counter)
    (subst (λ (b : Bool). Takes c.loop-left.self c.commit.new.self (local_read counter x) b) c.if-not-branch.true (c.in_ok-commit.ensures counter [])))

pub loop-left-preserved : goal.loop-left-preserved
loop-left-preserved c = record {
  within = omega arith;
  taken = λ counter.
      let x = get_or c.args.locals.now (c.loop-left.left - 1) nobody in
      takes_next (local_read counter) c.args.self.now c.loop-left.self c.commit.new.self c.args.locals.now c.loop-left.left nobody true (omega arith) c.loop-left.invariant.within
      (c.loop-left.invariant.taken counter)
      (subst (λ (b : Bool). Takes c.loop-left.self c.commit.new.self (local_read counter x) b) c.if-not-branch.false (c.in_ok-commit.ensures counter []));
}

pub returns : goal.returns
returns c counter = takes_whole (local_read counter) c.args.self.now c.loop-left.self c.args.locals.now c.loop-left.left (omega arith) (c.loop-left.invariant.taken counter)
