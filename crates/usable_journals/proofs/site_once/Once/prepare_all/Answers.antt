use Rattle.std.proofs.Common.{Bool, true, false, ◌-◌, get_or, subst, arith}
use Rattle.usable_journals.specs.Fronts.{held_read}
use Rattle.usable_journals.specs.OnceTold.{Takes}
use Rattle.usable_journals.proofs.OnceLaws.{takes_last, takes_next, takes_whole}
use Rattle.usable_journals.proofs.site_once.Once.prepare_all.Goals as goal

pub returns-then-not-branch : goal.returns-then-not-branch
returns-then-not-branch c =
    let d = c.index-doubtful-left.result in
    let x = get_or c.args.doubtful.now (c.loop-left.left - 1) d in
    takes_last held_read c.args.self.now c.prepare.new.self c.prepare.new.self c.args.doubtful.now (c.loop-left.left - 1)
    (takes_next held_read c.args.self.now c.loop-left.self c.prepare.new.self c.args.doubtful.now c.loop-left.left d false (omega arith) c.loop-left.invariant.within c.loop-left.invariant.taken
    (subst (λ (b : Bool). Takes c.loop-left.self c.prepare.new.self (held_read x) b) c.if-not-branch.true (c.in_ok-prepare.ensures x.epoch x.number x.ticket x.writes)))

pub loop-left-preserved : goal.loop-left-preserved
loop-left-preserved c = record {
  within = omega arith;
  taken =
      let d = c.index-doubtful-left.result in
      let x = get_or c.args.doubtful.now (c.loop-left.left - 1) d in
      takes_next held_read c.args.self.now c.loop-left.self c.prepare.new.self c.args.doubtful.now c.loop-left.left d true (omega arith) c.loop-left.invariant.within c.loop-left.invariant.taken
      (subst (λ (b : Bool). Takes c.loop-left.self c.prepare.new.self (held_read x) b) c.if-not-branch.false (c.in_ok-prepare.ensures x.epoch x.number x.ticket x.writes));
}

pub returns : goal.returns
returns c = takes_whole held_read c.args.self.now c.loop-left.self c.args.doubtful.now c.loop-left.left (omega arith) c.loop-left.invariant.taken
