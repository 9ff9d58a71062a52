use Rattle.std.proofs.Common.{subst, arith}
use Rattle.world_tests.proofs.Made.{MadeTo, one_more}
use Rattle.world_tests.proofs.traces.lines_of.Goals as goal
use Rattle.world_tests.proofs.traces.lines_of.Goals.{then-rise-gt0+then-stamp-lt100+in_ok-push, else-rise-gt0}

pub loop-preserved : goal.loop-preserved
loop-preserved c = elim c.if-rise-gt0.branch [
  | then-rise-gt0+then-stamp-lt100+in_ok-push w ↦
      let made : MadeTo w.push.new.self.items w.mark.result.stamp =
      one_more c.loop.lines.items w.push.new.self.items w.mark.result c.loop.stamp c.loop.invariant (omega arith) w.in_ok-push.ensures.items in
      rw (w.lines-is, w.stamp-is) (subst (MadeTo w.push.new.self.items) w.mark.ensures made)
  | else-rise-gt0 w ↦ rw (w.lines-is, w.stamp-is) c.loop.invariant
]
