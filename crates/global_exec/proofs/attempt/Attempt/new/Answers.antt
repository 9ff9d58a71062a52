use Rattle.std.proofs.Common.{arith}
use Rattle.global_exec.proofs.Lives.{live_submitted}
use Rattle.global_exec.proofs.attempt.Attempt.new.Goals as goal

pub invariant_of-result : goal.invariant_of-result
invariant_of-result c =
    (rw (c.in_ok-reads.ensures.items, c.in_ok-sites.ensures, c.steps.ensures.steps) (live_submitted c.args.tid c.args.program c.steps.ensures.program), omega (arith, c.len.ensures.count, c.in_ok-reads.ensures.capacity))
