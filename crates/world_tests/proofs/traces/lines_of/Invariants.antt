use Rattle.world_tests.proofs.Made.{MadeTo}
use Rattle.world_tests.proofs.traces.lines_of.Given as goal

abbrev pub invariant-loop : goal.invariant-loop
invariant-loop l = MadeTo l.lines.items l.stamp
