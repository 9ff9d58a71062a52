use Rattle.scripted_link.proofs.ForCallers.{MadeTo}
use Rattle.world_tests.proofs.links.script_of.Given as goal

abbrev pub invariant-loop-place : goal.invariant-loop-place
invariant-loop-place l = MadeTo l.fates.items l.place
