use Rattle.mdb_base.specs.Words.{Each}
use Rattle.global_manager.specs.Stands.{IsDeclared}
use Rattle.actor_tests.specs.OfThree.{three}
use Rattle.actor_tests.proofs.coordinator.lines.Given as goal

abbrev pub invariant-loop-steps : goal.invariant-loop-steps
invariant-loop-steps l = Each (IsDeclared three) l.lines.items
