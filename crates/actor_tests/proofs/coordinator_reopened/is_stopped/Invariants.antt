use Rattle.actor_tests.specs.OfThree.{IsOfThree}
use Rattle.actor_tests.proofs.coordinator_reopened.is_stopped.Given as goal

abbrev pub invariant-loop-deed : goal.invariant-loop-deed
invariant-loop-deed g l = IsOfThree g.P.TakePolicy.policy l.manager l.disk
