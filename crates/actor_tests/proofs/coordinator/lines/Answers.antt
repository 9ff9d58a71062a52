use Rattle.std.proofs.Common.{sym, subst}
use Rattle.mdb_base.specs.Words.{Each}
use Rattle.mdb_base.proofs.ForCallers.{each_pushed}
use Rattle.global_manager.specs.Stands.{IsDeclared}
use Rattle.actor_tests.specs.OfThree.{three}
use Rattle.actor_tests.proofs.coordinator.lines.Goals as goal

pub loop-steps-preserved : goal.loop-steps-preserved
loop-steps-preserved c =
    subst (Each (IsDeclared three)) (sym c.in_ok-push.ensures.items)
    (each_pushed (IsDeclared three) c.loop-steps.lines.items c.in_ok-line.line c.loop-steps.invariant c.in_ok-line.ensures)
