use Rattle.engine_contract.specs.Past.{SomePast}
use Rattle.engine_tests.specs.Stages.{Agrees}
use Rattle.engine_tests.proofs.rows.play.Given as goal

abbrev pub invariant-loop-place : goal.invariant-loop-place
invariant-loop-place g l = SomePast g.E.LocalEngine.stands l.watched.engine (Agrees l.watched.notes.items l.watched.counter l.watched.published)
