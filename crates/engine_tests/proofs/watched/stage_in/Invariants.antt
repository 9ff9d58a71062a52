use Rattle.std.proofs.Common.{◌≡◌, drop}
use Rattle.engine_tests.specs.Stages.{noted}
use Rattle.engine_tests.proofs.watched.stage_in.Given as goal

abbrev pub invariant-loop-note : goal.invariant-loop-note
invariant-loop-note l = noted (drop l.note-index l.notes) l.tid ≡ noted l.notes l.tid
