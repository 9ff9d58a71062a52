use Rattle.std.proofs.Common.{◌≡◌, take}
use Rattle.mdb_base.specs.Words.{found}
use Rattle.global_exec.specs.Due.{due}
use Rattle.global_exec.proofs.attempt.Attempt.outstanding.Given as goal

abbrev pub invariant-loop-progress : goal.invariant-loop-progress
invariant-loop-progress l = l.dues ≡ found (due l.self-inside.program l.self-inside.done l.self-inside.reads.items) (take l.progress-index l.progress-items)
