use Rattle.std.proofs.Common.{◌≡◌, length}
use Rattle.mdb_base.specs.Words.{Each}
use Rattle.trace_merge.specs.Traces.{StampsRise}
use Rattle.world_tests.proofs.traces.nine_lists.Given as goal

abbrev pub invariant-loop-actor : goal.invariant-loop-actor
invariant-loop-actor l = (length l.lists.items ≡ l.actor) × Each StampsRise l.lists.items
