use Rattle.std.proofs.Common.{◌≡◌, take}
use Rattle.std.specs.BTreeSet.{contains}
use Rattle.mdb_base.specs.declared.names.Tid.{Tid}
use Rattle.mdb_base.specs.Names.{tid_cmp}
use Rattle.ticket_graph.specs.Trail.{is_reached_tid}
use Rattle.ticket_graph.proofs.find.reached_tids.Given as goal

abbrev pub invariant-loop-step : goal.invariant-loop-step
invariant-loop-step l = (t : Tid) → contains tid_cmp l.tids t ≡ is_reached_tid l.attempts (take l.step-index l.steps) t
