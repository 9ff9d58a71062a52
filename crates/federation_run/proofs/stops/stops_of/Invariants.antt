use Rattle.std.proofs.Common.{◌≡◌, ◌++◌, drop}
use Rattle.mdb_base.specs.Words.{those}
use Rattle.fed_rules.specs.Plans.{stops_actor}
use Rattle.federation_run.proofs.stops.stops_of.Given as goal

abbrev pub invariant-loop-line : goal.invariant-loop-line
invariant-loop-line l = l.stops.items ++ those (stops_actor l.actor) (drop l.line-index l.line-items) ≡ those (stops_actor l.actor) l.line-items
