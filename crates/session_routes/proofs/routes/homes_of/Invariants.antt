use Rattle.std.proofs.Common.{◌≤◌, drop, length}
use Rattle.session_routes.specs.Routes.{AreHomes}
use Rattle.session_routes.proofs.routes.homes_of.Given as goal

abbrev pub invariant-loop-left : goal.invariant-loop-left
invariant-loop-left l = record { within : l.left ≤ length l.lines; held : AreHomes (drop l.left l.lines) l.homes.items }

abbrev pub decreases-loop-left : goal.decreases-loop-left
decreases-loop-left l = l.left
