use Rattle.std.proofs.Common.{◌≡◌, ◌+◌, ◌-◌, length}
use Rattle.mdb_base.specs.declared.names.Tx.{Tx}
use Rattle.session_routes.specs.Routes.{home_in}
use Rattle.session_routes.proofs.routes.reach.Given as goal

abbrev pub invariant-loop-tx : goal.invariant-loop-tx
invariant-loop-tx l = (other : Tx) → home_in l.homes.items other ≡ home_in l.fn.homes.items other

abbrev pub decreases-loop-tx : goal.decreases-loop-tx
decreases-loop-tx l = l.tx.0 + 1 - length l.homes.items
