use Rattle.std.proofs.Common.{◌≡◌, ◌+◌, ◌-◌, length}
use Rattle.mdb_base.specs.declared.names.Tx.{Tx}
use Rattle.local_dbms.specs.Stands.{program_in}
use Rattle.local_dbms.proofs.programs.reach.Given as goal

abbrev pub invariant-loop-tx : goal.invariant-loop-tx
invariant-loop-tx l = (other : Tx) → program_in l.programs.items other ≡ program_in l.fn.programs.items other

abbrev pub decreases-loop-tx : goal.decreases-loop-tx
decreases-loop-tx l = l.tx.0 + 1 - length l.programs.items
