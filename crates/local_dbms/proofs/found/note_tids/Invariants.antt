use Rattle.std.proofs.Common.{◌≡◌, ◌≤◌, cond, Some, drop, length}
use Rattle.mdb_base.specs.declared.names.Tid.{Tid}
use Rattle.mdb_base.specs.declared.names.Tx.{Tx}
use Rattle.mdb_base.specs.Names.{same_tx}
use Rattle.mdb_base.specs.Words.{some_of}
use Rattle.local_dbms.specs.Found.{made_up}
use Rattle.local_dbms.specs.Stands.{program_in}
use Rattle.local_dbms.proofs.found.note_tids.Given as goal

abbrev pub invariant-loop-left : goal.invariant-loop-left
invariant-loop-left l = record {
  within : l.left ≤ length l.tids;
  held : (other : Tx) → program_in l.programs.items other ≡ cond (some_of (λ (tid : Tid). same_tx tid.tx other) (drop l.left l.tids)) (Some made_up) (program_in l.fn.programs.items other);
}

abbrev pub decreases-loop-left : goal.decreases-loop-left
decreases-loop-left l = l.left
