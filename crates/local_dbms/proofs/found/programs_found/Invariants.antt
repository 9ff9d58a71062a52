use Rattle.std.proofs.Common.{◌≡◌, ◌≤◌, drop, length}
use Rattle.mdb_base.specs.declared.names.Tx.{Tx}
use Rattle.local_dbms.specs.Found.{found_programs}
use Rattle.local_dbms.specs.Stands.{program_in}
use Rattle.local_dbms.proofs.found.programs_found.Given as goal

abbrev pub invariant-loop-left : goal.invariant-loop-left
invariant-loop-left l = record {
  within : l.left ≤ length l.records;
  held : (tx : Tx) → program_in l.programs.items tx ≡ found_programs (drop l.left l.records) tx;
}

abbrev pub decreases-loop-left : goal.decreases-loop-left
decreases-loop-left l = l.left
