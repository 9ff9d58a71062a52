use Rattle.std.proofs.Common.{◌≡◌, ◌≤◌, drop, length}
use Rattle.std.specs.FinMap.{from_entries, get}
use Rattle.mdb_base.specs.declared.names.Tx.{Tx}
use Rattle.mdb_base.specs.Names.{tx_cmp}
use Rattle.global_manager.specs.Stands.{own_programs}
use Rattle.global_manager.proofs.programs.programs_of.Given as goal

abbrev pub invariant-loop-left : goal.invariant-loop-left
invariant-loop-left l =
    record {
      within : l.left ≤ length l.lines;
      held : (tx : Tx) → get {R = tx_cmp} (from_entries l.programs.entries) tx ≡ own_programs (drop l.left l.lines) tx;
    }

abbrev pub decreases-loop-left : goal.decreases-loop-left
decreases-loop-left l = l.left
