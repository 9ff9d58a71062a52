use Rattle.std.proofs.Common.{◌≡◌, ◌++◌}
use Rattle.serial_machine.specs.AllTables.{rows_from}
use Rattle.serial_machine.proofs.all_tables.AllTables.rows_at.Given as goal

abbrev pub invariant-loop-place : goal.invariant-loop-place
invariant-loop-place l = l.rows.items ++ rows_from l.site l.place-iterator ≡ rows_from l.site l.self.values.entries
