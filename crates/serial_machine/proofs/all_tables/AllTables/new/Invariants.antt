use Rattle.std.proofs.Common.{◌≡◌, ◌-◌, drop}
use Rattle.mdb_base.specs.declared.names.Key.{Key}
use Rattle.mdb_base.specs.declared.names.SiteId.{SiteId}
use Rattle.serial_machine.specs.AllTables.{value_at, given_value}
use Rattle.serial_machine.proofs.all_tables.AllTables.new.Given as goal

abbrev pub invariant-loop-done : goal.invariant-loop-done
invariant-loop-done l = (site : SiteId) (key : Key) → value_at l.tables site key ≡ given_value (drop (l.count - l.done) l.sites) site key
