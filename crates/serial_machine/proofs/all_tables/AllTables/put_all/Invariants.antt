use Rattle.std.proofs.Common.{◌≡◌, ◌+◌, ◌-◌, ◌≤◌, drop}
use Rattle.std.specs.HashMap.{spare}
use Rattle.mdb_base.specs.declared.names.Key.{Key}
use Rattle.mdb_base.specs.declared.names.SiteId.{SiteId}
use Rattle.serial_machine.specs.AllTables.{value_at, value_there, first_of}
use Rattle.serial_machine.proofs.all_tables.AllTables.put_all.Given as goal

abbrev pub invariant-loop-done : goal.invariant-loop-done
invariant-loop-done l = record {
  written : (s : SiteId) (key : Key) → value_at l.self s key ≡ first_of (value_there l.site (drop (l.count - l.done) l.rows) s key) (value_at l.initial.self s key);
  room : l.count ≤ spare l.self.values + l.done;
}
