use Rattle.std.proofs.Common.{◌≡◌, ◌+◌, ◌≤◌, nat_eq, take}
use Rattle.std.specs.HashMap.{get, spare}
use Rattle.mdb_base.specs.declared.names.Key.{Key}
use Rattle.mdb_base.specs.Rows.{value_in}
use Rattle.site_tables.specs.Tables.{written}
use Rattle.site_tables.proofs.versions.write_all.Given as goal

abbrev pub invariant-loop-put : goal.invariant-loop-put
invariant-loop-put l = record {
  written : (key : Key) → get nat_eq l.versions key.0 ≡ written l.number (value_in (take l.put-index l.writes) key) (get nat_eq l.initial.versions key.0);
  room : spare l.initial.versions ≤ spare l.versions + l.put-index;
}
