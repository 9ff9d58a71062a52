use Rattle.std.proofs.Common.{◌≡◌, ◌+◌, ◌≤◌, None, nat_eq, take}
use Rattle.std.specs.HashMap.{get, spare}
use Rattle.mdb_base.specs.declared.names.Key.{Key}
use Rattle.mdb_base.specs.Rows.{value_in}
use Rattle.site_tables.specs.Tables.{written}
use Rattle.site_tables.proofs.versions.write_first.Given as goal

abbrev pub invariant-loop-put : goal.invariant-loop-put
invariant-loop-put l = record {
  written : (key : Key) → get nat_eq l.versions key.0 ≡ written 0 (value_in (take l.put-index l.rows) key) None;
  room : spare l.initial.versions ≤ spare l.versions + l.put-index;
}
