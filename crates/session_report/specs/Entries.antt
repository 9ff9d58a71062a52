-- A tree of values by attempt, as the list of its entries.
use Rattle.std.specs.Prelude.{ℕ, map}
use Rattle.std.specs.BTreeMap.{BTreeMap}
use Rattle.std.specs.Global.{Vec}
use Rattle.mdb_base.specs.declared.names.Tid.{Tid}
use Rattle.session_report.specs.Told.{Reads}

-- the attempts with their values
abbrev pub entries_of : BTreeMap Tid (Vec ℕ) → Reads
entries_of tree = map (λ entry. (entry.0, entry.1.items)) tree.entries
