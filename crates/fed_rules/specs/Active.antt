-- Which attempts are active at the coordinator.
use Rattle.std.specs.Prelude.{◌≡◌, ◌⊎◌, true}
use Rattle.mdb_base.specs.declared.names.Tid.{Tid}
use Rattle.fed_rules.specs.CoordPast.{CoordPast, is_open, records}
use Rattle.fed_rules.specs.CoordRecords.{has_commit}

-- the attempt is undecided, or a Commit of it is kept
abbrev pub IsActive : CoordPast → Tid → Type 0
IsActive past g = (is_open past g ≡ true) ⊎ (has_commit (records past) g ≡ true)
