-- What the coordinator's records say of an attempt, as facts on one record.
use Rattle.std.specs.Prelude.{◌≡◌}
use Rattle.mdb_base.specs.declared.names.Tid.{Tid}
use Rattle.fed_rules.specs.declared.records.CoordRecord.{CoordRecord}
use Rattle.fed_rules.specs.declared.records.CoordRecord.TheVariants.{Commit, End}

-- a record that the coordinator appends without a sync
abbrev pub IsEnd : CoordRecord → Type 0
IsEnd (End ended) = Unit {0}
IsEnd kept = ⊥

-- a Commit record of the attempt
abbrev pub IsCommit : Tid → CoordRecord → Type 0
IsCommit tid (Commit committed tickets) = committed ≡ tid
IsCommit tid kept = ⊥
