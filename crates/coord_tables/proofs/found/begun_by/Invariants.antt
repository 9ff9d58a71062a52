use Rattle.std.proofs.Common.{◌≡◌, drop}
use Rattle.mdb_base.specs.declared.names.Tx.{Tx}
use Rattle.coord_tables.specs.Found.{found_attempts, found_from}
use Rattle.coord_tables.specs.Trees.{noted}
use Rattle.coord_tables.proofs.found.begun_by.Given as goal

-- with the other ones it comes to what all come to
abbrev pub invariant-loop-record : goal.invariant-loop-record
invariant-loop-record l = (tx : Tx) → found_from tx (noted l.begun.listed tx) (drop l.record-index l.records) ≡ found_attempts tx l.records
