-- The frames of records: how many bytes they have, and which record may stand first in a journal that was trimmed.
use Rattle.std.proofs.Common.{◌≡◌, arith}
use Rattle.fed_rules.specs.declared.records.CoordRecord.{CoordRecord}
use Rattle.fed_rules.specs.declared.records.CoordRecord.TheVariants.{Initiation, Commit, Abort, End, Checkpoint}
use Rattle.fed_rules.specs.CoordRecords.{coord_frame}
use Rattle.frame_journal.specs.Journal.{written_size}
use Rattle.frame_journal.proofs.ForCallers.{new_size}
use Rattle.coord_journal.specs.PayloadSizes.{payload_has_size}
use Rattle.coord_journal.specs.Spelling.{spelling}

-- a Checkpoint says all that the records before it say
abbrev pub IsCheckpoint : CoordRecord → Type 0
IsCheckpoint (Initiation tid participants) = ⊥
IsCheckpoint (Commit tid tickets) = ⊥
IsCheckpoint (Abort tid participants) = ⊥
IsCheckpoint (End tid) = ⊥
IsCheckpoint (Checkpoint sum) = Unit {0}

-- a frame has as many bytes as the rules count for its record
pub frame_has_size : (entry : CoordRecord) → written_size spelling entry ≡ coord_frame entry
frame_has_size entry = omega (arith, new_size (spelling entry), payload_has_size entry)
