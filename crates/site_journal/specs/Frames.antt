-- The frames of records: how many bytes they have, and which record may stand first in a journal that was trimmed.
use Rattle.std.proofs.Common.{◌≡◌, arith}
use Rattle.fed_rules.specs.declared.records.SiteRecord.{SiteRecord}
use Rattle.fed_rules.specs.declared.records.SiteRecord.TheVariants.{Setup, Start, Prepared, Ended, Local, Checkpoint}
use Rattle.fed_rules.specs.SiteRecords.{site_frame}
use Rattle.frame_journal.specs.Journal.{written_size}
use Rattle.frame_journal.proofs.ForCallers.{new_size}
use Rattle.site_journal.specs.PayloadSizes.{payload_has_size}
use Rattle.site_journal.specs.Spelling.{spelling}

-- a Checkpoint says all that the records before it say
abbrev pub IsCheckpoint : SiteRecord → Type 0
IsCheckpoint (Setup site engine protocol items) = ⊥
IsCheckpoint (Start epoch) = ⊥
IsCheckpoint (Prepared tid epoch serial ticket writes) = ⊥
IsCheckpoint (Ended tid decision) = ⊥
IsCheckpoint (Local tid serial writes) = ⊥
IsCheckpoint (Checkpoint sum) = Unit {0}

-- a frame has as many bytes as the rules count for its record
pub frame_has_size : (entry : SiteRecord) → written_size spelling entry ≡ site_frame entry
frame_has_size entry = omega (arith, new_size (spelling entry), payload_has_size entry)
