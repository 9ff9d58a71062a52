-- A coordinator that is reopened on a disk: the journal that is read there is found there.
use Rattle.std.proofs.Common.{◌≡◌, ℕ, ◌-◌, true, List, length, refl, sym, subst, ◌∙◌}
use Rattle.std.specs.Prelude.{reverse}
use Rattle.std.specs.List.{AllByRecursion}
use Rattle.presumptions.specs.declared.Participant.{Participant}
use Rattle.fed_rules.specs.declared.records.CoordRecord.{CoordRecord}
use Rattle.fed_rules.specs.CoordRecords.{coord_frame}
use Rattle.fed_rules.specs.Found.{Journal}
use Rattle.fed_rules.specs.Usable.{IsUsableCoordinator}
use Rattle.journal_disk.specs.declared.mem_disk.MemDisk.{MemDisk}
use Rattle.journal_disk.specs.Disk.{Image, synced_bytes}
use Rattle.journal_disk.specs.MemDisk.{mem_image}
use Rattle.frame_journal.specs.Journal.{IsKeptOn, Kept, records}
use Rattle.frame_journal.specs.Records.{entry_frame, spelled_size, values}
use Rattle.actor_store.proofs.ForCallers.{read_in}
use Rattle.coord_journal.specs.Exact as Coord_exact
use Rattle.coord_journal.specs.Frames as Coord_frames
use Rattle.coord_journal.specs.Spelling as Coordinators
use Rattle.site_core.specs.Sessions.{mem_seen}
use Rattle.coord_core.specs.Found as Coord

-- the journal that was read from a disk
abbrev pub read_from : MemDisk → Kept CoordRecord → Journal CoordRecord
read_from disk kept =
    record { records = reverse (values kept.entries); torn = length (mem_image disk).bytes - spelled_size (entry_frame Coordinators.spelling) kept.entries }

-- all of it is synced
abbrev pub IsSynced : MemDisk → Type 0
IsSynced disk = (mem_image disk).synced ≡ length (mem_image disk).bytes

-- behind a sync, and a call that leaves it as it is
pub is_synced : (bytes : List ℕ) (synced disk : MemDisk) → mem_image synced ≡ synced_bytes bytes → mem_image disk ≡ mem_image synced → IsSynced disk
is_synced bytes synced disk all same = subst (λ (image : Image). image.synced ≡ length image.bytes) (sym (same ∙ all)) refl

-- what is read is found, where it is usable
pub coordinator_found : (disk : MemDisk) (kept : Kept CoordRecord) (sites : List Participant) → IsKeptOn Coordinators.spelling true (mem_seen disk) kept → IsSynced disk
    → AllByRecursion Coordinators.IsRecord (records kept) → IsUsableCoordinator sites (reverse (records kept)) → Coord.IsFoundOn (mem_image disk) sites (read_from disk kept)
coordinator_found disk kept sites on synced all usable = record {
  stands = read_in Coordinators.spelling Coordinators.reading Coordinators.IsRecord coord_frame Coord_frames.frame_has_size Coord_exact.spelled_is_read true refl (mem_seen disk) kept on synced all;
  usable = usable;
}
