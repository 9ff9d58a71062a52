-- What is on the disk of an actor's store while the actor is up: the frames of its records alone.
use Rattle.std.proofs.Common.{◌≡◌, ℕ, Bool, true, IsTrue, Option, List, [], ◌∷◌, length, map, reverse, refl, ◌∙◌, ap}
use Rattle.fed_rules.specs.declared.records.CoordRecord.{CoordRecord}
use Rattle.fed_rules.specs.declared.records.SiteRecord.{SiteRecord}
use Rattle.fed_rules.specs.CoordRecords.{coord_frame}
use Rattle.fed_rules.specs.Disk.{Disk, journal}
use Rattle.fed_rules.specs.Happenings.{Trip}
use Rattle.fed_rules.specs.SiteRecords.{site_frame}
use Rattle.journal_disk.specs.Disk.{Seen}
use Rattle.journal_disk.specs.Frames.{Frame, frames}
use Rattle.frame_journal.specs.Records.{as_written, entry_frame, spelled}
use Rattle.journal_rules.specs.Stands.{record_frame}
use Rattle.actor_store.specs.Store.{Keeps, Stored, is_up}
use Rattle.coord_journal.specs.Spelling as of_coordinator
use Rattle.site_journal.specs.Spelling as of_site
use Rattle.outputs.proofs.ForCallers.{nothing_behind}

module _ {R : Type 0} (spelling : R → List ℕ) (is_record : R → Type 0) (frame_bytes : R → ℕ) where
  -- the frames of entries as they are written are those of their records
  written_frames : (rs : List R) → spelled (entry_frame spelling) (map as_written rs) ≡ spelled (record_frame spelling) rs
  written_frames rs = ap frames (map-map rs)
    where
      map-map : (rs : List R) → map (entry_frame spelling) (map as_written rs) ≡ map (record_frame spelling) rs
      map-map [] = refl
      map-map (r ∷ rs) = ap (λ (fs : List Frame). record_frame spelling r ∷ fs) (map-map rs)

  -- while the actor is up they are on its disk alone
  holds_frames : (tells : Bool) (seen : Seen) (store : Stored R) (rules : Disk R) (trip : Option Trip) → IsTrue tells → length seen.image.bytes ≡ seen.size → is_up store.standing ≡ true
      → Keeps spelling is_record frame_bytes tells seen store rules trip → seen.image.bytes ≡ spelled (record_frame spelling) (reverse (journal frame_bytes rules))
  holds_frames tells seen store rules trip told sized up k =
      nothing_behind spelling tells seen store rules told sized up k.in_order k.kept_on
      ∙ ap (λ es. spelled (entry_frame spelling) es) k.records ∙ written_frames (reverse (journal frame_bytes rules))

-- of the coordinator
pub coord_whole : (tells : Bool) (seen : Seen) (store : Stored CoordRecord) (rules : Disk CoordRecord) (trip : Option Trip) → IsTrue tells → length seen.image.bytes ≡ seen.size → is_up store.standing ≡ true
    → Keeps of_coordinator.spelling of_coordinator.IsRecord coord_frame tells seen store rules trip
    → seen.image.bytes ≡ spelled (record_frame of_coordinator.spelling) (reverse (journal coord_frame rules))
coord_whole = holds_frames of_coordinator.spelling of_coordinator.IsRecord coord_frame

-- and of a site
pub site_whole : (tells : Bool) (seen : Seen) (store : Stored SiteRecord) (rules : Disk SiteRecord) (trip : Option Trip) → IsTrue tells → length seen.image.bytes ≡ seen.size → is_up store.standing ≡ true
    → Keeps of_site.spelling of_site.IsRecord site_frame tells seen store rules trip → seen.image.bytes ≡ spelled (record_frame of_site.spelling) (reverse (journal site_frame rules))
site_whole = holds_frames of_site.spelling of_site.IsRecord site_frame
