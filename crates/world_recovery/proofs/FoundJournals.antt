-- A journal that was read from a disk, all bytes of which are synced, is found there.
use Rattle.std.proofs.Common.{◌≡◌, ℕ, Some, Option, List, length, map, sym, ap, subst, arith}
use Rattle.std.specs.Prelude.{reverse, slice_get}
use Rattle.std.proofs.lemmas.List.{length-append, reverse-reverse}
use Rattle.presumptions.specs.declared.Participant.{Participant}
use Rattle.fed_rules.specs.declared.records.CoordRecord.{CoordRecord}
use Rattle.fed_rules.specs.declared.records.SiteRecord.{SiteRecord}
use Rattle.fed_rules.specs.Reopened.{first_of}
use Rattle.fed_rules.specs.SiteRecords.{Home}
use Rattle.fed_rules.specs.Usable.{IsUsableCoordinator, IsUsableSite, home_of_first}
use Rattle.journal_disk.specs.Disk.{Image}
use Rattle.frame_journal.specs.Journal.{Kept, records}
use Rattle.frame_journal.specs.Records.{entry_frame, spelled}
use Rattle.frame_journal.proofs.ForCallers.{length-frames}
use Rattle.journal_rules.proofs.ForCallers.{all_reverse}
use Rattle.actor_store.specs.Found.{IsFoundIn}
use Rattle.coord_journal.specs.Spelling as Coordinators
use Rattle.site_journal.specs.Spelling as Sites
use Rattle.coord_core.specs.Found as Coordinator
use Rattle.site_core.specs.Found as Site
use Rattle.found_disks.specs.Finding.{journal_on, torn_behind}
use Rattle.found_disks.specs.Reading.{IsReadFrom}

module _ (images : List Image) (number : ℕ) (image : Image) (at : slice_get images number ≡ Some image) (synced : image.synced ≡ length image.bytes) where
  read_found : {R : Type 0} (spelling : R → List ℕ) (is_record : R → Type 0) (kept : Kept R) → IsReadFrom spelling is_record kept image.bytes
      → IsFoundIn spelling is_record image (journal_on spelling images number kept)
  read_found spelling is_record kept read =
      let shape = entry_frame spelling in
      let those = read.whole in
      subst (λ (o : Option Image). IsFoundIn spelling is_record image (record { records = reverse (records kept); torn = torn_behind spelling kept.entries o })) (sym at)
      (record {
        entries = kept.entries;
        whole = those;
        are = sym (reverse-reverse (records kept));
        long = omega (arith, ap length those.parts, length-append (spelled shape kept.entries) those.rest, length-frames (map shape kept.entries));
        synced = synced;
        in_range = all_reverse is_record (records kept) read.are_records;
      })

  pub coordinator_found : (kept : Kept CoordRecord) → IsReadFrom Coordinators.spelling Coordinators.IsRecord kept image.bytes → (protocols : List Participant)
      → IsUsableCoordinator protocols (reverse (records kept)) → Coordinator.IsFoundOn image protocols (journal_on Coordinators.spelling images number kept)
  coordinator_found kept read protocols usable = record { stands = read_found Coordinators.spelling Coordinators.IsRecord kept read; usable = usable }

  pub site_found : (kept : Kept SiteRecord) → IsReadFrom Sites.spelling Sites.IsRecord kept image.bytes → IsUsableSite number (reverse (records kept))
      → (home : Home) → home_of_first (first_of (reverse (records kept))) ≡ Some home → Site.IsFoundOn image home (journal_on Sites.spelling images number kept)
  site_found kept read usable home is_home = record { stands = read_found Sites.spelling Sites.IsRecord kept read; number = number; usable = usable; is_home = is_home }
