-- What a new store stands for.
use Rattle.std.proofs.Common.{◌≡◌, ℕ, Bool, IsTrue, Option, None, List, [], length, refl, sym, ap₂, subst, arith, Some}
use Rattle.std.proofs.lemmas.List.{nil_from_length}
use Rattle.fed_rules.specs.Disk.{empty_disk}
use Rattle.journal_disk.specs.Disk.{Image, Seen, IsSound, no_bytes}
use Rattle.frame_journal.specs.Journal.{new_journal}
use Rattle.frame_journal.proofs.ForCallers.{new_is_kept}
use Rattle.journal_rules.specs.Stands.{CountsFrames, StandsFor}
use Rattle.journal_rules.specs.Torn.{IsTornBy}
use Rattle.journal_rules.proofs.ForCallers.{empty_torn, from_empty}
use Rattle.actor_store.specs.declared.store.Standing.TheVariants.{Up}
use Rattle.actor_store.specs.Store.{Keeps}
use Rattle.actor_store.proofs.StoreLaws.{built}

image_is : (image : Image) → image.bytes ≡ [] → image.synced ≡ 0 → image ≡ no_bytes
image_is image bytes synced = ap₂ (λ (b : List ℕ) (n : ℕ). let i : Image = record { bytes = b; synced = n } in i) bytes synced

module _ {R : Type 0} (spelling : R → List ℕ) (reading : List ℕ → Option R) (is_record : R → Type 0) (frame_bytes : R → ℕ) (counts : CountsFrames spelling frame_bytes) (again : (entry : R) → is_record entry → reading (spelling entry) ≡ Some entry) where
  pub new_keeps : (tells : Bool) (seen : Seen) → IsTrue tells → seen.size ≡ 0 → length seen.image.bytes ≡ seen.size → IsSound seen.image
      → Keeps spelling is_record frame_bytes tells seen (record { journal = new_journal; trip = None; standing = Up }) empty_disk None
  new_keeps tells seen told empty sized sound =
      let bytes : seen.image.bytes ≡ [] = nil_from_length seen.image.bytes (omega (arith, empty, sized)) in
      let same : seen.image ≡ no_bytes = image_is seen.image bytes (omega (arith, empty, sized, sound)) in
      let stands = subst (λ (i : Image). StandsFor spelling frame_bytes i empty_disk) (sym same) (from_empty spelling frame_bytes counts [] tt) in
      let torn = subst (λ (i : Image). IsTornBy spelling is_record frame_bytes i empty_disk) (sym same) (empty_torn spelling frame_bytes counts is_record) in
      built spelling reading is_record frame_bytes counts again tells told seen new_journal Up None empty_disk None (new_is_kept spelling tells seen empty (λ t. bytes)) stands torn tt tt (omega arith) refl tt refl
