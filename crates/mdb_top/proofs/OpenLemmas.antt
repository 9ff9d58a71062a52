-- Disks that are opened.
use Rattle.std.proofs.Common.{◌≡◌, ◌<◌, inl, inr, ℕ, zero, suc, ◌++◌, Bool, IsTrue, Some, Result, Err, List, [], ◌∷◌, length, map, slice_get, refl, sym, ◌∙◌, ap, subst}
use Rattle.std.proofs.lemmas.List.{length-map}
use Rattle.mdb_base.specs.Counts.{HasCauseOf}
use Rattle.order_laws.specs.Chains.{In}
use Rattle.federation_run.proofs.ForCallers.{before_or_last}
use Rattle.journal_disk.specs.Disk.{Image, Seen}
use Rattle.found_disks.specs.Reading.{images_of}
use Rattle.world_recovery.specs.Reopening.{AreSynced}
use Rattle.file_disks.specs.declared.errors.OpenErr.{OpenErr}
use Rattle.file_disks.specs.declared.errors.OpenErr.TheVariants as Open_err
use Rattle.file_disks.specs.Stores.{IsLarge, journal_of}
use Rattle.outputs.specs.Texts.{disk_failed_text}
use Rattle.mdb_top.specs.Opening.{IsOpened, Opens, StopsAtOne, StoreSeen}
use Rattle.mdb_top.specs.Streams.{Gets, Stream}
use Rattle.mdb_top.specs.Texts.{disk_large_text, no_memory_text}

-- of one disk more: each is one of those before, or the last one
pub opens-more : (tells : Bool) (journals : List (List ℕ)) (opened : List Seen) (disk : Seen) → Opens tells journals opened → IsOpened tells journals (length opened) disk → Opens tells journals (opened ++ disk ∷ [])
opens-more tells journals opened disk was new number seen at = elim (before_or_last opened disk seen number at) [
  | inl before ↦ was number seen before
  | inr last ↦ subst (λ (n : ℕ). IsOpened tells journals n seen) (sym last.0) (subst (λ (d : Seen). IsOpened tells journals (length opened) d) last.1 new)
]

-- all bytes of the opened ones are synced
pub opened_synced : (tells : Bool) (journals : List (List ℕ)) (opened : List Seen) → Opens tells journals opened → AreSynced (images_of opened)
opened_synced tells journals opened opens number image at =
    let there = seen_at opened number image at in
    subst (λ (i : Image). i.synced ≡ length i.bytes) there.2 (opens number there.0 there.1).synced
  where
    seen_at : (disks : List Seen) (number : ℕ) (image : Image) → slice_get (images_of disks) number ≡ Some image → (seen : Seen) × (slice_get disks number ≡ Some seen) × (seen.image ≡ image)
    seen_at [] number image at = absurd cc
    seen_at (seen ∷ disks) zero image at = (seen, refl, (let same : seen.image ≡ image = cc in same))
    seen_at (seen ∷ disks) (suc number) image at = seen_at disks number image at

-- the disks before one were opened, that one wasn't, and it was told why
pub stops_at_one : {D T : Type 0} (see : D → Seen) (items : List D) (store : StoreSeen) (status number : ℕ) (sink : Stream) (why : OpenErr) → number ≡ length items → length items < 9
    → Opens store.tells store.journals (map see items) → In status (5 ∷ 6 ∷ 12 ∷ []) → (status ≡ 5 → (why ≡ Open_err.Failed) × Gets sink (disk_failed_text number))
    → (status ≡ 12 → (why ≡ Open_err.Large) × Gets sink (disk_large_text number)) → (status ≡ 6 → Gets sink no_memory_text)
    → (◌≡◌ {A = Result T OpenErr} (Err why) (Err Open_err.Large) → IsTrue store.tells → IsLarge (journal_of (length items) store.journals))
    → (◌≡◌ {A = Result T OpenErr} (Err why) (Err Open_err.Failed) → IsTrue store.tells → IsLarge (journal_of (length items) store.journals) → ⊥)
    → HasCauseOf {T = T} Open_err.Failed store.faults_before store.faults_after (Err why) → StopsAtOne status store sink (map see items)
stops_at_one see items store status number sink why counted few opens led failed large wanting is_large not_large cause =
    let same : length (map see items) ≡ length items = length-map items see in
    let told : number ≡ length (map see items) = counted ∙ sym same in
    record {
      few = subst (λ n. n < 9) (sym same) few;
      opens = opens;
      led = led;
      failed = λ five. subst (λ n. Gets sink (disk_failed_text n)) told (failed five).1;
      rose = λ five. cause.failed (ap Err (failed five).0);
      not_large = λ five tells is. not_large (ap Err (failed five).0) tells (subst (λ n. IsLarge (journal_of n store.journals)) same is);
      large = λ twelve. subst (λ n. Gets sink (disk_large_text n)) told (large twelve).1;
      calm = λ twelve. cause.clean (λ fell. (let is = (large twelve).0 in cc));
      is_large = λ twelve tells. subst (λ n. IsLarge (journal_of n store.journals)) (sym same) (is_large (ap Err (large twelve).0) tells);
      no_memory = wanting;
    }
