-- Disks of which one was read, or put anew.
use Rattle.std.proofs.Common.{◌≡◌, ◌≤◌, ◌<◌, ℕ, zero, suc, Some, List, [], ◌∷◌, get_or, length, map, option_map, slice_get, slice_set, refl, ◌∙◌, ap, arith}
use Rattle.std.proofs.lemmas.List.{length-map, map-set}
use Rattle.std.proofs.lemmas.Option.{slice_get-map, slice_get_read}
use Rattle.mdb_base.specs.Counts.{HasRisen}
use Rattle.journal_disk.specs.Disk.{Image, Seen}
use Rattle.found_disks.specs.Faults.{RoseAt, faults_of}
use Rattle.found_disks.specs.Reading.{HasBytes, images_of}

-- an item that is put where it stands
pub set_same : {A : Type 0} (xs : List A) (n : ℕ) (x : A) → slice_get xs n ≡ Some x → slice_set xs n x ≡ xs
set_same [] n x e = cc
set_same {A} (y ∷ xs) zero x e = let same : x ≡ y = cc in ap (λ (z : A). z ∷ xs) same
set_same {A} (y ∷ xs) (suc n) x e = ap (λ (zs : List A). y ∷ zs) (set_same xs n x e)

-- what is seen of one item
pub seen_at : {A B : Type 0} (f : A → B) (xs : List A) (n : ℕ) (x : A) → slice_get xs n ≡ Some x → slice_get (map f xs) n ≡ Some (f x)
seen_at f xs n x e = slice_get-map f xs n ∙ ap (option_map f) e

-- as many disks as images
pub same_length : {D : Type 0} (seen : D → Seen) (xs ys : List D) → images_of (map seen xs) ≡ images_of (map seen ys) → length xs ≡ length ys
same_length seen xs ys same =
    let left = length-map xs seen in
    let right = length-map ys seen in
    let left_more = length-map (map seen xs) (λ (disk : Seen). disk.image) in
    let right_more = length-map (map seen ys) (λ (disk : Seen). disk.image) in
    let long = ap (λ (images : List Image). length images) same in
    omega (arith, left, right, left_more, right_more, long)

module _ {D : Type 0} (seen : D → Seen) (disks : List D) (n : ℕ) (old new : D) (within : n < length disks) (read : old ≡ get_or disks n old) where
  abbrev before : List Seen
  before = map seen disks

  abbrev after : List Seen
  after = map seen (slice_set disks n new)

  here : slice_get disks n ≡ Some old
  here = slice_get_read disks (length disks) n old refl within read

  seen_here : slice_get before n ≡ Some (seen old)
  seen_here = seen_at seen disks n old here

  image_here : slice_get (images_of before) n ≡ Some (seen old).image
  image_here = seen_at (λ (disk : Seen). disk.image) before n (seen old) seen_here

  after_is : after ≡ slice_set before n (seen new)
  after_is = map-set seen disks n new

  -- the images stay where its own one does
  pub same_images : (seen new).image ≡ (seen old).image → images_of after ≡ images_of before
  same_images same =
      ap images_of after_is ∙ (map-set (λ (disk : Seen). disk.image) before n (seen new)
      ∙ (ap (λ (image : Image). slice_set (images_of before) n image) same ∙ set_same (images_of before) n (seen old).image image_here))

  -- what is so of its bytes
  pub its_bytes : (P : List ℕ → Type 0) → P (seen old).image.bytes → HasBytes (images_of before) n P
  its_bytes P p = record { image = (seen old).image; own = image_here; holds = p }

  counts_are : faults_of after ≡ slice_set (faults_of before) n (seen new).faults
  counts_are = ap faults_of after_is ∙ map-set (λ (disk : Seen). disk.faults) before n (seen new)

  count_was : slice_get (faults_of before) n ≡ Some (seen old).faults
  count_was = seen_at (λ (disk : Seen). disk.faults) before n (seen old) seen_here

  -- no count moves, where its own doesn't
  pub put_calm : (seen new).faults ≡ (seen old).faults → faults_of after ≡ faults_of before
  put_calm same = counts_are ∙ (ap (λ (count : ℕ). slice_set (faults_of before) n count) same ∙ set_same (faults_of before) n (seen old).faults count_was)

  -- and where its own rose no other one moves
  pub put_rose : (seen old).faults ≤ (seen new).faults → HasRisen (seen old).faults (seen new).faults → RoseAt n (faults_of before) (faults_of after)
  put_rose later rose = record { before = (seen old).faults; now = (seen new).faults; own = count_was; later = later; rose = rose; others = counts_are }
