-- Nine disks have one answer.
use Rattle.std.proofs.Common.{◌≡◌, ◌≤◌, ◌<◌, ◌+◌, ◌-◌, ℕ, zero, suc, Ok, Err, Some, None, Option, List, [], ◌∷◌, inl, inr, length, map, take, refl, sym, ◌∙◌, ap, ap₂, subst, arith}
use Rattle.std.specs.Prelude.{slice_get}
use Rattle.std.specs.List.{AllByRecursion}
use Rattle.std.proofs.lemmas.Bool.{cases_lt}
use Rattle.mdb_base.proofs.ForCallers.{slice_get-below}
use Rattle.fed_rules.specs.declared.records.CoordRecord.{CoordRecord}
use Rattle.fed_rules.specs.declared.records.SiteRecord.{SiteRecord}
use Rattle.journal_disk.specs.Disk.{Image}
use Rattle.frame_journal.specs.Journal.{Kept, records}
use Rattle.frame_journal.specs.Records.{Entry, entries_at, entry_frame, values}
use Rattle.frame_journal.proofs.ForCallers.{one_list, records_again}
use Rattle.coord_journal.specs.Exact as coordinators
use Rattle.coord_journal.specs.Spelling as Coordinators
use Rattle.site_journal.specs.Exact as sites
use Rattle.site_journal.specs.Spelling as Sites
use Rattle.usable_journals.specs.Disks.{AreUsableFrom, IsForeignAt, IsLeastSite, IsUsableDisk, NamesLeast}
use Rattle.found_disks.specs.declared.reading.Journals.{Journals}
use Rattle.found_disks.specs.Finding.{IsFirstForeign, NamesOf}
use Rattle.found_disks.specs.Reading.{AreRead, AreReadFrom, HasBytes, IsDamagedAt, IsFirstDamaged, IsReadAt, IsReadFrom, IsSiteDamaged}
use Rattle.found_disks.proofs.BytesThere.{bytes_there}

-- ---- one disk

module _ {R : Type 0} (spelling : R → List ℕ) (reading : List ℕ → Option R) (is_record : R → Type 0) (again : (entry : R) → is_record entry → reading (spelling entry) ≡ Some entry) where
  -- it is read, or damaged
  read_or_damaged_there : (images : List Image) (number at : ℕ) (kept : Kept R) → HasBytes images number (IsReadFrom spelling is_record kept)
      → HasBytes images number (IsDamagedAt reading at) → ⊥
  read_or_damaged_there images number at kept read damaged =
      let whole = bytes_there images number (IsReadFrom spelling is_record kept) read damaged.image damaged.own in
      let all = records_again spelling reading is_record again 0 kept.entries whole.are_records in
      let stops = damaged.holds.malformed (map (entry_frame spelling) kept.entries) whole.whole in
      let never : Ok kept.entries ≡ Err at = sym all ∙ stops in
      cc

  -- and has one list of records
  one_reading_there : (images : List Image) (number : ℕ) (some other : Kept R) → HasBytes images number (IsReadFrom spelling is_record some)
      → HasBytes images number (IsReadFrom spelling is_record other) → records some ≡ records other
  one_reading_there images number some other read again_read =
      let first = read.holds in
      let second = bytes_there images number (IsReadFrom spelling is_record other) again_read read.image read.own in
      ap (λ (entries : List (Entry R)). values entries)
      (one_list spelling reading is_record again read.image.bytes some.entries other.entries first.are_records second.are_records first.whole second.whole)

-- ---- the disks of sites

-- what is read of one among them
read_at : (from number : ℕ) (images : List Image) (journals : List (Kept SiteRecord)) → from ≤ number → number < from + length journals → AreReadFrom from images journals
    → (journal : Kept SiteRecord) × IsReadAt number images journal
read_at from number images [] least most read = absurd (omega (arith, least, most))
read_at from number images (journal ∷ journals) least most read = elim (cases_lt from number) [
  | inl later ↦ read_at (from + 1) number images journals (omega (arith, later)) (omega (arith, most)) read.1
  | inr here ↦ (journal, subst (λ k. IsReadAt k images journal) (omega (arith, least, here)) read.0)
]

site_or_damaged : (number at : ℕ) (images : List Image) (journals : List (Kept SiteRecord)) → 1 ≤ number → number < 1 + length journals → AreReadFrom 1 images journals
    → HasBytes images number (IsDamagedAt Sites.reading at) → ⊥
site_or_damaged number at images journals least most read damaged =
    let (journal, own) = read_at 1 number images journals least most read in
    read_or_damaged_there Sites.spelling Sites.reading Sites.IsRecord sites.spelled_is_read images number at journal own damaged

same_sites : (from : ℕ) (images : List Image) (some others : List (Kept SiteRecord)) → length some ≡ length others → AreReadFrom from images some → AreReadFrom from images others
    → map records some ≡ map records others
same_sites from images [] [] e read again = refl
same_sites from images [] (other ∷ others) e read again = absurd (omega (arith, e))
same_sites from images (one ∷ some) [] e read again = absurd (omega (arith, e))
same_sites from images (one ∷ some) (other ∷ others) e read again =
    ap₂ (λ (rs : List SiteRecord) (more : List (List SiteRecord)). rs ∷ more)
    (one_reading_there Sites.spelling Sites.reading Sites.IsRecord sites.spelled_is_read images from one other read.0 again.0)
    (same_sites (from + 1) images some others (omega (arith, e)) read.1 again.1)

-- ---- damaged disks

pub read_or_damaged : (images : List Image) (journals : Journals) (number at : ℕ) → length images ≡ 9 → AreRead images journals → IsFirstDamaged number at images → ⊥
read_or_damaged images journals zero at nine read damaged =
    read_or_damaged_there Coordinators.spelling Coordinators.reading Coordinators.IsRecord coordinators.spelled_is_read images 0 at journals.coordinator read.coordinator damaged
read_or_damaged images journals (suc n) at nine read damaged =
    let there = damaged.1.damaged in
    let within = slice_get-below images (suc n) there.image there.own in
    let all = read.all in
    site_or_damaged (suc n) at images journals.sites.items (omega arith) (omega (arith, within, nine, all)) read.sites there

not_before : (images : List Image) (number other at place : ℕ) → number < other → IsFirstDamaged number at images → IsFirstDamaged other place images → ⊥
not_before images number zero at place less damaged later = absurd (omega (arith, less))
not_before images zero (suc m) at place less damaged later =
    read_or_damaged_there Coordinators.spelling Coordinators.reading Coordinators.IsRecord coordinators.spelled_is_read images 0 at later.0.0 later.0.1 damaged
not_before images (suc n) (suc m) at place less damaged later =
    let is = later.1.number_is in
    site_or_damaged (suc n) at images later.1.before (omega arith) (omega (arith, less, is)) later.1.read damaged.1.damaged

pub one_damaged : (images : List Image) (number other at place : ℕ) → IsFirstDamaged number at images → IsFirstDamaged other place images → number ≡ other
one_damaged images number other at place damaged again = elim (cases_lt number other) [
  | inl less ↦ absurd (not_before images number other at place less damaged again)
  | inr most ↦ elim (cases_lt other number) [
    | inl less ↦ absurd (not_before images other number place at less again damaged)
    | inr least ↦ omega (arith, most, least)
  ]
]

-- ---- foreign disks

usable_at : (from place : ℕ) (journals : List (List SiteRecord)) (rs : List SiteRecord) → AreUsableFrom from journals → slice_get journals place ≡ Some rs → IsUsableDisk (from + place) rs
usable_at from place [] rs usable at = cc
usable_at from zero (first ∷ journals) rs usable at =
    let same : first ≡ rs = cc in
    let here : from ≡ from + 0 = omega arith in
    subst (λ k. IsUsableDisk k rs) here (subst (λ (z : List SiteRecord). IsUsableDisk from z) same usable.0)
usable_at from (suc place) (first ∷ journals) rs usable at =
    let there : from + 1 + place ≡ from + suc place = omega arith in
    subst (λ k. IsUsableDisk k rs) there (usable_at (from + 1) place journals rs usable.1 at)

-- the foreign one isn't among the usable ones
not_among : (number : ℕ) (journals usable : List (List SiteRecord)) → 1 ≤ number → AreUsableFrom 1 usable → slice_get usable (number - 1) ≡ slice_get journals (number - 1)
    → IsForeignAt number (slice_get journals (number - 1)) → ⊥
not_among number journals usable least are same foreign = by_one (slice_get journals (number - 1)) same foreign
  where
    by_one : (o : Option (List SiteRecord)) → slice_get usable (number - 1) ≡ o → IsForeignAt number o → ⊥
    by_one None at foreign = absurd foreign
    by_one (Some rs) at foreign = foreign (subst (λ k. IsUsableDisk k rs) (omega (arith, least)) (usable_at 1 (number - 1) usable rs are at))

got_before : {A : Type 0} (xs : List A) (n m : ℕ) → n < m → slice_get (take m xs) n ≡ slice_get xs n
got_before [] n zero less = refl
got_before [] n (suc m) less = refl
got_before (x ∷ xs) n zero less = absurd (omega (arith, less))
got_before (x ∷ xs) zero (suc m) less = refl
got_before (x ∷ xs) (suc n) (suc m) less = got_before xs n m (omega (arith, less))

not_less : (number other : ℕ) (journals : List (List SiteRecord)) → number < other → IsLeastSite number journals → IsLeastSite other journals → ⊥
not_less number other journals less one later =
    let some = one.some in
    not_among number journals (take (other - 1) journals) some later.before (got_before journals (number - 1) (other - 1) (omega (arith, less, some))) one.foreign

one_site : (number other : ℕ) (journals : List (List SiteRecord)) → IsLeastSite number journals → IsLeastSite other journals → number ≡ other
one_site number other journals one again = elim (cases_lt number other) [
  | inl less ↦ absurd (not_less number other journals less one again)
  | inr most ↦ elim (cases_lt other number) [
    | inl less ↦ absurd (not_less other number journals less again one)
    | inr least ↦ omega (arith, most, least)
  ]
]

one_named : (coordinator : List CoordRecord) (journals : List (List SiteRecord)) (number other : ℕ) → NamesLeast coordinator journals (Some number) → NamesLeast coordinator journals (Some other)
    → number ≡ other
one_named coordinator journals zero zero names again = refl
one_named coordinator journals zero (suc m) names again = absurd (names again.0)
one_named coordinator journals (suc n) zero names again = absurd (again names.0)
one_named coordinator journals (suc n) (suc m) names again = one_site (suc n) (suc m) journals names.1 again.1

none_or_one : (coordinator : List CoordRecord) (journals : List (List SiteRecord)) (number : ℕ) → NamesLeast coordinator journals None → NamesLeast coordinator journals (Some number) → ⊥
none_or_one coordinator journals zero none names = names none.0
none_or_one coordinator journals (suc n) none names = not_among (suc n) journals journals (omega arith) none.1 refl names.1.foreign

module _ (images : List Image) (some others : Journals) (read : AreRead images some) (again : AreRead images others) where
  same_coordinator : records some.coordinator ≡ records others.coordinator
  same_coordinator =
      one_reading_there Coordinators.spelling Coordinators.reading Coordinators.IsRecord coordinators.spelled_is_read images 0 some.coordinator others.coordinator read.coordinator again.coordinator

  same_journals : map records some.sites.items ≡ map records others.sites.items
  same_journals = same_sites 1 images some.sites.items others.sites.items (read.all ∙ sym again.all) read.sites again.sites

  same_names : (number : Option ℕ) → NamesOf some number → NamesOf others number
  same_names number names =
      subst (λ (rs : List CoordRecord). NamesLeast rs (map records others.sites.items) number) same_coordinator
      (subst (λ (all : List (List SiteRecord)). NamesLeast (records some.coordinator) all number) same_journals names)

pub usable_or_foreign : (images : List Image) (journals : Journals) (number : ℕ) → AreRead images journals → NamesOf journals None → IsFirstForeign number images → ⊥
usable_or_foreign images journals number read usable first =
    none_or_one (records journals.coordinator) (map records journals.sites.items) number usable (same_names images first.journals journals first.read read (Some number) first.foreign)

pub one_foreign : (images : List Image) (number other : ℕ) → IsFirstForeign number images → IsFirstForeign other images → number ≡ other
one_foreign images number other first again =
    one_named (records again.journals.coordinator) (map records again.journals.sites.items) number other
    (same_names images first.journals again.journals first.read again.read (Some number) first.foreign) again.foreign
