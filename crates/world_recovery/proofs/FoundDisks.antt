-- Which journals stand on the disks from which a session goes on.
use Rattle.std.proofs.Common.{◌≡◌, ◌≤◌, ◌<◌, ◌+◌, ◌⊎◌, ℕ, Bool, true, false, cond, inl, inr, Some, None, Option, List, [], ◌∷◌, ◌++◌, length, map, refl, sym, ◌∙◌, ap, subst, arith}
use Rattle.std.specs.Prelude.{reverse, slice_get}
use Rattle.std.specs.List.{AllByRecursion}
use Rattle.mdb_base.specs.Rising.{IsRising}
use Rattle.mdb_base.specs.Words.{Each, with_some}
use Rattle.mdb_base.specs.Names.{same_site}
use Rattle.mdb_base.proofs.ForCallers.{same_site-refl}
use Rattle.order_laws.specs.Chains.{In}
use Rattle.order_laws.proofs.ForCallers.{each_from}
use Rattle.record_fields.specs.Sums.{a_doubtful}
use Rattle.fed_rules.specs.declared.records.SiteRecord.{SiteRecord}
use Rattle.fed_rules.specs.declared.records.SiteRecord.TheVariants as Rec
use Rattle.fed_rules.specs.declared.scenario.ItemLine.{ItemLine}
use Rattle.fed_rules.specs.Found.{Journal}
use Rattle.fed_rules.specs.Reopened.{first_of, home_by, oldest}
use Rattle.fed_rules.specs.Resumed.{homes, site_line_by}
use Rattle.fed_rules.specs.Scenarios.{home_in, items_of}
use Rattle.fed_rules.specs.SiteRecords.{Held, Home}
use Rattle.fed_rules.specs.Story.{home_found}
use Rattle.fed_rules.specs.Usable.{IsOfSite, IsUsableSite, home_of_first}
use Rattle.journal_disk.specs.Disk.{Image}
use Rattle.journal_disk.specs.Frames.{AreWhole}
use Rattle.journal_rules.proofs.ForCallers.{all_reverse}
use Rattle.frame_journal.specs.Journal.{Kept, records}
use Rattle.frame_journal.specs.Records.{Entry, entry_frame, values}
use Rattle.site_history.specs.FoundSites.{WritesRise}
use Rattle.site_journal.specs.Spelling as Sites
use Rattle.found_laws.specs.FoundSessions.{IsOfFormat, RowsRise}
use Rattle.found_laws.proofs.ForCallers.{same_home}
use Rattle.usable_journals.specs.Disks.{AreUsableFrom, IsUsableDisk}
use Rattle.found_disks.specs.Finding.{journal_on, sites_from, unless_empty}
use Rattle.found_disks.specs.Reading.{AreReadFrom, HasBytes, IsReadFrom}
use Rattle.fed_world.proofs.ForCallers.{by_place}

-- ---- the format

-- the writes of those prepared rise
each_rises : (held : List Held) → AllByRecursion a_doubtful.Fits held → Each (λ (h : Held). IsRising (λ put. put.key.0) h.writes) held
each_rises [] f = tt
each_rises (h ∷ held) f = (f.0.1.1.1.1.1, each_rises held f.1)

writes_rise : (rs : List SiteRecord) → AllByRecursion Sites.IsRecord rs → Each WritesRise rs
writes_rise [] f = tt
writes_rise (Rec.Setup site engine protocol items ∷ rs) f = (tt, writes_rise rs f.1)
writes_rise (Rec.Start epoch ∷ rs) f = (tt, writes_rise rs f.1)
writes_rise (Rec.Prepared t e n ticket puts ∷ rs) f = (f.0.1.1.1.1.1, writes_rise rs f.1)
writes_rise (Rec.Ended t d ∷ rs) f = (tt, writes_rise rs f.1)
writes_rise (Rec.Local t n puts ∷ rs) f = (tt, writes_rise rs f.1)
writes_rise (Rec.Checkpoint sum ∷ rs) f = (each_rises sum.doubtful f.0.1.1.1.1.1.1.1.1.1.2, writes_rise rs f.1)

-- the first rows rise
rows_rise : (r : SiteRecord) → Sites.IsRecord r → RowsRise (home_by r)
rows_rise (Rec.Setup site engine protocol items) f = f.1.1.1.1
rows_rise (Rec.Start epoch) f = tt
rows_rise (Rec.Prepared t e n ticket puts) f = tt
rows_rise (Rec.Ended t d) f = tt
rows_rise (Rec.Local t n puts) f = tt
rows_rise (Rec.Checkpoint sum) f = f.1.1.1.1.1.1.1.0.1

first_rise : (newest : SiteRecord) (older : List SiteRecord) → AllByRecursion Sites.IsRecord (newest ∷ older) → RowsRise (home_by (oldest newest older))
first_rise first [] f = rows_rise first f.0
first_rise newest (next ∷ older) f = first_rise next older f.1

records_rise : (rs : List SiteRecord) → AllByRecursion Sites.IsRecord rs → RowsRise (home_of_first (first_of rs))
records_rise [] f = tt
records_rise (newest ∷ older) f = first_rise newest older f

pub of_format : (journal : Journal SiteRecord) → AllByRecursion Sites.IsRecord journal.records → IsOfFormat journal
of_format journal f = (writes_rise journal.records f, records_rise journal.records f)

-- ---- which are found

-- a journal that is found is the one that was read from the disk of this number, and is usable there
pub record IsFoundAt (images : List Image) (journal : Journal SiteRecord) : Type 0 where
  pub number : ℕ
  pub kept : Kept SiteRecord
  pub is : journal ≡ journal_on Sites.spelling images number kept
  pub within : number < 9
  pub read : HasBytes images number (IsReadFrom Sites.spelling Sites.IsRecord kept)
  pub usable : IsUsableSite number (reverse (records kept))

pub found_at : (number : ℕ) (images : List Image) (journals : List (Kept SiteRecord)) (journal : Journal SiteRecord) → number + length journals ≤ 9 → AreReadFrom number images journals
    → AreUsableFrom number (map records journals) → In journal (sites_from number images journals) → IsFoundAt images journal
found_at number images [] journal few read usable i = absurd i
found_at number images (kept ∷ more) journal few read usable i =
    by_records (records kept) refl usable.0 i (λ j. found_at (number + 1) images more journal (omega (arith, few)) read.1 usable.1 j)
  where
    by_records : (rs : List SiteRecord) → records kept ≡ rs → IsUsableDisk number rs
        → In journal (unless_empty rs (journal_on Sites.spelling images number kept) ++ sites_from (number + 1) images more)
        → (In journal (sites_from (number + 1) images more) → IsFoundAt images journal) → IsFoundAt images journal
    by_records [] e u i rest = rest i
    by_records (first ∷ newer) e u (inl same) rest = record {
      number = number;
      kept = kept;
      is = sym same;
      within = omega (arith, few);
      read = read.0;
      usable = subst (λ (rs : List SiteRecord). IsUsableSite number (reverse rs)) (sym e) u;
    }
    by_records (first ∷ newer) e u (inr i) rest = rest i

-- each is in records of the format
pub all_written : (images : List Image) (journals : List (Kept SiteRecord)) → length journals ≡ 8 → AreReadFrom 1 images journals → AreUsableFrom 1 (map records journals)
    → Each (λ (journal : Journal SiteRecord). AllByRecursion Sites.IsRecord journal.records) (sites_from 1 images journals)
all_written images journals eight read usable =
    each_from (λ (journal : Journal SiteRecord). AllByRecursion Sites.IsRecord journal.records) (sites_from 1 images journals) one
  where
    one : (journal : Journal SiteRecord) → In journal (sites_from 1 images journals) → AllByRecursion Sites.IsRecord journal.records
    one journal i =
        let f = found_at 1 images journals journal (omega (arith, eight)) read usable i in
        subst (λ (j : Journal SiteRecord). AllByRecursion Sites.IsRecord j.records) (sym f.is) (all_reverse Sites.IsRecord (records f.kept) f.read.holds.are_records)

-- ---- the other disks

no_entries : (entries : List (Entry SiteRecord)) → values entries ≡ [] → entries ≡ []
no_entries [] e = refl
no_entries (entry ∷ others) e = cc

-- on the disk of a number no whole frame stands, or the journal of a site of that number
pub either_at : (number at : ℕ) (images : List Image) (journals : List (Kept SiteRecord)) → number ≤ at → at < number + length journals → AreReadFrom number images journals
    → AreUsableFrom number (map records journals)
    → HasBytes images at (λ bytes. AreWhole bytes []) ⊎ ((journal : Journal SiteRecord) × In journal (sites_from number images journals) × IsOfSite at (home_of_first (first_of journal.records)))
either_at number at images [] least most read usable = absurd (omega (arith, least, most))
either_at number at images (kept ∷ more) least most read usable =
    by_records (records kept) refl usable.0 (λ apart. either_at (number + 1) at images more (omega (arith, least, apart)) (omega (arith, most)) read.1 usable.1)
  where
    Answer : List (Journal SiteRecord) → Type 0
    Answer journals =
        HasBytes images at (λ bytes. AreWhole bytes []) ⊎ ((journal : Journal SiteRecord) × In journal journals × IsOfSite at (home_of_first (first_of journal.records)))

    blank : (records kept ≡ []) → at ≡ number → HasBytes images at (λ bytes. AreWhole bytes [])
    blank none same = record {
      image = read.0.image;
      own = subst (λ k. slice_get images k ≡ Some read.0.image) (sym same) read.0.own;
      holds = subst (λ (entries : List (Entry SiteRecord)). AreWhole read.0.image.bytes (map (entry_frame Sites.spelling) entries)) (no_entries kept.entries none) read.0.holds.whole;
    }

    by_records : (rs : List SiteRecord) → records kept ≡ rs → IsUsableDisk number rs → ((at ≡ number → ⊥) → Answer (sites_from (number + 1) images more))
        → Answer (unless_empty rs (journal_on Sites.spelling images number kept) ++ sites_from (number + 1) images more)
    by_records [] e u rest = by_place (Answer (sites_from (number + 1) images more)) at number (λ same. inl (blank e same)) rest
    by_records (first ∷ newer) e u rest =
        let journal : Journal SiteRecord = journal_on Sites.spelling images number kept in
        let there : List (Journal SiteRecord) = sites_from (number + 1) images more in
        by_place (Answer (journal ∷ there)) at number
        (λ same. inr (
          journal,
          inl refl,
          subst (λ k. IsOfSite k (home_of_first (first_of journal.records))) (sym same)
              (subst (λ (rs : List SiteRecord). IsOfSite number (home_of_first (first_of (reverse rs)))) (sym e) u.first),
        ))
        (λ apart. elim (rest apart) [ inl none ↦ inl none | inr found ↦ inr (found.0, inr found.1, found.2) ])

-- the site of each journal is declared
pub its_site : (journals : List (Journal SiteRecord)) (items : List ItemLine) (journal : Journal SiteRecord) (home : Home) → In journal journals → home_of_first (first_of journal.records) ≡ Some home
    → home_in (map site_line_by (homes journals)) items home.site ≡ None → ⊥
its_site [] items journal home i is none = absurd i
its_site (j ∷ journals) items journal home i is none = by_home (home_found (first_of j.records)) refl i none (λ k. its_site journals items journal home k is)
  where
    by_home : (o : Option Home) → home_found (first_of j.records) ≡ o → (j ≡ journal) ⊎ In journal journals → home_in (map site_line_by (with_some o (homes journals))) items home.site ≡ None
        → (In journal journals → home_in (map site_line_by (homes journals)) items home.site ≡ None → ⊥) → ⊥
    by_home None e (inl same) none rest =
        let clash : Some home ≡ None = sym is ∙ sym (ap (λ (k : Journal SiteRecord). home_of_first (first_of k.records)) same) ∙ sym (same_home (first_of j.records)) ∙ e in cc
    by_home None e (inr i) none rest = rest i none
    by_home (Some h) e i none rest = by_test (same_site h.site home.site) refl i none
      where
        by_test : (b : Bool) → same_site h.site home.site ≡ b → (j ≡ journal) ⊎ In journal journals
            → cond b (Some (record { site = h.site; engine = h.engine; protocol = h.protocol; items = items_of items home.site })) (home_in (map site_line_by (homes journals)) items home.site) ≡ None → ⊥
        by_test true t i none = cc
        by_test false t (inr i) none = rest i none
        by_test false t (inl same) none =
            let one : Some h ≡ Some home = sym e ∙ same_home (first_of j.records) ∙ ap (λ (k : Journal SiteRecord). home_of_first (first_of k.records)) same ∙ is in
            let here : h ≡ home = cc in
            let self = same_site-refl home.site in
            let other : same_site home.site home.site ≡ false = subst (λ (z : Home). same_site z.site home.site ≡ false) here t in cc
