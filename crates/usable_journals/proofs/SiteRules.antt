-- A site's journal is usable where it is well recorded, in order, and its Checkpoints are sums.
use Rattle.std.proofs.Common.{◌≡◌, ℕ, ◌↔◌, Bool, true, Option, Some, None, List, [], ◌∷◌, refl, sym, subst}
use Rattle.fed_rules.specs.declared.records.SiteRecord.{SiteRecord}
use Rattle.fed_rules.specs.Reopened.{first_of}
use Rattle.fed_rules.specs.SiteRecords.{Home}
use Rattle.fed_rules.specs.Usable.{HaveSums, IsOfSite, IsUsableSite, SumsFit, home_of_first}
use Rattle.usable_journals.specs.Fronts.{AreInOrder}
use Rattle.usable_journals.specs.SiteReads.{AllFit, HasHome}
use Rattle.usable_journals.specs.WellRecorded.{IsOfSomeSite, IsWellRecorded}
use Rattle.usable_journals.proofs.SumReads.{sums_are}

-- the home of its first record
pub home_of_well : (number : ℕ) (journal : List SiteRecord) → IsOfSite number (home_of_first (first_of journal)) → HasHome journal
home_of_well number journal is = by_home (home_of_first (first_of journal)) is
  where
    by_home : (o : Option Home) → IsOfSite number o → (home : Home) × (o ≡ Some home)
    by_home None i = absurd i
    by_home (Some home) i = (home, refl)

-- the test of the sums
pub have_sums : (journal : List SiteRecord) → IsOfSomeSite journal → AreInOrder journal → (fit : Bool)
    → ((home : Home) → home_of_first (first_of journal) ≡ Some home → (fit ≡ true) ↔ AllFit home journal) → (fit ≡ true) ↔ HaveSums (home_of_first (first_of journal)) journal
have_sums journal (number, well) order fit told = by_home (home_of_well number journal well.first)
  where
    by_journal : (js : List SiteRecord) → IsWellRecorded number js → AreInOrder js → (home : Home) → home_of_first (first_of js) ≡ Some home → SumsFit home js ↔ AllFit home js
    by_journal [] w o home e = cc
    by_journal (newest ∷ older) w o home e = sums_are home newest older (record { first = e; within = w.within; some = w.sums_of_some; clear = o.clear; on_top = o.on_top })

    by_home : HasHome journal → (fit ≡ true) ↔ HaveSums (home_of_first (first_of journal)) journal
    by_home (home, e) =
        let same = by_journal journal well order home e in
        let fits = told home e in
        subst (λ o. (fit ≡ true) ↔ HaveSums o journal) (sym e) (λ f. same.1 (fits.0 f), λ s. fits.1 (same.0 s))

pub well_of : (number : ℕ) (journal : List SiteRecord) → IsUsableSite number journal → IsWellRecorded number journal
well_of number journal u = record {
  below = u.below;
  within = u.within;
  first = u.first;
  set_up = u.set_up;
  epochs = u.epochs;
  once = u.once;
  numbers_differ = u.numbers_differ;
  tickets_rise = u.tickets_rise;
  parted = u.parted;
  sums_of_some = u.sums_of_some;
}

pub order_of : (number : ℕ) (journal : List SiteRecord) → IsUsableSite number journal → AreInOrder journal
order_of number journal u = record { apart = u.doubts_apart; clear = u.clear; on_top = u.on_top }

pub usable_of : (number : ℕ) (journal : List SiteRecord) → IsWellRecorded number journal → AreInOrder journal → HaveSums (home_of_first (first_of journal)) journal → IsUsableSite number journal
usable_of number journal w o sums = record {
  below = w.below;
  within = w.within;
  first = w.first;
  set_up = w.set_up;
  sums = sums;
  epochs = w.epochs;
  once = w.once;
  numbers_differ = w.numbers_differ;
  tickets_rise = w.tickets_rise;
  parted = w.parted;
  doubts_apart = o.apart;
  clear = o.clear;
  on_top = o.on_top;
  sums_of_some = w.sums_of_some;
}
