-- A whole journal of a site: its first record, and those behind it.
use Rattle.std.proofs.Common.{◌≡◌, ℕ, ◌↔◌, Bool, true, false, Option, Some, None, List, [], ◌∷◌, ◌++◌, reverse, refl, sym, subst}
use Rattle.mdb_base.specs.Words.{Each}
use Rattle.fed_rules.specs.declared.records.SiteRecord.{SiteRecord}
use Rattle.fed_rules.specs.declared.records.SiteRecord.TheVariants.{Setup, Start, Prepared, Ended, Local, Checkpoint}
use Rattle.fed_rules.specs.declared.sums.SiteSum.{SiteSum}
use Rattle.fed_rules.specs.Reopened.{home_by}
use Rattle.fed_rules.specs.SiteRecords.{Home}
use Rattle.fed_rules.specs.Usable.{AreSumsOfSome, AreWithin, IsOfSite, home_of_first}
use Rattle.usable_journals.specs.declared.fronts.Front.{Front}
use Rattle.usable_journals.specs.Fronts.{AreInOrder, IsTakenAs, TakesAll, TakesFirst, Tells, TicketsDiffer, walk}
use Rattle.usable_journals.specs.WellRecorded.{IsOfSomeSite, IsWellRecorded}
use Rattle.usable_journals.proofs.FrontFirst.{order_says}
use Rattle.usable_journals.proofs.FrontSteps.{of_every_front}
use Rattle.usable_journals.proofs.SiteReflected.{first_is, split}
use Rattle.usable_journals.proofs.WalkLaws.{takes_stop, takes_then}

last_of : (P : SiteRecord → Type 0) (newer : List SiteRecord) (first : SiteRecord) → Each P (newer ++ first ∷ []) → P first
last_of P [] first h = h.0
last_of P (x ∷ newer) first h = last_of P newer first h.1

record IsBegun (number : ℕ) (first : SiteRecord) (newer : List SiteRecord) : Type 0 where
  well : IsWellRecorded number (reverse newer ++ first ∷ [])
  home : Home
  is : home_by first ≡ Some home

begun : (number : ℕ) (first : SiteRecord) (newer : List SiteRecord) → IsWellRecorded number (reverse (first ∷ newer)) → IsBegun number first newer
begun number first newer w = by_home (home_by first) refl of_site
  where
    well : IsWellRecorded number (reverse newer ++ first ∷ [])
    well = subst (IsWellRecorded number) (split first newer) w

    of_site : IsOfSite number (home_by first)
    of_site = subst (λ o. IsOfSite number (home_of_first o)) (first_is (reverse newer) first) well.first

    by_home : (o : Option Home) → home_by first ≡ o → IsOfSite number o → IsBegun number first newer
    by_home None e i = absurd i
    by_home (Some home) e i = record { well = well; home = home; is = e }

pub tickets_differ : (first : SiteRecord) (newer : List SiteRecord) → IsOfSomeSite (reverse (first ∷ newer)) → TicketsDiffer first
tickets_differ first newer (number, w) = by_record first (last_of AreWithin (reverse newer) first (begun number first newer w).well.within)
  where
    by_record : (r : SiteRecord) → AreWithin r → TicketsDiffer r
    by_record (Checkpoint sum) within = within.differ
    by_record (Setup site engine protocol items) within = tt
    by_record (Start n) within = tt
    by_record (Prepared t e n k ws) within = tt
    by_record (Ended t d) within = tt
    by_record (Local t n ws) within = tt

says : (before after : Front) (first : SiteRecord) (newer base : List SiteRecord) (fits : Bool) → Tells before [] → IsOfSomeSite (reverse (first ∷ newer)) → IsTakenAs first base
    → TakesAll before after (reverse newer ++ base) fits → (fits ≡ true) ↔ AreInOrder (reverse (first ∷ newer))
says before after first newer base fits t (number, w) taken takes =
    let b = begun number first newer w in
    subst (λ rs. (fits ≡ true) ↔ AreInOrder rs) (sym (split first newer))
    (order_says before after b.home first (reverse newer) base fits t b.is (last_of AreSumsOfSome (reverse newer) first b.well.sums_of_some) taken b.well.within b.well.once
    b.well.tickets_rise takes)

pub first_stops : (before after : Front) (first : SiteRecord) (newer : List SiteRecord) → Tells before [] → IsOfSomeSite (reverse (first ∷ newer)) → TakesFirst before after first false
    → (false ≡ true) ↔ AreInOrder (reverse (first ∷ newer))
first_stops before after first newer t some (base, taken, takes) =
    says before after first newer base false t some taken (takes_stop walk of_every_front before after after base (reverse newer) takes)

pub whole_says : (before middle after : Front) (first : SiteRecord) (newer : List SiteRecord) (fits : Bool) → Tells before [] → IsOfSomeSite (reverse (first ∷ newer))
    → TakesFirst before middle first true → TakesAll middle after (reverse newer) fits → (fits ≡ true) ↔ AreInOrder (reverse (first ∷ newer))
whole_says before middle after first newer fits t some (base, taken, takes) all =
    says before after first newer base fits t some taken (takes_then walk of_every_front before middle after base (reverse newer) fits takes all)

-- a first record that is no Checkpoint is taken as itself
pub taken_other : (before after : Front) (first : SiteRecord) (fits : Bool) → ((sum : SiteSum) → first ≡ Checkpoint sum → ⊥) → TakesAll before after (first ∷ []) fits
    → TakesFirst before after first fits
taken_other before after first fits other takes = (first ∷ [], by_record first other, takes)
  where
    by_record : (r : SiteRecord) → ((sum : SiteSum) → r ≡ Checkpoint sum → ⊥) → IsTakenAs r (r ∷ [])
    by_record (Checkpoint sum) never = absurd (never sum refl)
    by_record (Setup site engine protocol items) never = refl
    by_record (Start n) never = refl
    by_record (Prepared t e n k ws) never = refl
    by_record (Ended t d) never = refl
    by_record (Local t n ws) never = refl
