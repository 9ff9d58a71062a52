-- What goes on from nothing or from a journal that was found is what sorted events make of a past on which the laws go on; so the laws on sites hold
-- of it.
use Rattle.std.proofs.Common.{◌≡◌, ◌⊎◌, ℕ, Bool, true, false, None, Some, List, [], ◌∷◌, map, refl, sym, ap, ◌∙◌, subst, inl, inr}
use Rattle.std.proofs.lemmas.Bool.{or_right, or_left, or_from, or_cases}
use Rattle.mdb_base.specs.declared.names.Tid.{Tid}
use Rattle.mdb_base.specs.declared.names.Tx.{Tx}
use Rattle.mdb_base.proofs.ForCallers.{not_both, same_tx-equal, same_tx-refl}
use Rattle.fed_rules.specs.declared.events.SiteEvent.{SiteEvent}
use Rattle.fed_rules.specs.declared.events.SiteEvent.TheVariants as Ev
use Rattle.fed_rules.specs.declared.messages.ToSite.TheVariants as To
use Rattle.fed_rules.specs.declared.records.SiteRecord.{SiteRecord}
use Rattle.fed_rules.specs.Reopened.{first_of, opened_site}
use Rattle.fed_rules.specs.Site.{site_line, site_past}
use Rattle.fed_rules.specs.SitePast.{SiteHappening, SitePast, records}
use Rattle.fed_rules.specs.SiteRecords.{Home, doubt_of}
use Rattle.fed_rules.specs.Usable.{HaveSums, IsUsableSite, SumsFit, home_of_first}
use Rattle.site_history.specs.Events.{AreSorted, IsSorted, PreparesOnce}
use Rattle.site_history.specs.Lines.{HasRightLines}
use Rattle.site_history.specs.SiteOrders.{HasGoodStarts, OfSortedPasts}
use Rattle.site_history.specs.Sums.{JournalSaysAll}
use Rattle.site_history.specs.Tables.{HasItsTable}
use Rattle.site_history.proofs.ForCallers.{IsWellKept, OrdersPast, SummedPast, TabledPast, all_sums, good_starts_on, no_local_doubt, orders_on, orders_past, pasts_summed, reopened, right_of_kept, says_all_on, summed_on, tabled_first, tabled_on, tabled_opened, well_first, well_on}
use Rattle.site_core.specs.Made.{IsApart, IsGoingOn, IsMade, IsOpened, about, is_of_global, is_of_local, was_global, was_local}
use Rattle.site_core.proofs.OpenedOnce.{named_apart}
use Rattle.site_core.proofs.RuleWalks.{line_event}
use Rattle.site_core.proofs.ToldApart.{Follows, all_told}

abbrev pub events_of : SitePast → List SiteEvent
events_of past = map (λ x. x.event) past

-- what events make is what the rules make of them
pub made_is : (home : Home) (past : SitePast) → IsMade home past → past ≡ site_past home (events_of past)
made_is home [] m = refl
made_is home (x ∷ past) (line, come, made) =
    let before = made_is home past made in
    ap (λ y. y ∷ past) line ∙ ap (λ (p : SitePast). site_line home p x.event ∷ p) before

-- an event that is of a local attempt of a transaction comes where no message about it was given
local_apart : (past : SitePast) (event : SiteEvent) (tx : Tx) → IsApart past event → is_of_local tx event ≡ true → was_global tx past ≡ false
local_apart past (Ev.Begin tid) tx a e = ap (λ t. was_global t past) (sym (same_tx-equal tid.tx tx e)) ∙ a
local_apart past (Ev.Act tid act) tx a e = ap (λ t. was_global t past) (sym (same_tx-equal tid.tx tx e)) ∙ a
local_apart past (Ev.Commit tid) tx a e = ap (λ t. was_global t past) (sym (same_tx-equal tid.tx tx e)) ∙ a
local_apart past (Ev.Abort tid) tx a e = ap (λ t. was_global t past) (sym (same_tx-equal tid.tx tx e)) ∙ a
local_apart past (Ev.Fate t) tx a e = cc
local_apart past (Ev.Give message) tx a e = cc
local_apart past (Ev.Ask tid) tx a e = cc
local_apart past (Ev.Drop tid) tx a e = cc
local_apart past (Ev.Halt cut) tx a e = cc
local_apart past (Ev.Trip calls cut) tx a e = cc
local_apart past Ev.Back tx a e = cc
local_apart past Ev.Check tx a e = cc

-- and a message where no such event came
global_apart : (past : SitePast) (event : SiteEvent) (tx : Tx) → IsApart past event → is_of_global tx event ≡ true → (was_local tx past ≡ false) × (is_of_local tx event ≡ false)
global_apart past (Ev.Give message) tx a e = (ap (λ t. was_local t past) (sym (same_tx-equal (about message).tx tx e)) ∙ a, refl)
global_apart past (Ev.Begin tid) tx a e = cc
global_apart past (Ev.Act tid act) tx a e = cc
global_apart past (Ev.Commit tid) tx a e = cc
global_apart past (Ev.Abort tid) tx a e = cc
global_apart past (Ev.Fate t) tx a e = cc
global_apart past (Ev.Ask tid) tx a e = cc
global_apart past (Ev.Drop tid) tx a e = cc
global_apart past (Ev.Halt cut) tx a e = cc
global_apart past (Ev.Trip calls cut) tx a e = cc
global_apart past Ev.Back tx a e = cc
global_apart past Ev.Check tx a e = cc

-- the past that a usable journal stands for tells local and global transactions apart
pub opened_apart : (home : Home) (past : SitePast) (tx : Tx) → IsOpened home past → was_global tx past ≡ true → was_local tx past ≡ false
opened_apart home past tx o global =
    ap (λ p. was_local tx p) o.is
    ∙ by_records o.journal.records o.journal.torn o.number o.usable o.is_home (sym (ap (λ p. was_global tx p) o.is) ∙ global)
  where
    by_records : (rs : List SiteRecord) (torn : ℕ) (number : ℕ) → IsUsableSite number rs → home_of_first (first_of rs) ≡ Some home
        → was_global tx (opened_site (record { records = rs; torn = torn })) ≡ true → was_local tx (opened_site (record { records = rs; torn = torn })) ≡ false
    by_records [] torn number usable is g = cc
    by_records (newest ∷ older) torn number usable is g =
        let fit : SumsFit home (newest ∷ older) = subst (λ o. HaveSums o (newest ∷ older)) is usable.sums in
        named_apart home newest older (all_sums home newest older is usable.within usable.sums_of_some fit) usable.parted tx g

-- a transaction that a message was about isn't local
pub given_not_local : (home : Home) (past : SitePast) (tx : Tx) → IsGoingOn home past → was_global tx past ≡ true → was_local tx past ≡ false
given_not_local home [] tx m e = cc
given_not_local home (x ∷ past) tx (inl opened) e = opened_apart home (x ∷ past) tx opened e
given_not_local home (x ∷ past) tx (inr (line, made)) e = by_cases (or_cases (is_of_global tx x.event) (was_global tx past) e) (given_not_local home past tx made) where
  by_local : (t : Bool) → is_of_local tx x.event ≡ t → was_global tx past ≡ true → is_of_local tx x.event ≡ false
  by_local true l g = absurd (not_both (was_global tx past) g (local_apart past x.event tx line.apart l))
  by_local false l g = l

  by_cases : ((is_of_global tx x.event ≡ true) ⊎ (was_global tx past ≡ true)) → (was_global tx past ≡ true → was_local tx past ≡ false) → was_local tx (x ∷ past) ≡ false
  by_cases (inl given) before = let (old, new) = global_apart past x.event tx line.apart given in or_from _ _ new old
  by_cases (inr earlier) before = or_from _ _ (by_local (is_of_local tx x.event) refl earlier) (before earlier)

-- what the laws say of a past, where this test tells the local transactions
pub record IsLawful (home : Home) (local : Tx → Bool) (past : SitePast) : Type 0 where
  pub well : IsWellKept home local past
  pub sums : SummedPast home past
  pub orders : OrdersPast home past
  pub tables : TabledPast home past

lawful_first : (home : Home) (local : Tx → Bool) → IsLawful home local []
lawful_first home local = record { well = well_first home local; sums = record { summed = pasts_summed home local [] tt }; orders = orders_past home local [] tt; tables = tabled_first home }

lawful_next : (home : Home) (local : Tx → Bool) (past : SitePast) (event : SiteEvent) → IsSorted local event → IsLawful home local past → IsLawful home local (site_line home past event ∷ past)
lawful_next home local past event sorted k =
    let events : List SiteEvent = event ∷ [] in
    let all : AreSorted local events = (sorted, tt) in
    record {
      well = well_on home local past k.well events all;
      sums = summed_on home local past k.well k.sums events all;
      orders = orders_on home local past k.well k.orders events all;
      tables = tabled_on home local past k.well k.orders k.tables events all;
    }

-- behind a journal that was found, where the test follows the lines that tell its attempts apart
lawful_opened : (home : Home) (local : Tx → Bool) (past : SitePast) → IsOpened home past → Follows local is_of_local true past → Follows local is_of_global false past → IsLawful home local past
lawful_opened home local past o f g =
    let locals : Follows local is_of_local true (opened_site o.journal) = λ tx e. f tx (ap (λ p. was_local tx p) o.is ∙ e) in
    let globals : Follows local is_of_global false (opened_site o.journal) = λ tx e. g tx (ap (λ p. was_global tx p) o.is ∙ e) in
    let r = reopened home local o.journal (record { number = o.number; usable = o.usable; is_home = o.is_home; rising = o.rising; told = all_told local o.journal.records locals globals }) in
    subst (IsLawful home local) (sym o.is) (record { well = r.well; sums = r.sums; orders = r.orders; tables = tabled_opened home o.journal r.orders })

-- what events make of nothing goes on
pub made_goes_on : (home : Home) (past : SitePast) → IsMade home past → IsGoingOn home past
made_goes_on home [] made = tt
made_goes_on home (x ∷ past) (line, come, made) = inr (record { is = line; apart = come }, made_goes_on home past made)

module _ (home : Home) (whole : SitePast) (made : IsGoingOn home whole) where
  -- an event is sorted by what was local among all
  sorted_event : (event : SiteEvent) → ((tx : Tx) → is_of_local tx event ≡ true → was_local tx whole ≡ true) → ((tx : Tx) → is_of_global tx event ≡ true → was_global tx whole ≡ true)
      → IsSorted (λ tx. was_local tx whole) event
  sorted_event (Ev.Begin tid) local global = local tid.tx (same_tx-refl tid.tx)
  sorted_event (Ev.Commit tid) local global = local tid.tx (same_tx-refl tid.tx)
  sorted_event (Ev.Give (To.Work tid epoch n act)) local global = given_not_local home whole tid.tx made (global tid.tx (same_tx-refl tid.tx))
  sorted_event (Ev.Give (To.Take tid epoch n)) local global = given_not_local home whole tid.tx made (global tid.tx (same_tx-refl tid.tx))
  sorted_event (Ev.Give (To.Prepare tid epoch n)) local global = given_not_local home whole tid.tx made (global tid.tx (same_tx-refl tid.tx))
  sorted_event (Ev.Give (To.Decide tid decision)) local global = tt
  sorted_event (Ev.Act tid act) local global = tt
  sorted_event (Ev.Abort tid) local global = tt
  sorted_event (Ev.Fate tx) local global = tt
  sorted_event (Ev.Ask tid) local global = tt
  sorted_event (Ev.Drop tid) local global = tt
  sorted_event (Ev.Halt cut) local global = tt
  sorted_event (Ev.Trip calls cut) local global = tt
  sorted_event Ev.Back local global = tt
  sorted_event Ev.Check local global = tt

  sorted_from : (past : SitePast) → ((tx : Tx) → was_local tx past ≡ true → was_local tx whole ≡ true) → ((tx : Tx) → was_global tx past ≡ true → was_global tx whole ≡ true)
      → AreSorted (λ tx. was_local tx whole) (events_of past)
  sorted_from [] local global = tt
  sorted_from (x ∷ past) local global = (
    sorted_event x.event (λ tx e. local tx (or_left _ _ e)) (λ tx e. global tx (or_left _ _ e)),
    sorted_from past (λ tx e. local tx (or_right (is_of_local tx x.event) (was_local tx past) e)) (λ tx e. global tx (or_right (is_of_global tx x.event) (was_global tx past) e)),
  )

  -- the laws hold of each past of which this one is a continuation
  lawful_from : (past : SitePast) → IsGoingOn home past → ((tx : Tx) → was_local tx past ≡ true → was_local tx whole ≡ true) → ((tx : Tx) → was_global tx past ≡ true → was_global tx whole ≡ true)
      → IsLawful home (λ tx. was_local tx whole) past
  lawful_from [] m local global = lawful_first home (λ tx. was_local tx whole)
  lawful_from (x ∷ past) (inl opened) local global =
      lawful_opened home (λ tx. was_local tx whole) (x ∷ past) opened local (λ tx e. given_not_local home whole tx made (global tx e))
  lawful_from (x ∷ past) (inr (line, m)) local global =
      let before = lawful_from past m (λ tx e. local tx (or_right (is_of_local tx x.event) (was_local tx past) e)) (λ tx e. global tx (or_right (is_of_global tx x.event) (was_global tx past) e)) in
      let K : SiteHappening → Type 0 = λ y. IsLawful home (λ tx. was_local tx whole) (y ∷ past) in
      subst K (sym line.is) (lawful_next home (λ tx. was_local tx whole) past x.event (sorted_event x.event (λ tx e. local tx (or_left _ _ e)) (λ tx e. global tx (or_left _ _ e))) before)

-- the laws hold of a past that goes on
pub lawful : (home : Home) (past : SitePast) → IsGoingOn home past → IsLawful home (λ tx. was_local tx past) past
lawful home past made = lawful_from home past made past made (λ tx e. e) (λ tx e. e)

made_sorted : (home : Home) (past : SitePast) → IsMade home past → AreSorted (λ tx. was_local tx past) (events_of past)
made_sorted home past made = sorted_from home past (made_goes_on home past made) past (λ tx e. e) (λ tx e. e)

-- a past goes on with the line of an event that may come
pub made_more : (home : Home) (past : SitePast) (event : SiteEvent) → IsGoingOn home past → IsApart past event → IsGoingOn home (site_line home past event ∷ past)
made_more home past event made apart =
    let is : (site_line home past event).event ≡ event = line_event home past event in
    inr (record { is = ap (site_line home past) (sym is); apart = subst (IsApart past) (sym is) apart }, made)

-- so each line of it may come there, and answers by the rules
pub made_right : (home : Home) (past : SitePast) → IsGoingOn home past → HasRightLines home past
made_right home past made = right_of_kept home past (lawful home past made).well.kept

-- each epoch starts well
pub made_starts : (home : Home) (past : SitePast) → IsGoingOn home past → HasGoodStarts home past
made_starts home past made = good_starts_on home (λ tx. was_local tx past) past (lawful home past made).well [] tt

-- and the journal says what all records say
pub made_says_all : (home : Home) (past : SitePast) → IsGoingOn home past → JournalSaysAll home past
made_says_all home past made = let k = lawful home past made in says_all_on home (λ tx. was_local tx past) past k.well k.sums k.orders [] tt

-- and the engine has the table of the records
pub made_tabled : (home : Home) (past : SitePast) → IsGoingOn home past → HasItsTable home past
made_tabled home past made = (lawful home past made).tables.tabled.same

-- what holds of every past that sorted events make, in which no attempt is prepared twice, holds of what events make
pub of_made_once : (P : Home → SitePast → Type 0) → OfSortedPasts P → (home : Home) (past : SitePast) → IsMade home past → PreparesOnce home past → P home past
of_made_once P law home past made once =
    let is = made_is home past made in
    subst (P home) (sym is) (law home (λ tx. was_local tx past) (events_of past) (made_sorted home past made) (subst (PreparesOnce home) is once))

-- what may begin as a local attempt isn't in doubt
pub made_fresh : (home : Home) (past : SitePast) (tid : Tid) → IsGoingOn home past → was_global tid.tx past ≡ false → doubt_of (records home past) tid ≡ None
made_fresh home past tid made apart =
    let event : SiteEvent = Ev.Begin tid in
    let line = site_line home past event in
    let more : IsGoingOn home (line ∷ past) = made_more home past event made apart in
    let local : Tx → Bool = λ tx. was_local tx (line ∷ past) in
    let k : IsLawful home local past = lawful_from home (line ∷ past) more past made (λ tx e. or_right (is_of_local tx line.event) (was_local tx past) e) (λ tx e. or_right (is_of_global tx line.event) (was_global tx past) e) in
    let is : line.event ≡ event = line_event home past event in
    let mine : is_of_local tid.tx line.event ≡ true = ap (is_of_local tid.tx) is ∙ same_tx-refl tid.tx in
    no_local_doubt local (records home past) tid k.well.sorted (or_left (is_of_local tid.tx line.event) (was_local tid.tx past) mine)
