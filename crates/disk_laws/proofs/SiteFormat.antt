-- A site's journal is one of the format: writes rise by their keys; a test tells its local attempts from the prepared ones; and its first record is one
-- from which the same is said.
use Rattle.std.proofs.Common.{◌≡◌, Bool, true, false, Option, Some, None, List, [], ◌∷◌, ◌++◌, refl, sym, ap, subst, ◌∙◌, inl, inr}
use Rattle.mdb_base.specs.declared.names.Tid.{Tid}
use Rattle.mdb_base.specs.declared.names.Tx.{Tx}
use Rattle.mdb_base.specs.Rising.{IsRising}
use Rattle.mdb_base.specs.Words.{Among, Each}
use Rattle.order_laws.specs.Chains.{In}
use Rattle.order_laws.proofs.ForCallers.{each_at, each_from, same_tids}
use Rattle.fed_rules.specs.declared.records.SiteRecord.{SiteRecord}
use Rattle.fed_rules.specs.declared.records.SiteRecord.TheVariants.{Setup, Start, Prepared, Ended, Local, Checkpoint}
use Rattle.fed_rules.specs.declared.sums.SiteSum.{SiteSum}
use Rattle.fed_rules.specs.Reopened.{first_of}
use Rattle.fed_rules.specs.Site.{site_past}
use Rattle.fed_rules.specs.SitePast.{SitePast, journal, records}
use Rattle.fed_rules.specs.SiteRecords.{Held, Home, doubts, ticket_owner}
use Rattle.fed_rules.specs.SiteSums.{journal_sum, last_sum, locals_with, site_sum, sum_behind}
use Rattle.fed_rules.specs.Usable.{home_of_first}
use Rattle.site_history.specs.SiteOrders.{OfSortedEvents}
use Rattle.site_history.proofs.ForCallers.{HasRisingWrites, IsSortedRecord, doubt_in, doubts_are, locals_from, pasts_summed, record_of, well_past}
use Rattle.site_history.specs.FoundSites.{AreToldApart, IsOf, WritesRise}
use Rattle.site_history.specs.Sums.{AreSums}
use Rattle.disk_laws.proofs.SiteLeft.{counts, each_counted, first_founded, first_is}
use Rattle.disk_laws.proofs.SiteOnce.{local_yes, owner_prepared, prepared_from, prepared_no}
use Rattle.disk_laws.proofs.SiteRead.{Counts, Whole, Behind}

-- ---- writes rise

pub sum_rises : (home : Home) (rs : List SiteRecord) → Each HasRisingWrites rs → WritesRise (Checkpoint (site_sum home rs))
sum_rises home rs h =
    each_from (λ (held : Held). IsRising (λ put. put.key.0) held.writes) (doubts rs)
    (λ held i. each_at HasRisingWrites (record_of held) rs h (doubt_in rs held.tid held (doubts_are rs held i)))

all_rise : (home : Home) (rs : List SiteRecord) → AreSums home rs → Each HasRisingWrites rs → Each WritesRise rs
all_rise home [] s h = tt
all_rise home (Checkpoint sum ∷ rs) s h = (subst (λ z. WritesRise (Checkpoint z)) (sym s.0) (sum_rises home rs h.1), all_rise home rs s.1 h.1)
all_rise home (Setup site engine protocol items ∷ rs) s h = (tt, all_rise home rs s h.1)
all_rise home (Start e ∷ rs) s h = (tt, all_rise home rs s h.1)
all_rise home (Prepared t e n k w ∷ rs) s h = (h.0, all_rise home rs s h.1)
all_rise home (Ended t d ∷ rs) s h = (tt, all_rise home rs s h.1)
all_rise home (Local t n w ∷ rs) s h = (tt, all_rise home rs s h.1)

-- ---- the test

same_helds : (h : Held) (hs : List Held) → In h hs → Among (λ (x : Held). x.tid ≡ h.tid) hs
same_helds h [] i = i
same_helds h (x ∷ hs) (inl e) = inl (ap (λ (y : Held). y.tid) e)
same_helds h (x ∷ hs) (inr i) = inr (same_helds h hs i)

pub sum_told : (home : Home) (local : Tx → Bool) (rs : List SiteRecord) → Each (IsSortedRecord local) rs → AreToldApart local (Checkpoint (site_sum home rs))
sum_told home local rs s = (
  each_from (λ (held : Held). local held.tid.tx ≡ false) (doubts rs)
      (λ held i. prepared_no local held.tid rs s (prepared_from rs held.tid (doubts rs) (λ h j. j) (same_helds held (doubts rs) i))),
  by_owner (ticket_owner rs) refl,
  each_from (λ (tid : Tid). local tid.tx ≡ true) (locals_with [] rs) (λ tid i. local_yes local tid.tx rs s (locals_from tid.tx rs (same_tids tid (locals_with [] rs) i))),
)
  where
    by_owner : (o : Option Tid) → ticket_owner rs ≡ o → IsOf local false o
    by_owner None e = tt
    by_owner (Some owner) e = prepared_no local owner rs s (owner_prepared rs owner e)

all_told : (home : Home) (local : Tx → Bool) (rs : List SiteRecord) → AreSums home rs → Each (IsSortedRecord local) rs → Each (AreToldApart local) rs
all_told home local [] s h = tt
all_told home local (Checkpoint sum ∷ rs) s h = (subst (λ z. AreToldApart local (Checkpoint z)) (sym s.0) (sum_told home local rs h.1), all_told home local rs s.1 h.1)
all_told home local (Setup site engine protocol items ∷ rs) s h = (tt, all_told home local rs s h.1)
all_told home local (Start e ∷ rs) s h = (tt, all_told home local rs s h.1)
all_told home local (Prepared t e n k w ∷ rs) s h = (h.0, all_told home local rs s h.1)
all_told home local (Ended t d ∷ rs) s h = (tt, all_told home local rs s h.1)
all_told home local (Local t n w ∷ rs) s h = (h.0, all_told home local rs s h.1)

-- ---- the first record

-- a home by which the journal says the same
pub record IsFirstHome (home : Home) (js : List SiteRecord) : Type 0 where
  pub first : Home
  pub is : home_of_first (first_of js) ≡ Some first
  pub says : journal_sum first js ≡ journal_sum home js

has_last : (newer : List SiteRecord) (sum : SiteSum) → (s : SiteSum) × (last_sum (newer ++ Checkpoint sum ∷ []) ≡ Some s)
has_last [] sum = (sum, refl)
has_last (Checkpoint s ∷ newer) sum = (s, refl)
has_last (Setup site engine protocol items ∷ newer) sum = has_last newer sum
has_last (Start e ∷ newer) sum = has_last newer sum
has_last (Prepared t e n k w ∷ newer) sum = has_last newer sum
has_last (Ended t d ∷ newer) sum = has_last newer sum
has_last (Local t n w ∷ newer) sum = has_last newer sum

-- by a Checkpoint it is told without the home
any_home : (a b : Home) (js : List SiteRecord) (sum : SiteSum) → last_sum js ≡ Some sum → journal_sum a js ≡ journal_sum b js
any_home a b js sum e = ap (sum_behind a js) e ∙ sym (ap (sum_behind b js) e)

first_home : (home : Home) (rs js : List SiteRecord) → Counts home rs js → IsFirstHome home js
first_home home rs js (Whole newer e f) = record { first = home; is = ap home_of_first (ap first_of f ∙ first_founded home newer); says = refl }
first_home home rs js (Behind newer before e f) =
    let sum = site_sum home before in
    let last = has_last newer sum in
    let again : Home = record { site = sum.site; engine = sum.engine; protocol = sum.protocol; items = sum.rows } in
    record {
      first = again;
      is = ap home_of_first (ap first_of f ∙ first_is (Checkpoint sum) newer);
      says = any_home again home js last.0 (ap last_sum f ∙ last.1);
    }

-- ---- together

pub record HasFormat (home : Home) (past : SitePast) : Type 0 where
  pub local : Tx → Bool
  pub told : Each (AreToldApart local) (journal home past)
  pub rising : Each WritesRise (journal home past)
  pub begins : IsFirstHome home (journal home past)

pub pasts_format : OfSortedEvents HasFormat
pasts_format home local events sorted =
    let past = site_past home events in
    let c = counts home local events sorted in
    let h = well_past home local events sorted in
    let sums = (pasts_summed home local events sorted).sums in
    record {
      local = local;
      told = each_counted home (AreToldApart local) (records home past) (journal home past) c (all_told home local (records home past) sums h.sorted);
      rising = each_counted home WritesRise (records home past) (journal home past) c (all_rise home (records home past) sums h.kept.rising);
      begins = first_home home (records home past) (journal home past) c;
    }
