-- The journal of a site that goes on from a found one: it is usable, of the format, and names no other local transaction; and so it is behind each
-- record that a session without transactions appends.
use Rattle.std.proofs.Common.{◌≡◌, ℕ, suc, ◌+◌, ◌≤◌, ◌<◌, ◌^◌, ◌⊎◌, Option, Some, None, List, [], ◌∷◌, refl, sym, ap, subst, ◌∙◌, inl, inr, arith}
use Rattle.mdb_base.specs.declared.names.Tid.{Tid}
use Rattle.mdb_base.specs.declared.names.Tx.{Tx}
use Rattle.mdb_base.specs.Words.{Among, Each}
use Rattle.mdb_base.proofs.ForCallers.{some_parts}
use Rattle.order_laws.specs.Chains.{In}
use Rattle.presumptions.specs.declared.Decision.{Decision}
use Rattle.fed_rules.specs.declared.records.SiteRecord.{SiteRecord}
use Rattle.fed_rules.specs.declared.records.SiteRecord.TheVariants.{Setup, Start, Prepared, Ended, Local, Checkpoint}
use Rattle.fed_rules.specs.declared.sums.SiteSum.{SiteSum}
use Rattle.fed_rules.specs.Reopened.{first_of}
use Rattle.fed_rules.specs.Site.{checkpoint}
use Rattle.fed_rules.specs.SitePast.{SitePast, epoch, records}
use Rattle.fed_rules.specs.SiteRecords.{Held, Home, doubt_of, doubts, epoch_of, installs}
use Rattle.fed_rules.specs.SiteSums.{journal_sum, last_sum, site_sum, sum_behind}
use Rattle.fed_rules.specs.Usable.{EpochsRise, IsLocalOf, IsOfSite, IsUsableSite, counted, home_of_first, read}
use Rattle.engine_laws.proofs.ForCallers.{doubt_tid, rising_rows_after}
use Rattle.fed_rules.proofs.ForCallers.{epoch_same as epoch_is}
use Rattle.site_history.proofs.ForCallers.{are_doubts, counted_more, doubts_are, read_more, records_are}
use Rattle.site_history.specs.FoundSites.{WritesRise}
use Rattle.sum_laws.proofs.ForCallers.{sites_read}
use Rattle.found_laws.specs.FoundSessions.{RowsRise}
use Rattle.resume_laws.proofs.SiteMore.{local_counts, usable_alone, usable_checked, usable_ended, usable_front, usable_started}
use Rattle.resume_laws.proofs.SumFacts.{says, site_found, sum_apart, sum_below, sum_doubts, sum_held, sum_locals, sum_of_some, sum_one, sum_parted, sum_rise, sum_within}

-- behind a journal that was found, with epochs up to this one
pub record IsGoing (home : Home) (found : List SiteRecord) (most : ℕ) (js : List SiteRecord) : Type 0 where
  pub usable : IsUsableSite home.site.0 js
  pub rising : Each WritesRise js
  pub rows : RowsRise (home_of_first (first_of js))
  pub begins : (home_of_first (first_of js) ≡ Some home) ⊎ ((sum : SiteSum) × (first_of js ≡ Some (Checkpoint sum)) × (sum.site ≡ home.site) × (sum.engine ≡ home.engine) × (sum.protocol ≡ home.protocol))
  pub locals : (tx : Tx) → Among (IsLocalOf tx) (counted js) → Among (IsLocalOf tx) (counted found)
  pub bound : epoch_of (read js) ≤ most

pub later : (home : Home) (found : List SiteRecord) (most : ℕ) (js : List SiteRecord) → IsGoing home found most js → IsGoing home found (suc most) js
later home found most js u = record {
  usable = u.usable;
  rising = u.rising;
  rows = u.rows;
  begins = u.begins;
  locals = u.locals;
  bound = (let b = u.bound in omega (arith, b));
}

pub going_front : (home : Home) (found : List SiteRecord) (most : ℕ) (r next : SiteRecord) (older : List SiteRecord) → IsGoing home found most (r ∷ next ∷ older)
    → IsGoing home found most (next ∷ older)
going_front home found most r next older u = record {
  usable = usable_front home.site.0 next older r u.usable;
  rising = u.rising.1;
  rows = u.rows;
  begins = u.begins;
  locals = λ tx m. u.locals tx (subst (Among (IsLocalOf tx)) (sym (counted_more r next older)) (inr m));
  bound = by_newest r u.usable.epochs (subst (λ xs. epoch_of xs ≤ most) (read_more r next older) u.bound);
}
  where
    by_newest : (x : SiteRecord) → EpochsRise (x ∷ next ∷ older) → epoch_of (x ∷ read (next ∷ older)) ≤ most → epoch_of (read (next ∷ older)) ≤ most
    by_newest (Setup site engine protocol items) e b = b
    by_newest (Start n) e b = let less = e.0 in omega (arith, less, b)
    by_newest (Prepared t m n ticket writes) e b = b
    by_newest (Ended t d) e b = b
    by_newest (Local t n writes) e b = b
    by_newest (Checkpoint sum) e b = b

has_sum : (newest : SiteRecord) (older : List SiteRecord) (sum : SiteSum) → first_of (newest ∷ older) ≡ Some (Checkpoint sum) → (s : SiteSum) × (last_sum (newest ∷ older) ≡ Some s)
has_sum newest [] sum e = (sum, ap (λ r. last_sum (r ∷ [])) (some_parts e))
has_sum newest (next ∷ older) sum e = by_newest newest (has_sum next older sum e)
  where
    by_newest : (r : SiteRecord) → (s : SiteSum) × (last_sum (next ∷ older) ≡ Some s) → (s : SiteSum) × (last_sum (r ∷ next ∷ older) ≡ Some s)
    by_newest (Setup site engine protocol items) h = h
    by_newest (Start n) h = h
    by_newest (Prepared t m n ticket writes) h = h
    by_newest (Ended t d) h = h
    by_newest (Local t n writes) h = h
    by_newest (Checkpoint s) h = (s, refl)

pub first_home : (number : ℕ) (o : Option Home) → IsOfSite number o → (home : Home) × (o ≡ Some home)
first_home number None i = absurd i
first_home number (Some home) i = (home, refl)

module _ (home : Home) (found : List SiteRecord) (most : ℕ) (past : SitePast) (newest : SiteRecord) (older : List SiteRecord) (u : IsGoing home found most (newest ∷ older))
    (equal : site_sum home (records home past) ≡ journal_sum home (newest ∷ older)) where
  abbrev js : List SiteRecord
  js = newest ∷ older

  abbrev first : Home
  first = (first_home home.site.0 (home_of_first (first_of js)) u.usable.first).0

  is : home_of_first (first_of js) ≡ Some first
  is = (first_home home.site.0 (home_of_first (first_of js)) u.usable.first).1

  same_journal : journal_sum home js ≡ journal_sum first js
  same_journal = by_first u.begins
    where
      by_first : (home_of_first (first_of js) ≡ Some home) ⊎ ((sum : SiteSum) × (first_of js ≡ Some (Checkpoint sum)) × (sum.site ≡ home.site) × (sum.engine ≡ home.engine) × (sum.protocol ≡ home.protocol))
          → journal_sum home js ≡ journal_sum first js
      by_first (inl e) = ap (λ h. journal_sum h js) (some_parts (sym e ∙ is))
      by_first (inr (sum, e, site, engine, protocol)) = let s = has_sum newest older sum e in ap (sum_behind home js) s.1 ∙ sym (ap (sum_behind first js) s.1)

  -- what the records say is what those read say
  sum_is : site_sum home (records home past) ≡ site_sum first (read js)
  sum_is =
      equal ∙ same_journal
      ∙ sym (sites_read first (site_found first home.site.0 newest older u.usable is u.rising).0 (record { records = js; torn = 0 })
      (site_found first home.site.0 newest older u.usable is u.rising).1).says
      ∙ ap (site_sum first) (records_are first newest older 0)
      ∙ says first home.site.0 newest older u.usable is u.rising

  pub epoch_same : epoch home past ≡ epoch_of (read js)
  epoch_same = sym (epoch_is (records home past)) ∙ ap (λ (s : SiteSum). s.epoch) sum_is ∙ epoch_is (read js)

  doubt_here : (t : Tid) (held : Held) → doubt_of (records home past) t ≡ Some held → In held (doubts (counted js))
  doubt_here t held e =
      subst (In held) (ap (λ (s : SiteSum). s.doubtful) sum_is ∙ sym (sum_doubts first home.site.0 newest older u.usable is u.rising)) (are_doubts (records home past) t held e)

  pub goes_started : epoch home past + 1 < 2 ^ 31 → IsGoing home found (suc most) (Start (epoch home past + 1) ∷ js)
  goes_started few = record {
    usable = usable_started home.site.0 newest older (epoch home past + 1) few (let e = epoch_same in omega (arith, e)) u.usable;
    rising = (tt, u.rising);
    rows = u.rows;
    begins = u.begins;
    locals = λ tx m. by_both tx m;
    bound = (let e = epoch_same in let b = u.bound in omega (arith, e, b));
  }
    where
      by_both : (tx : Tx) → Among (IsLocalOf tx) (counted (Start (epoch home past + 1) ∷ js)) → Among (IsLocalOf tx) (counted found)
      by_both tx (inl never) = absurd never
      by_both tx (inr m) = u.locals tx m

  pub goes_ended : (t : Tid) (d : Decision) (held : Held) → doubt_of (records home past) t ≡ Some held → IsGoing home found (suc most) (Ended t d ∷ js)
  goes_ended t d held e = record {
    usable = usable_ended home.site.0 newest older t d held doubt (λ tx m same. parted tx m same) u.usable;
    rising = (tt, u.rising);
    rows = u.rows;
    begins = u.begins;
    locals = λ tx m. by_both tx m;
    bound = (let b = u.bound in omega (arith, b));
  }
    where
      i : In held (doubts (counted js))
      i = doubt_here t held e

      is_it : held.tid ≡ t
      is_it = doubt_tid (records home past) t held e

      doubt : doubt_of (counted js) t ≡ Some held
      doubt = subst (λ g. doubt_of (counted js) g ≡ Some held) is_it (doubts_are (counted js) held i)

      among : (hs : List Held) (tx : Tx) → In held hs → held.tid.tx ≡ tx → Among (λ (h : Held). h.tid.tx ≡ tx) hs
      among [] tx j same = j
      among (h ∷ hs) tx (inl q) same = inl (ap (λ (k : Held). k.tid.tx) q ∙ same)
      among (h ∷ hs) tx (inr j) same = inr (among hs tx j same)

      parted : (tx : Tx) → Among (IsLocalOf tx) (counted js) → t.tx ≡ tx → ⊥
      parted tx m same =
          sum_parted first home.site.0 newest older u.usable is u.rising tx m
          (inl (among (site_sum first (read js)).doubtful tx (subst (In held) (sum_doubts first home.site.0 newest older u.usable is u.rising) i)
          (ap (λ (g : Tid). g.tx) is_it ∙ same)))

      by_both : (tx : Tx) → Among (IsLocalOf tx) (counted (Ended t d ∷ js)) → Among (IsLocalOf tx) (counted found)
      by_both tx (inl never) = absurd never
      by_both tx (inr m) = u.locals tx m

  abbrev sum : SiteSum
  sum = site_sum first (read js)

  some_epoch : 1 ≤ epoch home past → 1 ≤ sum.epoch
  some_epoch one = let e = epoch_same in let f = epoch_is (read js) in omega (arith, one, e, f)

  checked : 1 ≤ epoch home past → IsGoing home found (suc most) (Checkpoint sum ∷ js)
  checked one = record {
    usable = usable_checked home.site.0 newest older first sum is refl (sum_below first home.site.0 newest older u.usable is u.rising)
        (sum_within first home.site.0 newest older u.usable is u.rising) (sum_of_some first home.site.0 newest older u.usable is u.rising)
        (λ tx m. sum_parted first home.site.0 newest older u.usable is u.rising tx m) (some_epoch one) (let f = epoch_is (read js) in omega (arith, f)) u.usable;
    rising = (sum_rise first home.site.0 newest older u.usable is u.rising, u.rising);
    rows = u.rows;
    begins = u.begins;
    locals = λ tx m. by_both tx m;
    bound = (let b = u.bound in omega (arith, b));
  }
    where
      by_both : (tx : Tx) → Among (IsLocalOf tx) (counted (Checkpoint sum ∷ js)) → Among (IsLocalOf tx) (counted found)
      by_both tx (inl never) = absurd never
      by_both tx (inr m) = u.locals tx m

  alone : 1 ≤ epoch home past → IsGoing home found (suc most) (Checkpoint sum ∷ [])
  alone one = record {
    usable = usable_alone home.site.0 sum (ap (λ (s : SiteSum). s.site.0) (sym sum_is)) (sum_below first home.site.0 newest older u.usable is u.rising)
        (sum_within first home.site.0 newest older u.usable is u.rising) (sum_of_some first home.site.0 newest older u.usable is u.rising) (some_epoch one)
        (sum_apart first home.site.0 newest older u.usable is u.rising) (sum_one first home.site.0 newest older u.usable is u.rising)
        (sum_held first home.site.0 newest older u.usable is u.rising)
        (λ tx m. sum_parted first home.site.0 newest older u.usable is u.rising tx (sum_locals first home.site.0 newest older u.usable is u.rising tx m));
    rising = (sum_rise first home.site.0 newest older u.usable is u.rising, tt);
    rows = rising_rows_after first.items (installs (read js)) (subst RowsRise is u.rows);
    begins = inr (sum, refl, ap (λ (s : SiteSum). s.site) (sym sum_is), ap (λ (s : SiteSum). s.engine) (sym sum_is), ap (λ (s : SiteSum). s.protocol) (sym sum_is));
    locals = λ tx m.
        u.locals tx (sum_locals first home.site.0 newest older u.usable is u.rising tx (local_counts tx sum.counter sum.doubtful sum.locals m));
    bound = (let b = u.bound in let e = epoch_alone in omega (arith, b, e));
  }
    where
      epoch_alone : epoch_of (read (Checkpoint sum ∷ [])) ≡ epoch_of (read js)
      epoch_alone = Rattle.disk_laws.proofs.ForCallers.epoch_read first (read js)

  pub goes_checked : 1 ≤ epoch home past → IsGoing home found (suc most) (checkpoint home past ∷ js)
  goes_checked one = subst (λ s. IsGoing home found (suc most) (Checkpoint s ∷ js)) (sym sum_is) (checked one)

  pub goes_alone : 1 ≤ epoch home past → IsGoing home found (suc most) (checkpoint home past ∷ [])
  goes_alone one = subst (λ s. IsGoing home found (suc most) (Checkpoint s ∷ [])) (sym sum_is) (alone one)
