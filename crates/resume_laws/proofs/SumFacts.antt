-- What the Sum of a usable journal of a site keeps: it may stand behind the journal, and first alone.
use Rattle.std.proofs.Common.{◌≡◌, ℕ, ◌≤◌, ◌<◌, ◌^◌, ◌⊎◌, max, Bool, true, false, Option, Some, None, List, [], ◌∷◌, ◌++◌, map, refl, sym, ap, subst, ◌∙◌, inl, inr, arith}
use Rattle.mdb_base.specs.declared.names.Tid.{Tid}
use Rattle.mdb_base.specs.declared.names.Tx.{Tx}
use Rattle.mdb_base.specs.Words.{Among, Each, inserted}
use Rattle.mdb_base.proofs.ForCallers.{append_each}
use Rattle.order_laws.proofs.ForCallers.{among_weaker, each_at, each_from}
use Rattle.fed_rules.specs.declared.records.SiteRecord.{SiteRecord}
use Rattle.fed_rules.specs.declared.records.SiteRecord.TheVariants.{Setup, Start, Prepared, Ended, Local, Checkpoint}
use Rattle.fed_rules.specs.declared.sums.SiteSum.{SiteSum}
use Rattle.fed_rules.specs.EngineLines.{AllApart}
use Rattle.fed_rules.specs.Found.{Journal}
use Rattle.fed_rules.specs.Reopened.{first_of, local_read, owner_read, site_sum_read}
use Rattle.fed_rules.specs.SiteRecords.{Held, Home, doubts, epoch_of, kept_held, last_number, last_ticket, ticket_owner}
use Rattle.fed_rules.specs.SiteSums.{carried, locals_with, site_sum}
use Rattle.fed_rules.specs.Usable.{AreSumsOfSome, IsBelow, IsGlobalOf, IsHeldBelow, IsLocalOf, IsSumOfSome, IsUsableSite, IsWithin, OnceEach, RiseBy, counted, home_of_first, read, OfFronts}
use Rattle.fed_rules.proofs.ForCallers.{epoch_same}
use Rattle.site_history.proofs.ForCallers.{IsReopened, SameSays, StartsWell, all_due_same, all_read, counted_more, doubt_in, doubts_alike, doubts_are, doubts_rise, first_fit, first_says, locals_from, read_more, record_of, records_are, reopened, same_sum, says_more, sites_go_on, whole_of_fronts}
use Rattle.site_history.specs.FoundSites.{AreToldApart, IsFoundSite, IsOf, WritesRise}
use Rattle.disk_laws.proofs.ForCallers.{AreHeld, OneOfTx, counts_as, doubts_read, held_of, installs_read, marked, none_counts, one_inserted, others, owned, owner_counts, owner_is, rise_inserted, sum_rises, sum_told, within}

-- ---- the local ones of those that count

locals_over : (xs ys : List SiteRecord) → locals_with [] ys ≡ [] → locals_with [] (xs ++ ys) ≡ locals_with [] xs
locals_over [] ys none = none
locals_over (Setup site engine protocol items ∷ xs) ys none = locals_over xs ys none
locals_over (Start n ∷ xs) ys none = locals_over xs ys none
locals_over (Prepared t e n ticket writes ∷ xs) ys none = locals_over xs ys none
locals_over (Ended t d ∷ xs) ys none = locals_over xs ys none
locals_over (Local t n writes ∷ xs) ys none = ap (inserted Rattle.mdb_base.specs.Names.tid_before t) (locals_over xs ys none)
locals_over (Checkpoint sum ∷ xs) ys none = locals_over xs ys none

no_owner_local : (o : Option Tid) (sum : SiteSum) → locals_with [] (owner_read o sum) ≡ []
no_owner_local None sum = refl
no_owner_local (Some owner) sum = refl

locals_more : (r : SiteRecord) (xs ys : List SiteRecord) → locals_with [] xs ≡ locals_with [] ys → locals_with [] (r ∷ xs) ≡ locals_with [] (r ∷ ys)
locals_more (Setup site engine protocol items) xs ys e = e
locals_more (Start n) xs ys e = e
locals_more (Prepared t m n ticket writes) xs ys e = e
locals_more (Ended t d) xs ys e = e
locals_more (Local t n writes) xs ys e = ap (inserted Rattle.mdb_base.specs.Names.tid_before t) e
locals_more (Checkpoint sum) xs ys e = e

locals_first : (first : SiteRecord) → locals_with [] (read (first ∷ [])) ≡ locals_with [] (counted (first ∷ []))
locals_first (Checkpoint sum) =
    locals_over ((carried sum.doubtful ++ map (local_read sum.counter) sum.locals) ++ owner_read sum.owner sum) (Start sum.epoch ∷ []) refl
    ∙ locals_over (carried sum.doubtful ++ map (local_read sum.counter) sum.locals) (owner_read sum.owner sum) (no_owner_local sum.owner sum)
locals_first (Setup site engine protocol items) = refl
locals_first (Start n) = refl
locals_first (Prepared t e n ticket writes) = refl
locals_first (Ended t d) = refl
locals_first (Local t n writes) = refl

locals_counted : (newest : SiteRecord) (older : List SiteRecord) → locals_with [] (read (newest ∷ older)) ≡ locals_with [] (counted (newest ∷ older))
locals_counted first [] = locals_first first
locals_counted newest (next ∷ older) =
    ap (locals_with []) (read_more newest next older)
    ∙ locals_more newest (read (next ∷ older)) (counted (next ∷ older)) (locals_counted next older)
    ∙ sym (ap (locals_with []) (counted_more newest next older))

one_of_once : (rs : List SiteRecord) → OnceEach rs → OneOfTx (locals_with [] rs)
one_of_once [] o = tt
one_of_once (Local t n w ∷ rs) o = one_inserted t (locals_with [] rs) (λ m. o.0 (locals_from t.tx rs m)) (one_of_once rs o.1)
one_of_once (Setup site engine protocol items ∷ rs) o = one_of_once rs o
one_of_once (Start e ∷ rs) o = one_of_once rs o
one_of_once (Prepared t e n k w ∷ rs) o = one_of_once rs o.1
one_of_once (Ended t d ∷ rs) o = one_of_once rs o.1
one_of_once (Checkpoint sum ∷ rs) o = one_of_once rs o

rise_of_once : (rs : List SiteRecord) → OnceEach rs → RiseBy (λ (tid : Tid). tid) (locals_with [] rs)
rise_of_once [] o = tt
rise_of_once (Local t n w ∷ rs) o =
    rise_inserted (λ (tid : Tid). tid) t (locals_with [] rs) (rise_of_once rs o.1)
    (others t (locals_with [] rs)
    (λ m. o.0 (locals_from t.tx rs (among_weaker (λ (u : Tid). u ≡ t) (λ (u : Tid). u.tx ≡ t.tx) (λ u e. ap (λ (v : Tid). v.tx) e) (locals_with [] rs) m))))
rise_of_once (Setup site engine protocol items ∷ rs) o = rise_of_once rs o
rise_of_once (Start e ∷ rs) o = rise_of_once rs o
rise_of_once (Prepared t e n k w ∷ rs) o = rise_of_once rs o.1
rise_of_once (Ended t d ∷ rs) o = rise_of_once rs o.1
rise_of_once (Checkpoint sum ∷ rs) o = rise_of_once rs o

-- ---- numbers

-- numbers and tickets below 2^62, and epochs below 2^31
abbrev IsUnder : SiteRecord → Type 0
IsUnder (Start e) = e < 2 ^ 31
IsUnder (Prepared t e n k w) = IsHeldBelow (record { tid = t; epoch = e; number = n; ticket = k; writes = w })
IsUnder (Local t n w) = n < 2 ^ 62
IsUnder other = Unit {0}

under_one : (r : SiteRecord) → IsBelow r → IsUnder r
under_one (Setup site engine protocol items) b = tt
under_one (Start e) b = b
under_one (Prepared t e n k w) b = b
under_one (Ended t d) b = tt
under_one (Local t n w) b = b.1
under_one (Checkpoint sum) b = tt

under_carried : (hs : List Held) → Each IsHeldBelow hs → Each IsUnder (carried hs)
under_carried [] b = tt
under_carried (h ∷ hs) b = (b.0, under_carried hs b.1)

under_locals : (n : ℕ) (ts : List Tid) → n < 2 ^ 62 → Each IsUnder (map (local_read n) ts)
under_locals n [] less = tt
under_locals n (t ∷ ts) less = (less, under_locals n ts less)

under_read : (sum : SiteSum) → IsBelow (Checkpoint sum) → IsSumOfSome sum → Each IsUnder (site_sum_read sum)
under_read sum b some =
    append_each IsUnder ((carried sum.doubtful ++ map (local_read sum.counter) sum.locals) ++ owner_read sum.owner sum) (Start sum.epoch ∷ [])
    (append_each IsUnder (carried sum.doubtful ++ map (local_read sum.counter) sum.locals) (owner_read sum.owner sum)
    (append_each IsUnder (carried sum.doubtful) (map (local_read sum.counter) sum.locals) (under_carried sum.doubtful b.3) (under_locals sum.counter sum.locals b.1))
    (by_owner sum.owner some.owned))
    (b.0, tt)
  where
    by_owner : (o : Option Tid) → ((o ≡ None) × (sum.published ≡ 0)) ⊎ ((owner : Tid) × (o ≡ Some owner) × (1 ≤ sum.published) × (1 ≤ sum.counter)) → Each IsUnder (owner_read o sum)
    by_owner None p = tt
    by_owner (Some owner) (inl p) = let clash = p.0 in cc
    by_owner (Some owner) (inr p) = (tt, ((p.3, b.1, p.2, b.2, omega arith), tt))

under_all : (newest : SiteRecord) (older : List SiteRecord) → Each IsBelow (newest ∷ older) → Each AreSumsOfSome (newest ∷ older) → Each IsUnder (read (newest ∷ older))
under_all first [] b some = by_first first b.0 some.0
  where
    by_first : (r : SiteRecord) → IsBelow r → AreSumsOfSome r → Each IsUnder (read (r ∷ []))
    by_first (Checkpoint sum) p q = (tt, under_read sum p q)
    by_first (Setup site engine protocol items) p q = (tt, tt)
    by_first (Start n) p q = (p, tt)
    by_first (Prepared t e n ticket writes) p q = (p, tt)
    by_first (Ended t d) p q = (tt, tt)
    by_first (Local t n writes) p q = (p.1, tt)
under_all newest (next ∷ older) b some =
    subst (Each IsUnder) (sym (read_more newest next older)) (under_one newest b.0, under_all next older b.1 some.1)

most : (a b n : ℕ) → a < n → b < n → max a b < n
most a b n p q = omega (arith, p, q)

number_under : (rs : List SiteRecord) → Each IsUnder rs → last_number rs < 2 ^ 62
number_under [] u = omega arith
number_under (Prepared t e n k w ∷ rs) u = most n (last_number rs) (2 ^ 62) u.0.1 (number_under rs u.1)
number_under (Local t n w ∷ rs) u = most n (last_number rs) (2 ^ 62) u.0 (number_under rs u.1)
number_under (Setup site engine protocol items ∷ rs) u = number_under rs u.1
number_under (Start e ∷ rs) u = number_under rs u.1
number_under (Ended t d ∷ rs) u = number_under rs u.1
number_under (Checkpoint sum ∷ rs) u = number_under rs u.1

ticket_under : (rs : List SiteRecord) → Each IsUnder rs → last_ticket rs < 2 ^ 62
ticket_under [] u = omega arith
ticket_under (Prepared t e n k w ∷ rs) u = most k (last_ticket rs) (2 ^ 62) u.0.3 (ticket_under rs u.1)
ticket_under (Local t n w ∷ rs) u = ticket_under rs u.1
ticket_under (Setup site engine protocol items ∷ rs) u = ticket_under rs u.1
ticket_under (Start e ∷ rs) u = ticket_under rs u.1
ticket_under (Ended t d ∷ rs) u = ticket_under rs u.1
ticket_under (Checkpoint sum ∷ rs) u = ticket_under rs u.1

epoch_under : (rs : List SiteRecord) → Each IsUnder rs → epoch_of rs < 2 ^ 31
epoch_under [] u = omega arith
epoch_under (Start e ∷ rs) u = u.0
epoch_under (Prepared t e n k w ∷ rs) u = epoch_under rs u.1
epoch_under (Local t n w ∷ rs) u = epoch_under rs u.1
epoch_under (Setup site engine protocol items ∷ rs) u = epoch_under rs u.1
epoch_under (Ended t d ∷ rs) u = epoch_under rs u.1
epoch_under (Checkpoint sum ∷ rs) u = epoch_under rs u.1

-- ---- local and global ones

told_first : (local : Tx → Bool) (tx : Tx) (n : ℕ) (hs : List Held) (ts : List Tid) → Each (λ (t : Tid). local t.tx ≡ true) ts
    → Among (IsLocalOf tx) (carried hs ++ map (local_read n) ts) → local tx ≡ true
told_first local tx n (h ∷ hs) ts a (inl never) = absurd never
told_first local tx n (h ∷ hs) ts a (inr m) = told_first local tx n hs ts a m
told_first local tx n [] [] a m = absurd m
told_first local tx n [] (t ∷ ts) a (inl e) = subst (λ x. local x ≡ true) e a.0
told_first local tx n [] (t ∷ ts) a (inr m) = told_first local tx n [] ts a.1 m

told_all : (local : Tx → Bool) (tx : Tx) (newest : SiteRecord) (older : List SiteRecord) → Each (AreToldApart local) (newest ∷ older)
    → Among (IsLocalOf tx) (counted (newest ∷ older)) → local tx ≡ true
told_all local tx first [] a m = by_first first a.0 m
  where
    by_first : (r : SiteRecord) → AreToldApart local r → Among (IsLocalOf tx) (counted (r ∷ [])) → local tx ≡ true
    by_first (Checkpoint sum) p q = told_first local tx sum.counter sum.doubtful sum.locals p.2 q
    by_first (Local t n writes) p (inl e) = subst (λ x. local x ≡ true) e p
    by_first (Local t n writes) p (inr never) = absurd never
    by_first (Setup site engine protocol items) p (inl never) = absurd never
    by_first (Setup site engine protocol items) p (inr never) = absurd never
    by_first (Start n) p (inl never) = absurd never
    by_first (Start n) p (inr never) = absurd never
    by_first (Prepared t e n ticket writes) p (inl never) = absurd never
    by_first (Prepared t e n ticket writes) p (inr never) = absurd never
    by_first (Ended t d) p (inl never) = absurd never
    by_first (Ended t d) p (inr never) = absurd never
told_all local tx newest (next ∷ older) a m =
    by_newest newest a.0 (λ k. told_all local tx next older a.1 k) (subst (Among (IsLocalOf tx)) (counted_more newest next older) m)
  where
    by_newest : (r : SiteRecord) → AreToldApart local r → (Among (IsLocalOf tx) (counted (next ∷ older)) → local tx ≡ true)
        → Among (IsLocalOf tx) (r ∷ counted (next ∷ older)) → local tx ≡ true
    by_newest r p rest (inr k) = rest k
    by_newest (Local t n writes) p rest (inl e) = subst (λ x. local x ≡ true) e p
    by_newest (Setup site engine protocol items) p rest (inl never) = absurd never
    by_newest (Start n) p rest (inl never) = absurd never
    by_newest (Prepared t e n ticket writes) p rest (inl never) = absurd never
    by_newest (Ended t d) p rest (inl never) = absurd never
    by_newest (Checkpoint sum) p rest (inl never) = absurd never

no_global : (local : Tx → Bool) (tx : Tx) (sum : SiteSum) → AreToldApart local (Checkpoint sum) → local tx ≡ true → IsGlobalOf tx (Checkpoint sum) → ⊥
no_global local tx sum told so (inl m) = in_doubt sum.doubtful told.0 m
  where
    in_doubt : (hs : List Held) → Each (λ (held : Held). local held.tid.tx ≡ false) hs → Among (λ (held : Held). held.tid.tx ≡ tx) hs → ⊥
    in_doubt [] a k = k
    in_doubt (h ∷ hs) a (inl e) = let no : local tx ≡ false = subst (λ x. local x ≡ false) e a.0 in let clash : true ≡ false = sym so ∙ no in cc
    in_doubt (h ∷ hs) a (inr k) = in_doubt hs a.1 k
no_global local tx sum told so (inr (owner, e, f)) =
    let no : local tx ≡ false = subst (λ x. local x ≡ false) f (subst (IsOf local false) e told.1) in let clash : true ≡ false = sym so ∙ no in cc

-- ---- together

module _ (home : Home) (number : ℕ) (newest : SiteRecord) (older : List SiteRecord) (usable : IsUsableSite number (newest ∷ older))
    (is : home_of_first (first_of (newest ∷ older)) ≡ Some home) (rise : Each WritesRise (newest ∷ older)) where
  abbrev here : List SiteRecord
  here = newest ∷ older

  abbrev here_found : Journal SiteRecord
  here_found = record { records = newest ∷ older; torn = 0 }

  pub site_found : (local : Tx → Bool) × IsFoundSite home local here_found
  site_found = sites_go_on home number here_found usable is rise

  opened : IsReopened home site_found.0 here_found
  opened = reopened home site_found.0 here_found site_found.1

  abbrev pub all : List SiteRecord
  all = all_read home newest older

  pub starts : OfFronts (StartsWell home) all
  starts = subst (OfFronts (StartsWell home)) (records_are home newest older 0) opened.well.starts

  all_says : (r : SiteRecord) (rs : List SiteRecord) → SameSays (all_read home r rs) (read (r ∷ rs))
  all_says first [] = first_says home first
  all_says r (next ∷ rs) =
      subst (SameSays (all_read home r (next ∷ rs))) (sym (read_more r next rs)) (says_more r (all_read home next rs) (read (next ∷ rs)) (all_says next rs))

  abbrev pub sum : SiteSum
  sum = site_sum home (read here)

  pub says : site_sum home all ≡ sum
  says = same_sum home all (read here) (all_says newest older)

  pub sum_within : IsWithin sum
  sum_within = subst IsWithin says (within home all starts)

  locals_are : locals_with [] all ≡ locals_with [] (counted here)
  locals_are = (all_says newest older).locals ∙ locals_counted newest older

  pub sum_of_some : IsSumOfSome sum
  sum_of_some = subst IsSumOfSome says (record {
    owned = owned (ticket_owner all) (last_ticket all) (last_number all) (owner_is all) (owner_counts all (marked home all starts));
    counts = none_counts all (marked home all starts);
    doubtful_rise = doubts_rise all;
    locals_rise = subst (RiseBy (λ (tid : Tid). tid)) (sym locals_are) (rise_of_once (counted here) usable.once);
  })

  under : Each IsUnder (read here)
  under = under_all newest older usable.below usable.sums_of_some

  pub sum_below : IsBelow (Checkpoint sum)
  sum_below = (
    subst (λ n. n < 2 ^ 31) (sym (epoch_same (read here))) (epoch_under (read here) under),
    number_under (read here) under,
    ticket_under (read here) under,
    each_from IsHeldBelow (doubts (read here)) (λ held i. each_at IsUnder (record_of held) (read here) under (doubt_in (read here) held.tid held (doubts_are (read here) held i))),
  )

  pub sum_rise : WritesRise (Checkpoint sum)
  sum_rise = subst (λ s. WritesRise (Checkpoint s)) says (sum_rises home all (subst (Each _) (records_are home newest older 0) opened.well.kept.rising))

  told : AreToldApart site_found.0 (Checkpoint sum)
  told = subst (λ s. AreToldApart site_found.0 (Checkpoint s)) says (sum_told home site_found.0 all (subst (Each _) (records_are home newest older 0) opened.well.sorted))

  -- the Sum names no local one as global
  pub sum_parted : (tx : Tx) → Among (IsLocalOf tx) (counted here) → IsGlobalOf tx (Checkpoint sum) → ⊥
  sum_parted tx m = no_global site_found.0 tx sum told (told_all site_found.0 tx newest older site_found.1.told m)

  pub sum_locals : (tx : Tx) → Among (λ (t : Tid). t.tx ≡ tx) sum.locals → Among (IsLocalOf tx) (counted here)
  sum_locals tx m = locals_from tx (counted here) (subst (Among (λ (t : Tid). t.tx ≡ tx)) (locals_counted newest older) m)

  pub sum_one : OneOfTx sum.locals
  sum_one = subst OneOfTx (sym (locals_counted newest older)) (one_of_once (counted here) usable.once)

  pub sum_apart : AllApart (map kept_held sum.doubtful)
  sum_apart = subst (λ (s : SiteSum). AllApart (map kept_held s.doubtful)) says (whole_of_fronts (StartsWell home) all starts).apart

  pub sum_doubts : doubts (counted here) ≡ sum.doubtful
  sum_doubts = doubts_alike (counted here) all (λ tid. sym ((all_due_same home newest older).doubt tid)) ∙ ap (λ (s : SiteSum). s.doubtful) says

  pub sum_held : AreHeld (counts_as sum)
  sum_held = subst (λ s. AreHeld (counts_as s)) says
      (held_of home all (counts_as (site_sum home all)) (whole_of_fronts (StartsWell home) all starts) (first_fit all opened_fit)
      (doubts_read home [] all ∙ doubts_alike (Checkpoint (site_sum home all) ∷ all) all (λ tid. refl))
      (λ P blank each. installs_read home P blank [] all each))
    where
      opened_fit : Rattle.site_history.proofs.ForCallers.AllFit all
      opened_fit = subst Rattle.site_history.proofs.ForCallers.AllFit (records_are home newest older 0) opened.orders.orderly.all.fit
