-- A usable journal of a site stays usable behind a Start, an Ended of one in doubt, and a Checkpoint that is its Sum; so do its fronts; and the
-- Checkpoint alone is usable.
use Rattle.std.proofs.Common.{◌≡◌, ℕ, ◌≤◌, ◌<◌, ◌^◌, Bool, true, false, cond, is_some, Option, Some, None, List, [], ◌∷◌, ◌++◌, map, refl, sym, ap, subst, inl, inr, arith}
use Rattle.mdb_base.specs.declared.names.Tid.{Tid}
use Rattle.mdb_base.specs.declared.names.Tx.{Tx}
use Rattle.mdb_base.specs.Names.{same_tid}
use Rattle.mdb_base.specs.Words.{Among, Each}
use Rattle.mdb_base.proofs.ForCallers.{each_inserted}
use Rattle.order_laws.specs.Chains.{In, Distinct}
use Rattle.order_laws.proofs.ForCallers.{each_at, each_from}
use Rattle.presumptions.specs.declared.Decision.{Decision}
use Rattle.presumptions.specs.declared.Decision.TheVariants as Decided
use Rattle.fed_rules.specs.declared.records.SiteRecord.{SiteRecord}
use Rattle.fed_rules.specs.declared.records.SiteRecord.TheVariants.{Setup, Start, Prepared, Ended, Local, Checkpoint}
use Rattle.fed_rules.specs.declared.sums.SiteSum.{SiteSum}
use Rattle.fed_rules.specs.EngineLines.{AllApart}
use Rattle.fed_rules.specs.Reopened.{first_of, local_read}
use Rattle.fed_rules.specs.SiteRecords.{Held, Home, Install, doubt_of, doubts, epoch_of, install_held, installs, kept_held}
use Rattle.fed_rules.specs.SiteSums.{carried, site_sum}
use Rattle.fed_rules.specs.Usable.{AreBehind, DoubtsApart, EpochsRise, HaveSums, IsBehind, IsBelow, IsGlobalOf, IsLocalOf, IsSumOfSome, IsUsableSite, IsWithin, LocalsOnTop, OnceEach, SetUpFirst, TicketsRise, counted, home_of_first, numbers, read}
use Rattle.std.specs.Prelude.{nat_lt}
use Rattle.engine_laws.proofs.ForCallers.{are_doubt, doubt_tid}
use Rattle.site_history.proofs.ForCallers.{are_doubts, counted_more, doubts_alike, doubts_are}
use Rattle.disk_laws.proofs.ForCallers.{AreHeld, OneOfTx, counts_as, doubt_numbers, once_carried}

-- ---- fronts

module _ (number : ℕ) (next : SiteRecord) (older : List SiteRecord) where
  abbrev rest : List SiteRecord
  rest = next ∷ older

  sums_front : (home : Option Home) (r : SiteRecord) → HaveSums home (r ∷ rest) → HaveSums home rest
  sums_front None r s = s
  sums_front (Some home) (Setup site engine protocol items) s = s
  sums_front (Some home) (Start n) s = s
  sums_front (Some home) (Prepared t e n ticket writes) s = s
  sums_front (Some home) (Ended t d) s = s
  sums_front (Some home) (Local t n writes) s = s
  sums_front (Some home) (Checkpoint sum) s = s.1

  set_up_front : (r : SiteRecord) → SetUpFirst (r ∷ rest) → SetUpFirst rest
  set_up_front (Setup site engine protocol items) s = absurd s
  set_up_front (Start n) s = s
  set_up_front (Prepared t e n ticket writes) s = s
  set_up_front (Ended t d) s = s
  set_up_front (Local t n writes) s = s
  set_up_front (Checkpoint sum) s = s

  epochs_front : (r : SiteRecord) → EpochsRise (r ∷ rest) → EpochsRise rest
  epochs_front (Setup site engine protocol items) s = s
  epochs_front (Start n) s = s.1
  epochs_front (Prepared t e n ticket writes) s = s
  epochs_front (Ended t d) s = s
  epochs_front (Local t n writes) s = s
  epochs_front (Checkpoint sum) s = s.2

  once_front : (r : SiteRecord) → OnceEach (counted (r ∷ rest)) → OnceEach (counted rest)
  once_front (Setup site engine protocol items) s = s
  once_front (Start n) s = s
  once_front (Prepared t e n ticket writes) s = s.1
  once_front (Ended t d) s = s.1
  once_front (Local t n writes) s = s.1
  once_front (Checkpoint sum) s = s

  numbers_front : (r : SiteRecord) → Distinct (numbers (r ∷ rest)) → Distinct (numbers rest)
  numbers_front (Setup site engine protocol items) s = s
  numbers_front (Start n) s = s
  numbers_front (Prepared t e n ticket writes) s = s.1
  numbers_front (Ended t d) s = s
  numbers_front (Local t n writes) s = s.1
  numbers_front (Checkpoint sum) s = s

  tickets_front : (r : SiteRecord) → TicketsRise (r ∷ rest) → TicketsRise rest
  tickets_front (Setup site engine protocol items) s = s
  tickets_front (Start n) s = s
  tickets_front (Prepared t e n ticket writes) s = s.1
  tickets_front (Ended t d) s = s
  tickets_front (Local t n writes) s = s
  tickets_front (Checkpoint sum) s = s

  top_front : (r : SiteRecord) → LocalsOnTop (r ∷ rest) → LocalsOnTop rest
  top_front (Setup site engine protocol items) s = s
  top_front (Start n) s = s
  top_front (Prepared t e n ticket writes) s = s
  top_front (Ended t d) s = s
  top_front (Local t n writes) s = s.1
  top_front (Checkpoint sum) s = s

  -- what stands before the newest record is usable
  pub usable_front : (r : SiteRecord) → IsUsableSite number (r ∷ rest) → IsUsableSite number rest
  usable_front r u = record {
    below = u.below.1;
    within = u.within.1;
    first = u.first;
    set_up = set_up_front r u.set_up;
    sums = sums_front (home_of_first (first_of rest)) r u.sums;
    epochs = epochs_front r u.epochs;
    once = once_front r u.once;
    numbers_differ = numbers_front r u.numbers_differ;
    tickets_rise = tickets_front r u.tickets_rise;
    parted = λ tx m n. u.parted tx (subst (Among (IsLocalOf tx)) (sym (counted_more r next older)) (inr m)) (inr n);
    doubts_apart = u.doubts_apart.1;
    clear = u.clear.1;
    on_top = top_front r u.on_top;
    sums_of_some = u.sums_of_some.1;
  }

  -- ---- behind a Start

  same_start : (e : ℕ) → doubts (counted (Start e ∷ rest)) ≡ doubts (counted rest)
  same_start e = doubts_alike (Start e ∷ counted rest) (counted rest) (λ tid. refl)

  start_parted : (e : ℕ) (tx : Tx) → IsUsableSite number rest → Among (IsLocalOf tx) (counted (Start e ∷ rest)) → Among (IsGlobalOf tx) (Start e ∷ rest) → ⊥
  start_parted e tx u (inl never) g = never
  start_parted e tx u (inr m) (inl never) = never
  start_parted e tx u (inr m) (inr g) = u.parted tx m g

  pub usable_started : (e : ℕ) → e < 2 ^ 31 → epoch_of (read rest) < e → IsUsableSite number rest → IsUsableSite number (Start e ∷ rest)
  usable_started e few more u = record {
    below = (few, u.below);
    within = (tt, u.within);
    first = u.first;
    set_up = u.set_up;
    sums = behind_sums (home_of_first (first_of rest)) u.sums;
    epochs = (more, u.epochs);
    once = u.once;
    numbers_differ = u.numbers_differ;
    tickets_rise = u.tickets_rise;
    parted = λ tx m g. start_parted e tx u m g;
    doubts_apart = ((λ a b i j other. u_apart a b (subst (In a) (same_start e) i) (subst (In b) (same_start e) j) other), u.doubts_apart);
    clear = (subst (Each (λ held. Each (IsBehind held) (installs (counted rest)))) (sym (same_start e)) u.clear.0, u.clear);
    on_top = u.on_top;
    sums_of_some = (tt, u.sums_of_some);
  }
    where
      u_apart : DoubtsApart rest
      u_apart = u.doubts_apart.0

      behind_sums : (home : Option Home) → HaveSums home rest → HaveSums home (Start e ∷ rest)
      behind_sums None s = s
      behind_sums (Some home) s = s

  -- ---- behind a Checkpoint

  same_checked : (sum : SiteSum) → doubts (counted (Checkpoint sum ∷ rest)) ≡ doubts (counted rest)
  same_checked sum = doubts_alike (Checkpoint sum ∷ counted rest) (counted rest) (λ tid. refl)

  check_parted : (sum : SiteSum) (tx : Tx) → IsUsableSite number rest → (Among (IsLocalOf tx) (counted rest) → IsGlobalOf tx (Checkpoint sum) → ⊥)
      → Among (IsLocalOf tx) (counted (Checkpoint sum ∷ rest)) → Among (IsGlobalOf tx) (Checkpoint sum ∷ rest) → ⊥
  check_parted sum tx u apart (inl never) g = never
  check_parted sum tx u apart (inr m) (inl here) = apart m here
  check_parted sum tx u apart (inr m) (inr g) = u.parted tx m g

  pub usable_checked : (home : Home) (sum : SiteSum) → home_of_first (first_of rest) ≡ Some home → sum ≡ site_sum home (read rest) → IsBelow (Checkpoint sum) → IsWithin sum
      → IsSumOfSome sum → ((tx : Tx) → Among (IsLocalOf tx) (counted rest) → IsGlobalOf tx (Checkpoint sum) → ⊥) → 1 ≤ sum.epoch → epoch_of (read rest) ≤ sum.epoch
      → IsUsableSite number rest → IsUsableSite number (Checkpoint sum ∷ rest)
  usable_checked home sum is equal below within some apart one least u = record {
    below = (below, u.below);
    within = (within, u.within);
    first = u.first;
    set_up = u.set_up;
    sums = subst (λ o. HaveSums o (Checkpoint sum ∷ rest)) (sym is) (equal, subst (λ o. HaveSums o rest) is u.sums);
    epochs = (one, least, u.epochs);
    once = u.once;
    numbers_differ = u.numbers_differ;
    tickets_rise = u.tickets_rise;
    parted = λ tx m g. check_parted sum tx u (apart tx) m g;
    doubts_apart = ((λ a b i j other. u_apart a b (subst (In a) (same_checked sum) i) (subst (In b) (same_checked sum) j) other), u.doubts_apart);
    clear = (subst (Each (λ held. Each (IsBehind held) (installs (counted rest)))) (sym (same_checked sum)) u.clear.0, u.clear);
    on_top = u.on_top;
    sums_of_some = (some, u.sums_of_some);
  }
    where
      u_apart : DoubtsApart rest
      u_apart = u.doubts_apart.0

  -- ---- behind an Ended of one in doubt

  module _ (t : Tid) (d : Decision) (held : Held) (doubt : doubt_of (counted rest) t ≡ Some held) where
    abbrev ended : List SiteRecord
    ended = Ended t d ∷ counted rest

    fewer_doubts : (h : Held) → In h (doubts ended) → In h (doubts (counted rest))
    fewer_doubts h i = are_doubt (counted rest) h (by_test (same_tid t h.tid) (doubts_are ended h i))
      where
        by_test : (b : Bool) → cond b None (doubt_of (counted rest) h.tid) ≡ Some h → doubt_of (counted rest) h.tid ≡ Some h
        by_test true e = cc
        by_test false e = e

    not_it : (h : Held) → In h (doubts ended) → same_tid t h.tid ≡ false
    not_it h i = by_test (same_tid t h.tid) refl (doubts_are ended h i)
      where
        by_test : (b : Bool) → same_tid t h.tid ≡ b → cond b None (doubt_of (counted rest) h.tid) ≡ Some h → same_tid t h.tid ≡ false
        by_test true q e = cc
        by_test false q e = q

    other_way : (a b : Tid) → same_tid a b ≡ false → same_tid b a ≡ false
    other_way a b e = grind arith

    held_tid : held.tid ≡ t
    held_tid = doubt_tid (counted rest) t held doubt

    clear_of : DoubtsApart rest → (h : Held) → In h (doubts ended) → IsBehind h (record { tid = held.tid; number = held.number; writes = held.writes })
    clear_of apart h i =
        let other = other_way t h.tid (not_it h i) in
        λ more. (apart h held (fewer_doubts h i) (are_doubts (counted rest) t held doubt) (subst (λ g. same_tid h.tid g ≡ false) (sym held_tid) other)).keys

    ended_clear : DoubtsApart rest → AreBehind rest → Each (λ h. Each (IsBehind h) (installs ended)) (doubts ended)
    ended_clear apart clear = each_from (λ h. Each (IsBehind h) (installs ended)) (doubts ended)
        (λ h i. by_decision d h (clear_of apart h i) (each_at (λ k. Each (IsBehind k) (installs (counted rest))) h (doubts (counted rest)) clear (fewer_doubts h i)))
      where
        by_decision : (e : Decision) (h : Held) → IsBehind h (record { tid = held.tid; number = held.number; writes = held.writes })
            → Each (IsBehind h) (installs (counted rest)) → Each (IsBehind h) (installs (Ended t e ∷ counted rest))
        by_decision Decided.Abort h new old = old
        by_decision Decided.Commit h new old =
            subst (λ o. Each (IsBehind h) (install_held o (installs (counted rest)))) (sym doubt)
            (each_inserted (IsBehind h) (λ (a b : Install). nat_lt b.number a.number) (record { tid = held.tid; number = held.number; writes = held.writes })
            (installs (counted rest)) new old)

    pub usable_ended : ((tx : Tx) → Among (IsLocalOf tx) (counted rest) → t.tx ≡ tx → ⊥) → IsUsableSite number rest → IsUsableSite number (Ended t d ∷ rest)
    usable_ended apart u = record {
      below = (tt, u.below);
      within = (tt, u.within);
      first = u.first;
      set_up = u.set_up;
      sums = behind_sums (home_of_first (first_of rest)) u.sums;
      epochs = u.epochs;
      once = ((λ m. ap is_some doubt), u.once);
      numbers_differ = u.numbers_differ;
      tickets_rise = u.tickets_rise;
      parted = λ tx m g. by_both tx m g;
      doubts_apart = ((λ a b i j other. u_apart a b (fewer_doubts a i) (fewer_doubts b j) other), u.doubts_apart);
      clear = (ended_clear u_apart u_clear, u.clear);
      on_top = u.on_top;
      sums_of_some = (tt, u.sums_of_some);
    }
      where
        u_apart : DoubtsApart rest
        u_apart = u.doubts_apart.0

        u_clear : AreBehind rest
        u_clear = u.clear.0

        behind_sums : (home : Option Home) → HaveSums home rest → HaveSums home (Ended t d ∷ rest)
        behind_sums None s = s
        behind_sums (Some home) s = s

        by_both : (tx : Tx) → Among (IsLocalOf tx) (counted (Ended t d ∷ rest)) → Among (IsGlobalOf tx) (Ended t d ∷ rest) → ⊥
        by_both tx (inl never) g = never
        by_both tx (inr m) (inl e) = apart tx m e
        by_both tx (inr m) (inr g) = u.parted tx m g

-- ---- a Checkpoint alone

pub local_counts : (tx : Tx) (n : ℕ) (hs : List Held) (ts : List Tid) → Among (IsLocalOf tx) (carried hs ++ map (local_read n) ts) → Among (λ (t : Tid). t.tx ≡ tx) ts
local_counts tx n (h ∷ hs) ts (inl never) = absurd never
local_counts tx n (h ∷ hs) ts (inr m) = local_counts tx n hs ts m
local_counts tx n [] [] m = m
local_counts tx n [] (t ∷ ts) (inl e) = inl e
local_counts tx n [] (t ∷ ts) (inr m) = inr (local_counts tx n [] ts m)

pub usable_alone : (number : ℕ) (sum : SiteSum) → sum.site.0 ≡ number → IsBelow (Checkpoint sum) → IsWithin sum → IsSumOfSome sum → 1 ≤ sum.epoch
    → AllApart (map kept_held sum.doubtful) → OneOfTx sum.locals → AreHeld (counts_as sum)
    → ((tx : Tx) → Among (λ (t : Tid). t.tx ≡ tx) sum.locals → IsGlobalOf tx (Checkpoint sum) → ⊥) → IsUsableSite number (Checkpoint sum ∷ [])
usable_alone number sum site below within some one apart once held parted = record {
  below = (below, tt);
  within = (within, tt);
  first = site;
  set_up = tt;
  sums = tt;
  epochs = (one, omega arith, tt);
  once = once_carried sum.counter sum.doubtful sum.locals apart once;
  numbers_differ = doubt_numbers sum.doubtful apart;
  tickets_rise = tt;
  parted = λ tx m g. by_both tx m g;
  doubts_apart = (held.apart, (λ a b i j other. absurd i));
  clear = (held.behind, tt);
  on_top = tt;
  sums_of_some = (some, tt);
}
  where
    by_both : (tx : Tx) → Among (IsLocalOf tx) (counts_as sum) → Among (IsGlobalOf tx) (Checkpoint sum ∷ []) → ⊥
    by_both tx m (inl g) = parted tx (local_counts tx sum.counter sum.doubtful sum.locals m) g
    by_both tx m (inr never) = never
