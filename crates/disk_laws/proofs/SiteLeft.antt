-- What a site leaves on its disk behind any sorted events: those in doubt are in order at every front of its journal, and behind what is committed.
use Rattle.std.proofs.Common.{◌≡◌, ℕ, ◌≤◌, ◌<◌, ◌⊎◌, Bool, true, false, cond, is_some, max, Some, None, List, [], ◌∷◌, ◌++◌, map, refl, sym, ap, subst, ◌∙◌, inl, inr, arith}
use Rattle.std.specs.Prelude.{nat_lt}
use Rattle.std.proofs.lemmas.Bool.{ltb-false, ltb-true, lt-ltb}
use Rattle.mdb_base.specs.declared.names.Tid.{Tid}
use Rattle.mdb_base.specs.declared.rows.Put.{Put}
use Rattle.mdb_base.specs.Names.{same_tid, tid_before}
use Rattle.mdb_base.specs.Words.{Each, inserted}
use Rattle.mdb_base.proofs.ForCallers.{append_each, each_all, each_append, each_map, each_of_map, same_tid-refl}
use Rattle.order_laws.specs.Chains.{In, Distinct}
use Rattle.order_laws.proofs.ForCallers.{each_at, each_from}
use Rattle.presumptions.specs.declared.Decision.TheVariants as Decided
use Rattle.fed_rules.specs.declared.records.SiteRecord.{SiteRecord}
use Rattle.fed_rules.specs.declared.records.SiteRecord.TheVariants.{Setup, Start, Prepared, Ended, Local, Checkpoint}
use Rattle.fed_rules.specs.declared.runs.Kept.{Kept}
use Rattle.fed_rules.specs.Disk.{Disk, bytes_of, standing}
use Rattle.fed_rules.specs.EngineLines.{AllApart, AreApart, IsNumbered, has_row}
use Rattle.fed_rules.specs.Reopened.{first_of, oldest}
use Rattle.fed_rules.specs.Site.{site_past}
use Rattle.fed_rules.specs.SitePast.{disk, journal, records}
use Rattle.fed_rules.specs.SiteRecords.{Held, Home, Install, doubt_of, doubts, installs, kept_held, last_number, last_ticket, site_frame, start_of, ticket_owner}
use Rattle.fed_rules.specs.SiteSums.{locals_with, site_sum}
use Rattle.fed_rules.specs.Usable.{AreBehind, AreWithin, DoubtsApart, IsBehind, IsOfSite, IsWithin, KeepClear, LocalsOnTop, OfFronts, counted, home_of_first}
use Rattle.engine_laws.proofs.ForCallers.{are_doubt, rows_apart}
use Rattle.fed_rules.proofs.ForCallers.{standing_all}
use Rattle.site_history.specs.SiteOrders.{OfSortedEvents}
use Rattle.site_history.proofs.ForCallers.{AllFit, Begins, DoubtsFit, IsFounded, IsSummed, IsTrimmed, StartsWell, doubts_are, due_install, foundation, founded, of_events, orders_past, pasts_summed, standing_trimmed, sums_front, well_past, whole_of_fronts}
use Rattle.site_history.specs.Sums.{AreSums, ComeInOrder, StaysBelow}
use Rattle.disk_laws.specs.Left.{OfSites, DoubtsStandInOrder, LocalsStandInOrder, SumsAreWithin, IsFirstOfSite}
use Rattle.disk_laws.proofs.SiteWalk.{AreWritten, written_at, written_past}
use Rattle.disk_laws.proofs.SiteRead.{Counts, Whole, Behind, count_behind, count_founded, counts_as, doubts_read, installs_read}

-- ---- what stands on the disk

on_disk : (home : Home) (d : Disk SiteRecord) → IsFounded home d.records → AreWritten d.records → IsSummed home d
    → Counts home d.records (standing site_frame d.trimmed d.records)
on_disk home d f w s = by_front s.front
  where
    whole : d.trimmed ≡ 0 → Counts home d.records (standing site_frame d.trimmed d.records)
    whole e = Whole f.newer f.founded (ap (λ n. standing site_frame n d.records) e ∙ standing_all d.records ∙ f.founded)

    by_first : (newer : List SiteRecord) (first : SiteRecord) (before : List SiteRecord) → d.records ≡ newer ++ first ∷ before → d.trimmed ≡ bytes_of site_frame before
        → Begins home first before → Counts home d.records (standing site_frame d.trimmed d.records)
    by_first newer (Checkpoint sum) before all at b =
        let sums = sums_front home newer (Checkpoint sum ∷ before) (subst (AreSums home) all s.sums) in
        Behind newer before (all ∙ ap (λ z. newer ++ Checkpoint z ∷ before) sums.0)
        (ap (λ n. standing site_frame n d.records) at
        ∙ ap (λ rs. standing site_frame (bytes_of site_frame before) rs) all
        ∙ standing_trimmed newer (Checkpoint sum) before
        ∙ ap (λ z. newer ++ Checkpoint z ∷ []) sums.0)
    by_first newer (Setup site engine protocol items) before all at b =
        let none : before ≡ [] = written_at newer (Setup site engine protocol items) before (subst AreWritten all w) in
        whole (at ∙ ap (bytes_of site_frame) none)
    by_first newer (Start n) before all at b = absurd b
    by_first newer (Prepared t e n k v) before all at b = absurd b
    by_first newer (Ended t d) before all at b = absurd b
    by_first newer (Local t n v) before all at b = absurd b

    by_front : (d.trimmed ≡ 0) ⊎ IsTrimmed home d.records d.synced d.trimmed → Counts home d.records (standing site_frame d.trimmed d.records)
    by_front (inl e) = whole e
    by_front (inr t) = by_first t.newer t.first t.before t.all t.at t.begins

pub counts : OfSortedEvents (λ home past. Counts home (records home past) (journal home past))
counts home local events sorted =
    let past = site_past home events in
    on_disk home (disk home past) (founded home past) (written_past home local events sorted).written (pasts_summed home local events sorted)

-- ---- those in doubt

-- two of a list of which any two are apart
pair_apart : (ks : List Kept) → AllApart ks → (x y : Kept) → In x ks → In y ks → (x ≡ y) ⊎ (AreApart x y ⊎ AreApart y x)
pair_apart [] all x y i j = absurd i
pair_apart (k ∷ ks) all x y (inl e) (inl f) = inl (sym e ∙ f)
pair_apart (k ∷ ks) all x y (inl e) (inr j) = inr (inl (subst (λ z. AreApart z y) e (each_at (AreApart k) y ks all.0 j)))
pair_apart (k ∷ ks) all x y (inr i) (inl f) = inr (inr (subst (λ z. AreApart z x) f (each_at (AreApart k) x ks all.0 i)))
pair_apart (k ∷ ks) all x y (inr i) (inr j) = pair_apart ks all.1 x y i j

in_kept : (hs : List Held) (h : Held) → In h hs → In (kept_held h) (map kept_held hs)
in_kept [] h i = i
in_kept (x ∷ hs) h (inl e) = inl (ap kept_held e)
in_kept (x ∷ hs) h (inr i) = inr (in_kept hs h i)

other_way : (x y : Kept) → AreApart y x → AreApart x y
other_way x y apart = record {
  tids = alike_other y.tid x.tid apart.tids;
  keys = rows_apart y.writes x.writes apart.keys;
  order = elim apart.order [ inl o ↦ inr o | inr o ↦ inl o ];
}
  where
    alike_other : (a b : Tid) → same_tid a b ≡ false → same_tid b a ≡ false
    alike_other a b e = grind arith

are_apart : (a b : Held) → same_tid a.tid b.tid ≡ false → (kept_held a ≡ kept_held b) ⊎ (AreApart (kept_held a) (kept_held b) ⊎ AreApart (kept_held b) (kept_held a))
    → AreApart (kept_held a) (kept_held b)
are_apart a b other (inl e) =
    let clash : true ≡ false = sym (same_tid-refl a.tid) ∙ ap (λ (k : Kept). same_tid a.tid k.tid) e ∙ other in cc
are_apart a b other (inr (inl apart)) = apart
are_apart a b other (inr (inr apart)) = other_way (kept_held a) (kept_held b) apart

stays_behind : (held : Held) (o : Install) → StaysBelow (due_install held) o → IsBehind held o
stays_behind held o (inl less) = λ more. absurd (omega (arith, less, more))
stays_behind held o (inr clear) = λ more. clear

pub no_keys : (writes : List Put) → KeepClear writes []
no_keys writes = each_all (λ (put : Put). has_row put.key [] ≡ false) (λ put. refl) writes

-- those in doubt behind these records are apart, and behind what is committed
pub record AreHeld (ks : List SiteRecord) : Type 0 where
  pub apart : (a b : Held) → In a (doubts ks) → In b (doubts ks) → same_tid a.tid b.tid ≡ false → AreApart (kept_held a) (kept_held b)
  pub behind : Each (λ held. Each (IsBehind held) (installs ks)) (doubts ks)

-- and so it is at every front of the journal
abbrev pub AllHeld : List SiteRecord → Type 0
AllHeld [] = Unit {0}
AllHeld (newest ∷ older) = AreHeld (counted (newest ∷ older)) × AllHeld older

pub held_of : (home : Home) (rs ks : List SiteRecord) → StartsWell home rs → DoubtsFit rs → doubts ks ≡ doubts rs
    → ((P : Install → Type 0) → ((tid : Tid) (n : ℕ) → P (record { tid = tid; number = n; writes = [] })) → Each P (installs rs) → Each P (installs ks)) → AreHeld ks
held_of home rs ks starts fit same sub = record {
  apart = λ a b i j other.
      let here = subst (In a) same i in
      let there = subst (In b) same j in
      are_apart a b other (pair_apart (map kept_held (doubts rs)) starts.apart (kept_held a) (kept_held b) (in_kept (doubts rs) a here) (in_kept (doubts rs) b there));
  behind = each_from (λ held. Each (IsBehind held) (installs ks)) (doubts ks)
      (λ held i. sub (IsBehind held) (λ tid n more. no_keys held.writes)
      (each_map (StaysBelow (due_install held)) (IsBehind held) (stays_behind held) (installs rs)
      (fit held.tid held (doubts_are rs held (subst (In held) same i)))));
}

no_doubt : (ks : List SiteRecord) → doubts ks ≡ [] → AreHeld ks
no_doubt ks e = record {
  apart = λ a b i j other. absurd (subst (In a) e i);
  behind = subst (λ hs. Each (λ held. Each (IsBehind held) (installs ks)) hs) (sym e) tt;
}

held_whole : (home : Home) (newer : List SiteRecord) → OfFronts (StartsWell home) (newer ++ foundation home) → AllFit (newer ++ foundation home) → AllHeld (newer ++ foundation home)
held_whole home [] starts fit = (
  no_doubt (counted (foundation home)) refl,
  (no_doubt (counted (Setup home.site home.engine home.protocol home.items ∷ [])) refl, tt),
)
held_whole home (r ∷ newer) starts fit = (
  subst AreHeld (sym (count_founded home (r ∷ newer)))
      (held_of home (r ∷ (newer ++ foundation home)) (r ∷ (newer ++ foundation home)) starts.0 fit.0 refl (λ P blank all. all)),
  held_whole home newer starts.1 fit.1,
)

held_behind : (home : Home) (newer before : List SiteRecord) → OfFronts (StartsWell home) (newer ++ Checkpoint (site_sum home before) ∷ before)
    → AllFit (newer ++ Checkpoint (site_sum home before) ∷ before) → AllHeld (newer ++ Checkpoint (site_sum home before) ∷ [])
held_behind home [] before starts fit = (
  held_of home (Checkpoint (site_sum home before) ∷ before) (counts_as (site_sum home before)) starts.0 fit.0 (doubts_read home [] before)
      (λ P blank all. installs_read home P blank [] before all),
  tt,
)
held_behind home (r ∷ newer) before starts fit = (
  subst AreHeld (sym (count_behind (r ∷ newer) (site_sum home before)))
      (held_of home (r ∷ (newer ++ Checkpoint (site_sum home before) ∷ before)) (r ∷ (newer ++ counts_as (site_sum home before))) starts.0 fit.0
      (doubts_read home (r ∷ newer) before) (λ P blank all. installs_read home P blank (r ∷ newer) before all)),
  held_behind home newer before starts.1 fit.1,
)

all_held : (home : Home) (rs js : List SiteRecord) → Counts home rs js → OfFronts (StartsWell home) rs → AllFit rs → AllHeld js
all_held home rs js (Whole newer e f) starts fit =
    subst AllHeld (sym f) (held_whole home newer (subst (OfFronts (StartsWell home)) e starts) (subst AllFit e fit))
all_held home rs js (Behind newer before e f) starts fit =
    subst AllHeld (sym f) (held_behind home newer before (subst (OfFronts (StartsWell home)) e starts) (subst AllFit e fit))

pasts_held : OfSortedEvents (λ home past. AllHeld (journal home past))
pasts_held home local events sorted =
    let past = site_past home events in
    all_held home (records home past) (journal home past) (counts home local events sorted) (well_past home local events sorted).starts
    (orders_past home local events sorted).orderly.all.fit

fronts_apart : (js : List SiteRecord) → AllHeld js → OfFronts DoubtsApart js
fronts_apart [] h = λ a b i j other. absurd i
fronts_apart (j ∷ js) h = (h.0.apart, fronts_apart js h.1)

fronts_behind : (js : List SiteRecord) → AllHeld js → OfFronts AreBehind js
fronts_behind [] h = tt
fronts_behind (j ∷ js) h = (h.0.behind, fronts_behind js h.1)

pub leave_doubts : OfSites DoubtsStandInOrder
leave_doubts = of_events (λ home past. DoubtsStandInOrder home (journal home past))
    (λ home local events sorted.
    let held = pasts_held home local events sorted in
    let js = journal home (site_past home events) in (fronts_apart js held, fronts_behind js held))

-- ---- local commits

abbrev OnTop : List Put → ℕ → Install → Type 0
OnTop writes number i = (i.number < number) ⊎ KeepClear writes i.writes

rise_whole : (home : Home) (newer : List SiteRecord) → ComeInOrder (newer ++ foundation home) → LocalsOnTop (newer ++ foundation home)
rise_whole home [] c = tt
rise_whole home (Local t n w ∷ newer) c =
    (subst (λ ks. Each (OnTop w n) (installs ks)) (sym (count_founded home newer)) c.0, rise_whole home newer c.1)
rise_whole home (Setup site engine protocol items ∷ newer) c = rise_whole home newer c
rise_whole home (Start e ∷ newer) c = rise_whole home newer c
rise_whole home (Prepared t e n k w ∷ newer) c = rise_whole home newer c
rise_whole home (Ended t Decided.Abort ∷ newer) c = rise_whole home newer c
rise_whole home (Ended t Decided.Commit ∷ newer) c = rise_whole home newer c.1
rise_whole home (Checkpoint sum ∷ newer) c = rise_whole home newer c

rise_behind : (home : Home) (newer before : List SiteRecord) → ComeInOrder (newer ++ Checkpoint (site_sum home before) ∷ before)
    → LocalsOnTop (newer ++ Checkpoint (site_sum home before) ∷ [])
rise_behind home [] before c = tt
rise_behind home (Local t n w ∷ newer) before c = (
  subst (λ ks. Each (OnTop w n) (installs ks)) (sym (count_behind newer (site_sum home before)))
      (installs_read home (OnTop w n) (λ tid m. inr (no_keys w)) newer before c.0),
  rise_behind home newer before c.1,
)
rise_behind home (Setup site engine protocol items ∷ newer) before c = rise_behind home newer before c
rise_behind home (Start e ∷ newer) before c = rise_behind home newer before c
rise_behind home (Prepared t e n k w ∷ newer) before c = rise_behind home newer before c
rise_behind home (Ended t Decided.Abort ∷ newer) before c = rise_behind home newer before c
rise_behind home (Ended t Decided.Commit ∷ newer) before c = rise_behind home newer before c.1
rise_behind home (Checkpoint sum ∷ newer) before c = rise_behind home newer before c

locals_rise : (home : Home) (rs js : List SiteRecord) → Counts home rs js → ComeInOrder rs → LocalsOnTop js
locals_rise home rs js (Whole newer e f) c = subst LocalsOnTop (sym f) (rise_whole home newer (subst ComeInOrder e c))
locals_rise home rs js (Behind newer before e f) c = subst LocalsOnTop (sym f) (rise_behind home newer before (subst ComeInOrder e c))

pasts_rise : OfSortedEvents (λ home past. LocalsOnTop (journal home past))
pasts_rise home local events sorted =
    let past = site_past home events in
    locals_rise home (records home past) (journal home past) (counts home local events sorted) (orders_past home local events sorted).orderly.all.order

pub leave_locals : OfSites LocalsStandInOrder
leave_locals = of_events (λ home past. LocalsOnTop (journal home past)) pasts_rise

-- ---- the first record

oldest_is : (r last : SiteRecord) (newer : List SiteRecord) → oldest r (newer ++ last ∷ []) ≡ last
oldest_is r last [] = refl
oldest_is r last (x ∷ newer) = oldest_is x last newer

pub first_is : (last : SiteRecord) (newer : List SiteRecord) → first_of (newer ++ last ∷ []) ≡ Some last
first_is last [] = refl
first_is last (r ∷ newer) = ap (λ z. Some z) (oldest_is r last newer)

pub first_founded : (home : Home) (newer : List SiteRecord) → first_of (newer ++ foundation home) ≡ Some (Setup home.site home.engine home.protocol home.items)
first_founded home [] = refl
first_founded home (r ∷ newer) = ap (λ z. Some z) (oldest_founded r newer)
  where
    oldest_founded : (x : SiteRecord) (xs : List SiteRecord) → oldest x (xs ++ foundation home) ≡ Setup home.site home.engine home.protocol home.items
    oldest_founded x [] = refl
    oldest_founded x (y ∷ ys) = oldest_founded y ys

of_site : (home : Home) (rs js : List SiteRecord) → Counts home rs js → IsFirstOfSite home js
of_site home rs js (Whole newer e f) =
    subst (λ o. IsOfSite home.site.0 (home_of_first o)) (sym (ap first_of f ∙ first_founded home newer)) refl
of_site home rs js (Behind newer before e f) =
    subst (λ o. IsOfSite home.site.0 (home_of_first o)) (sym (ap first_of f ∙ first_is (Checkpoint (site_sum home before)) newer)) refl

pub leave_first : OfSites IsFirstOfSite
leave_first = of_events (λ home past. IsFirstOfSite home (journal home past))
    (λ home local events sorted. of_site home (records home (site_past home events)) (journal home (site_past home events)) (counts home local events sorted))

-- ---- what a Checkpoint has

-- each that was prepared has a number and a ticket
abbrev pub AreMarked : List SiteRecord → Type 0
AreMarked [] = Unit {0}
AreMarked (Prepared t e n k w ∷ rs) = (1 ≤ n) × (1 ≤ k) × AreMarked rs
AreMarked (r ∷ rs) = AreMarked rs

pub marked : (home : Home) (rs : List SiteRecord) → OfFronts (StartsWell home) rs → AreMarked rs
marked home [] starts = tt
marked home (Prepared t e n k w ∷ rs) starts =
    let held : Held = record { tid = t; epoch = e; number = n; ticket = k; writes = w } in
    let here : doubt_of (Prepared t e n k w ∷ rs) t ≡ Some held = ap (λ b. cond b (Some held) (doubt_of rs t)) (same_tid-refl t) in
    let is = each_at (IsNumbered (start_of home (Prepared t e n k w ∷ rs))) (kept_held held) (map kept_held (doubts (Prepared t e n k w ∷ rs))) starts.0.numbered
    (in_kept (doubts (Prepared t e n k w ∷ rs)) held (are_doubt (Prepared t e n k w ∷ rs) held here)) in
    (is.number_some, is.ticket_some, marked home rs starts.1)
marked home (Setup site engine protocol items ∷ rs) starts = marked home rs starts.1
marked home (Start e ∷ rs) starts = marked home rs starts.1
marked home (Ended t d ∷ rs) starts = marked home rs starts.1
marked home (Local t n w ∷ rs) starts = marked home rs starts.1
marked home (Checkpoint sum ∷ rs) starts = marked home rs starts.1

pub owner_is : (rs : List SiteRecord) → is_some (ticket_owner rs) ≡ nat_lt 0 (last_ticket rs)
owner_is [] = refl
owner_is (Prepared t e n k w ∷ rs) = by_test (nat_lt (last_ticket rs) k) refl (owner_is rs)
  where
    by_test : (b : Bool) → nat_lt (last_ticket rs) k ≡ b → is_some (ticket_owner rs) ≡ nat_lt 0 (last_ticket rs)
        → is_some (cond b (Some t) (ticket_owner rs)) ≡ nat_lt 0 (max k (last_ticket rs))
    by_test true q old = let less = ltb-true (last_ticket rs) k q in sym (lt-ltb 0 (max k (last_ticket rs)) (omega (arith, less)))
    by_test false q old = old ∙ ap (λ z. nat_lt 0 z) (not_more k (last_ticket rs) q)
      where
        not_more : (a b : ℕ) → nat_lt b a ≡ false → b ≡ max a b
        not_more a b f = let most = ltb-false b a f in omega (arith, most)
owner_is (Setup site engine protocol items ∷ rs) = owner_is rs
owner_is (Start e ∷ rs) = owner_is rs
owner_is (Ended t d ∷ rs) = owner_is rs
owner_is (Local t n w ∷ rs) = owner_is rs
owner_is (Checkpoint sum ∷ rs) = owner_is rs

pub owner_counts : (rs : List SiteRecord) → AreMarked rs → nat_lt 0 (last_ticket rs) ≡ true → 1 ≤ last_number rs
owner_counts [] m e = cc
owner_counts (Prepared t e n k w ∷ rs) m q = let one = m.0 in omega (arith, one)
owner_counts (Local t n w ∷ rs) m q = let rest = owner_counts rs m q in omega (arith, rest)
owner_counts (Setup site engine protocol items ∷ rs) m q = owner_counts rs m q
owner_counts (Start e ∷ rs) m q = owner_counts rs m q
owner_counts (Ended t d ∷ rs) m q = owner_counts rs m q
owner_counts (Checkpoint sum ∷ rs) m q = owner_counts rs m q

some_inserted : (before : Tid → Tid → Bool) (x : Tid) (ys : List Tid) → inserted before x ys ≡ [] → ⊥
some_inserted before x [] e = cc
some_inserted before x (y ∷ ys) e = by_test (before y x) e
  where
    by_test : (b : Bool) → cond b (y ∷ inserted before x ys) (x ∷ y ∷ ys) ≡ [] → ⊥
    by_test true q = cc
    by_test false q = cc

pub none_counts : (rs : List SiteRecord) → AreMarked rs → ticket_owner rs ≡ None → locals_with [] rs ≡ [] → last_number rs ≡ 0
none_counts [] m e f = refl
none_counts (Prepared t e n k w ∷ rs) m none f =
    let one = m.1 in
    let some : nat_lt 0 (max k (last_ticket rs)) ≡ true = lt-ltb 0 (max k (last_ticket rs)) (omega (arith, one)) in
    let is = owner_is (Prepared t e n k w ∷ rs) in
    let clash : false ≡ true = sym (ap is_some none) ∙ is ∙ some in cc
none_counts (Local t n w ∷ rs) m none f = absurd (some_inserted tid_before t (locals_with [] rs) f)
none_counts (Setup site engine protocol items ∷ rs) m none f = none_counts rs m none f
none_counts (Start e ∷ rs) m none f = none_counts rs m none f
none_counts (Ended t d ∷ rs) m none f = none_counts rs m none f
none_counts (Checkpoint sum ∷ rs) m none f = none_counts rs m none f

tickets_differ : (hs : List Held) → AllApart (map kept_held hs) → Distinct (map (λ (held : Held). held.ticket) hs)
tickets_differ [] all = tt
tickets_differ (h ∷ hs) all = (apart hs all.0, tickets_differ hs all.1)
  where
    apart : (xs : List Held) → Each (AreApart (kept_held h)) (map kept_held xs) → In h.ticket (map (λ (held : Held). held.ticket) xs) → ⊥
    apart [] a i = i
    apart (x ∷ xs) a (inr i) = apart xs a.1 i
    apart (x ∷ xs) a (inl e) = elim a.0.order [
      | inl o ↦ (let less = o.1 in omega (arith, less, e))
      | inr o ↦ (let less = o.1 in omega (arith, less, e))
    ]

pub within : (home : Home) (before : List SiteRecord) → OfFronts (StartsWell home) before → IsWithin (site_sum home before)
within home before starts =
    let now = whole_of_fronts (StartsWell home) before starts in
    let numbered = each_of_map (IsNumbered (start_of home before)) kept_held (doubts before) now.numbered in
    record {
      numbers = each_map (λ (held : Held). IsNumbered (start_of home before) (kept_held held)) (λ held. held.number ≤ last_number before) (λ held is. is.number_kept) (doubts before) numbered;
      tickets = each_map (λ (held : Held). IsNumbered (start_of home before) (kept_held held)) (λ held. held.ticket ≤ last_ticket before) (λ held is. is.ticket_kept) (doubts before) numbered;
      differ = tickets_differ (doubts before) now.apart;
    }

all_within : (home : Home) (rs : List SiteRecord) → OfFronts (StartsWell home) rs → AreSums home rs → Each AreWithin rs
all_within home [] starts s = tt
all_within home (Checkpoint sum ∷ rs) starts s = (subst IsWithin (sym s.0) (within home rs starts.1), all_within home rs starts.1 s.1)
all_within home (Setup site engine protocol items ∷ rs) starts s = (tt, all_within home rs starts.1 s)
all_within home (Start e ∷ rs) starts s = (tt, all_within home rs starts.1 s)
all_within home (Prepared t e n k w ∷ rs) starts s = (tt, all_within home rs starts.1 s)
all_within home (Ended t d ∷ rs) starts s = (tt, all_within home rs starts.1 s)
all_within home (Local t n w ∷ rs) starts s = (tt, all_within home rs starts.1 s)

pub each_counted : (home : Home) (P : SiteRecord → Type 0) (rs js : List SiteRecord) → Counts home rs js → Each P rs → Each P js
each_counted home P rs js (Whole newer e f) a = subst (Each P) (e ∙ sym f) a
each_counted home P rs js (Behind newer before e f) a =
    let (front, rest) = each_append P newer (Checkpoint (site_sum home before) ∷ before) (subst (Each P) e a) in
    subst (Each P) (sym f) (append_each P newer (Checkpoint (site_sum home before) ∷ []) front (rest.0, tt))

pub leave_sums : OfSites SumsAreWithin
leave_sums = of_events (λ home past. Each AreWithin (journal home past))
    (λ home local events sorted.
    let past = site_past home events in
    each_counted home AreWithin (records home past) (journal home past) (counts home local events sorted)
    (all_within home (records home past) (well_past home local events sorted).starts (pasts_summed home local events sorted).sums))
