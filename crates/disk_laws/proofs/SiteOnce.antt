-- In a site's journal each attempt is prepared and ended once, and each transaction commits once as a local one, none of which is a global one.
use Rattle.std.proofs.Common.{◌≡◌, ℕ, Bool, true, false, cond, is_some, Some, List, [], ◌∷◌, ◌++◌, map, refl, sym, ap, subst, ◌∙◌, inl, inr}
use Rattle.std.specs.Prelude.{nat_lt}
use Rattle.mdb_base.specs.declared.names.Tid.{Tid}
use Rattle.mdb_base.specs.declared.names.Tx.{Tx}
use Rattle.mdb_base.specs.declared.rows.Put.{Put}
use Rattle.mdb_base.specs.Names.{tid_before}
use Rattle.mdb_base.specs.Words.{Among, Each, inserted}
use Rattle.mdb_base.proofs.ForCallers.{among_append, among_behind, among_split}
use Rattle.order_laws.specs.Chains.{In}
use Rattle.order_laws.proofs.ForCallers.{among_is, among_map, among_weaker, same_of}
use Rattle.fed_rules.specs.declared.records.SiteRecord.{SiteRecord}
use Rattle.fed_rules.specs.declared.records.SiteRecord.TheVariants.{Setup, Start, Prepared, Ended, Local, Checkpoint}
use Rattle.fed_rules.specs.EngineLines.{AllApart, AreApart}
use Rattle.fed_rules.specs.Reopened.{local_read}
use Rattle.fed_rules.specs.Scenarios.{home_of}
use Rattle.fed_rules.specs.Site.{site_past}
use Rattle.fed_rules.specs.SitePast.{SitePast, journal, records}
use Rattle.fed_rules.specs.SiteRecords.{Held, Home, doubt_of, doubts, kept_held, last_ticket, ticket_owner}
use Rattle.fed_rules.specs.SiteSums.{carried, locals_with, site_sum}
use Rattle.fed_rules.specs.Story.{past_of, story_of}
use Rattle.fed_rules.specs.Usable.{AreParted, IsGlobalOf, IsLocalOf, IsPreparedOf, OnceEach, counted, OfFronts}
use Rattle.federation_laws.proofs.ForCallers.{IsLocal, local-once, local-record}
use Rattle.site_history.proofs.ForCallers.{IsSortedRecord, StartsWell, doubt_in, doubt_prepared, doubts_are, foundation, locals_from, of_events, orders_past, pasts_summed, record_of, sites_serial, stories_right, well_past}
use Rattle.site_history.specs.Records.{Binds, BindOnce}
use Rattle.site_history.specs.SiteOrders.{OfSortedEvents}
use Rattle.site_history.specs.Sums.{AreSums, ComeInOrder}
use Rattle.disk_laws.specs.Left.{OfSites, OfGoodSites, AttemptsAreOnce, LocalsArePartedFromGlobals}
use Rattle.disk_laws.proofs.ReadRecords.{among_insert}
use Rattle.disk_laws.proofs.SiteLeft.{counts}
use Rattle.disk_laws.proofs.SiteRead.{Counts, Whole, Behind, count_behind, count_founded, counts_as, doubt_read}
use Rattle.disk_laws.proofs.SiteWalk.{AreWritten, written_past}

prepared_binds : (t : Tid) (r : SiteRecord) → IsPreparedOf t r → Binds t r
prepared_binds t (Prepared u e n k w) p = p
prepared_binds t (Setup site engine protocol items) p = absurd p
prepared_binds t (Start e) p = absurd p
prepared_binds t (Ended u d) p = absurd p
prepared_binds t (Local u n w) p = absurd p
prepared_binds t (Checkpoint sum) p = absurd p

-- ---- each transaction has one Local

abbrev OneLocal : List SiteRecord → Type 0
OneLocal [] = Unit {0}
OneLocal (Local t n w ∷ rs) = (Among (IsLocalOf t.tx) rs → ⊥) × OneLocal rs
OneLocal (r ∷ rs) = OneLocal rs

pub local_at : (tx : Tx) (rs : List SiteRecord) → Among (IsLocalOf tx) rs → (t : Tid) × IsLocal rs t × (t.tx ≡ tx)
local_at tx [] m = absurd m
local_at tx (Local t n w ∷ rs) (inl e) = (t, record { number = n; writes = w; kept = inl refl }, e)
local_at tx (Setup site engine protocol items ∷ rs) (inl never) = absurd never
local_at tx (Start e ∷ rs) (inl never) = absurd never
local_at tx (Prepared t e n k w ∷ rs) (inl never) = absurd never
local_at tx (Ended t d ∷ rs) (inl never) = absurd never
local_at tx (Checkpoint sum ∷ rs) (inl never) = absurd never
local_at tx (r ∷ rs) (inr m) = let f = local_at tx rs m in (f.0, record { number = f.1.number; writes = f.1.writes; kept = inr f.1.kept }, f.2)

local_bound : (rs : List SiteRecord) (t : Tid) (n : ℕ) (w : List Put) → In (Local t n w) rs → Among (Binds t) rs
local_bound [] t n w i = i
local_bound (r ∷ rs) t n w (inl e) = inl (subst (Binds t) (sym e) refl)
local_bound (r ∷ rs) t n w (inr i) = inr (local_bound rs t n w i)

one_local : (rs : List SiteRecord) → ((a b : Tid) → IsLocal rs a → IsLocal rs b → a.tx ≡ b.tx → a ≡ b) → BindOnce rs → OneLocal rs
one_local [] one once = tt
one_local (Local t n w ∷ rs) one once = (
  (λ m.
      let (u, l, e) = local_at t.tx rs m in
      let same = one u t (record { number = l.number; writes = l.writes; kept = inr l.kept }) (record { number = n; writes = w; kept = inl refl }) e in
      once.0 (subst (λ z. Among (Binds z) rs) same (local_bound rs u l.number l.writes l.kept))),
  one_local rs (λ a b p q. one a b (record { number = p.number; writes = p.writes; kept = inr p.kept }) (record { number = q.number; writes = q.writes; kept = inr q.kept })) once.1,
)
one_local (Prepared t e n k w ∷ rs) one once =
    one_local rs (λ a b p q. one a b (record { number = p.number; writes = p.writes; kept = inr p.kept }) (record { number = q.number; writes = q.writes; kept = inr q.kept })) once.1
one_local (Setup site engine protocol items ∷ rs) one once =
    one_local rs (λ a b p q. one a b (record { number = p.number; writes = p.writes; kept = inr p.kept }) (record { number = q.number; writes = q.writes; kept = inr q.kept })) once
one_local (Start e ∷ rs) one once =
    one_local rs (λ a b p q. one a b (record { number = p.number; writes = p.writes; kept = inr p.kept }) (record { number = q.number; writes = q.writes; kept = inr q.kept })) once
one_local (Ended t d ∷ rs) one once =
    one_local rs (λ a b p q. one a b (record { number = p.number; writes = p.writes; kept = inr p.kept }) (record { number = q.number; writes = q.writes; kept = inr q.kept })) once
one_local (Checkpoint sum ∷ rs) one once =
    one_local rs (λ a b p q. one a b (record { number = p.number; writes = p.writes; kept = inr p.kept }) (record { number = q.number; writes = q.writes; kept = inr q.kept })) once

-- ---- of a Checkpoint

abbrev pub OneOfTx : List Tid → Type 0
OneOfTx [] = Unit {0}
OneOfTx (t ∷ ts) = (Among (λ (u : Tid). u.tx ≡ t.tx) ts → ⊥) × OneOfTx ts

pub one_inserted : (x : Tid) (ys : List Tid) → (Among (λ (u : Tid). u.tx ≡ x.tx) ys → ⊥) → OneOfTx ys → OneOfTx (inserted tid_before x ys)
one_inserted x [] none o = ((λ m. m), tt)
one_inserted x (y ∷ ys) none o = by_test (tid_before y x) (one_inserted x ys (λ m. none (inr m)) o.1)
  where
    by_test : (b : Bool) → OneOfTx (inserted tid_before x ys) → OneOfTx (cond b (y ∷ inserted tid_before x ys) (x ∷ y ∷ ys))
    by_test false rest = (none, o)
    by_test true rest = (
      (λ m. elim (among_insert tid_before (λ (u : Tid). u.tx ≡ y.tx) x ys m) [ inl e ↦ none (inl (sym e)) | inr i ↦ o.0 i ]),
      rest,
    )

one_of_locals : (rs : List SiteRecord) → OneLocal rs → OneOfTx (locals_with [] rs)
one_of_locals [] o = tt
one_of_locals (Local t n w ∷ rs) o = one_inserted t (locals_with [] rs) (λ m. o.0 (locals_from t.tx rs m)) (one_of_locals rs o.1)
one_of_locals (Setup site engine protocol items ∷ rs) o = one_of_locals rs o
one_of_locals (Start e ∷ rs) o = one_of_locals rs o
one_of_locals (Prepared t e n k w ∷ rs) o = one_of_locals rs o
one_of_locals (Ended t d ∷ rs) o = one_of_locals rs o
one_of_locals (Checkpoint sum ∷ rs) o = one_of_locals rs o

once_locals : (n : ℕ) (ts : List Tid) → OneOfTx ts → OnceEach (map (local_read n) ts)
once_locals n [] o = tt
once_locals n (t ∷ ts) o = ((λ m. o.0 (among_map (IsLocalOf t.tx) (local_read n) ts m)), once_locals n ts o.1)

pub no_prepared : (t : Tid) (n : ℕ) (ts : List Tid) → Among (IsPreparedOf t) (map (local_read n) ts) → ⊥
no_prepared t n [] m = m
no_prepared t n (u ∷ ts) (inl never) = never
no_prepared t n (u ∷ ts) (inr m) = no_prepared t n ts m

no_locals : (tx : Tx) (hs : List Held) → Among (IsLocalOf tx) (carried hs) → ⊥
no_locals tx [] m = m
no_locals tx (h ∷ hs) (inl never) = never
no_locals tx (h ∷ hs) (inr m) = no_locals tx hs m

carried_tid : (t : Tid) (hs : List Held) → Among (IsPreparedOf t) (carried hs) → Among (λ (h : Held). h.tid ≡ t) hs
carried_tid t [] m = m
carried_tid t (h ∷ hs) (inl e) = inl e
carried_tid t (h ∷ hs) (inr m) = inr (carried_tid t hs m)

pub once_carried : (n : ℕ) (hs : List Held) (ts : List Tid) → AllApart (map kept_held hs) → OneOfTx ts → OnceEach (carried hs ++ map (local_read n) ts)
once_carried n [] ts apart o = once_locals n ts o
once_carried n (h ∷ hs) ts apart o = (
  (λ m. elim (among_split (IsPreparedOf h.tid) (carried hs) (map (local_read n) ts) m) [
    | inl i ↦ other hs apart.0 (carried_tid h.tid hs i)
    | inr i ↦ no_prepared h.tid n ts i
  ]),
  once_carried n hs ts apart.1 o,
)
  where
    other : (xs : List Held) → Each (AreApart (kept_held h)) (map kept_held xs) → Among (λ (x : Held). x.tid ≡ h.tid) xs → ⊥
    other [] a i = i
    other (x ∷ xs) a (inl e) = let same = same_of h.tid x.tid (sym e) in let clash : true ≡ false = sym same ∙ a.0.tids in cc
    other (x ∷ xs) a (inr i) = other xs a.1 i

pub prepared_from : (before : List SiteRecord) (t : Tid) (hs : List Held) → ((h : Held) → In h hs → In h (doubts before)) → Among (λ (h : Held). h.tid ≡ t) hs → Among (IsPreparedOf t) before
prepared_from before t hs sub m =
    let (h, i, e) = among_is (λ (x : Held). x.tid ≡ t) hs m in place before (record_of h) (doubt_in before h.tid h (doubts_are before h (sub h i))) e
  where
    place : (rs : List SiteRecord) (r : SiteRecord) → In r rs → IsPreparedOf t r → Among (IsPreparedOf t) rs
    place [] r i p = i
    place (x ∷ rs) r (inl e) p = inl (subst (IsPreparedOf t) (sym e) p)
    place (x ∷ rs) r (inr i) p = inr (place rs r i p)

prepared_read : (home : Home) (before : List SiteRecord) (t : Tid) → Among (IsPreparedOf t) (counts_as (site_sum home before)) → Among (IsPreparedOf t) (Checkpoint (site_sum home before) ∷ before)
prepared_read home before t m =
    elim (among_split (IsPreparedOf t) (carried (doubts before)) (map (local_read (site_sum home before).counter) (locals_with [] before)) m) [
      | inl i ↦ inr (prepared_from before t (doubts before) (λ h j. j) (carried_tid t (doubts before) i))
      | inr i ↦ absurd (no_prepared t (site_sum home before).counter (locals_with [] before) i)
    ]

pub local_read_from : (home : Home) (before : List SiteRecord) (tx : Tx) → Among (IsLocalOf tx) (counts_as (site_sum home before)) → Among (IsLocalOf tx) (Checkpoint (site_sum home before) ∷ before)
local_read_from home before tx m =
    elim (among_split (IsLocalOf tx) (carried (doubts before)) (map (local_read (site_sum home before).counter) (locals_with [] before)) m) [
      | inl i ↦ absurd (no_locals tx (doubts before) i)
      | inr i ↦ inr (locals_from tx before (among_map (IsLocalOf tx) (local_read (site_sum home before).counter) (locals_with [] before) i))
    ]

-- ---- with the newer records

pub over : (P : SiteRecord → Type 0) (newer rest short : List SiteRecord) → (Among P short → Among P rest) → Among P (newer ++ short) → Among P (newer ++ rest)
over P newer rest short sub m = elim (among_split P newer short m) [ inl i ↦ among_append P newer rest i | inr i ↦ among_behind P newer rest (sub i) ]

once_over : (newer rest short : List SiteRecord) → ((xs : List SiteRecord) (t : Tid) → doubt_of (xs ++ short) t ≡ doubt_of (xs ++ rest) t)
    → ((t : Tid) → Among (IsPreparedOf t) short → Among (IsPreparedOf t) rest) → ((tx : Tx) → Among (IsLocalOf tx) short → Among (IsLocalOf tx) rest)
    → OnceEach short → BindOnce (newer ++ rest) → OneLocal (newer ++ rest) → AreWritten (newer ++ rest) → OnceEach (newer ++ short)
once_over [] rest short same prep loc base once one w = base
once_over (Prepared t e n k v ∷ newer) rest short same prep loc base once one w = (
  (λ m. once.0 (among_weaker (IsPreparedOf t) (Binds t) (prepared_binds t) (newer ++ rest) (over (IsPreparedOf t) newer rest short (prep t) m))),
  once_over newer rest short same prep loc base once.1 one w.1,
)
once_over (Ended t d ∷ newer) rest short same prep loc base once one w = (
  (λ m. ap is_some (same newer t ∙ w.0.1)),
  once_over newer rest short same prep loc base once one w.1,
)
once_over (Local t n v ∷ newer) rest short same prep loc base once one w = (
  (λ m. one.0 (over (IsLocalOf t.tx) newer rest short (loc t.tx) m)),
  once_over newer rest short same prep loc base once.1 one.1 w.1,
)
once_over (Setup site engine protocol items ∷ newer) rest short same prep loc base once one w = once_over newer rest short same prep loc base once one w.1
once_over (Start e ∷ newer) rest short same prep loc base once one w = once_over newer rest short same prep loc base once one w.1
once_over (Checkpoint sum ∷ newer) rest short same prep loc base once one w = once_over newer rest short same prep loc base once one w.1

one_front : (newer rs : List SiteRecord) → OneLocal (newer ++ rs) → OneLocal rs
one_front [] rs o = o
one_front (Local t n w ∷ newer) rs o = one_front newer rs o.1
one_front (Setup site engine protocol items ∷ newer) rs o = one_front newer rs o
one_front (Start e ∷ newer) rs o = one_front newer rs o
one_front (Prepared t e n k w ∷ newer) rs o = one_front newer rs o
one_front (Ended t d ∷ newer) rs o = one_front newer rs o
one_front (Checkpoint sum ∷ newer) rs o = one_front newer rs o

pub starts_front : (home : Home) (newer rs : List SiteRecord) → OfFronts (StartsWell home) (newer ++ rs) → OfFronts (StartsWell home) rs
starts_front home [] rs s = s
starts_front home (x ∷ newer) rs s = starts_front home newer rs s.1

once_counted : (home : Home) (rs js : List SiteRecord) → Counts home rs js → OfFronts (StartsWell home) rs → BindOnce rs → OneLocal rs → AreWritten rs → OnceEach (counted js)
once_counted home rs js (Whole newer e f) starts once one w =
    subst OnceEach (sym (ap counted f ∙ count_founded home newer))
    (once_over newer (foundation home) (foundation home) (λ xs t. refl) (λ t m. m) (λ tx m. m) tt (subst BindOnce e once) (subst OneLocal e one) (subst AreWritten e w))
once_counted home rs js (Behind newer before e f) starts once one w =
    let start = (starts_front home newer (Checkpoint (site_sum home before) ∷ before) (subst (OfFronts (StartsWell home)) e starts)).0 in
    let mine = one_front newer (Checkpoint (site_sum home before) ∷ before) (subst OneLocal e one) in
    subst OnceEach (sym (ap counted f ∙ count_behind newer (site_sum home before)))
    (once_over newer (Checkpoint (site_sum home before) ∷ before) (counts_as (site_sum home before)) (λ xs t. doubt_read home xs before t) (prepared_read home before)
    (local_read_from home before) (once_carried (site_sum home before).counter (doubts before) (locals_with [] before) start.apart (one_of_locals before mine))
    (subst BindOnce e once) (subst OneLocal e one) (subst AreWritten e w))

-- what is known beside the events' being sorted
pub record Known (home : Home) (past : SitePast) : Type 0 where
  pub counts : Counts home (records home past) (journal home past)
  pub starts : OfFronts (StartsWell home) (records home past)
  pub written : AreWritten (records home past)
  pub sums : AreSums home (records home past)
  pub order : ComeInOrder (records home past)

pub pasts_known : OfSortedEvents Known
pasts_known home local events sorted = record {
  counts = counts home local events sorted;
  starts = (well_past home local events sorted).starts;
  written = (written_past home local events sorted).written;
  sums = (pasts_summed home local events sorted).sums;
  order = (orders_past home local events sorted).orderly.all.order;
}

pub leave_once : OfGoodSites AttemptsAreOnce
leave_once scenario good commands site home declared =
    let past = past_of home.site (story_of scenario commands) in
    let k = of_events Known pasts_known scenario commands site home declared in
    let once = (sites_serial scenario commands site home declared).once in
    let here : home_of scenario home.site ≡ Some home = Rattle.fed_rules.proofs.ForCallers.home-again scenario site home declared in
    once_counted home (records home past) (journal home past) k.counts k.starts once
    (one_local (records home past)
    (λ a b p q s. local-once stories_right scenario good commands home here a b (local-record scenario commands home a here p) s (inr p) (inr q)) once)
    k.written

-- ---- none of them is a global one

pub local_yes : (local : Tx → Bool) (tx : Tx) (rs : List SiteRecord) → Each (IsSortedRecord local) rs → Among (IsLocalOf tx) rs → local tx ≡ true
local_yes local tx [] s m = absurd m
local_yes local tx (Local t n w ∷ rs) s (inl e) = ap local (sym e) ∙ s.0
local_yes local tx (Setup site engine protocol items ∷ rs) s (inl never) = absurd never
local_yes local tx (Start e ∷ rs) s (inl never) = absurd never
local_yes local tx (Prepared t e n k w ∷ rs) s (inl never) = absurd never
local_yes local tx (Ended t d ∷ rs) s (inl never) = absurd never
local_yes local tx (Checkpoint sum ∷ rs) s (inl never) = absurd never
local_yes local tx (r ∷ rs) s (inr m) = local_yes local tx rs s.1 m

pub prepared_no : (local : Tx → Bool) (t : Tid) (rs : List SiteRecord) → Each (IsSortedRecord local) rs → Among (IsPreparedOf t) rs → local t.tx ≡ false
prepared_no local t [] s m = absurd m
prepared_no local t (Prepared u e n k w ∷ rs) s (inl e2) = ap (λ (z : Tid). local z.tx) (sym e2) ∙ s.0
prepared_no local t (Setup site engine protocol items ∷ rs) s (inl never) = absurd never
prepared_no local t (Start e ∷ rs) s (inl never) = absurd never
prepared_no local t (Local u n w ∷ rs) s (inl never) = absurd never
prepared_no local t (Ended u d ∷ rs) s (inl never) = absurd never
prepared_no local t (Checkpoint sum ∷ rs) s (inl never) = absurd never
prepared_no local t (r ∷ rs) s (inr m) = prepared_no local t rs s.1 m

pub owner_prepared : (rs : List SiteRecord) (t : Tid) → ticket_owner rs ≡ Some t → Among (IsPreparedOf t) rs
owner_prepared [] t e = cc
owner_prepared (Prepared u d n k w ∷ rs) t e = by_test (nat_lt (last_ticket rs) k) e (owner_prepared rs t)
  where
    by_test : (b : Bool) → cond b (Some u) (ticket_owner rs) ≡ Some t → (ticket_owner rs ≡ Some t → Among (IsPreparedOf t) rs) → Among (IsPreparedOf t) (Prepared u d n k w ∷ rs)
    by_test true q h = inl (Rattle.mdb_base.proofs.ForCallers.some_parts q)
    by_test false q h = inr (h q)
owner_prepared (Setup site engine protocol items ∷ rs) t e = inr (owner_prepared rs t e)
owner_prepared (Start n ∷ rs) t e = inr (owner_prepared rs t e)
owner_prepared (Ended u d ∷ rs) t e = inr (owner_prepared rs t e)
owner_prepared (Local u n w ∷ rs) t e = inr (owner_prepared rs t e)
owner_prepared (Checkpoint sum ∷ rs) t e = inr (owner_prepared rs t e)

sum_no : (home : Home) (local : Tx → Bool) (tx : Tx) (before : List SiteRecord) → Each (IsSortedRecord local) before → IsGlobalOf tx (Checkpoint (site_sum home before)) → local tx ≡ false
sum_no home local tx before s (inl m) =
    let (h, i, e) = among_is (λ (x : Held). x.tid.tx ≡ tx) (doubts before) m in
    ap local (sym e) ∙ prepared_no local h.tid before s (prepared_from before h.tid (doubts before) (λ x j. j) (here (doubts before) h i))
  where
    here : (hs : List Held) (h : Held) → In h hs → Among (λ (x : Held). x.tid ≡ h.tid) hs
    here [] h i = i
    here (x ∷ hs) h (inl e) = inl (ap (λ (y : Held). y.tid) e)
    here (x ∷ hs) h (inr i) = inr (here hs h i)
sum_no home local tx before s (inr (t, owned, e)) = ap local (sym e) ∙ prepared_no local t before s (owner_prepared before t owned)

global_no : (home : Home) (local : Tx → Bool) (tx : Tx) (rs : List SiteRecord) → AreSums home rs → Each (IsSortedRecord local) rs → AreWritten rs → Among (IsGlobalOf tx) rs → local tx ≡ false
global_no home local tx [] a s w m = absurd m
global_no home local tx (Prepared t e n k w ∷ rs) a s x (inl q) = ap local (sym q) ∙ s.0
global_no home local tx (Prepared t e n k w ∷ rs) a s x (inr m) = global_no home local tx rs a s.1 x.1 m
global_no home local tx (Ended t d ∷ rs) a s x (inl q) = ap local (sym q) ∙ prepared_no local t rs s.1 (doubt_prepared rs t x.0.0 x.0.1)
global_no home local tx (Ended t d ∷ rs) a s x (inr m) = global_no home local tx rs a s.1 x.1 m
global_no home local tx (Checkpoint sum ∷ rs) a s x (inl q) = sum_no home local tx rs s.1 (subst (λ z. IsGlobalOf tx (Checkpoint z)) a.0 q)
global_no home local tx (Checkpoint sum ∷ rs) a s x (inr m) = global_no home local tx rs a.1 s.1 x.1 m
global_no home local tx (Setup site engine protocol items ∷ rs) a s x (inl never) = absurd never
global_no home local tx (Setup site engine protocol items ∷ rs) a s x (inr m) = global_no home local tx rs a s.1 x.1 m
global_no home local tx (Start e ∷ rs) a s x (inl never) = absurd never
global_no home local tx (Start e ∷ rs) a s x (inr m) = global_no home local tx rs a s.1 x.1 m
global_no home local tx (Local t n w ∷ rs) a s x (inl never) = absurd never
global_no home local tx (Local t n w ∷ rs) a s x (inr m) = global_no home local tx rs a s.1 x.1 m

parted : (home : Home) (local : Tx → Bool) (rs js : List SiteRecord) → Counts home rs js → AreSums home rs → Each (IsSortedRecord local) rs → AreWritten rs → AreParted (counted js) js
parted home local rs js (Whole newer e f) a s w = λ tx l g.
    let yes = local_yes local tx rs s (subst (Among (IsLocalOf tx)) (ap counted f ∙ count_founded home newer ∙ sym e) l) in
    let wrong = global_no home local tx rs a s w (subst (Among (IsGlobalOf tx)) (f ∙ sym e) g) in let clash : true ≡ false = sym yes ∙ wrong in cc
parted home local rs js (Behind newer before e f) a s w = λ tx l g.
    let sum = Checkpoint (site_sum home before) in
    let yes = local_yes local tx rs s (subst (Among (IsLocalOf tx)) (sym e)
    (over (IsLocalOf tx) newer (sum ∷ before) (counts_as (site_sum home before)) (local_read_from home before tx)
    (subst (Among (IsLocalOf tx)) (ap counted f ∙ count_behind newer (site_sum home before)) l))) in
    let wrong = global_no home local tx rs a s w (subst (Among (IsGlobalOf tx)) (sym e)
    (over (IsGlobalOf tx) newer (sum ∷ before) (sum ∷ []) (λ m. elim m [ inl q ↦ inl q | inr never ↦ absurd never ]) (subst (Among (IsGlobalOf tx)) f g))) in
    let clash : true ≡ false = sym yes ∙ wrong in cc

pub leave_parted : OfSites LocalsArePartedFromGlobals
leave_parted = of_events (λ home past. AreParted (counted (journal home past)) (journal home past))
    (λ home local events sorted.
    let past = site_past home events in
    parted home local (records home past) (journal home past) (counts home local events sorted) (pasts_summed home local events sorted).sums
    (well_past home local events sorted).sorted (written_past home local events sorted).written)
