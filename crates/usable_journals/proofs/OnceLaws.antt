-- The sets of a site's attempts with more records.
use Rattle.std.proofs.Common.{ℕ, ◌+◌, ◌-◌, ◌<◌, ◌≤◌, ◌≡◌, Bool, true, false, not, cond, is_some, ◌&&◌, ◌||◌, Option, Some, None, List, [], ◌∷◌, ◌++◌, length, take, drop, map, reverse, get_or, refl, sym, ap, ap₂, subst, ◌∙◌, ◌↔◌, arith}
use Rattle.std.proofs.lemmas.List.{append_assoc, append-nil, map-append, reverse-append}
use Rattle.std.specs.Ordering.{is_eq}
use Rattle.std.specs.BTreeSet.{BTreeSet, contains}
use Rattle.mdb_base.specs.declared.names.Tid.{Tid}
use Rattle.mdb_base.specs.declared.names.Tx.{Tx}
use Rattle.mdb_base.specs.declared.rows.Put.{Put}
use Rattle.mdb_base.specs.Names.{same_tid, same_tx, tid_cmp, tx_cmp}
use Rattle.mdb_base.specs.Words.{Among, some_of}
use Rattle.presumptions.specs.declared.Decision.{Decision}
use Rattle.fed_rules.specs.declared.records.SiteRecord.{SiteRecord}
use Rattle.fed_rules.specs.declared.records.SiteRecord.TheVariants.{Setup, Start, Prepared, Ended, Local, Checkpoint}
use Rattle.fed_rules.specs.SiteRecords.{Held, doubt_of}
use Rattle.fed_rules.specs.Usable.{IsLocalOf, IsPreparedOf, OnceEach, counted}
use Rattle.order_laws.proofs.ForCallers.{same_of}
use Rattle.mdb_base.proofs.ForCallers.{and_fails, is_true_both, is_true_parts, same_tid-equal, same_tx-equal, same_tx-refl, tid_ties}
use Rattle.usable_journals.proofs.Reflected as Told
use Rattle.usable_journals.specs.declared.site_once.Once.{Once}
use Rattle.usable_journals.specs.SiteTests.{is_local_of, is_prepared_of, may_stand, once_each}
use Rattle.usable_journals.specs.OnceTold.{IsGood, Takes, TakesAll, Tells}
use Rattle.usable_journals.proofs.Recording.{Gets, GetsTx, drop_one, fronts, reverse_more, reverse_rest}
use Rattle.usable_journals.proofs.Sets.{with_tid, with_tx}

some_held : (b : Bool) (held : Held) (o : Option Held) → is_some (cond b (Some held) o) ≡ cond b true (is_some o)
some_held true held o = refl
some_held false held o = refl

none_held : (b : Bool) (o : Option Held) → is_some (cond b None o) ≡ cond b false (is_some o)
none_held true o = refl
none_held false o = refl

pub prepares : (old : Once) (prepared in_doubt : BTreeSet Tid) (tid : Tid) (epoch number ticket : ℕ) (writes : List Put) (added : Bool) → added ≡ not (contains tid_cmp old.prepared tid) →
    Gets old.in_doubt in_doubt tid → Gets old.prepared prepared tid →
    Takes old (record { prepared = prepared; in_doubt = in_doubt; locals = old.locals }) (Prepared tid epoch number ticket writes) added
prepares old prepared in_doubt tid epoch number ticket writes added is d p records t = (
  is ∙ ap not (t.prepared tid),
  record {
    prepared = λ q. with_tid tid q _ _ _ (p q) (t.prepared q);
    in_doubt = λ q.
        d q ∙ ap₂ (λ a b. cond a true b) (tid_ties tid q) (t.in_doubt q)
        ∙ sym (some_held (same_tid tid q) (record { tid = tid; epoch = epoch; number = number; ticket = ticket; writes = writes }) (doubt_of records q));
    locals = t.locals;
  },
)

pub ends : (old : Once) (in_doubt : BTreeSet Tid) (tid : Tid) (decision : Decision) (was held : Bool) → was ≡ contains tid_cmp old.in_doubt tid → held ≡ contains tid_cmp old.prepared tid →
    ((q : Tid) → contains tid_cmp in_doubt q ≡ cond (is_eq (tid_cmp tid q)) false (contains tid_cmp old.in_doubt q)) →
    Takes old (record { prepared = old.prepared; in_doubt = in_doubt; locals = old.locals }) (Ended tid decision) (was || not held)
ends old in_doubt tid decision was held is one gone records t = (
  ap₂ (λ a b. a || not b) (is ∙ t.in_doubt tid) (one ∙ t.prepared tid),
  record {
    prepared = t.prepared;
    in_doubt = λ q. gone q ∙ ap₂ (λ a b. cond a false b) (tid_ties tid q) (t.in_doubt q) ∙ sym (none_held (same_tid tid q) (doubt_of records q));
    locals = t.locals;
  },
)

pub commits : (old : Once) (locals : BTreeSet Tx) (tid : Tid) (number : ℕ) (writes : List Put) (added : Bool) → added ≡ not (contains tx_cmp old.locals tid.tx) → GetsTx old.locals locals tid.tx →
    Takes old (record { prepared = old.prepared; in_doubt = old.in_doubt; locals = locals }) (Local tid number writes) added
commits old locals tid number writes added is l records t =
    (is ∙ ap not (t.locals tid.tx), record { prepared = t.prepared; in_doubt = t.in_doubt; locals = λ q. with_tx tid.tx q _ _ _ (l q) (t.locals q) })

-- ---- several records

stays_false : (newer older : List SiteRecord) → once_each older ≡ false → once_each (newer ++ older) ≡ false
stays_false [] older e = e
stays_false (newest ∷ newer) older e = and_fails (may_stand newest (newer ++ older)) (once_each (newer ++ older)) (stays_false newer older e)

pub takes_none : (r : Once) → TakesAll r r [] true
takes_none r records good = (sym good.stands, λ e. good.tells)

pub takes_one : (before after : Once) (entry : SiteRecord) (fits : Bool) → Takes before after entry fits → TakesAll before after (entry ∷ []) fits
takes_one before after entry fits takes records good =
    let one = takes records good.tells in
    (one.0 ∙ sym (and_true (may_stand entry records) (once_each records) good.stands), λ e. one.1)
  where
    and_true : (a b : Bool) → b ≡ true → (a && b) ≡ a
    and_true true b e = e
    and_true false b e = refl

pub takes_then : (a b c : Once) (xs ys : List SiteRecord) (fits : Bool) → TakesAll a b xs true → TakesAll b c ys fits → TakesAll a c (ys ++ xs) fits
takes_then a b c xs ys fits first second records good =
    let one = first records good in
    let two = second (xs ++ records) (record { tells = one.1 refl; stands = sym one.0 }) in
    subst (λ (rs : List SiteRecord). (fits ≡ once_each rs) × (fits ≡ true → Tells c rs)) (sym (append_assoc ys xs records)) two

pub takes_stop : (a b c : Once) (xs ys : List SiteRecord) → TakesAll a b xs false → TakesAll a c (ys ++ xs) false
takes_stop a b c xs ys first records good =
    let one = first records good in
    (sym (ap once_each (append_assoc ys xs records) ∙ stays_false ys (xs ++ records) (sym one.0)), λ e. absurd cc)

pub all_next : (a b c : Once) (xs : List SiteRecord) (n : ℕ) (d : SiteRecord) (fits : Bool) → n < length xs → TakesAll a b (reverse (take n xs)) true → Takes b c (get_or xs n d) fits →
    TakesAll a c (reverse (take (n + 1) xs)) fits
all_next a b c xs n d fits within first next =
    subst (λ ys. TakesAll a c ys fits) (sym (reverse_more xs n d within))
    (takes_then a b c (reverse (take n xs)) (get_or xs n d ∷ []) fits first (takes_one b c (get_or xs n d) fits next))

pub all_last : (a b c : Once) (xs : List SiteRecord) (n : ℕ) → TakesAll a b (reverse (take n xs)) false → TakesAll a c (reverse xs) false
all_last a b c xs n first = subst (λ ys. TakesAll a c ys false) (sym (reverse_rest xs n)) (takes_stop a b c (reverse (take n xs)) (reverse (drop n xs)) first)

pub takes_next : {A : Type 0} (read : A → SiteRecord) (a b c : Once) (xs : List A) (n : ℕ) (d : A) (fits : Bool) → 1 ≤ n → n ≤ length xs →
    TakesAll a b (map read (drop n xs)) true → Takes b c (read (get_or xs (n - 1) d)) fits → TakesAll a c (map read (drop (n - 1) xs)) fits
takes_next read a b c xs n d fits some within first next =
    subst (λ ys. TakesAll a c (map read ys) fits) (sym (drop_one xs n d some within))
    (takes_then a b c (map read (drop n xs)) (read (get_or xs (n - 1) d) ∷ []) fits first (takes_one b c (read (get_or xs (n - 1) d)) fits next))

pub takes_last : {A : Type 0} (read : A → SiteRecord) (a b c : Once) (xs : List A) (n : ℕ) → TakesAll a b (map read (drop n xs)) false → TakesAll a c (map read xs) false
takes_last read a b c xs n first =
    subst (λ ys. TakesAll a c (map read ys) false) (sym (fronts xs n))
    (subst (λ ys. TakesAll a c ys false) (sym (map-append read (take n xs) (drop n xs)))
    (takes_stop a b c (map read (drop n xs)) (map read (take n xs)) first))

pub takes_whole : {A : Type 0} (read : A → SiteRecord) (a b : Once) (xs : List A) (n : ℕ) → n ≤ 0 → TakesAll a b (map read (drop n xs)) true → TakesAll a b (map read xs) true
takes_whole read a b xs n none all = let zero_left : n ≡ 0 = omega arith in subst (λ m. TakesAll a b (map read (drop m xs)) true) zero_left all

-- ---- a whole journal

pub counted_behind : (newer : List SiteRecord) (first : SiteRecord) → counted (newer ++ first ∷ []) ≡ newer ++ counted (first ∷ [])
counted_behind [] first = refl
counted_behind (x ∷ newer) first = next x newer (counted_behind newer first)
  where
    next : (r : SiteRecord) (rs : List SiteRecord) → counted (rs ++ first ∷ []) ≡ rs ++ counted (first ∷ []) → counted (r ∷ (rs ++ first ∷ [])) ≡ r ∷ (rs ++ counted (first ∷ []))
    next (Setup site engine protocol items) rs e = ap (λ ys. Setup site engine protocol items ∷ ys) e
    next (Start epoch) rs e = ap (λ ys. Start epoch ∷ ys) e
    next (Prepared tid epoch number ticket writes) rs e = ap (λ ys. Prepared tid epoch number ticket writes ∷ ys) e
    next (Ended tid decision) rs e = ap (λ ys. Ended tid decision ∷ ys) e
    next (Local tid number writes) rs e = ap (λ ys. Local tid number writes ∷ ys) e
    next (Checkpoint sum) [] e = refl
    next (Checkpoint sum) (y ∷ rs) e = ap (λ ys. Checkpoint sum ∷ ys) e

pub counted_split : (first : SiteRecord) (newer : List SiteRecord) → counted (reverse (first ∷ newer)) ≡ reverse newer ++ counted (first ∷ [])
counted_split first newer = ap counted (reverse-append (first ∷ []) newer) ∙ counted_behind (reverse newer) first

prepared_tells : (tid : Tid) → Told.Tells (is_prepared_of tid) (IsPreparedOf tid)
prepared_tells tid = record { there = there; back = back }
  where
    there : (r : SiteRecord) → is_prepared_of tid r ≡ true → IsPreparedOf tid r
    there (Prepared prepared epoch number ticket writes) e = same_tid-equal prepared tid e
    there (Setup site engine protocol items) e = absurd cc
    there (Start epoch) e = absurd cc
    there (Ended ended decision) e = absurd cc
    there (Local done number writes) e = absurd cc
    there (Checkpoint sum) e = absurd cc

    back : (r : SiteRecord) → IsPreparedOf tid r → is_prepared_of tid r ≡ true
    back (Prepared prepared epoch number ticket writes) e = same_of prepared tid e
    back (Setup site engine protocol items) e = absurd e
    back (Start epoch) e = absurd e
    back (Ended ended decision) e = absurd e
    back (Local done number writes) e = absurd e
    back (Checkpoint sum) e = absurd e

pub local_tells : (tx : Tx) → Told.Tells (is_local_of tx) (IsLocalOf tx)
local_tells tx = record { there = there; back = back }
  where
    there : (r : SiteRecord) → is_local_of tx r ≡ true → IsLocalOf tx r
    there (Local done number writes) e = same_tx-equal done.tx tx e
    there (Setup site engine protocol items) e = absurd cc
    there (Start epoch) e = absurd cc
    there (Prepared prepared epoch number ticket writes) e = absurd cc
    there (Ended ended decision) e = absurd cc
    there (Checkpoint sum) e = absurd cc

    back : (r : SiteRecord) → IsLocalOf tx r → is_local_of tx r ≡ true
    back (Local done number writes) e = subst (λ t. same_tx done.tx t ≡ true) e (same_tx-refl done.tx)
    back (Setup site engine protocol items) e = absurd e
    back (Start epoch) e = absurd e
    back (Prepared prepared epoch number ticket writes) e = absurd e
    back (Ended ended decision) e = absurd e
    back (Checkpoint sum) e = absurd e

none_of : {A : Type 0} (test : A → Bool) (P : A → Type 0) → Told.Tells test P → Told.Tells (λ xs. not (some_of test xs)) (λ xs. Among P xs → ⊥)
none_of test P t = Told.tells_not (some_of test) (Among P) (Told.tells_some test P t)

-- either the attempt is in doubt, or none was prepared
ended_there : (tid : Tid) (rs : List SiteRecord) → (is_some (doubt_of rs tid) || not (some_of (is_prepared_of tid) rs)) ≡ true → Among (IsPreparedOf tid) rs → is_some (doubt_of rs tid) ≡ true
ended_there tid rs e among = by_test (is_some (doubt_of rs tid)) e
  where
    by_test : (b : Bool) → (b || not (some_of (is_prepared_of tid) rs)) ≡ true → b ≡ true
    by_test true f = refl
    by_test false f = absurd ((none_of _ _ (prepared_tells tid)).there rs f among)

ended_back : (tid : Tid) (rs : List SiteRecord) → (Among (IsPreparedOf tid) rs → is_some (doubt_of rs tid) ≡ true) → (is_some (doubt_of rs tid) || not (some_of (is_prepared_of tid) rs)) ≡ true
ended_back tid rs k = by_test (is_some (doubt_of rs tid)) refl
  where
    clash : (b : Bool) → b ≡ false → b ≡ true → ⊥
    clash true e f = cc
    clash false e f = cc

    by_test : (b : Bool) → is_some (doubt_of rs tid) ≡ b → (b || not (some_of (is_prepared_of tid) rs)) ≡ true
    by_test true f = refl
    by_test false f = (none_of _ _ (prepared_tells tid)).back rs (λ among. clash (is_some (doubt_of rs tid)) f (k among))

pub once_there : (rs : List SiteRecord) → once_each rs ≡ true → OnceEach rs
once_there [] e = tt
once_there (Prepared tid epoch number ticket writes ∷ rs) e =
    let both = is_true_parts (may_stand (Prepared tid epoch number ticket writes) rs) (once_each rs) e in ((none_of _ _ (prepared_tells tid)).there rs both.0, once_there rs both.1)
once_there (Ended tid decision ∷ rs) e = let both = is_true_parts (may_stand (Ended tid decision) rs) (once_each rs) e in (ended_there tid rs both.0, once_there rs both.1)
once_there (Local tid number writes ∷ rs) e =
    let both = is_true_parts (may_stand (Local tid number writes) rs) (once_each rs) e in ((none_of _ _ (local_tells tid.tx)).there rs both.0, once_there rs both.1)
once_there (Setup site engine protocol items ∷ rs) e = once_there rs e
once_there (Start epoch ∷ rs) e = once_there rs e
once_there (Checkpoint sum ∷ rs) e = once_there rs e

pub once_back : (rs : List SiteRecord) → OnceEach rs → once_each rs ≡ true
once_back [] h = refl
once_back (Prepared tid epoch number ticket writes ∷ rs) h = is_true_both (may_stand (Prepared tid epoch number ticket writes) rs) (once_each rs) ((none_of _ _ (prepared_tells tid)).back rs h.0) (once_back rs h.1)
once_back (Ended tid decision ∷ rs) h = is_true_both (may_stand (Ended tid decision) rs) (once_each rs) (ended_back tid rs h.0) (once_back rs h.1)
once_back (Local tid number writes ∷ rs) h = is_true_both (may_stand (Local tid number writes) rs) (once_each rs) ((none_of _ _ (local_tells tid.tx)).back rs h.0) (once_back rs h.1)
once_back (Setup site engine protocol items ∷ rs) h = once_back rs h
once_back (Start epoch ∷ rs) h = once_back rs h
once_back (Checkpoint sum ∷ rs) h = once_back rs h

pub says_once : (first : SiteRecord) (newer : List SiteRecord) (a b : Once) (fits : Bool) → IsGood a [] → TakesAll a b (reverse newer ++ counted (first ∷ [])) fits →
    (fits ≡ true) ↔ OnceEach (counted (reverse (first ∷ newer)))
says_once first newer a b fits good all =
    let is : fits ≡ once_each (counted (reverse (first ∷ newer))) =
    (all [] good).0 ∙ ap once_each (append-nil (reverse newer ++ counted (first ∷ [])) ∙ sym (counted_split first newer)) in
    (λ e. once_there (counted (reverse (first ∷ newer))) (sym is ∙ e), λ h. is ∙ once_back (counted (reverse (first ∷ newer))) h)

pub empty_once : (records : List SiteRecord) → length records ≡ 0 → (true ≡ true) ↔ OnceEach (counted (reverse records))
empty_once [] none = (λ e. tt, λ h. refl)
empty_once (x ∷ records) none = absurd (omega (arith, none))
