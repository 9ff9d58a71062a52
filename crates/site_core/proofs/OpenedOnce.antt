-- In a usable journal no transaction has two Local records, what a first Checkpoint is read as included, and none has lines of both kinds.
use Rattle.std.proofs.Common.{◌≡◌, ◌⊎◌, ℕ, Bool, true, false, cond, Option, Some, None, List, [], ◌∷◌, ◌++◌, map, refl, sym, ap, ◌∙◌, subst, inl, inr}
use Rattle.std.proofs.lemmas.Bool.{or_cases}
use Rattle.mdb_base.specs.declared.names.Tid.{Tid}
use Rattle.mdb_base.specs.declared.names.Tx.{Tx}
use Rattle.mdb_base.specs.Names.{same_tx}
use Rattle.mdb_base.specs.Words.{Among}
use Rattle.fed_rules.specs.declared.records.SiteRecord.{SiteRecord}
use Rattle.fed_rules.specs.declared.records.SiteRecord.TheVariants as Rec
use Rattle.fed_rules.specs.declared.sums.SiteSum.{SiteSum}
use Rattle.fed_rules.specs.Reopened.{all_named, local_read, owner_named, owner_read, site_names, site_reads_as, was_global as named_global, was_local as named_local}
use Rattle.fed_rules.specs.SitePast.{SitePast}
use Rattle.fed_rules.specs.SiteRecords.{Held, Home, local_of}
use Rattle.fed_rules.specs.SiteSums.{carried, locals_with}
use Rattle.fed_rules.specs.Usable.{AreParted, IsGlobalOf, IsLocalOf, OnceEach, counted}
use Rattle.site_history.specs.Sums.{AreSums}
use Rattle.site_history.proofs.ForCallers.{all_read, below, beside, counted_more, foundation, in_parts, locals_from}
use Rattle.site_core.specs.Made.{is_of_global, is_of_local, was_global, was_local}
use Rattle.site_core.specs.Recovered.{LocalsOnce}
use Rattle.site_core.proofs.ToldApart.{came_append}
use Rattle.mdb_base.proofs.ForCallers.{same_tx-equal}

-- ---- the Local records

-- a transaction without a Local record has none that committed
none_local : (rs : List SiteRecord) (tx : Tx) → (Among (IsLocalOf tx) rs → ⊥) → local_of rs tx ≡ None
none_local [] tx none = refl
none_local (Rec.Setup site engine protocol items ∷ rs) tx none = none_local rs tx (λ a. none (inr a))
none_local (Rec.Start n ∷ rs) tx none = none_local rs tx (λ a. none (inr a))
none_local (Rec.Prepared t e n ticket writes ∷ rs) tx none = none_local rs tx (λ a. none (inr a))
none_local (Rec.Ended t d ∷ rs) tx none = none_local rs tx (λ a. none (inr a))
none_local (Rec.Checkpoint sum ∷ rs) tx none = none_local rs tx (λ a. none (inr a))
none_local (Rec.Local t n writes ∷ rs) tx none = by_test (same_tx t.tx tx) refl (none_local rs tx (λ a. none (inr a)))
  where
    by_test : (b : Bool) → same_tx t.tx tx ≡ b → local_of rs tx ≡ None → cond b (Some t) (local_of rs tx) ≡ None
    by_test true e rest = absurd (none (inl (same_tx-equal t.tx tx e)))
    by_test false e rest = rest

among_carried : (tx : Tx) (held : List Held) (rs : List SiteRecord) → Among (IsLocalOf tx) (carried held ++ rs) → Among (IsLocalOf tx) rs
among_carried tx [] rs a = a
among_carried tx (h ∷ held) rs (inl e) = absurd e
among_carried tx (h ∷ held) rs (inr a) = among_carried tx held rs a

more_carried : (tx : Tx) (held : List Held) (rs : List SiteRecord) → Among (IsLocalOf tx) rs → Among (IsLocalOf tx) (carried held ++ rs)
more_carried tx [] rs a = a
more_carried tx (h ∷ held) rs a = inr (more_carried tx held rs a)

-- behind the local ones stands none
none_owner : (home : Home) (tx : Tx) (o : Option Tid) (sum : SiteSum) → Among (IsLocalOf tx) (owner_read o sum ++ below home sum) → ⊥
none_owner home tx None sum (inl e) = e
none_owner home tx None sum (inr (inl e)) = e
none_owner home tx None sum (inr (inr (inl e))) = e
none_owner home tx None sum (inr (inr (inr e))) = e
none_owner home tx (Some owner) sum (inl e) = e
none_owner home tx (Some owner) sum (inr (inl e)) = e
none_owner home tx (Some owner) sum (inr (inr (inl e))) = e
none_owner home tx (Some owner) sum (inr (inr (inr (inl e)))) = e
none_owner home tx (Some owner) sum (inr (inr (inr (inr (inl e))))) = e
none_owner home tx (Some owner) sum (inr (inr (inr (inr (inr e))))) = e

among_front : (tx : Tx) (n : ℕ) (tids : List Tid) (rs : List SiteRecord) → (Among (IsLocalOf tx) rs → ⊥) → Among (IsLocalOf tx) (map (local_read n) tids ++ rs)
    → Among (IsLocalOf tx) (map (local_read n) tids)
among_front tx n [] rs none a = absurd (none a)
among_front tx n (t ∷ tids) rs none (inl e) = inl e
among_front tx n (t ∷ tids) rs none (inr a) = inr (among_front tx n tids rs none a)

-- a Local among all that is read is counted
first_counted : (home : Home) (tx : Tx) (first : SiteRecord) → Among (IsLocalOf tx) (first ∷ (site_reads_as first ++ foundation home)) → Among (IsLocalOf tx) (counted (first ∷ []))
first_counted home tx (Rec.Checkpoint sum) (inl e) = absurd e
first_counted home tx (Rec.Checkpoint sum) (inr a) =
    let parts = subst (Among (IsLocalOf tx)) (in_parts home sum) a in
    let locals = among_carried tx sum.doubtful (beside home sum) parts in
    more_carried tx sum.doubtful (map (local_read sum.counter) sum.locals)
    (among_front tx sum.counter sum.locals (owner_read sum.owner sum ++ below home sum) (none_owner home tx sum.owner sum) locals)
first_counted home tx (Rec.Setup site engine protocol items) (inl e) = absurd e
first_counted home tx (Rec.Setup site engine protocol items) (inr (inl e)) = absurd e
first_counted home tx (Rec.Setup site engine protocol items) (inr (inr (inl e))) = absurd e
first_counted home tx (Rec.Setup site engine protocol items) (inr (inr (inr (inl e)))) = absurd e
first_counted home tx (Rec.Setup site engine protocol items) (inr (inr (inr (inr e)))) = absurd e
first_counted home tx (Rec.Start n) (inl e) = absurd e
first_counted home tx (Rec.Start n) (inr (inl e)) = absurd e
first_counted home tx (Rec.Start n) (inr (inr (inl e))) = absurd e
first_counted home tx (Rec.Start n) (inr (inr (inr (inl e)))) = absurd e
first_counted home tx (Rec.Start n) (inr (inr (inr (inr e)))) = absurd e
first_counted home tx (Rec.Prepared t e n ticket writes) (inl w) = absurd w
first_counted home tx (Rec.Prepared t e n ticket writes) (inr (inl w)) = absurd w
first_counted home tx (Rec.Prepared t e n ticket writes) (inr (inr (inl w))) = absurd w
first_counted home tx (Rec.Prepared t e n ticket writes) (inr (inr (inr (inl w)))) = absurd w
first_counted home tx (Rec.Prepared t e n ticket writes) (inr (inr (inr (inr w)))) = absurd w
first_counted home tx (Rec.Ended t d) (inl w) = absurd w
first_counted home tx (Rec.Ended t d) (inr (inl w)) = absurd w
first_counted home tx (Rec.Ended t d) (inr (inr (inl w))) = absurd w
first_counted home tx (Rec.Ended t d) (inr (inr (inr (inl w)))) = absurd w
first_counted home tx (Rec.Ended t d) (inr (inr (inr (inr w)))) = absurd w
first_counted home tx (Rec.Local t n writes) (inl e) = inl e
first_counted home tx (Rec.Local t n writes) (inr (inl w)) = absurd w
first_counted home tx (Rec.Local t n writes) (inr (inr (inl w))) = absurd w
first_counted home tx (Rec.Local t n writes) (inr (inr (inr (inl w)))) = absurd w
first_counted home tx (Rec.Local t n writes) (inr (inr (inr (inr w)))) = absurd w

among_counted : (home : Home) (tx : Tx) (newest : SiteRecord) (older : List SiteRecord) → Among (IsLocalOf tx) (all_read home newest older) → Among (IsLocalOf tx) (counted (newest ∷ older))
among_counted home tx first [] a = first_counted home tx first a
among_counted home tx newest (next ∷ older) (inl e) = subst (Among (IsLocalOf tx)) (sym (counted_more newest next older)) (inl e)
among_counted home tx newest (next ∷ older) (inr a) = subst (Among (IsLocalOf tx)) (sym (counted_more newest next older)) (inr (among_counted home tx next older a))

-- so no transaction has two of them
once_carried : (held : List Held) (rs : List SiteRecord) → OnceEach (carried held ++ rs) → OnceEach rs
once_carried [] rs o = o
once_carried (h ∷ held) rs o = once_carried held rs o.1

kept_carried : (held : List Held) (rs : List SiteRecord) → LocalsOnce rs → LocalsOnce (carried held ++ rs)
kept_carried [] rs o = o
kept_carried (h ∷ held) rs o = kept_carried held rs o

kept_locals : (n : ℕ) (tids : List Tid) (rs : List SiteRecord) → ((tx : Tx) → Among (IsLocalOf tx) rs → ⊥) → LocalsOnce rs → OnceEach (map (local_read n) tids)
    → LocalsOnce (map (local_read n) tids ++ rs)
kept_locals n [] rs none k o = k
kept_locals n (t ∷ tids) rs none k o = (
  none_local (map (local_read n) tids ++ rs) t.tx (λ a. o.0 (among_front t.tx n tids rs (none t.tx) a)),
  kept_locals n tids rs none k o.1,
)

kept_owner : (home : Home) (o : Option Tid) (sum : SiteSum) → LocalsOnce (owner_read o sum ++ below home sum)
kept_owner home None sum = tt
kept_owner home (Some owner) sum = tt

first_once : (home : Home) (first : SiteRecord) → OnceEach (counted (first ∷ [])) → LocalsOnce (first ∷ (site_reads_as first ++ foundation home))
first_once home (Rec.Checkpoint sum) o =
    subst LocalsOnce (sym (in_parts home sum))
    (kept_carried sum.doubtful (beside home sum)
    (kept_locals sum.counter sum.locals (owner_read sum.owner sum ++ below home sum) (λ tx. none_owner home tx sum.owner sum) (kept_owner home sum.owner sum)
    (once_carried sum.doubtful (map (local_read sum.counter) sum.locals) o)))
first_once home (Rec.Setup site engine protocol items) o = tt
first_once home (Rec.Start n) o = tt
first_once home (Rec.Prepared t e n ticket writes) o = tt
first_once home (Rec.Ended t d) o = tt
first_once home (Rec.Local t n writes) o = (refl, tt)

pub all_once : (home : Home) (newest : SiteRecord) (older : List SiteRecord) → OnceEach (counted (newest ∷ older)) → LocalsOnce (all_read home newest older)
all_once home first [] o = first_once home first o
all_once home newest (next ∷ older) o = by_record newest (subst OnceEach (counted_more newest next older) o) (all_once home next older)
  where
    by_record : (r : SiteRecord) → OnceEach (r ∷ counted (next ∷ older)) → (OnceEach (counted (next ∷ older)) → LocalsOnce (all_read home next older))
        → LocalsOnce (r ∷ all_read home next older)
    by_record (Rec.Local t n writes) o rest = (none_local (all_read home next older) t.tx (λ a. o.0 (among_counted home t.tx next older a)), rest o.1)
    by_record (Rec.Setup site engine protocol items) o rest = rest o
    by_record (Rec.Start n) o rest = rest o
    by_record (Rec.Prepared t e n ticket writes) o rest = rest o.1
    by_record (Rec.Ended t d) o rest = rest o.1
    by_record (Rec.Checkpoint sum) o rest = rest o

-- ---- local and global transactions

-- a local attempt that is named is one of these
named_among : (tx : Tx) (tids : List Tid) → was_local tx (map named_local tids) ≡ true → Among (λ (t : Tid). t.tx ≡ tx) tids
named_among tx [] e = cc
named_among tx (t ∷ tids) e = elim (or_cases (same_tx t.tx tx) (was_local tx (map named_local tids)) e) [
  | inl same ↦ inl (same_tx-equal t.tx tx same)
  | inr rest ↦ inr (named_among tx tids rest)
]

no_local_held : (tx : Tx) (held : List Held) → was_local tx (map (λ (h : Held). named_global h.tid) held) ≡ true → ⊥
no_local_held tx [] e = cc
no_local_held tx (h ∷ held) e = no_local_held tx held e

no_local_owner : (tx : Tx) (o : Option Tid) → was_local tx (owner_named o) ≡ true → ⊥
no_local_owner tx None e = cc
no_local_owner tx (Some t) e = cc

-- of the lines of a Checkpoint those of its local attempts are local
sum_local : (tx : Tx) (sum : SiteSum) → was_local tx (site_names (Rec.Checkpoint sum)) ≡ true → was_local tx (map named_local sum.locals) ≡ true
sum_local tx sum e =
    let held : SitePast = map (λ (h : Held). named_global h.tid) sum.doubtful in
    let locals : SitePast = map named_local sum.locals in
    elim (or_cases (was_local tx (held ++ owner_named sum.owner)) (was_local tx locals) (sym (came_append is_of_local tx (held ++ owner_named sum.owner) locals) ∙ e)) [
      | inr l ↦ l
      | inl g ↦ absurd (elim (or_cases (was_local tx held) (was_local tx (owner_named sum.owner)) (sym (came_append is_of_local tx held (owner_named sum.owner)) ∙ g)) [
        | inl h ↦ no_local_held tx sum.doubtful h
        | inr o ↦ no_local_owner tx sum.owner o
      ])
    ]

-- what is named as local has a Local record that counts
read_among : (tx : Tx) (n : ℕ) (tids : List Tid) → Among (λ (t : Tid). t.tx ≡ tx) tids → Among (IsLocalOf tx) (map (local_read n) tids)
read_among tx n [] a = a
read_among tx n (t ∷ tids) (inl e) = inl e
read_among tx n (t ∷ tids) (inr a) = inr (read_among tx n tids a)

first_local : (tx : Tx) (first : SiteRecord) → was_local tx (site_names first) ≡ true → Among (IsLocalOf tx) (counted (first ∷ []))
first_local tx (Rec.Checkpoint sum) e = more_carried tx sum.doubtful (map (local_read sum.counter) sum.locals) (read_among tx sum.counter sum.locals (named_among tx sum.locals (sum_local tx sum e)))
first_local tx (Rec.Local t n writes) e = elim (or_cases (same_tx t.tx tx) false e) [ inl same ↦ inl (same_tx-equal t.tx tx same) | inr never ↦ cc ]
first_local tx (Rec.Setup site engine protocol items) e = cc
first_local tx (Rec.Start n) e = cc
first_local tx (Rec.Prepared t epoch n ticket writes) e = cc
first_local tx (Rec.Ended t d) e = cc

all_local : (home : Home) (tx : Tx) (newest : SiteRecord) (older : List SiteRecord) → AreSums home (all_read home newest older) → was_local tx (all_named (newest ∷ older)) ≡ true
    → Among (IsLocalOf tx) (counted (newest ∷ older))
all_local home tx first [] fit e = elim (or_cases (was_local tx (site_names first)) false (sym (came_append is_of_local tx (site_names first) []) ∙ e)) [
  | inl here ↦ first_local tx first here
  | inr never ↦ cc
]
all_local home tx newest (next ∷ older) fit e =
    subst (Among (IsLocalOf tx)) (sym (counted_more newest next older))
    (by_record newest fit (or_cases (was_local tx (site_names newest)) (was_local tx (all_named (next ∷ older))) (sym (came_append is_of_local tx (site_names newest) (all_named (next ∷ older))) ∙ e))
    (λ f. all_local home tx next older f))
  where
    rest_fits : (r : SiteRecord) → AreSums home (r ∷ all_read home next older) → AreSums home (all_read home next older)
    rest_fits (Rec.Checkpoint sum) f = f.1
    rest_fits (Rec.Setup site engine protocol items) f = f
    rest_fits (Rec.Start n) f = f
    rest_fits (Rec.Prepared t epoch n ticket writes) f = f
    rest_fits (Rec.Ended t d) f = f
    rest_fits (Rec.Local t n writes) f = f

    here_local : (r : SiteRecord) → AreSums home (r ∷ all_read home next older) → was_local tx (site_names r) ≡ true → Among (IsLocalOf tx) (r ∷ counted (next ∷ older))
    here_local (Rec.Local t n writes) f here = elim (or_cases (same_tx t.tx tx) false here) [ inl same ↦ inl (same_tx-equal t.tx tx same) | inr never ↦ cc ]
    here_local (Rec.Checkpoint sum) f here =
        let rs = all_read home next older in
        let same : sum.locals ≡ locals_with [] rs = ap (λ (s : SiteSum). s.locals) f.0 in
        let named : Among (λ (t : Tid). t.tx ≡ tx) (locals_with [] rs) = subst (Among (λ (t : Tid). t.tx ≡ tx)) same (named_among tx sum.locals (sum_local tx sum here)) in
        inr (among_counted home tx next older (locals_from tx rs named))
    here_local (Rec.Setup site engine protocol items) f here = cc
    here_local (Rec.Start n) f here = cc
    here_local (Rec.Prepared t epoch n ticket writes) f here = cc
    here_local (Rec.Ended t d) f here = cc

    by_record : (r : SiteRecord) → AreSums home (r ∷ all_read home next older) → (was_local tx (site_names r) ≡ true) ⊎ (was_local tx (all_named (next ∷ older)) ≡ true)
        → (AreSums home (all_read home next older) → was_local tx (all_named (next ∷ older)) ≡ true → Among (IsLocalOf tx) (counted (next ∷ older)))
        → Among (IsLocalOf tx) (r ∷ counted (next ∷ older))
    by_record r f (inl here) go = here_local r f here
    by_record r f (inr behind) go = inr (go (rest_fits r f) behind)

-- and what is named as global has a record that says so
held_global : (tx : Tx) (held : List Held) → was_global tx (map (λ (h : Held). named_global h.tid) held) ≡ true → Among (λ (h : Held). h.tid.tx ≡ tx) held
held_global tx [] e = cc
held_global tx (h ∷ held) e = elim (or_cases (same_tx h.tid.tx tx) (was_global tx (map (λ (o : Held). named_global o.tid) held)) e) [
  | inl same ↦ inl (same_tx-equal h.tid.tx tx same)
  | inr rest ↦ inr (held_global tx held rest)
]

owner_global : (tx : Tx) (o : Option Tid) → was_global tx (owner_named o) ≡ true → (tid : Tid) × (o ≡ Some tid) × (tid.tx ≡ tx)
owner_global tx None e = cc
owner_global tx (Some t) e = elim (or_cases (same_tx t.tx tx) false e) [ inl same ↦ (t, refl, same_tx-equal t.tx tx same) | inr never ↦ cc ]

no_global_locals : (tx : Tx) (tids : List Tid) → was_global tx (map named_local tids) ≡ true → ⊥
no_global_locals tx [] e = cc
no_global_locals tx (t ∷ tids) e = no_global_locals tx tids e

record_global : (tx : Tx) (r : SiteRecord) → was_global tx (site_names r) ≡ true → IsGlobalOf tx r
record_global tx (Rec.Prepared t epoch n ticket writes) e = elim (or_cases (same_tx t.tx tx) false e) [ inl same ↦ same_tx-equal t.tx tx same | inr never ↦ cc ]
record_global tx (Rec.Ended t d) e = elim (or_cases (same_tx t.tx tx) false e) [ inl same ↦ same_tx-equal t.tx tx same | inr never ↦ cc ]
record_global tx (Rec.Checkpoint sum) e =
    let held : SitePast = map (λ (h : Held). named_global h.tid) sum.doubtful in
    let locals : SitePast = map named_local sum.locals in
    elim (or_cases (was_global tx (held ++ owner_named sum.owner)) (was_global tx locals) (sym (came_append is_of_global tx (held ++ owner_named sum.owner) locals) ∙ e)) [
      | inr l ↦ absurd (no_global_locals tx sum.locals l)
      | inl g ↦ elim (or_cases (was_global tx held) (was_global tx (owner_named sum.owner)) (sym (came_append is_of_global tx held (owner_named sum.owner)) ∙ g)) [
        | inl h ↦ inl (held_global tx sum.doubtful h)
        | inr o ↦ inr (owner_global tx sum.owner o)
      ]
    ]
record_global tx (Rec.Local t n writes) e = cc
record_global tx (Rec.Setup site engine protocol items) e = cc
record_global tx (Rec.Start n) e = cc

all_global : (tx : Tx) (rs : List SiteRecord) → was_global tx (all_named rs) ≡ true → Among (IsGlobalOf tx) rs
all_global tx [] e = cc
all_global tx (r ∷ rs) e = elim (or_cases (was_global tx (site_names r)) (was_global tx (all_named rs)) (sym (came_append is_of_global tx (site_names r) (all_named rs)) ∙ e)) [
  | inl here ↦ inl (record_global tx r here)
  | inr rest ↦ inr (all_global tx rs rest)
]

-- so the journal tells local and global transactions apart
pub named_apart : (home : Home) (newest : SiteRecord) (older : List SiteRecord) → AreSums home (all_read home newest older) → AreParted (counted (newest ∷ older)) (newest ∷ older)
    → (tx : Tx) → was_global tx (all_named (newest ∷ older)) ≡ true → was_local tx (all_named (newest ∷ older)) ≡ false
named_apart home newest older fit parted tx global = by_test (was_local tx (all_named (newest ∷ older))) refl
  where
    by_test : (b : Bool) → was_local tx (all_named (newest ∷ older)) ≡ b → was_local tx (all_named (newest ∷ older)) ≡ false
    by_test true e = absurd (parted tx (all_local home tx newest older fit e) (all_global tx (newest ∷ older) global))
    by_test false e = e
