use Rattle.std.proofs.Common.{◌≡◌, Bool, true, false, cond, List, [], ◌∷◌, inl, inr, refl, subst, sym}
use Rattle.mdb_base.specs.Words.{Each, some_of, those}
use Rattle.order_laws.specs.Chains.{In, Distinct, Acyclic}
use Rattle.order_laws.specs.Orders.{Before, Union, is_in, TellsApart}
use Rattle.order_laws.specs.Merge.{IsMerge}
use Rattle.order_laws.proofs.Chains.{acyclic_map}
use Rattle.order_laws.proofs.Lists.{each_at, in_those, is_in_true, each_of_at, some_of_is}
use Rattle.order_laws.proofs.Orders.{before_those, line_acyclic}

distinct_behind : {A : Type 0} (test : A → Bool) (x : A) (o : List A) (b : Bool) →
    Distinct (cond b (x ∷ those test o) (those test o)) → Distinct (those test o)
distinct_behind test x o true d = d.1
distinct_behind test x o false d = d

not_again : {A : Type 0} (test : A → Bool) (x : A) (o : List A) (b : Bool) → test x ≡ b → b ≡ true →
    Distinct (cond b (x ∷ those test o) (those test o)) → In x o → ⊥
not_again test x o true e f d i = d.0 (in_those test x o i e)
not_again test x o false e f d i = cc

-- where each item is one of some that stand in the list once, no item stands there twice
distinct_by : {A : Type 0} (o : List A) → ((t : A) → In t o → (test : A → Bool) × (test t ≡ true) × Distinct (those test o)) → Distinct o
distinct_by [] h = tt
distinct_by (x ∷ o) h = (
  λ i. let f = h x (inl refl) in not_again f.0 x o (f.0 x) refl f.1 f.2 i,
  distinct_by o (λ t i. let f = h t (inr i) in (f.0, f.1, distinct_behind f.0 x o (f.0 x) f.2)),
)

-- a merge of orders that name no item twice names none twice
pub merge_distinct : {A : Type 0} (same : A → A → Bool) → (orders : List (List A)) (o : List A) →
    Each Distinct orders → IsMerge same orders o → Distinct o
merge_distinct same orders o d m =
    distinct_by o (λ t i.
    let a = some_of_is (λ ts. is_in same ts t) orders (each_of_at (λ u. some_of (λ ts. is_in same ts u) orders) o t m.named i) in
    (is_in same a.0, a.2, subst Distinct (sym (each_at (λ ts. those (is_in same ts) o ≡ ts) a.0 orders m.kept a.1)) (each_at Distinct a.0 orders d a.1)))

kept_before : {A : Type 0} (same : A → A → Bool) (o : List A) (a b : A) (orders : List (List A)) →
    Each (λ ts. those (is_in same ts) o ≡ ts) orders → Union orders a b → Before o a b
kept_before same o a b [] k u = absurd u
kept_before same o a b (ts ∷ orders) k (inl h) = before_those (is_in same ts) o a b (subst (λ us. Before us a b) (sym k.0) h)
kept_before same o a b (ts ∷ orders) k (inr u) = kept_before same o a b orders k.1 u

-- what stands before another in an order does so in each merge
pub merge_before : {A : Type 0} (same : A → A → Bool) (orders : List (List A)) (o : List A) → IsMerge same orders o →
    (a b : A) → Union orders a b → Before o a b
merge_before same orders o m a b u = kept_before same o a b orders m.kept u

-- orders that have a merge have no cycle together
pub merge_acyclic : {A : Type 0} (same : A → A → Bool) (orders : List (List A)) (o : List A) →
    Each Distinct orders → IsMerge same orders o → Acyclic (Union orders)
merge_acyclic {A} same orders o d m =
    acyclic_map (Union orders) (Before o) (λ (a : A). a) (merge_before same orders o m) (line_acyclic o (merge_distinct same orders o d m))

-- a merge names the items of the orders alone
pub merge_names : {A : Type 0} (same : A → A → Bool) → TellsApart same → (orders : List (List A)) (o : List A) → IsMerge same orders o →
    (t : A) → In t o → (ts : List A) × In ts orders × In t ts
merge_names same law orders o m t i =
    let a = some_of_is (λ ts. is_in same ts t) orders (each_of_at (λ u. some_of (λ ts. is_in same ts u) orders) o t m.named i) in
    (a.0, a.1, is_in_true same law a.0 t a.2)
