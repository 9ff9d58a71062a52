-- Lists in which each attempt stands once.
use Rattle.std.proofs.Common.{◌≡◌, ◌⊎◌, suc, ◌+◌, ◌^◌, ◌<◌, ◌≤◌, Bool, true, false, cond, List, [], ◌∷◌, ◌++◌, length, map, reverse, inl, inr, refl, sym, ap, subst, ◌∙◌, arith}
use Rattle.std.specs.List.{AllByRecursion, IsDistinct}
use Rattle.std.proofs.lemmas.Map.Keys.{IsDistinct-cons}
use Rattle.mdb_base.specs.declared.names.Tid.{Tid}
use Rattle.mdb_base.specs.Names.{same_tid}
use Rattle.mdb_base.specs.Words.{Each, how_many, those}
use Rattle.mdb_base.proofs.ForCallers.{reverse_more, same_tid-equal, same_tid-refl}
use Rattle.order_laws.specs.Chains.{Distinct, In}
use Rattle.order_laws.proofs.ForCallers.{in_front, in_last}
use Rattle.field_bytes.specs.Fields.{IsTid}
use Rattle.record_fields.specs.Sums.{tid_number}
use Rattle.coord_core.proofs.SumRanges.{Rises}

-- an attempt before greater ones is none of them
pub apart_from : {A : Type 0} (at : A → Tid) (tid : Tid) (xs : List A) → Each (λ y. tid_number tid < tid_number (at y)) xs → Each (λ y. same_tid tid (at y) ≡ false) xs
apart_from at tid [] e = tt
apart_from at tid (x ∷ xs) e = (by_test (same_tid tid (at x)) refl e.0, apart_from at tid xs e.1) where
  by_test : (b : Bool) → same_tid tid (at x) ≡ b → tid_number tid < tid_number (at x) → same_tid tid (at x) ≡ false
  by_test false q less = q
  by_test true q less =
      let same : tid_number tid ≡ tid_number (at x) = ap tid_number (same_tid-equal tid (at x) q) in
      absurd (omega (arith, less, same))

pub apart_distinct : (tids : List Tid) → Rises (λ t. t) tids → IsDistinct same_tid tids
unfolding IsDistinct
apart_distinct [] r = tt
apart_distinct (tid ∷ tids) r = IsDistinct-cons same_tid tid tids (all (tids) (apart_from (λ t. t) tid tids r.0)) (apart_distinct tids r.1) where
  all : (ts : List Tid) → Each (λ t. same_tid tid t ≡ false) ts → AllByRecursion (λ t. same_tid tid t ≡ false) ts
  all [] e = tt
  all (t ∷ ts) e = (e.0, all ts e.1)

not_in : (tid : Tid) (tids : List Tid) → Each (λ t. same_tid tid t ≡ false) tids → In tid tids → ⊥
not_in tid [] e i = i
not_in tid (t ∷ ts) e (inl same) = let own : same_tid tid t ≡ true = subst (λ u. same_tid tid u ≡ true) (sym same) (same_tid-refl tid) in let apart = e.0 in cc
not_in tid (t ∷ ts) e (inr i) = not_in tid ts e.1 i

pub rises_distinct : (tids : List Tid) → Rises (λ t. t) tids → Distinct tids
rises_distinct [] r = tt
rises_distinct (tid ∷ tids) r = (not_in tid tids (apart_from (λ t. t) tid tids r.0), rises_distinct tids r.1)

-- the attempts of a list that rises
pub map_rises : {A : Type 0} (at : A → Tid) (xs : List A) → Rises at xs → Rises (λ t. t) (map at xs)
map_rises at [] r = tt
map_rises at (x ∷ xs) r = (more xs r.0, map_rises at xs r.1) where
  more : (ys : List _) → Each (λ y. tid_number (at x) < tid_number (at y)) ys → Each (λ t. tid_number (at x) < tid_number t) (map at ys)
  more [] e = tt
  more (y ∷ ys) e = (e.0, more ys e.1)

-- a list that rises below a bound is no longer than it
pub few : (tids : List Tid) → Rises (λ t. t) tids → Each IsTid tids → length tids ≤ 2 ^ 20
few [] r t = omega arith
few (tid ∷ tids) r t = let most = from tid tids r t in omega (arith, most) where
  from : (first : Tid) (others : List Tid) → Rises (λ u. u) (first ∷ others) → Each IsTid (first ∷ others) → tid_number first + length (first ∷ others) ≤ 2 ^ 20
  from first [] r t = let a = t.0.greatest in let b = t.0.attempts in omega (arith, a, b)
  from first (next ∷ others) r t = let rest = from next others r.1 t.1 in let less = r.0.0 in omega (arith, rest, less)

-- two lists of the same attempts, each of which stands once, are as long
record IsTakenOut (x : Tid) (ys : List Tid) : Type 0 where
  others : List Tid
  shorter : length ys ≡ suc (length others)
  there : (z : Tid) → In z ys → (x ≡ z) ⊎ In z others

take_out : (x : Tid) (ys : List Tid) → In x ys → IsTakenOut x ys
take_out x [] i = absurd i
take_out x (y ∷ ys) (inl e) = record { others = ys; shorter = refl; there = λ z i. elim i [ inl f ↦ inl (sym e ∙ f) | inr j ↦ inr j ] }
take_out x (y ∷ ys) (inr i) =
    let rest = take_out x ys i in
    record {
      others = y ∷ rest.others;
      shorter = ap suc rest.shorter;
      there = λ z j. elim j [ inl f ↦ inr (inl f) | inr k ↦ elim (rest.there z k) [ inl f ↦ inl f | inr m ↦ inr (inr m) ] ];
    }

pub no_longer : (xs ys : List Tid) → Distinct xs → ((x : Tid) → In x xs → In x ys) → length xs ≤ length ys
no_longer [] ys apart there = omega arith
no_longer (x ∷ xs) ys apart there =
    let out = take_out x ys (there x (inl refl)) in
    let rest = no_longer xs out.others apart.1 (λ z i. elim (out.there z (there z (inr i))) [
      | inl same ↦ absurd (apart.0 (subst (λ t. In t xs) (sym same) i))
      | inr k ↦ k
    ]) in
    let short = out.shorter in
    omega (arith, rest, short)

pub how_many_those : (test : Tid → Bool) (xs : List Tid) → how_many test xs ≡ length (those test xs)
how_many_those test [] = refl
how_many_those test (x ∷ xs) = by_test (test x) (how_many_those test xs) where
  by_test : (b : Bool) → how_many test xs ≡ length (those test xs) → cond b (suc (how_many test xs)) (how_many test xs) ≡ length (cond b (x ∷ those test xs) (those test xs))
  by_test true h = ap suc h
  by_test false h = h

pub to_reverse : (tids : List Tid) (z : Tid) → In z tids → In z (reverse tids)
to_reverse (t ∷ ts) z (inl e) = subst (λ us. In z us) (sym (reverse_more t ts)) (subst (λ u. In u (reverse ts ++ t ∷ [])) e (in_last t (reverse ts)))
to_reverse (t ∷ ts) z (inr i) = subst (λ us. In z us) (sym (reverse_more t ts)) (in_front z t (reverse ts) (to_reverse ts z i))
to_reverse [] z i = absurd i
