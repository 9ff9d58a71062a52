use Rattle.std.proofs.Common.{◌≡◌, Bool, true, false, cond, Some, slice_get, ◌||◌, List, [], ◌∷◌, ◌++◌, inl, inr, drop, ap, refl, subst, sym, ◌∙◌}
use Rattle.std.specs.Option.{option_eq}
use Rattle.std.specs.Ordering.{is_eq}
use Rattle.mdb_base.specs.declared.names.Tid.{Tid}
use Rattle.mdb_base.specs.Names.{same_tid, tid_cmp}
use Rattle.mdb_base.proofs.ForCallers.{or_swap, same_tid-equal, same_tid-refl}
use Rattle.order_laws.specs.Chains.{In, Distinct}
use Rattle.order_laws.specs.Orders.{Before, is_in}
use Rattle.order_laws.specs.Least.{rest, without}
use Rattle.order_laws.proofs.ForCallers.{is_eq-tid_cmp, not_in_false, tells_tids, without_first, without_other}

-- a list with one more item has that one, and those that it had
pub is_in-append : {A : Type 0} (same : A → A → Bool) (xs : List A) (x t : A) → is_in same (xs ++ x ∷ []) t ≡ (same t x || is_in same xs t)
is_in-append same [] x t = refl
is_in-append same (y ∷ xs) x t = rw (is_in-append same xs x t) (or_swap (same t y) (same t x) (is_in same xs t))

-- an item that is put into a set and behind a list
pub inserted : (key t : Tid) (had has : Bool) (xs : List Tid) → had ≡ is_in same_tid xs t →
    has ≡ cond (is_eq (tid_cmp key t)) true had → has ≡ is_in same_tid (xs ++ key ∷ []) t
inserted key t had has xs e f = rw (is_in-append same_tid xs key t) (one (is_eq (tid_cmp key t)) (same_tid t key) had (is_in same_tid xs t) has (is_eq-tid_cmp key t) e f)
  where
    one : (a b c d e : Bool) → a ≡ b → c ≡ d → e ≡ cond a true c → e ≡ (b || d)
    one true b c d e p q r = rw (← p) r
    one false b c d e p q r = rw (← p) (rw (← q) r)

taken_out_step : (key t : Tid) (had has : Bool) (xs : List Tid) → (In key xs → ⊥) → had ≡ is_in same_tid (key ∷ xs) t →
    has ≡ cond (is_eq (tid_cmp key t)) false had → (b : Bool) → same_tid t key ≡ b → has ≡ is_in same_tid xs t
taken_out_step key t had has xs out e f true g =
    let same : t ≡ key = same_tid-equal t key g in
    let here : is_eq (tid_cmp key t) ≡ true = is_eq-tid_cmp key t ∙ g in
    let none : is_in same_tid xs t ≡ false = not_in_false same_tid tells_tids xs t (subst (λ y. In y xs → ⊥) (sym same) out) in
    let gone : has ≡ false = rw here at f in
    gone ∙ sym none
taken_out_step key t had has xs out e f false g =
    let here : is_eq (tid_cmp key t) ≡ false = is_eq-tid_cmp key t ∙ g in
    let stays : has ≡ had = rw here at f in
    let other : had ≡ is_in same_tid xs t = rw g at e in
    stays ∙ other

-- an item that is taken out of a set and off the front of a list that had it once
pub taken_out : (key t : Tid) (had has : Bool) (xs : List Tid) → (In key xs → ⊥) → had ≡ is_in same_tid (key ∷ xs) t →
    has ≡ cond (is_eq (tid_cmp key t)) false had → has ≡ is_in same_tid xs t
taken_out key t had has xs out e f = taken_out_step key t had has xs out e f (same_tid t key) refl

-- the first item of a list that names none twice doesn't stand behind itself
pub first_not_behind : (xs : List Tid) (first tid : Tid) → Distinct xs → slice_get xs 0 ≡ Some first → same_tid first tid ≡ true →
    is_in same_tid (rest xs) tid ≡ false
first_not_behind [] first tid d e f = refl
first_not_behind (x ∷ xs) first tid d e f =
    let here : x ≡ first = cc in
    not_in_false same_tid tells_tids xs tid (subst (λ y. In y xs → ⊥) (here ∙ same_tid-equal first tid f) d.0)

drop-one : {A : Type 0} (xs : List A) → drop 1 xs ≡ rest xs
drop-one [] = refl
drop-one (x ∷ xs) = refl

-- a list that begins with the attempt is it with the rest behind it
pub begins : (xs : List Tid) (tid : Tid) → option_eq same_tid (slice_get xs 0) (Some tid) ≡ true → xs ≡ tid ∷ rest xs
begins [] tid e = cc
begins (x ∷ xs) tid e = ap (λ y. y ∷ xs) (same_tid-equal x tid e)

-- what stands behind the first member is the list without it
pub rest-without : (xs ys : List Tid) (tid : Tid) → Distinct xs → option_eq same_tid (slice_get xs 0) (Some tid) ≡ true → ys ≡ drop 1 xs →
    ys ≡ without same_tid tid xs
rest-without [] ys tid d e f = cc
rest-without (x ∷ xs) ys tid d e f =
    let same : x ≡ tid = same_tid-equal x tid e in
    f ∙ sym (without_first same_tid tells_tids tid x xs same (subst (λ y. In y xs → ⊥) same d.0))

-- and a list that neither begins with the attempt nor has it behind another one is as without it
pub whole-without : (xs : List Tid) (tid : Tid) → ((p : Tid) → Before xs p tid → ⊥) → option_eq same_tid (slice_get xs 0) (Some tid) ≡ false →
    xs ≡ without same_tid tid xs
whole-without [] tid first e = refl
whole-without (x ∷ xs) tid first e =
    sym (without_other same_tid tells_tids tid (x ∷ xs) (λ i. elim i [
      | inl p ↦ let same : same_tid x tid ≡ true = subst (λ y. same_tid x y ≡ true) p (same_tid-refl x) in cc
      | inr j ↦ first x (inl (refl, j))
    ]))

-- a set that has what a list has still has it when the first member is taken out of both
pub both_without : (xs ys : List Tid) (tid t : Tid) (had has : Bool) → Distinct xs → option_eq same_tid (slice_get xs 0) (Some tid) ≡ true →
    ys ≡ drop 1 xs → had ≡ is_in same_tid xs t → has ≡ cond (is_eq (tid_cmp tid t)) false had → has ≡ is_in same_tid ys t
both_without xs ys tid t had has d e f g h =
    let was : xs ≡ tid ∷ rest xs = begins xs tid e in
    let distinct : Distinct (tid ∷ rest xs) = subst Distinct was d in
    subst (λ zs. has ≡ is_in same_tid zs t) (sym (f ∙ drop-one xs))
    (taken_out tid t had has (rest xs) distinct.0 (subst (λ zs. had ≡ is_in same_tid zs t) was g) h)
