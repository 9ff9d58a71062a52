-- The attempts of a list, each once: the same attempts, and apart from one another.
use Rattle.std.proofs.Common.{◌≡◌, inl, inr, Bool, true, false, cond, List, [], ◌∷◌, refl, subst}
use Rattle.mdb_base.specs.declared.names.Tid.{Tid}
use Rattle.mdb_base.specs.Names.{same_tid}
use Rattle.order_laws.specs.Chains.{In, Distinct}
use Rattle.order_laws.specs.Orders.{is_in}
use Rattle.order_laws.proofs.ForCallers.{is_in_false, is_in_true, tells_tids}
use Rattle.fed_rules.specs.Attempts.{with_attempt, each_attempt}

-- who is added or stood there stands in it
pub in_with : (tid g : Tid) (tids : List Tid) → In g (tid ∷ tids) → In g (with_attempt tid tids)
in_with tid g tids i = by_test (is_in same_tid tids tid) refl i
  where
    by_test : (b : Bool) → is_in same_tid tids tid ≡ b → In g (tid ∷ tids) → In g (cond b tids (tid ∷ tids))
    by_test true e (inl same) = subst (λ t. In t tids) same (is_in_true same_tid tells_tids tids tid e)
    by_test true e (inr more) = more
    by_test false e i = i

-- who stands there was added or stood there
pub with_in : (tid g : Tid) (tids : List Tid) → In g (with_attempt tid tids) → In g (tid ∷ tids)
with_in tid g tids i = by_test (is_in same_tid tids tid) i
  where
    by_test : (b : Bool) → In g (cond b tids (tid ∷ tids)) → In g (tid ∷ tids)
    by_test true i = inr i
    by_test false i = i

-- each attempt of the list stands there
pub in_each : (tids : List Tid) (g : Tid) → In g tids → In g (each_attempt tids)
in_each [] g i = absurd i
in_each (tid ∷ tids) g (inl same) = in_with tid g (each_attempt tids) (inl same)
in_each (tid ∷ tids) g (inr more) = in_with tid g (each_attempt tids) (inr (in_each tids g more))

-- and no other one
pub each_in : (tids : List Tid) (g : Tid) → In g (each_attempt tids) → In g tids
each_in [] g i = absurd i
each_in (tid ∷ tids) g i = elim (with_in tid g (each_attempt tids) i) [ inl same ↦ inl same | inr more ↦ inr (each_in tids g more) ]

-- attempts that differ still do with this one
pub with_distinct : (tid : Tid) (tids : List Tid) → Distinct tids → Distinct (with_attempt tid tids)
with_distinct tid tids once = by_test (is_in same_tid tids tid) refl
  where
    by_test : (b : Bool) → is_in same_tid tids tid ≡ b → Distinct (cond b tids (tid ∷ tids))
    by_test true e = once
    by_test false e = (is_in_false same_tid tells_tids tids tid e, once)

-- each once
pub each_distinct : (tids : List Tid) → Distinct (each_attempt tids)
each_distinct [] = tt
each_distinct (tid ∷ tids) = with_distinct tid (each_attempt tids) (each_distinct tids)
