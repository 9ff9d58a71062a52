-- Lists that stand by rising attempt stay so where another attempt is put in its place.
use Rattle.std.proofs.Common.{◌≡◌, Bool, true, false, cond, List, [], ◌∷◌, refl}
use Rattle.mdb_base.specs.declared.names.Tid.{Tid}
use Rattle.mdb_base.specs.Names.{same_tid, tid_before}
use Rattle.mdb_base.specs.Words.{Each, inserted}
use Rattle.mdb_base.proofs.ForCallers.{before_other, each_inserted, each_map}
use Rattle.order_laws.proofs.ForCallers.{ranks_tids}
use Rattle.fed_rules.specs.Usable.{RiseBy}

module _ {A : Type 0} (tid_of : A → Tid) where
  abbrev pub by_attempt : A → A → Bool
  by_attempt a b = tid_before (tid_of a) (tid_of b)

  pub rise_inserted : (x : A) (ys : List A) → RiseBy tid_of ys → Each (λ y. same_tid (tid_of y) (tid_of x) ≡ false) ys → RiseBy tid_of (inserted by_attempt x ys)
  rise_inserted x [] rise other = (tt, tt)
  rise_inserted x (y ∷ ys) rise other = by_test (tid_before (tid_of y) (tid_of x)) refl (rise_inserted x ys rise.1 other.1)
    where
      by_test : (b : Bool) → tid_before (tid_of y) (tid_of x) ≡ b → RiseBy tid_of (inserted by_attempt x ys) → RiseBy tid_of (cond b (y ∷ inserted by_attempt x ys) (x ∷ y ∷ ys))
      by_test true e rest = (each_inserted (λ z. tid_before (tid_of y) (tid_of z) ≡ true) by_attempt x ys e rise.0, rest)
      by_test false e rest =
          let first : tid_before (tid_of x) (tid_of y) ≡ true = before_other (tid_of x) (tid_of y) e other.0 in (
            (
              first,
              each_map (λ z. tid_before (tid_of y) (tid_of z) ≡ true) (λ z. tid_before (tid_of x) (tid_of z) ≡ true)
                  (λ z later. ranks_tids.onward (tid_of x) (tid_of y) (tid_of z) first later) ys rise.0,
            ),
            rise,
          )
