-- A walk along accesses.
use Rattle.std.proofs.Common.{◌≡◌, ℕ, Bool, true, false, ◌&&◌, ◌||◌, cond, nat_eq, Option, None, List, ◌∷◌, refl, arith}
use Rattle.std.proofs.lemmas.Bool.Decides.{nat_tests}
use Rattle.mdb_base.specs.declared.names.Tid.{Tid}
use Rattle.mdb_base.specs.Words.{some_of}
use Rattle.fed_rules.specs.Runs.{Access}
use Rattle.fed_rules.specs.Replies.{access_key}
use Rattle.locking_engine.specs.Holders.{place_of, touches}
use Rattle.locking_engine.specs.Places.{Place}
use Rattle.locking_engine.proofs.Places.{same_place}

-- one more access of the walk
pub touched_more : (access : Access) (acts : List Access) (age : ℕ) (q : Place) (o : Option Tid) →
    cond (same_place q (place_of (access_key access) age)) None (cond (touches acts age q) None o) ≡ cond (touches (access ∷ acts) age q) None o
touched_more access acts age q o =
    by_tests (nat_eq q.key (access_key access).0) (nat_eq (access_key access).0 q.key) (nat_eq q.age age) (some_of (λ a. nat_eq (access_key a).0 q.key) acts) (flips q.key (access_key access).0)
  where
    flips : (x y : ℕ) → nat_eq x y ≡ nat_eq y x
    flips x y = grind (arith, nat_tests)

    by_tests : (k f a s : Bool) → k ≡ f → cond (k && a) None (cond (a && s) None o) ≡ cond (a && (f || s)) None o
    by_tests true true true s e = refl
    by_tests true true false s e = refl
    by_tests false false true s e = refl
    by_tests false false false s e = refl
    by_tests true false a s e = cc
    by_tests false true a s e = cc
