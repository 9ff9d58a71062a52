-- The words on lists as std has them.
use Rattle.std.proofs.Common.{◌≡◌, Bool, ◌&&◌, List, [], ◌∷◌, map, refl, ap}
use Rattle.mdb_base.specs.Words.{each_of}

pub each_of_map : {A B : Type 0} (test : B → Bool) (f : A → B) (xs : List A) → each_of test (map f xs) ≡ each_of (λ x. test (f x)) xs
each_of_map test f [] = refl
each_of_map test f (x ∷ xs) = ap (λ b. test (f x) && b) (each_of_map test f xs)
