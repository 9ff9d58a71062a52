-- What is seen of disks of which one changed.
use Rattle.std.proofs.Common.{◌≡◌, ℕ, ◌==◌, Bool, true, false, Some, List, map, slice_get, slice_set, refl, sym, ◌∙◌, ap, eqb-true, eq-eqb}
use Rattle.std.proofs.lemmas.Option.{slice_get-map, slice_get_within}
use Rattle.std.specs.Prelude.{option_map}
use Rattle.mdb_base.proofs.ForCallers.{slice_get-one}
use Rattle.session_routes.proofs.ForCallers.{get_other, get_put}

-- a place is the one or another
pub by_place : (P : Type 0) (place number : ℕ) → (place ≡ number → P) → ((place ≡ number → ⊥) → P) → P
by_place P place number here there = by_test (place == number) refl
  where
    by_test : (b : Bool) → (place == number) ≡ b → P
    by_test true is = here (eqb-true place number is)
    by_test false is = there (λ same. (let t = eq-eqb place number same in cc))

-- the changed item is the new one
pub set_here : {A : Type 0} (xs : List A) (number : ℕ) (old new got : A) → slice_get xs number ≡ Some old → slice_get (slice_set xs number new) number ≡ Some got → new ≡ got
set_here xs number old new got own at = slice_get-one (slice_set xs number new) number new got (get_put xs number new (slice_get_within xs number old own)) at

-- an item at another place is the old one
pub set_there : {A : Type 0} (xs : List A) (number place : ℕ) (new got : A) → (place ≡ number → ⊥) → slice_get (slice_set xs number new) place ≡ Some got → slice_get xs place ≡ Some got
set_there xs number place new got apart at = sym (get_other xs number place new apart) ∙ at

-- an item of the list of what a function makes of each
pub mapped_at : {A B : Type 0} (f : A → B) (xs : List A) (place : ℕ) (x : A) → slice_get xs place ≡ Some x → slice_get (map f xs) place ≡ Some (f x)
mapped_at f xs place x at = slice_get-map f xs place ∙ ap (option_map f) at
