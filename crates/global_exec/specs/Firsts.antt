-- The first item of a list that a test holds of: its place, another item in its place, and the list without it.
use Rattle.std.specs.Prelude.{ℕ, suc, Bool, cond, Option, Some, None, List, [], ◌∷◌}
use Rattle.mdb_base.specs.Words.{map_some}

-- the place of the first item that the test holds of
abbrev pub place_where : {A : Type 0} → (A → Bool) → List A → Option ℕ
place_where test [] = None
place_where test (x ∷ xs) = cond (test x) (Some 0) (map_some (λ n. suc n) (place_where test xs))

-- what the function makes of the first item that the test holds of, in its place
abbrev pub replaced : {A : Type 0} → (A → Bool) → (A → A) → List A → List A
replaced test change [] = []
replaced test change (x ∷ xs) = cond (test x) (change x ∷ xs) (x ∷ replaced test change xs)

-- without the first item that the test holds of
abbrev pub taken_out : {A : Type 0} → (A → Bool) → List A → List A
taken_out test [] = []
taken_out test (x ∷ xs) = cond (test x) xs (x ∷ taken_out test xs)
