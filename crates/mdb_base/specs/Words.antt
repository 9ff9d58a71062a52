-- Words on tests, options and lists. Each computes one step at a time, which std's words by index don't.
use Rattle.std.specs.Prelude.{ℕ, zero, suc, ◌⊎◌, Bool, true, false, cond, nat_lt, ◌&&◌, ◌||◌, Option, Some, None, List, [], ◌∷◌}

-- the first where the test holds, else the second: the branches of a rule
unfoldable pub when : {A : Type 0} → Bool → A → A → A
when true x y = x
when false x y = y

-- what the function makes of the value, where there is one, and else the other: the branches of a rule
unfoldable pub given : {A B : Type 0} → Option A → (A → B) → B → B
given None some none = none
given (Some x) some none = some x

-- the value, or this one where there is none
abbrev pub or_else : {A : Type 0} → Option A → A → A
or_else None y = y
or_else (Some x) y = x

-- the value, where there is one, before the list
abbrev pub with_some : {A : Type 0} → Option A → List A → List A
with_some None xs = xs
with_some (Some x) xs = x ∷ xs

-- what the function makes of the value, where there is one
abbrev pub map_some : {A B : Type 0} → (A → B) → Option A → Option B
map_some f None = None
map_some f (Some x) = Some (f x)

-- whether the test holds of the value
abbrev pub holds_of : {A : Type 0} → (A → Bool) → Option A → Bool
holds_of test None = false
holds_of test (Some x) = test x

-- the fact holds of each item
abbrev pub Each : {A : Type 0} → (A → Type 0) → List A → Type 0
Each P [] = Unit {0}
Each P (x ∷ xs) = P x × Each P xs

-- the fact holds of some item
abbrev pub Among : {A : Type 0} → (A → Type 0) → List A → Type 0
Among P [] = ⊥
Among P (x ∷ xs) = P x ⊎ Among P xs

-- whether the test holds of some item
abbrev pub some_of : {A : Type 0} → (A → Bool) → List A → Bool
some_of test [] = false
some_of test (x ∷ xs) = test x || some_of test xs

-- whether the test holds of each item
abbrev pub each_of : {A : Type 0} → (A → Bool) → List A → Bool
each_of test [] = true
each_of test (x ∷ xs) = test x && each_of test xs

-- whether there is no item
abbrev pub is_empty : {A : Type 0} → List A → Bool
is_empty [] = true
is_empty (x ∷ xs) = false

-- how many items the test holds of
abbrev pub how_many : {A : Type 0} → (A → Bool) → List A → ℕ
how_many test [] = 0
how_many test (x ∷ xs) = cond (test x) (suc (how_many test xs)) (how_many test xs)

-- the items that the test holds of, in their order
abbrev pub those : {A : Type 0} → (A → Bool) → List A → List A
those test [] = []
those test (x ∷ xs) = cond (test x) (x ∷ those test xs) (those test xs)

-- the first item that the test holds of
abbrev pub first_where : {A : Type 0} → (A → Bool) → List A → Option A
first_where test [] = None
first_where test (x ∷ xs) = cond (test x) (Some x) (first_where test xs)

-- the values that the look-up finds, in the order of the list
abbrev pub found : {A B : Type 0} → (A → Option B) → List A → List B
found look [] = []
found look (x ∷ xs) = with_some (look x) (found look xs)

-- the item at this place, counted from 0
abbrev pub item_at : {A : Type 0} → List A → ℕ → Option A
item_at [] n = None
item_at (x ∷ xs) zero = Some x
item_at (x ∷ xs) (suc n) = item_at xs n

-- the one with the smaller measure, the first of two alike
abbrev pub lesser : {A : Type 0} → (A → ℕ) → A → Option A → A
lesser measure x None = x
lesser measure x (Some y) = cond (nat_lt (measure y) (measure x)) y x

-- the first item with the least measure
abbrev pub least : {A : Type 0} → (A → ℕ) → List A → Option A
least measure [] = None
least measure (x ∷ xs) = Some (lesser measure x (least measure xs))

-- the one with the greater measure, the first of two alike
abbrev pub greater : {A : Type 0} → (A → ℕ) → A → Option A → A
greater measure x None = x
greater measure x (Some y) = cond (nat_lt (measure x) (measure y)) y x

-- the first item with the greatest measure
abbrev pub greatest : {A : Type 0} → (A → ℕ) → List A → Option A
greatest measure [] = None
greatest measure (x ∷ xs) = Some (greater measure x (greatest measure xs))

-- the list with this item before the first one that isn't before it by the test
abbrev pub inserted : {A : Type 0} → (A → A → Bool) → A → List A → List A
inserted before x [] = x ∷ []
inserted before x (y ∷ ys) = cond (before y x) (y ∷ inserted before x ys) (x ∷ y ∷ ys)
