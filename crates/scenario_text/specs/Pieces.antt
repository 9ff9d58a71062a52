-- Bytes cut at a mark: a text into lines at line feeds, a line into words at spaces, a word into its parts at `:` or `.`.
use Rattle.std.specs.Prelude.{ℕ, ◌≡◌, Bool, true, false, if◌then◌else◌, ◌==◌, Option, Some, None, List, [], ◌∷◌}
use Rattle.std.specs.List.{onto_first}
use Rattle.mdb_base.specs.Words.{map_some}

-- the bytes before the first mark and the bytes behind it, where there is a mark
unfoldable pub cut_at : ℕ → List ℕ → Option (List ℕ × List ℕ)
cut_at mark [] = None
cut_at mark (b ∷ bs) = if b == mark then Some ([], bs) else map_some (λ parts. (b ∷ parts.0, parts.1)) (cut_at mark bs)

-- the pieces between the marks, one more than there are marks; a piece may be empty
unfoldable pub pieces : ℕ → List ℕ → List (List ℕ)
pieces mark [] = [] ∷ []
pieces mark (b ∷ bs) = if b == mark then [] ∷ pieces mark bs else onto_first b (pieces mark bs)

-- the marks: a line feed, a space, `.`, `/` and `:`
abbrev pub line_feed : ℕ
line_feed = 10

abbrev pub space : ℕ
space = 32

abbrev pub dot : ℕ
dot = 46

abbrev pub slash : ℕ
slash = 47

abbrev pub colon : ℕ
colon = 58

-- the items of a list of just one, two, three, four or five
unfoldable pub only_one : {A : Type 0} → List A → Option A
only_one [] = None
only_one (a ∷ []) = Some a
only_one (a ∷ b ∷ more) = None

unfoldable pub only_two : {A : Type 0} → List A → Option (A × A)
only_two [] = None
only_two (a ∷ more) = map_some (λ b. (a, b)) (only_one more)

unfoldable pub only_three : {A : Type 0} → List A → Option (A × A × A)
only_three [] = None
only_three (a ∷ more) = map_some (λ p. (a, p.0, p.1)) (only_two more)

unfoldable pub only_four : {A : Type 0} → List A → Option (A × A × A × A)
only_four [] = None
only_four (a ∷ more) = map_some (λ p. (a, p.0, p.1, p.2)) (only_three more)

unfoldable pub only_five : {A : Type 0} → List A → Option (A × A × A × A × A)
only_five [] = None
only_five (a ∷ more) = map_some (λ p. (a, p.0, p.1, p.2, p.3)) (only_four more)

-- the first item and those behind it, where there are some
unfoldable pub first_and_more : {A : Type 0} → List A → Option (A × List A)
first_and_more [] = None
first_and_more (a ∷ []) = None
first_and_more (a ∷ b ∷ more) = Some (a, b ∷ more)

-- a line of a text, and whether a line feed ends it
pub record TextLine : Type 0 where
  pub bytes : List ℕ
  pub ended : Bool

-- the pieces between line feeds as lines: the last piece is no line where it is empty, and else a line without its end
unfoldable pub as_lines : List (List ℕ) → List TextLine
as_lines [] = []
as_lines ([] ∷ []) = []
as_lines ((b ∷ bs) ∷ []) = record { bytes = b ∷ bs; ended = false } ∷ []
as_lines (piece ∷ next ∷ more) = record { bytes = piece; ended = true } ∷ as_lines (next ∷ more)

-- the lines of a text
unfoldable pub lines : List ℕ → List TextLine
lines text = as_lines (pieces line_feed text)

-- the words of a line, and the first of them
abbrev pub words_of : List ℕ → List (List ℕ)
words_of line = pieces space line

abbrev pub first_word : List (List ℕ) → List ℕ
first_word [] = []
first_word (word ∷ words) = word

-- what a function found, seen by view, is this
abbrev pub Finds : {X Y : Type 0} → (X → Y) → Option X → Option Y → Type 0
Finds view None there = there ≡ None
Finds view (Some x) there = there ≡ Some (view x)
