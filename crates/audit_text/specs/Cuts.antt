-- A text cut at its line `printed`.
use Rattle.std.specs.Prelude.{ℕ, ◌≡◌, ◌+◌, ◌≤◌, Option, Some, None, List, length}
use Rattle.std.specs.Borrow.{Bor}
use Rattle.scenario_text.specs.Pieces.{lines}
use Rattle.audit_text.specs.Texts.{cut_printed, text_of}

-- the text before its line `printed` has so many lines, and this is the text behind it; where there is no such line, it is the whole text
abbrev pub IsCut : (text front : List ℕ) → (count : ℕ) → Option (Bor (List ℕ)) → Type 0
IsCut text front count None = (cut_printed (lines text) ≡ None) × (front ≡ text) × (count ≡ length (lines text))
IsCut text front count (Some printed) =
    (parts : _) × (cut_printed (lines text) ≡ Some parts) × (front ≡ text_of parts.0) × (count ≡ length parts.0) × (lines printed.now ≡ parts.1)

-- so many lines, and the bytes behind the line `printed`, are no more than this
abbrev pub AreFew : ℕ → Option (Bor (List ℕ)) → ℕ → Type 0
AreFew count None most = count ≤ most
AreFew count (Some printed) most = count + length printed.now ≤ most
