-- The line that names the disk that failed.
use Rattle.std.specs.Prelude.{ℕ, List, [], ◌∷◌, ◌++◌, codes, decimal}

-- a text with its line feed
abbrev pub line : List ℕ → List ℕ
line text = text ++ 10 ∷ []

-- which disk failed
abbrev pub disk_failed_text : ℕ → List ℕ
disk_failed_text number = line (codes "disk " ++ decimal number ++ codes " failed")
