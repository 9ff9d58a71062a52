-- Numbers and attempts as text, and bytes that are written at the end of others.
use Rattle.std.specs.Prelude.{ℕ, ◌≡◌, ◌+◌, ◌/◌, ◌%◌, List, [], ◌∷◌, ◌++◌, codes, decimal}
use Rattle.mdb_base.specs.declared.names.Tid.{Tid}

-- an attempt: its transaction and its number, as `T.A`
abbrev pub tid_text : Tid → List ℕ
tid_text tid = decimal tid.tx.0 ++ codes "." ++ decimal tid.attempt

-- the list begins with this one
abbrev pub BeginsWith : List ℕ → List ℕ → Type 0
BeginsWith front all = (rest : List ℕ) × (all ≡ front ++ rest)

-- both digits of a number below 100
abbrev pub pair : ℕ → List ℕ
pair n = (48 + n / 10) ∷ (48 + n % 10) ∷ []
