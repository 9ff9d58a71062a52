-- Attempts and decisions as bytes, as records and messages bear them; and reading them from the front of a list of bytes.
use Rattle.std.specs.Prelude.{ℕ, ◌<◌, ◌≤◌, ◌==◌, nat_lt, nat_le, Bool, ◌&&◌, List, [], ◌∷◌, ◌++◌, Option, Some, None, if◌then◌else◌}
use Rattle.byte_numbers.specs.Numbers.{number, number_at, ◌>>=◌}
use Rattle.mdb_base.specs.declared.names.Tid.{Tid}
use Rattle.presumptions.specs.declared.Decision.{Decision}
use Rattle.presumptions.specs.declared.Decision.TheVariants.{Commit, Abort}

-- transactions are 1 to 1,024 and attempts 0 to 31
pub record IsTid (tid : Tid) : Type 0 where
  pub least : 1 ≤ tid.tx.0
  pub greatest : tid.tx.0 ≤ 1024
  pub attempts : tid.attempt < 32

-- the test of it
abbrev pub is_tid : (tx attempt : ℕ) → Bool
is_tid tx attempt = nat_le 1 tx && (nat_le tx 1024 && nat_lt attempt 32)

-- an attempt: the transaction in four bytes and the attempt in one
abbrev pub tid_bytes : Tid → List ℕ
tid_bytes tid = number 4 tid.tx.0 ++ number 1 tid.attempt

unfoldable pub tid_at : List ℕ → Option (Tid × List ℕ)
tid_at bytes = do
  tx ← number_at 4 bytes
  attempt ← number_at 1 tx.1
  if is_tid tx.0 attempt.0 then Some (record { tx = record { 0 = tx.0 }; attempt = attempt.0 }, attempt.1) else None

-- a decision: 1 for commit, 2 for abort
abbrev pub decision_bytes : Decision → List ℕ
decision_bytes Commit = 1 ∷ []
decision_bytes Abort = 2 ∷ []

unfoldable pub decision_at : List ℕ → Option (Decision × List ℕ)
decision_at bytes = do
  kind ← number_at 1 bytes
  if kind.0 == 1 then Some (Commit, kind.1) else (if kind.0 == 2 then Some (Abort, kind.1) else None)
