-- What one call of a source gives and of a sink takes, and what is seen of both over a whole call.
use Rattle.std.specs.Prelude.{ℕ, ◌≡◌, ◌<◌, ◌≤◌, ◌+◌, ◌⊎◌, Bool, IsTrue, List, [], ◌++◌, length, take, drop}
use Rattle.mdb_base.specs.Counts.{HasRisen}

-- the next bytes stand at the front of the buffer; none come only at the end, or into a buffer of no bytes
pub record Gives (count : ℕ) (before after : List ℕ) (room : ℕ) (into : List ℕ) : Type 0 where
  pub within : count ≤ length before
  pub bytes : take count into ≡ take count before
  pub rest : after ≡ drop count before
  pub end : count ≡ 0 → (room ≡ 0) ⊎ (before ≡ [])

-- a front of the piece, and at least one byte of a piece that isn't empty
pub record Takes (count piece : ℕ) : Type 0 where
  pub within : count ≤ piece
  pub some : 0 < piece → 0 < count

-- a front of these bytes was written behind the others
abbrev pub WritesFront : List ℕ → List ℕ → List ℕ → Type 0
WritesFront before after bytes = (n : ℕ) × (n ≤ length bytes) × (after ≡ before ++ take n bytes)

-- the longest input that is read, in bytes
abbrev pub longest : ℕ
longest = 4194304

-- what is seen of a source or a sink over a call: whether it tells its bytes, which are of a source those that are left and of a sink those that
-- were written; these bytes and its count of faults, before the call and behind it
pub record Stream : Type 0 where
  pub tells : Bool
  pub before : List ℕ
  pub after : List ℕ
  pub faults_before : ℕ
  pub faults_after : ℕ

abbrev pub stream : Bool → (before after : List ℕ) → (faults_before faults_after : ℕ) → Stream
stream tells before after faults_before faults_after =
    record { tells = tells; before = before; after = after; faults_before = faults_before; faults_after = faults_after }

-- its count of faults rose
abbrev pub Rose : Stream → Type 0
Rose s = HasRisen s.faults_before s.faults_after

-- its count of faults stands where it stood
abbrev pub IsCalm : Stream → Type 0
IsCalm s = s.faults_after ≡ s.faults_before

-- where the source tells, it was read to its end, or to byte 4,194,305: what stands behind that byte is left, which may be nothing
abbrev pub IsRead : Stream → Type 0
IsRead source = IsTrue source.tells → source.after ≡ drop (longest + 1) source.before

-- the sink, where it tells, has got this text, or where its count of faults rose a front of it
pub record Gets (sink : Stream) (text : List ℕ) : Type 0 where
  pub all : IsTrue sink.tells → (Rose sink → ⊥) → sink.after ≡ sink.before ++ text
  pub front : IsTrue sink.tells → WritesFront sink.before sink.after text
