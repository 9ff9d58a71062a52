-- The stamps of a host's lines, the newest of which stands first: each is one more than 0, or than an earlier stamp.
use Rattle.std.proofs.Common.{◌≡◌, ℕ, suc, ◌⊎◌, max, Option, List, [], ◌∷◌, sym, subst, inl, inr, arith}
use Rattle.mdb_base.specs.Words.{Each}
use Rattle.fed_messages.specs.declared.Envelope.{Envelope}
use Rattle.host_laws.specs.Lines.{stamp_of}
use Rattle.host_laws.proofs.Stamps.{Paced}

-- one more than 0, or than a stamp that is had
pub record Follows (Has : ℕ → Type 0) (stamp : ℕ) : Type 0 where
  pub before : ℕ
  pub next : stamp ≡ suc before
  pub had : (before ≡ 0) ⊎ Has before

one_of : (a b : ℕ) → (max a b ≡ a) ⊎ (max a b ≡ b)
one_of a b = grind arith

module _ {T M : Type 0} (stamp : T → ℕ) (took : T → Option (Envelope M)) (last : List T → ℕ) (first : last [] ≡ 0) (newest : (t : T) (ts : List T) → last (t ∷ ts) ≡ stamp t) (Has : ℕ → Type 0) where
  last_had : (lines : List T) → Each (λ line. Has (stamp line)) lines → (last lines ≡ 0) ⊎ Has (last lines)
  last_had [] h = inl first
  last_had (line ∷ lines) h = inr (subst Has (sym (newest line lines)) h.0)

  -- where the stamps of lines and of the messages that they take are had, each stamp follows
  pub stamps_follow : (lines : List T) → Paced stamp took last first newest lines → Each (λ line. Has (stamp line)) lines → Each (λ line. (stamp_of (took line) ≡ 0) ⊎ Has (stamp_of (took line))) lines
      → Each (λ line. Follows Has (stamp line)) lines
  stamps_follow [] paced had taken = tt
  stamps_follow (line ∷ lines) paced had taken = (own (one_of (last lines) (stamp_of (took line))), stamps_follow lines paced.1 had.1 taken.1) where
    own : (max (last lines) (stamp_of (took line)) ≡ last lines) ⊎ (max (last lines) (stamp_of (took line)) ≡ stamp_of (took line)) → Follows Has (stamp line)
    own (inl e) = let next = paced.0 in record { before = last lines; next = omega (arith, next, e); had = last_had lines had.1 }
    own (inr e) = let next = paced.0 in record { before = stamp_of (took line); next = omega (arith, next, e); had = taken.0 }
