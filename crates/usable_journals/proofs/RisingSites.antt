-- A site behind those of smaller numbers.
use Rattle.std.proofs.Common.{ℕ, ◌+◌, ◌≤◌, ◌≡◌, List, [], ◌∷◌, ◌++◌, arith}
use Rattle.mdb_base.specs.Rising.{IsRising}
use Rattle.mdb_base.specs.Words.{Each}
use Rattle.mdb_base.proofs.ForCallers.{append_each, each_map}
use Rattle.presumptions.specs.declared.Participant.{Participant}

pub rising_push : (xs : List Participant) (x : Participant) (n : ℕ) → IsRising (λ (p : Participant). p.site.0) xs → Each (λ (p : Participant). p.site.0 ≤ n) xs → x.site.0 ≡ n + 1 →
    IsRising (λ (p : Participant). p.site.0) (xs ++ x ∷ [])
rising_push [] x n up below is = tt
rising_push (a ∷ []) x n up below is = let h = below.0 in (omega (arith, h, is), tt)
rising_push (a ∷ b ∷ xs) x n up below is = (up.0, rising_push (b ∷ xs) x n up.1 below.1 is)

pub below_more : (xs : List Participant) (n : ℕ) → Each (λ (p : Participant). p.site.0 ≤ n) xs → Each (λ (p : Participant). p.site.0 ≤ n + 1) xs
below_more xs n below = each_map (λ (p : Participant). p.site.0 ≤ n) (λ (p : Participant). p.site.0 ≤ n + 1) (λ p h. omega (arith, h)) xs below

pub below_push : (xs : List Participant) (x : Participant) (n : ℕ) → Each (λ (p : Participant). p.site.0 ≤ n) xs → x.site.0 ≡ n + 1 → Each (λ (p : Participant). p.site.0 ≤ n + 1) (xs ++ x ∷ [])
below_push xs x n below is = append_each (λ (p : Participant). p.site.0 ≤ n + 1) xs (x ∷ []) (below_more xs n below) (omega (arith, is), tt)
