-- One more transaction is drawn.
use Rattle.std.proofs.Common.{ℕ, ◌≡◌, ◌+◌, ◌++◌, [], ◌∷◌, cond, refl}
use native.Mathlib.Numerals.{unary_clauses}
use Rattle.scenario_maker.specs.Draws.{so_far}
use Rattle.scenario_maker.specs.Made.{behind_transactions, is_global, made_transaction, made_transactions}

pub one_more : (sites n x : ℕ) → made_transactions sites (n + 1) x ≡ made_transactions sites n x ++ made_transaction sites (n + 1) (behind_transactions sites n x) ∷ []
one_more sites n x = simp unary_clauses refl

pub behind_one : (sites n x : ℕ) → behind_transactions sites (n + 1) x ≡ so_far (cond (is_global sites (n + 1)) 5 4) (behind_transactions sites n x)
behind_one sites n x = simp unary_clauses refl
