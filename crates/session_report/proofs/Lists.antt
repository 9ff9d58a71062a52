-- Items of a list by their places, and lists that are turned round.
use Rattle.std.proofs.Common.{◌≡◌, List, [], ◌∷◌, ◌++◌, reverse, refl, sym, ap, ◌∙◌}
use Rattle.mdb_base.proofs.ForCallers.{reverse_more}
use Rattle.fed_rules.specs.CoordPast.{oldest_first}

-- the oldest first
pub oldest_reverse : {A : Type 0} (xs : List A) → oldest_first xs ≡ reverse xs
oldest_reverse [] = refl
oldest_reverse (x ∷ xs) = ap (λ ys. ys ++ x ∷ []) (oldest_reverse xs) ∙ sym (reverse_more x xs)
