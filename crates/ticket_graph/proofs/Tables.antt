-- Tables that are the same everywhere.
use Rattle.std.proofs.Common.{ℕ, ◌≡◌, ◌≤◌, nat_lt, get_or, replicate, inl, inr, arith}
use Rattle.std.proofs.lemmas.List.{get_or-replicate, length-replicate, get_or_past}
use Rattle.order_laws.proofs.ForCallers.{bool_is}

pub same_everywhere : {A : Type 0} (n i : ℕ) (d : A) → get_or (replicate n d) i d ≡ d
same_everywhere n i d =
    elim (bool_is (nat_lt i n)) [
      | inl e ↦ get_or-replicate n i d d (grind arith)
      | inr e ↦ let past : n ≤ i = grind arith in get_or_past (replicate n d) i d (rw (length-replicate n d) past)
    ]
