-- Lists that are made with rising stamps.
use Rattle.std.proofs.Common.{◌≡◌, ℕ, ◌<◌, ◌≤◌, List, [], ◌∷◌, ◌++◌, sym, subst, arith}
use Rattle.mdb_base.specs.Words.{Each}
use Rattle.fed_rules.specs.declared.commands.Stamped.{Stamped}
use Rattle.trace_merge.specs.Traces.{StampsRise}
use Rattle.trace_merge.proofs.ForCallers.{each_map}

-- the stamps rise, and none is greater than this one
pub record MadeTo (lines : List Stamped) (stamp : ℕ) : Type 0 where
  pub rise : StampsRise lines
  pub most : Each (λ (line : Stamped). line.stamp ≤ stamp) lines

pub none_made : (lines : List Stamped) → lines ≡ [] → MadeTo lines 0
none_made lines e = subst (λ (xs : List Stamped). MadeTo xs 0) (sym e) (record { rise = tt; most = tt })

each_push : (n : ℕ) (xs : List Stamped) (y : Stamped) → Each (λ (line : Stamped). line.stamp ≤ n) xs → y.stamp ≤ n → Each (λ (line : Stamped). line.stamp ≤ n) (xs ++ y ∷ [])
each_push n [] y h le = (le, tt)
each_push n (x ∷ xs) y h le = (h.0, each_push n xs y h.1 le)

rises_push : (n : ℕ) (xs : List Stamped) (y : Stamped) → StampsRise xs → Each (λ (line : Stamped). line.stamp ≤ n) xs → n < y.stamp → StampsRise (xs ++ y ∷ [])
rises_push n [] y h most lt = tt
rises_push n (x ∷ []) y h most lt = let le = most.0 in (omega arith, tt)
rises_push n (x ∷ z ∷ xs) y h most lt = (h.0, rises_push n (z ∷ xs) y h.1 most.1 lt)

pub one_more : (lines more : List Stamped) (line : Stamped) (stamp : ℕ) → MadeTo lines stamp → stamp < line.stamp → more ≡ lines ++ line ∷ [] → MadeTo more line.stamp
one_more lines more line stamp h lt e = subst (λ (xs : List Stamped). MadeTo xs line.stamp) (sym e) (record {
  rise = rises_push stamp lines line h.rise h.most lt;
  most = each_push line.stamp lines line (each_map (λ (z : Stamped). z.stamp ≤ stamp) (λ (z : Stamped). z.stamp ≤ line.stamp) lines (λ z le. omega arith) h.most) (omega arith);
})

-- one more list that rises
pub rise_push : (lists : List (List Stamped)) (list : List Stamped) → Each StampsRise lists → StampsRise list → Each StampsRise (lists ++ list ∷ [])
rise_push [] list h r = (r, tt)
rise_push (xs ∷ lists) list h r = (h.0, rise_push lists list h.1 r)
