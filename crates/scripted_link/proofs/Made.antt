-- Scripts that are made by rising place.
use Rattle.std.proofs.Common.{◌≡◌, ℕ, ◌+◌, ◌<◌, ◌≤◌, List, [], ◌∷◌, ◌++◌, sym, subst, arith}
use Rattle.mdb_base.specs.Words.{Each}
use Rattle.mdb_base.specs.Rising.{IsRising}
use Rattle.scripted_link.specs.declared.script.FateAt.{FateAt}

-- the places rise, and all are below this one
pub record MadeTo (fates : List FateAt) (place : ℕ) : Type 0 where
  pub rise : IsRising (λ (f : FateAt). f.place) fates
  pub below : Each (λ (f : FateAt). f.place < place) fates

pub none_made : (fates : List FateAt) → fates ≡ [] → MadeTo fates 0
none_made fates e = subst (λ (fs : List FateAt). MadeTo fs 0) (sym e) (record { rise = tt; below = tt })

below_more : (n : ℕ) (fates : List FateAt) → Each (λ (f : FateAt). f.place < n) fates → Each (λ (f : FateAt). f.place < n + 1) fates
below_more n [] h = tt
below_more n (f ∷ fs) h = let lt = h.0 in (omega arith, below_more n fs h.1)

-- a place that isn't named
pub skipped : (fates : List FateAt) (place : ℕ) → MadeTo fates place → MadeTo fates (place + 1)
skipped fates place h = record { rise = h.rise; below = below_more place fates h.below }

below_push : (n : ℕ) (fates : List FateAt) (f : FateAt) → Each (λ (g : FateAt). g.place < n) fates → f.place < n → Each (λ (g : FateAt). g.place < n) (fates ++ f ∷ [])
below_push n [] f h lt = (lt, tt)
below_push n (g ∷ gs) f h lt = (h.0, below_push n gs f h.1 lt)

rise_push : (n : ℕ) (fates : List FateAt) (f : FateAt) → IsRising (λ (g : FateAt). g.place) fates → Each (λ (g : FateAt). g.place < n) fates → n ≤ f.place →
    IsRising (λ (g : FateAt). g.place) (fates ++ f ∷ [])
rise_push n [] f h below le = tt
rise_push n (g ∷ []) f h below le = let lt = below.0 in (omega arith, tt)
rise_push n (g ∷ e ∷ gs) f h below le = (h.0, rise_push n (e ∷ gs) f h.1 below.1 le)

-- a place that is named
pub named : (fates more : List FateAt) (f : FateAt) (place : ℕ) → MadeTo fates place → f.place ≡ place → more ≡ fates ++ f ∷ [] → MadeTo more (place + 1)
named fates more f place h at e = subst (λ (fs : List FateAt). MadeTo fs (place + 1)) (sym e) (record {
  rise = rise_push place fates f h.rise h.below (omega arith);
  below = below_push (place + 1) fates f (below_more place fates h.below) (omega arith);
})
