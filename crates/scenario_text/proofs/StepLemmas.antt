-- Steps, read one after another.
use Rattle.std.proofs.Common.{◌≡◌, ℕ, List, [], ◌∷◌, ◌++◌, Option, Result, Ok, Err, refl, sym, ap, ◌∙◌, append_assoc}
use Rattle.std.proofs.lemmas.List.{append-nil}
use Rattle.mdb_base.specs.declared.names.SiteId.{SiteId}
use Rattle.mdb_base.specs.declared.acts.Step.{Step}
use Rattle.fed_rules.specs.declared.scenario.SiteLine.{SiteLine}
use Rattle.scenario_text.specs.declared.bad.BadWhy.{BadWhy}
use Rattle.scenario_text.specs.Reads.{◌>>=◌}
use Rattle.scenario_text.specs.Steps.{behind, step_of, steps_of}

-- no steps stand before those that are read
pub behind_none : (read : Result (List Step) BadWhy) → behind [] read ≡ read
behind_none (Ok rest) = refl
behind_none (Err why) = refl

regroup : (front : List Step) (step : Step) (read : Result (List Step) BadWhy) → behind front (read >>= λ rest. Ok (step ∷ rest)) ≡ behind (front ++ step ∷ []) read
regroup front step (Ok rest) = ap (λ (xs : List Step). Ok xs) (sym (append_assoc front (step ∷ []) rest))
regroup front step (Err why) = refl

-- one step more
pub goes_on : (sites : List SiteLine) (home : Option SiteId) (front : List Step) (word : List ℕ) (words : List (List ℕ)) (step : Step)
    → step_of sites home word ≡ Ok step → behind front (steps_of sites home (word ∷ words)) ≡ behind (front ++ step ∷ []) (steps_of sites home words)
unfolding steps_of
goes_on sites home front word words step h =
    ap (λ (read : Result Step BadWhy). behind front (read >>= λ first. steps_of sites home words >>= λ rest. Ok (first ∷ rest))) h ∙ regroup front step (steps_of sites home words)

-- a step that is refused
pub stops : (sites : List SiteLine) (home : Option SiteId) (front : List Step) (word : List ℕ) (words : List (List ℕ)) (why : BadWhy)
    → step_of sites home word ≡ Err why → behind front (steps_of sites home (word ∷ words)) ≡ Err why
unfolding steps_of
stops sites home front word words why h =
    ap (λ (read : Result Step BadWhy). behind front (read >>= λ first. steps_of sites home words >>= λ rest. Ok (first ∷ rest))) h

-- no word is left behind this one
pub ends : (sites : List SiteLine) (home : Option SiteId) (front : List Step) (word : List ℕ) (step : Step)
    → step_of sites home word ≡ Ok step → behind front (steps_of sites home (word ∷ [])) ≡ Ok (front ++ step ∷ [])
unfolding steps_of
ends sites home front word step h = goes_on sites home front word [] step h ∙ ap (λ (xs : List Step). Ok xs) (append-nil (front ++ step ∷ []))
