-- The ages of each key, as a map and as the hash map that keeps them.
use Rattle.std.proofs.Common.{◌≡◌, ℕ, Bool, true, false, cond, is_some, nat_eq, Option, Some, None, List, refl, sym, ap, ◌∙◌}
use Rattle.std.specs.FinMap.{from_entries}
use Rattle.std.specs.Map.{lookup}
use Rattle.std.proofs.lemmas.Bool.{eqb-true}
use Rattle.mdb_base.specs.declared.names.Key.{Key}
use Rattle.mdb_base.specs.Names.{same_key}
use Rattle.mdb_base.specs.Words.{or_else}
use Rattle.site_tables.proofs.ForCallers.{get-lookup}
use Rattle.run_book.specs.declared.key_ages.KeyAges.{KeyAges}
use Rattle.run_book.specs.Ages.{no_ages, ages_of}

-- what a look-up in the hash map finds
abbrev pub kept : List (ℕ × KeyAges) → ℕ → Option KeyAges
kept es q = lookup (nat_eq q) es

-- the ages of a key in the hash map
pub ages_kept : (es : List (ℕ × KeyAges)) (q : Key) → ages_of (from_entries es) q ≡ or_else (kept es q.0) no_ages
ages_kept es q = ap (λ (o : Option KeyAges). or_else o no_ages) (get-lookup es q.0)

-- an entry of nobody, where there was none, changes nothing
pub room_same : (es fs : List (ℕ × KeyAges)) (k : ℕ) (nobody : KeyAges) → nobody ≡ no_ages → ((q : ℕ) → kept fs q ≡ cond (nat_eq k q) (Some nobody) (kept es q)) → is_some (kept es k) ≡ false →
    (q : Key) → ages_of (from_entries fs) q ≡ ages_of (from_entries es) q
room_same es fs k nobody is h none q =
    ages_kept fs q ∙ (ap (λ (o : Option KeyAges). or_else o no_ages) (h q.0) ∙ (by_key (nat_eq k q.0) refl ∙ sym (ages_kept es q)))
  where
    absent : (o : Option KeyAges) → is_some o ≡ false → or_else o no_ages ≡ no_ages
    absent None e = refl
    absent (Some a) e = cc

    by_key : (b : Bool) → nat_eq k q.0 ≡ b → or_else (cond b (Some nobody) (kept es q.0)) no_ages ≡ or_else (kept es q.0) no_ages
    by_key true e = is ∙ sym (absent (kept es q.0) (ap (λ (n : ℕ). is_some (kept es n)) (sym (eqb-true k q.0 e)) ∙ none))
    by_key false e = refl

-- the ages of one key are changed
pub ages_changed : (es fs : List (ℕ × KeyAges)) (key : Key) (was now : KeyAges) (change : KeyAges → KeyAges) → kept es key.0 ≡ Some was → now ≡ change was → ((q : ℕ) → kept fs q ≡ cond (nat_eq key.0 q) (Some now) (kept es q)) →
    (q : Key) → ages_of (from_entries fs) q ≡ cond (same_key key q) (change (ages_of (from_entries es) q)) (ages_of (from_entries es) q)
ages_changed es fs key was now change found made h q =
    ages_kept fs q ∙ (ap (λ (o : Option KeyAges). or_else o no_ages) (h q.0) ∙ (by_key (same_key key q) refl
    ∙ ap (λ (a : KeyAges). cond (same_key key q) (change a) a) (sym (ages_kept es q))))
  where
    by_key : (b : Bool) → same_key key q ≡ b → or_else (cond b (Some now) (kept es q.0)) no_ages ≡ cond b (change (or_else (kept es q.0) no_ages)) (or_else (kept es q.0) no_ages)
    by_key true e =
        let here : kept es q.0 ≡ Some was = ap (λ (n : ℕ). kept es n) (sym (eqb-true key.0 q.0 e)) ∙ found in
        made ∙ sym (ap (λ (o : Option KeyAges). change (or_else o no_ages)) here)
    by_key false e = refl

-- a change that leaves the ages of nobody changes nothing where nobody accessed the key
pub ages_unchanged : (es : List (ℕ × KeyAges)) (key : Key) (change : KeyAges → KeyAges) → change no_ages ≡ no_ages → kept es key.0 ≡ None →
    (q : Key) → ages_of (from_entries es) q ≡ cond (same_key key q) (change (ages_of (from_entries es) q)) (ages_of (from_entries es) q)
ages_unchanged es key change idle none q = by_key (same_key key q) refl
  where
    by_key : (b : Bool) → same_key key q ≡ b → ages_of (from_entries es) q ≡ cond b (change (ages_of (from_entries es) q)) (ages_of (from_entries es) q)
    by_key true e =
        let here : ages_of (from_entries es) q ≡ no_ages =
        ages_kept es q ∙ ap (λ (o : Option KeyAges). or_else o no_ages) (ap (λ (n : ℕ). kept es n) (sym (eqb-true key.0 q.0 e)) ∙ none) in
        here ∙ (sym idle ∙ ap change (sym here))
    by_key false e = refl
