-- Keys that get a number one after another.
use Rattle.std.proofs.Common.{◌≡◌, ℕ, ◌+◌, ◌<◌, Bool, true, false, cond, ◌&&◌, ◌||◌, Option, Some, None, List, ◌∷◌, length, drop, get_or, refl, sym, ap, ◌∙◌, arith}
use Rattle.std.proofs.lemmas.Bool.Decides.{nat_tests}
use Rattle.std.proofs.lemmas.List.{at_drop_more}
use Rattle.std.specs.Ordering.{is_eq}
use Rattle.mdb_base.specs.declared.names.Key.{Key}
use Rattle.mdb_base.specs.declared.rows.Put.{Put}
use Rattle.mdb_base.specs.Names.{same_key}
use Rattle.mdb_base.specs.Words.{each_of}
use Rattle.mdb_base.proofs.ForCallers.{same_key-equal}
use Rattle.fed_rules.specs.EngineLines.{has_row}
use Rattle.journal_sums.specs.Versions.{key_cmp}
use Rattle.usable_journals.specs.SiteTests.{greater_of}

is_eq-key : (a b : Key) → is_eq (key_cmp a b) ≡ same_key a b
is_eq-key a b = grind (arith, nat_tests)

split : (writes : List Put) (i : ℕ) (d : Put) → i < length writes → drop i writes ≡ get_or writes i d ∷ drop (i + 1) writes
split writes i d within = at_drop_more (λ rows. rows) writes i d within

-- the next key gets it, or loses it
pub next_key : (writes : List Put) (i : ℕ) (d : Put) (key : Key) (w now old : Option ℕ) → i < length writes
    → now ≡ cond (is_eq (key_cmp (get_or writes i d).key key)) w old
    → cond (has_row key (drop (i + 1) writes)) w now ≡ cond (has_row key (drop i writes)) w old
next_key writes i d key w now old within is =
    ap (cond (has_row key (drop (i + 1) writes)) w) (is ∙ ap (λ b. cond b w old) (is_eq-key (get_or writes i d).key key))
    ∙ either (same_key (get_or writes i d).key key) (has_row key (drop (i + 1) writes))
    ∙ ap (λ rows. cond (has_row key rows) w old) (sym (split writes i d within))
  where
    either : (a b : Bool) → cond b w (cond a w old) ≡ cond (a || b) w old
    either true true = refl
    either true false = refl
    either false b = refl

greater_twice : (o : Option ℕ) (n : ℕ) → greater_of (Some (greater_of o n)) n ≡ greater_of o n
greater_twice None n = omega arith
greater_twice (Some m) n = omega arith

-- the next key gets it, unless it has a greater one
pub next_raised : (writes : List Put) (i : ℕ) (d : Put) (key : Key) (n v : ℕ) (now : Option ℕ) (look : Key → Option ℕ) → i < length writes
    → v ≡ greater_of (look (get_or writes i d).key) n → now ≡ cond (is_eq (key_cmp (get_or writes i d).key key)) (Some v) (look key)
    → cond (has_row key (drop (i + 1) writes)) (Some (greater_of now n)) now ≡ cond (has_row key (drop i writes)) (Some (greater_of (look key) n)) (look key)
next_raised writes i d key n v now look within value is =
    by_key (same_key (get_or writes i d).key key) refl (is ∙ ap (λ b. cond b (Some v) (look key)) (is_eq-key (get_or writes i d).key key))
    ∙ ap (λ rows. cond (has_row key rows) (Some (greater_of (look key) n)) (look key)) (sym (split writes i d within))
  where
    again : (b : Bool) (o : Option ℕ) → o ≡ Some (greater_of (look key) n) → cond b (Some (greater_of o n)) o ≡ Some (greater_of (look key) n)
    again true o e = ap (λ p. Some (greater_of p n)) e ∙ ap Some (greater_twice (look key) n)
    again false o e = e

    by_key : (a : Bool) → same_key (get_or writes i d).key key ≡ a → now ≡ cond a (Some v) (look key)
        → cond (has_row key (drop (i + 1) writes)) (Some (greater_of now n)) now ≡ cond (a || has_row key (drop (i + 1) writes)) (Some (greater_of (look key) n)) (look key)
    by_key true same e = again (has_row key (drop (i + 1) writes)) now
        (e ∙ ap Some (value ∙ ap (λ k. greater_of (look k) n) (same_key-equal (get_or writes i d).key key same)))
    by_key false same e = ap (λ o. cond (has_row key (drop (i + 1) writes)) (Some (greater_of o n)) o) e

-- ---- a test of each write

-- the next one fails, and so not all pass
pub next_fails : (test : Put → Bool) (writes : List Put) (i : ℕ) (d : Put) → i < length writes → test (get_or writes i d) ≡ false → each_of test (drop i writes) ≡ each_of test writes
    → false ≡ each_of test writes
next_fails test writes i d within fails left =
    sym (ap (λ b. b && each_of test (drop (i + 1) writes)) fails) ∙ ap (each_of test) (sym (split writes i d within)) ∙ left

-- it passes, and so the others decide
pub next_passes : (test : Put → Bool) (writes : List Put) (i : ℕ) (d : Put) → i < length writes → test (get_or writes i d) ≡ true → each_of test (drop i writes) ≡ each_of test writes
    → each_of test (drop (i + 1) writes) ≡ each_of test writes
next_passes test writes i d within passes left =
    sym (ap (λ b. b && each_of test (drop (i + 1) writes)) passes) ∙ ap (each_of test) (sym (split writes i d within)) ∙ left
