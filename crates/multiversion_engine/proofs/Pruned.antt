-- What is dropped of the versions, step by step.
use Rattle.std.proofs.Common.{cond, ◌≡◌, ℕ, ◌<◌, ◌⊎◌, Bool, true, false, ◌||◌, nat_eq, Option, Some, None, IsSome, is_some, List, ◌∷◌, inl, inr, refl, sym, ap, ◌∙◌, subst, ◌≤◌, nat_lt, arith}
use Rattle.std.specs.FinMap.{get, remove}
use Rattle.std.proofs.lemmas.Bool.{cond-true, cond-false, eq-eqb, eqb-true, ltb-true, ltb-false, or_left, or_right}
use Rattle.mdb_base.specs.declared.names.Key.{Key}
use Rattle.mdb_base.specs.declared.rows.Put.{Put}
use Rattle.fed_rules.specs.Runs.{Access, Got, Wrote}
use Rattle.run_book.specs.Held.{written_row}
use Rattle.multiversion_engine.specs.declared.old_versions.Place.{Place}
use Rattle.multiversion_engine.specs.OldVersions.{Olds, place_of, IsUnread, Prunes, AllRead, writes_key}
use Rattle.run_book.specs.Takers.{ByAge}
use Rattle.multiversion_engine.specs.Unended.{HasAgeWithin, AreWithin}
use Rattle.multiversion_engine.proofs.Places.{same_place, place-equal, self_place, version-gone}

pub pruned_none : (unended : ByAge) (wrote : ℕ → Bool) (number : ℕ) (olds : Olds) → Prunes unended wrote number olds olds
pruned_none unended wrote number olds q = inl refl

-- what is left was there
pub left_there : (unended : ByAge) (wrote : ℕ → Bool) (number : ℕ) (old new : Olds) (q : Place) → Prunes unended wrote number old new → IsSome (get new q) → IsSome (get old q)
left_there unended wrote number old new q pruned h = elim (pruned q) [
  | inl same ↦ sym (ap (λ (x : Option ℕ). is_some x) same) ∙ h
  | inr gone ↦ let bad : false ≡ true = sym (ap (λ (x : Option ℕ). is_some x) gone.0) ∙ h in cc
]

-- more is dropped of what was left
pub pruned_more : (unended : ByAge) (first second both : ℕ → Bool) (number : ℕ) (old mid new : Olds) → ((k : ℕ) → first k ≡ true → both k ≡ true) → ((k : ℕ) → second k ≡ true → both k ≡ true) →
    Prunes unended first number old mid → Prunes unended second number mid new → Prunes unended both number old new
pruned_more unended first second both number old mid new by_first by_second before after q = elim (after q) [
  | inl same ↦ elim (before q) [
    | inl was ↦ inl (same ∙ was)
    | inr gone ↦ inr (same ∙ gone.0, by_first q.key gone.1, gone.2)
  ]
  | inr gone ↦ inr (
    gone.0,
    by_second q.key gone.1,
    record {
      next = gone.2.next;
      after = gone.2.after;
      is_next = elim gone.2.is_next [
        | inl is ↦ inl is
        | inr there ↦ inr (left_there unended first number old mid (record { key = q.key; number = gone.2.next }) before there)
      ];
      none = gone.2.none;
    },
  )
]

-- one version is dropped
pub pruned_one : (unended : ByAge) (key : Key) (number n next : ℕ) (old mid new : Olds) → n < next → (next ≡ number) ⊎ IsSome (get old (place_of key next)) → AreWithin unended n next false →
    new ≡ remove mid (place_of key n) → Prunes unended (λ k. nat_eq k key.0) number old mid → Prunes unended (λ k. nat_eq k key.0) number old new
pruned_one unended key number n next old mid new after is_next none removed before q = by_place (same_place q (place_of key n)) refl
  where
    by_place : (b : Bool) → same_place q (place_of key n) ≡ b → (get new q ≡ get old q) ⊎ ((get new q ≡ None) × (nat_eq q.key key.0 ≡ true) × IsUnread unended number old q)
    by_place true e =
        let here = place-equal q (place_of key n) e in
        let unread : IsUnread unended number old (place_of key n) = record { next = next; after = after; is_next = is_next; none = none } in
        inr (
          ap (λ (m : Olds). get m q) removed ∙ (version-gone mid (place_of key n) q ∙ cond-true _ _ _ e),
          eq-eqb q.key key.0 (ap (λ (p : Place). p.key) here),
          subst (λ (p : Place). IsUnread unended number old p) (sym here) unread,
        )
    by_place false e =
        let same : get new q ≡ get mid q = ap (λ (m : Olds). get m q) removed ∙ (version-gone mid (place_of key n) q ∙ cond-false _ _ _ e) in
        elim (before q) [ inl was ↦ inl (same ∙ was) | inr gone ↦ inr (same ∙ gone.0, gone.1, gone.2) ]

-- one more access, which may write its key
pub writes_more : (access : Access) (acts : List Access) (k : ℕ) → writes_key acts k ≡ true → writes_key (access ∷ acts) k ≡ true
writes_more access acts k h = or_right _ (writes_key acts k) h

pub writes_row : (access : Access) (row : Put) (acts : List Access) (k : ℕ) → written_row access ≡ Some row → nat_eq k row.key.0 ≡ true → writes_key (access ∷ acts) k ≡ true
writes_row (Got key value) row acts k is h = cc
writes_row (Wrote key value) row acts k is h =
    let put : Put = record { key = key; value = value } in
    let same : put ≡ row = cc in
    or_left (nat_eq key.0 k) (writes_key acts k) (eq-eqb key.0 k (ap (λ (p : Put). p.key.0) same ∙ sym (eqb-true k row.key.0 h)))

-- the versions of a key from this number on, below that of the commit, are read
abbrev pub ReadFrom : ByAge → Key → ℕ → ℕ → Olds → Type 0
ReadFrom unended key next number olds = (q : Place) (value : ℕ) → nat_eq q.key key.0 ≡ true → next ≤ q.number → q.number < number → get olds q ≡ Some value → HasAgeWithin unended q.number number

-- the next version down is dropped
pub read_dropped : (unended : ByAge) (key : Key) (number n next : ℕ) (mid new : Olds) → new ≡ remove mid (place_of key n) → ((m : ℕ) → n < m → m < next → get mid (place_of key m) ≡ None) →
    ReadFrom unended key next number mid → ReadFrom unended key n number new
read_dropped unended key number n next mid new removed between read q value of_key from below there = by_place (same_place q (place_of key n)) refl (sym (version-gone mid (place_of key n) q) ∙ (ap (λ (m : Olds). get m q) (sym removed) ∙ there))
  where
    is_place : q ≡ place_of key q.number
    is_place = ap (λ (k : ℕ). let p : Place = record { key = k; number = q.number } in p) (eqb-true q.key key.0 of_key)

    by_next : (b : Bool) → nat_lt q.number next ≡ b → (q.number ≡ n → ⊥) → get mid q ≡ Some value → HasAgeWithin unended q.number number
    by_next true e apart at =
        let none = between q.number (omega (arith, apart)) (ltb-true q.number next e) in
        let bad : None ≡ Some value = sym none ∙ (ap (λ (p : Place). get mid p) (sym is_place) ∙ at) in cc
    by_next false e apart at = read q value of_key (ltb-false q.number next e) below at

    by_place : (b : Bool) → same_place q (place_of key n) ≡ b → cond b None (get mid q) ≡ Some value → HasAgeWithin unended q.number number
    by_place true e at = cc
    by_place false e at = by_next (nat_lt q.number next) refl (λ same.
        let here : same_place q (place_of key n) ≡ true = ap (λ (p : Place). same_place p (place_of key n)) (is_place ∙ ap (λ (m : ℕ). place_of key m) same) ∙ self_place (place_of key n) in cc) at

-- or it is one that is read
pub read_kept : (unended : ByAge) (key : Key) (number n next : ℕ) (olds : Olds) → next ≤ number → AreWithin unended n next true → ((m : ℕ) → n < m → m < next → get olds (place_of key m) ≡ None) →
    ReadFrom unended key next number olds → ReadFrom unended key n number olds
read_kept unended key number n next olds up within between read q value of_key from below there = by_next (nat_lt q.number next) refl (nat_lt n q.number) refl
  where
    is_place : q ≡ place_of key q.number
    is_place = ap (λ (k : ℕ). let p : Place = record { key = k; number = q.number } in p) (eqb-true q.key key.0 of_key)

    by_next : (b : Bool) → nat_lt q.number next ≡ b → (a : Bool) → nat_lt n q.number ≡ a → HasAgeWithin unended q.number number
    by_next false e a f = read q value of_key (ltb-false q.number next e) below there
    by_next true e true f =
        let none = between q.number (ltb-true n q.number f) (ltb-true q.number next e) in
        let bad : None ≡ Some value = sym none ∙ (ap (λ (p : Place). get olds p) (sym is_place) ∙ there) in cc
    by_next true e false f =
        let same : q.number ≡ n = let le = ltb-false n q.number f in omega arith in
        let most = within.within in
        let least = within.above in
        record { age = within.age; above = omega arith; within = omega arith; there = within.there }

-- and at the end all of them are
pub all_read : (unended : ByAge) (key : Key) (number next : ℕ) (olds : Olds) → ((m : ℕ) → m < next → get olds (place_of key m) ≡ None) → ReadFrom unended key next number olds → AllRead unended (λ k. nat_eq k key.0) number olds
all_read unended key number next olds none read q value of_key below there = by_next (nat_lt q.number next) refl
  where
    is_place : q ≡ place_of key q.number
    is_place = ap (λ (k : ℕ). let p : Place = record { key = k; number = q.number } in p) (eqb-true q.key key.0 of_key)

    by_next : (b : Bool) → nat_lt q.number next ≡ b → HasAgeWithin unended q.number number
    by_next true e = let bad : None ≡ Some value = sym (none q.number (ltb-true q.number next e)) ∙ (ap (λ (p : Place). get olds p) (sym is_place) ∙ there) in cc
    by_next false e = read q value of_key (ltb-false q.number next e) below there

-- the versions of one more key are read
pub read_more : (unended : ByAge) (first second both : ℕ → Bool) (number : ℕ) (mid new : Olds) → ((k : ℕ) → both k ≡ true → (first k ≡ true) ⊎ (second k ≡ true)) → Prunes unended second number mid new →
    AllRead unended first number mid → AllRead unended second number new → AllRead unended both number new
read_more unended first second both number mid new one pruned before after q value wrote below there = elim (one q.key wrote) [
  | inl was ↦ elim (pruned q) [
    | inl same ↦ before q value was below (sym same ∙ there)
    | inr gone ↦ let bad : None ≡ Some value = sym gone.0 ∙ there in cc
  ]
  | inr now ↦ after q value now below there
]

-- one more access writes its key, or none
pub writes_one : (access : Access) (row : Put) (acts : List Access) (k : ℕ) → written_row access ≡ Some row → writes_key (access ∷ acts) k ≡ true → (writes_key acts k ≡ true) ⊎ (nat_eq k row.key.0 ≡ true)
writes_one (Got key value) row acts k is h = cc
writes_one (Wrote key value) row acts k is h = by_test (nat_eq key.0 k) refl h
  where
    by_test : (b : Bool) → nat_eq key.0 k ≡ b → (b || writes_key acts k) ≡ true → (writes_key acts k ≡ true) ⊎ (nat_eq k row.key.0 ≡ true)
    by_test true e any =
        let put : Put = record { key = key; value = value } in
        let same : put ≡ row = cc in
        inr (eq-eqb k row.key.0 (sym (eqb-true key.0 k e) ∙ ap (λ (p : Put). p.key.0) same))
    by_test false e any = inl any

pub writes_none : (access : Access) (acts : List Access) (k : ℕ) → written_row access ≡ None → writes_key (access ∷ acts) k ≡ writes_key acts k
writes_none (Got key value) acts k is = refl
writes_none (Wrote key value) acts k is = cc
