-- Lists whose items rise by a number: what is made of them rises too.
use Rattle.std.proofs.Common.{◌≡◌, ℕ, ◌<◌, ◌≤◌, ◌&&◌, ◌||◌, Bool, true, false, cond, not, Option, Some, None, List, [], ◌∷◌, map, inl, inr, refl, sym, ◌∙◌, ap, subst, arith}
use Rattle.std.proofs.lemmas.Bool.{and_parts, lt-ltb, ltb-false, ltb-true}
use Rattle.std.proofs.Math.Nat.{eq-or-lt_of_le}
use Rattle.mdb_base.specs.declared.names.SiteId.{SiteId}
use Rattle.mdb_base.specs.Names.{same_site}
use Rattle.mdb_base.specs.Words.{Each, found, inserted, some_of, those, with_some}
use Rattle.mdb_base.proofs.ForCallers.{same_site-refl}
use Rattle.presumptions.specs.declared.Participant.{Participant}
use Rattle.fed_rules.specs.declared.commands.Place.{Place}
use Rattle.fed_rules.specs.declared.scenario.SiteLine.{SiteLine}
use Rattle.fed_rules.specs.Plans.{all_differ, one_site}
use Rattle.fed_rules.specs.Scenarios.{protocols_in}
use Rattle.line_text.specs.Fits.{sites_rise}
use Rattle.commit_laws.proofs.ForCallers.{by_site}

-- each item's number is less than those of all behind it
abbrev pub Sorted : {A : Type 0} → (A → ℕ) → List A → Type 0
Sorted number [] = Unit {0}
Sorted number (x ∷ xs) = Each (λ y. number x < number y) xs × Sorted number xs

module _ {A : Type 0} (number : A → ℕ) where
  each_those : (n : ℕ) (test : A → Bool) (xs : List A) → Each (λ y. n < number y) xs → Each (λ y. n < number y) (those test xs)
  each_those n test [] h = tt
  each_those n test (x ∷ xs) h = by_test (test x) (each_those n test xs h.1)
    where
      by_test : (b : Bool) → Each (λ y. n < number y) (those test xs) → Each (λ y. n < number y) (cond b (x ∷ those test xs) (those test xs))
      by_test true rest = (h.0, rest)
      by_test false rest = rest

  -- those that pass a test
  pub those_sorted : (test : A → Bool) (xs : List A) → Sorted number xs → Sorted number (those test xs)
  those_sorted test [] h = tt
  those_sorted test (x ∷ xs) h = by_test (test x) (those_sorted test xs h.1)
    where
      by_test : (b : Bool) → Sorted number (those test xs) → Sorted number (cond b (x ∷ those test xs) (those test xs))
      by_test true rest = (each_those (number x) test xs h.0, rest)
      by_test false rest = rest

  module _ {B : Type 0} (of : B → ℕ) where
    each_mapped : (f : A → B) → ((x : A) → of (f x) ≡ number x) → (n : ℕ) (xs : List A) → Each (λ y. n < number y) xs → Each (λ z. n < of z) (map f xs)
    each_mapped f same n [] h = tt
    each_mapped f same n (x ∷ xs) h = (subst (λ m. n < m) (sym (same x)) h.0, each_mapped f same n xs h.1)

    -- what is made of each with its number
    pub map_sorted : (f : A → B) → ((x : A) → of (f x) ≡ number x) → (xs : List A) → Sorted number xs → Sorted of (map f xs)
    map_sorted f same [] h = tt
    map_sorted f same (x ∷ xs) h = (subst (λ n. Each (λ z. n < of z) (map f xs)) (sym (same x)) (each_mapped f same (number x) xs h.0), map_sorted f same xs h.1)

    each_found : (look : A → Option B) → ((x : A) (b : B) → look x ≡ Some b → of b ≡ number x) → (n : ℕ) (xs : List A) → Each (λ y. n < number y) xs → Each (λ z. n < of z) (found look xs)
    each_found look same n [] h = tt
    each_found look same n (x ∷ xs) h = by_look (look x) refl (each_found look same n xs h.1)
      where
        by_look : (o : Option B) → look x ≡ o → Each (λ z. n < of z) (found look xs) → Each (λ z. n < of z) (with_some o (found look xs))
        by_look None e rest = rest
        by_look (Some b) e rest = (subst (λ m. n < m) (sym (same x b e)) h.0, rest)

    -- what is found for each with its number
    pub found_sorted : (look : A → Option B) → ((x : A) (b : B) → look x ≡ Some b → of b ≡ number x) → (xs : List A) → Sorted number xs → Sorted of (found look xs)
    found_sorted look same [] h = tt
    found_sorted look same (x ∷ xs) h = by_look (look x) refl (found_sorted look same xs h.1)
      where
        by_look : (o : Option B) → look x ≡ o → Sorted of (found look xs) → Sorted of (with_some o (found look xs))
        by_look None e rest = rest
        by_look (Some b) e rest = (subst (λ n. Each (λ z. n < of z) (found look xs)) (sym (same x b e)) (each_found look same (number x) xs h.0), rest)

-- places at rising sites
pub places_rise : (places : List Place) → Sorted (λ (p : Place). p.site.0) places → sites_rise places ≡ true
places_rise [] h = refl
places_rise (p ∷ []) h = refl
places_rise (p ∷ q ∷ ps) h = ap (λ b. b && sites_rise (q ∷ ps)) (lt-ltb p.site.0 q.site.0 h.0.0) ∙ places_rise (q ∷ ps) h.1

-- ---- the participants of a scenario

abbrev pub number_of : Participant → ℕ
number_of p = p.site.0

each_above : (n : ℕ) (x : Participant) (ys : List Participant) → n < number_of x → Each (λ y. n < number_of y) ys → Each (λ y. n < number_of y) (inserted by_site x ys)
each_above n x [] lt h = (lt, tt)
each_above n x (y ∷ ys) lt h = by_test (by_site y x) (each_above n x ys lt h.1)
  where
    by_test : (b : Bool) → Each (λ z. n < number_of z) (inserted by_site x ys) → Each (λ z. n < number_of z) (cond b (y ∷ inserted by_site x ys) (x ∷ y ∷ ys))
    by_test true rest = (h.0, rest)
    by_test false rest = (lt, h)

above_all : (n m : ℕ) (ys : List Participant) → n < m → Each (λ y. m < number_of y) ys → Each (λ y. n < number_of y) ys
above_all n m [] lt h = tt
above_all n m (y ∷ ys) lt h = ((let a = h.0 in omega (arith, lt, a)), above_all n m ys lt h.1)

insert_sorted : (x : Participant) (ys : List Participant) → Each (λ y. number_of y ≡ number_of x → ⊥) ys → Sorted number_of ys → Sorted number_of (inserted by_site x ys)
insert_sorted x [] apart h = (tt, tt)
insert_sorted x (y ∷ ys) apart h = by_test (by_site y x) refl (insert_sorted x ys apart.1 h.1)
  where
    by_test : (b : Bool) → by_site y x ≡ b → Sorted number_of (inserted by_site x ys) → Sorted number_of (cond b (y ∷ inserted by_site x ys) (x ∷ y ∷ ys))
    by_test true e rest = (each_above (number_of y) x ys (ltb-true (number_of y) (number_of x) e) h.0, rest)
    by_test false e rest =
        let le = ltb-false (number_of y) (number_of x) e in
        let lt : number_of x < number_of y = by_order (number_of x) (number_of y) le apart.0 in
        ((lt, above_all (number_of x) (number_of y) ys lt h.0), h)
      where
        by_order : (a b : ℕ) → a ≤ b → (b ≡ a → ⊥) → a < b
        by_order a b le apart = elim (eq-or-lt_of_le {n = a} {m = b} le) [ inl e ↦ absurd (apart (sym e)) | inr lt ↦ lt ]

inserted_apart : (n : ℕ) (x : Participant) (ys : List Participant) → (number_of x ≡ n → ⊥) → Each (λ y. number_of y ≡ n → ⊥) ys → Each (λ y. number_of y ≡ n → ⊥) (inserted by_site x ys)
inserted_apart n x [] a h = (a, tt)
inserted_apart n x (y ∷ ys) a h = by_test (by_site y x) (inserted_apart n x ys a h.1)
  where
    by_test : (b : Bool) → Each (λ z. number_of z ≡ n → ⊥) (inserted by_site x ys) → Each (λ z. number_of z ≡ n → ⊥) (cond b (y ∷ inserted by_site x ys) (x ∷ y ∷ ys))
    by_test true rest = (h.0, rest)
    by_test false rest = (a, h)

lines_apart : (line : SiteLine) (lines : List SiteLine) → some_of (one_site line) lines ≡ false → Each (λ y. number_of y ≡ line.site.0 → ⊥) (protocols_in lines)
lines_apart line [] e = tt
lines_apart line (other ∷ lines) e = inserted_apart line.site.0 (record { site = other.site; protocol = other.protocol }) (protocols_in lines) apart (lines_apart line lines rest)
  where
    parts : (a b : Bool) → (a || b) ≡ false → (a ≡ false) × (b ≡ false)
    parts true b e = cc
    parts false b e = (refl, e)

    apart : other.site.0 ≡ line.site.0 → ⊥
    apart same =
        let here : other.site ≡ line.site = ap (λ n. (let s : SiteId = record { 0 = n } in s)) same in
        let yes : same_site line.site other.site ≡ true = subst (λ s. same_site line.site s ≡ true) (sym here) (same_site-refl line.site) in
        let no = (parts (same_site line.site other.site) (some_of (one_site line) lines) e).0 in cc

    rest : some_of (one_site line) lines ≡ false
    rest = (parts (same_site line.site other.site) (some_of (one_site line) lines) e).1

pub participants_sorted : (lines : List SiteLine) → all_differ one_site lines ≡ true → Sorted number_of (protocols_in lines)
participants_sorted [] e = tt
participants_sorted (line ∷ lines) e =
    let parts = and_parts (not (some_of (one_site line) lines)) (all_differ one_site lines) e in
    insert_sorted (record { site = line.site; protocol = line.protocol }) (protocols_in lines) (lines_apart line lines (un_not _ parts.0)) (participants_sorted lines parts.1)
  where
    un_not : (b : Bool) → not b ≡ true → b ≡ false
    un_not true e = cc
    un_not false e = refl
