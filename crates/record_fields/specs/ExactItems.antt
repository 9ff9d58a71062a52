-- A rising list of exact items is exact.
use Rattle.std.specs.Prelude.{ℕ, zero, suc, ◌≡◌, ◌<◌, true, cond, List, [], ◌∷◌, ◌++◌, length, Some, None, refl}
use Rattle.std.specs.List.{AllByRecursion}
use Rattle.std.proofs.Common.{ap, subst, ◌∙◌, ltb, append_assoc, arith}
use Rattle.std.proofs.lemmas.Bool.{and_parts, ltb-true, lt-ltb}
use Rattle.mdb_base.specs.Rising.{IsRising}
use Rattle.byte_numbers.specs.Numbers.{IsBytes, Takes, number, number_at, ◌>>=◌}
use Rattle.byte_numbers.proofs.ForCallers.{number_again, number_takes}
use Rattle.record_fields.specs.Field.{Field, IsExact}
use Rattle.record_fields.specs.Items.{joined, items_at, rises, rising_at, rising_list}
use Rattle.field_bytes.proofs.ForCallers.{bind_some, takes_both}
use Rattle.record_fields.specs.Exact.{some_is}
use Rattle.mdb_base.proofs.ForCallers.{cond_some}

-- fewer than two items rise
pub short_rises : {A : Type 0} (key : A → ℕ) (xs : List A) → length xs < 2 → rises key xs ≡ true
short_rises key [] short = refl
short_rises key (x ∷ []) short = refl
short_rises key (x ∷ y ∷ ys) short = absurd (omega arith)

-- a test that passes shows that the list rises, and the other way round
pub rising_passes : {A : Type 0} (key : A → ℕ) (xs : List A) → rises key xs ≡ true → IsRising key xs
rising_passes key [] e = tt
rising_passes key (x ∷ []) e = tt
rising_passes key (x ∷ y ∷ ys) e =
    let parts = and_parts (ltb (key x) (key y)) (rises key (y ∷ ys)) e in
    (ltb-true _ _ parts.0, rising_passes key (y ∷ ys) parts.1)

pub passes_rising : {A : Type 0} (key : A → ℕ) (xs : List A) → IsRising key xs → rises key xs ≡ true
passes_rising key [] rising = refl
passes_rising key (x ∷ []) rising = refl
passes_rising key (x ∷ y ∷ ys) rising = let first = lt-ltb _ _ rising.0 in rw first (passes_rising key (y ∷ ys) rising.1)

module _ {A : Type 0} (item : Field A) (exact : IsExact item) where
  items_take : (n : ℕ) (bytes : List ℕ) (found : List A × List ℕ) → IsBytes bytes → items_at item.reading n bytes ≡ Some found
      → Takes bytes (joined item.spelling found.0) found.1 × (length found.0 ≡ n) × AllByRecursion item.Fits found.0
  unfolding items_at
  items_take zero bytes found fits e =
      subst (λ (x : List A × List ℕ). Takes bytes (joined item.spelling x.0) x.1 × (length x.0 ≡ 0) × AllByRecursion item.Fits x.0) (some_is ([], bytes) found e) (record { parts = refl; fits = fits }, refl, tt)
  items_take (suc n) bytes found fits e =
      let a = bind_some (item.reading bytes) (λ first. items_at item.reading n first.1 >>= λ others. Some (first.0 ∷ others.0, others.1)) found e in
      let b = bind_some (items_at item.reading n a.0.1) (λ others. Some (a.0.0 ∷ others.0, others.1)) found a.2 in
      let first = exact.takes bytes a.0 fits a.1 in
      let others = items_take n a.0.1 b.0 first.0.fits b.1 in
      let here : List A × List ℕ = (a.0.0 ∷ b.0.0, b.0.1) in
      subst (λ (x : List A × List ℕ). Takes bytes (joined item.spelling x.0) x.1 × (length x.0 ≡ suc n) × AllByRecursion item.Fits x.0) (some_is here found b.2)
      (takes_both bytes (item.spelling a.0.0) a.0.1 (joined item.spelling b.0.0) b.0.1 first.0 others.0, ap suc others.1, (first.1, others.2))

  items_again : (xs : List A) (rest : List ℕ) → AllByRecursion item.Fits xs → items_at item.reading (length xs) (joined item.spelling xs ++ rest) ≡ Some (xs, rest)
  unfolding items_at
  items_again [] rest fits = refl
  items_again (x ∷ xs) rest fits =
      let grouped : joined item.spelling (x ∷ xs) ++ rest ≡ item.spelling x ++ (joined item.spelling xs ++ rest) = append_assoc (item.spelling x) (joined item.spelling xs) rest in
      let one = exact.again x (joined item.spelling xs ++ rest) fits.0 in
      let two = items_again xs rest fits.1 in
      ap (items_at item.reading (suc (length xs))) grouped ∙ rw (one, two) refl

pub exact_rising : {A : Type 0} (n : ℕ) (key : A → ℕ) (item : Field A) → IsExact item → IsExact (rising_list n key item)
exact_rising {A = A} n key item exact = record {
  takes = λ bytes found fits e.
      let a = bind_some (number_at n bytes) (λ count. rising_at key item.reading count.0 count.1) found e in
      let t = number_takes n bytes a.0 fits a.1 in
      let b = bind_some (items_at item.reading a.0.0 a.0.1) (λ found. cond (rises key found.0) (Some found) None) found a.2 in
      let u = items_take item exact a.0.0 a.0.1 b.0 t.0.fits b.1 in
      let g = cond_some (rises key b.0.0) b.0 found b.2 in
      let count : length b.0.0 ≡ a.0.0 = u.1 in
      let whole : Takes bytes (number n (length b.0.0) ++ joined item.spelling b.0.0) b.0.1 = takes_both bytes (number n (length b.0.0)) a.0.1 (joined item.spelling b.0.0) b.0.1 (rw count t.0) u.0 in
      subst (λ (x : List A × List ℕ). Takes bytes ((rising_list n key item).spelling x.0) x.1 × (rising_list n key item).Fits x.0) g.1 (whole, (rw count t.1, rising_passes key b.0.0 g.0, u.2));
  again = λ xs rest fits.
      let grouped : (number n (length xs) ++ joined item.spelling xs) ++ rest ≡ number n (length xs) ++ (joined item.spelling xs ++ rest) = append_assoc (number n (length xs)) (joined item.spelling xs) rest in
      let one = number_again n (length xs) (joined item.spelling xs ++ rest) fits.0 in
      let two = items_again item exact xs rest fits.2 in
      let three = passes_rising key xs fits.1 in
      ap (rising_list n key item).reading grouped ∙ rw (one, two, three) refl;
}
