-- Each field is exact: what is read is spelled so, and what is spelled is read again.
use Rattle.std.specs.Prelude.{ℕ, ◌≡◌, ◌<◌, ◌^◌, List, [], ◌∷◌, ◌++◌, Option, Some, None, refl}
use Rattle.std.proofs.Common.{ap, subst, ◌∙◌, append_assoc}
use Rattle.byte_numbers.specs.Numbers.{Takes, number, number_at, ◌>>=◌}
use Rattle.byte_numbers.proofs.ForCallers.{number_again, number_takes}
use Rattle.field_bytes.proofs.ForCallers.{bind_some, takes_both}
use Rattle.record_fields.specs.Field.{Field, IsExact, a_number, coded, with_rest, both, made, at_end}

pub some_is : {A : Type 0} (x y : A) → ◌≡◌ {A = Option A} (Some x) (Some y) → x ≡ y
some_is x y e = cc

pub exact_number : (n : ℕ) → IsExact (a_number n)
exact_number n = record { takes = λ bytes found fits e. number_takes n bytes found fits e; again = λ x rest fits. number_again n x rest fits }

pub exact_both : {A B : Type 0} (first : Field A) (second : Field B) → IsExact first → IsExact second → IsExact (both first second)
exact_both {A = A} {B = B} first second f s = record {
  takes = λ bytes found fits e.
      let a = bind_some (first.reading bytes) (λ a. second.reading a.1 >>= λ b. Some ((a.0, b.0), b.1)) found e in
      let b = bind_some (second.reading a.0.1) (λ b. Some ((a.0.0, b.0), b.1)) found a.2 in
      let t = f.takes bytes a.0 fits a.1 in
      let u = s.takes a.0.1 b.0 t.0.fits b.1 in
      let made : (A × B) × List ℕ = ((a.0.0, b.0.0), b.0.1) in
      subst (λ (x : (A × B) × List ℕ). Takes bytes ((both first second).spelling x.0) x.1 × (both first second).Fits x.0) (some_is made found b.2)
      (takes_both bytes (first.spelling a.0.0) a.0.1 (second.spelling b.0.0) b.0.1 t.0 u.0, (t.1, u.1));
  again = λ x rest fits.
      let grouped : (first.spelling x.0 ++ second.spelling x.1) ++ rest ≡ first.spelling x.0 ++ (second.spelling x.1 ++ rest) = append_assoc (first.spelling x.0) (second.spelling x.1) rest in
      let one = f.again x.0 (second.spelling x.1 ++ rest) fits.0 in
      let two = s.again x.1 rest fits.1 in
      ap (both first second).reading grouped ∙ rw (one, two) refl;
}

pub exact_made : {A B : Type 0} (make : A → B) (parts : B → A) (field : Field A) → ((x : B) → make (parts x) ≡ x) → ((p : A) → parts (make p) ≡ p) → IsExact field → IsExact (made make parts field)
exact_made {A = A} {B = B} make parts field whole apart f = record {
  takes = λ bytes found fits e.
      let a = bind_some (field.reading bytes) (λ a. Some (make a.0, a.1)) found e in
      let t = f.takes bytes a.0 fits a.1 in
      let here : B × List ℕ = (make a.0.0, a.0.1) in
      let same = apart a.0.0 in
      subst (λ (x : B × List ℕ). Takes bytes ((made make parts field).spelling x.0) x.1 × (made make parts field).Fits x.0) (some_is here found a.2) (rw same t.0, rw same t.1);
  again = λ x rest fits.
      let one = f.again (parts x) rest fits in
      let same = whole x in
      rw (one, same) refl;
}

-- what the numbers of a code stand for
pub record IsCode {A : Type 0} (n : ℕ) (code : A → ℕ) (value_of : ℕ → Option A) (Fits : A → Type 0) : Type 0 where
  pub low : (x : A) → Fits x → code x < 256 ^ n
  pub back : (k : ℕ) (x : A) → value_of k ≡ Some x → (code x ≡ k) × Fits x
  pub there : (x : A) → Fits x → value_of (code x) ≡ Some x

with_rest_some : {A : Type 0} (o : Option A) (rest : List ℕ) (y : A × List ℕ) → with_rest o rest ≡ Some y → (x : A) × (o ≡ Some x) × ((x, rest) ≡ y)
with_rest_some None rest y e = absurd cc
with_rest_some (Some x) rest y e = (x, refl, some_is (x, rest) y e)

pub exact_coded : {A : Type 0} (n : ℕ) (code : A → ℕ) (value_of : ℕ → Option A) (Fits : A → Type 0) → IsCode n code value_of Fits → IsExact (coded n code value_of Fits)
exact_coded {A = A} n code value_of Fits is = record {
  takes = λ bytes found fits e.
      let a = bind_some (number_at n bytes) (λ a. with_rest (value_of a.0) a.1) found e in
      let t = number_takes n bytes a.0 fits a.1 in
      let v = with_rest_some (value_of a.0.0) a.0.1 found a.2 in
      let b = is.back a.0.0 v.0 v.1 in
      let same = b.0 in
      subst (λ (x : A × List ℕ). Takes bytes ((coded n code value_of Fits).spelling x.0) x.1 × Fits x.0) v.2 (rw same t.0, b.1);
  again = λ x rest fits.
      let one = number_again n (code x) rest (is.low x fits) in
      let two = is.there x fits in
      rw (one, two) refl;
}

-- a value with nothing behind it
pub ends_there : {A : Type 0} (x : A) (rest : List ℕ) (y : A) → at_end x rest ≡ Some y → (rest ≡ []) × (x ≡ y)
ends_there x [] y e = (refl, some_is x y e)
ends_there x (byte ∷ rest) y e = absurd cc

-- a variant behind its tag: what is read is spelled so, and what is spelled is read again
module _ {A R : Type 0} (tag : ℕ) (field : Field A) (make : A → R) (spelling : R → List ℕ) (Fits : R → Type 0) (exact : IsExact field) (spells : (x : A) → spelling (make x) ≡ number 1 tag ++ field.spelling x) where
  pub variant_takes : (bytes rest : List ℕ) (found : R × List ℕ) → ((x : A) → field.Fits x → Fits (make x)) → Takes bytes (number 1 tag) rest → (field.reading rest >>= λ x. Some (make x.0, x.1)) ≡ Some found
      → Takes bytes (spelling found.0) found.1 × Fits found.0
  variant_takes bytes rest found fits behind e =
      let a = bind_some (field.reading rest) (λ x. Some (make x.0, x.1)) found e in
      let t = exact.takes rest a.0 behind.fits a.1 in
      let here : R × List ℕ = (make a.0.0, a.0.1) in
      let whole = takes_both bytes (number 1 tag) rest (field.spelling a.0.0) a.0.1 behind t.0 in
      let spelled = spells a.0.0 in
      subst (λ (x : R × List ℕ). Takes bytes (spelling x.0) x.1 × Fits x.0) (some_is here found a.2) (rw spelled whole, fits a.0.0 t.1)

  pub variant_again : (x : A) (rest : List ℕ) → field.Fits x → ◌≡◌ {A = Option (R × List ℕ)} (field.reading (field.spelling x ++ rest) >>= λ y. Some (make y.0, y.1)) (Some (make x, rest))
  variant_again x rest fits =
      let one = exact.again x rest fits in
      rw one refl
