-- Readings of which the first byte says what stands behind it.
use Rattle.std.proofs.Common.{◌≡◌, ℕ, ◌==◌, Bool, true, false, cond, List, [], ◌∷◌, ◌++◌, Option, Some, refl, sym, ap, subst, ◌∙◌}
use Rattle.std.proofs.lemmas.Bool.{eqb-true}
use Rattle.std.proofs.lemmas.List.{append_assoc}
use Rattle.byte_numbers.specs.Numbers.{IsBytes, number, ◌>>=◌}
use Rattle.byte_numbers.proofs.ForCallers.{Takes, number_takes}
use Rattle.field_bytes.proofs.ForCallers.{bind_some}
use Rattle.mdb_base.specs.Words.{Each}
use Rattle.fed_messages.specs.Reading.{Kinds, Reading, by_kind, kind_at}

-- what is read is spelled so, and in range
abbrev pub Reads : {A : Type 0} → (A → List ℕ) → (A → Type 0) → List ℕ → A × List ℕ → Type 0
Reads text Is bytes found = Takes bytes (text found.0) found.1 × Is found.0

-- behind a text that was taken another one
pub takes_behind : (first rest text end : List ℕ) → Takes rest text end → Takes (first ++ rest) (first ++ text) end
takes_behind first rest text end two =
    record { parts = ap (λ x. first ++ x) two.parts ∙ sym (append_assoc first text end); fits = two.fits }

-- what stands behind this first byte
abbrev pub KindIs : {A : Type 0} → (A → List ℕ) → (A → Type 0) → ℕ × (List ℕ → Reading A) → Type 0
KindIs {A} text Is (kind, read) = (rest : List ℕ) (found : A × List ℕ) → IsBytes rest → read rest ≡ Some found → Reads text Is (number 1 kind ++ rest) found

by_kind-reads : {A : Type 0} (text : A → List ℕ) (Is : A → Type 0) (kinds : Kinds A) → Each (KindIs text Is) kinds → (kind : ℕ) (rest : List ℕ) (found : A × List ℕ) → IsBytes rest → by_kind kinds kind rest ≡ Some found → Reads text Is (number 1 kind ++ rest) found
by_kind-reads text Is [] all kind rest found fits e = cc
by_kind-reads {A} text Is ((k, read) ∷ kinds) all kind rest found fits e = by_test (kind == k) refl (by_kind-reads text Is kinds all.1 kind rest found fits) e
  where
    by_test : (b : Bool) → (kind == k) ≡ b → (by_kind kinds kind rest ≡ Some found → Reads text Is (number 1 kind ++ rest) found) → cond b (read rest) (by_kind kinds kind rest) ≡ Some found → Reads text Is (number 1 kind ++ rest) found
    by_test true is others f = subst (λ n. Reads text Is (number 1 n ++ rest) found) (sym (eqb-true kind k is)) (all.0 rest found fits f)
    by_test false is others f = others f

pub kind_at-reads : {A : Type 0} (text : A → List ℕ) (Is : A → Type 0) (kinds : Kinds A) → Each (KindIs text Is) kinds → (bytes : List ℕ) (found : A × List ℕ) → IsBytes bytes → kind_at kinds bytes ≡ Some found → Reads text Is bytes found
kind_at-reads text Is kinds all bytes found fits e =
    let first = bind_some _ _ _ e in
    let kind = first.0 in
    let front = (number_takes 1 bytes kind fits first.1).0 in
    subst (λ b. Reads text Is b found) (sym front.parts) (by_kind-reads text Is kinds all kind.0 kind.1 found front.fits first.2)

-- what was found, and then what is made of it
pub found_then : {A B : Type 0} (o : Option A) (x : A) (f : A → Option B) → o ≡ Some x → (o >>= f) ≡ f x
found_then o x f e = ap (λ p. p >>= f) e
