-- Reading items one behind the other, as a loop does.
use Rattle.std.proofs.Common.{◌≡◌, ℕ, suc, ◌-◌, ◌+◌, ◌≤◌, ◌<◌, List, [], ◌∷◌, ◌++◌, Option, Some, None, Err, refl, sym, ap, ◌∙◌, append_assoc, arith}
use Rattle.std.proofs.lemmas.List.{append-nil}
use Rattle.byte_numbers.specs.Numbers.{◌>>=◌}
use Rattle.byte_numbers.specs.declared.DecodeErr.{DecodeErr}
use Rattle.byte_numbers.specs.declared.DecodeErr.TheVariants.{NoValue, Memory}
use Rattle.record_fields.specs.Items.{items_at, Reads}

-- what was read before, and what is still read
abbrev pub with_front : {A : Type 0} → List A → Option (List A × List ℕ) → Option (List A × List ℕ)
with_front front read = read >>= λ x. Some (front ++ x.0, x.1)

regroup : {A : Type 0} (front : List A) (x : A) (read : Option (List A × List ℕ)) → with_front front (read >>= λ others. Some (x ∷ others.0, others.1)) ≡ with_front (front ++ x ∷ []) read
regroup {A = A} front x (Some others) = ap (λ (xs : List A). Some (xs, others.1)) (sym (append_assoc front (x ∷ []) others.0))
regroup front x None = refl

module _ {A : Type 0} (reading : List ℕ → Option (A × List ℕ)) where
  pub goes_on : (front : List A) (count i : ℕ) (bytes : List ℕ) (x : A) (after : List ℕ) (total : Option (List A × List ℕ)) → i < count → reading bytes ≡ Some (x, after)
      → with_front front (items_at reading (count - i) bytes) ≡ total → with_front (front ++ x ∷ []) (items_at reading (count - (i + 1)) after) ≡ total
  unfolding items_at
  goes_on front count i bytes x after total lt got so_far =
      let k : count - i ≡ suc (count - (i + 1)) = omega arith in
      let one : with_front front (items_at reading (count - i) bytes) ≡ with_front (front ++ x ∷ []) (items_at reading (count - (i + 1)) after) = rw (k, got) (regroup front x (items_at reading (count - (i + 1)) after)) in
      sym one ∙ so_far

  pub fails : (front : List A) (count i : ℕ) (bytes : List ℕ) (total : Option (List A × List ℕ)) → i < count → reading bytes ≡ None
      → with_front front (items_at reading (count - i) bytes) ≡ total → total ≡ None
  unfolding items_at
  fails front count i bytes total lt none so_far =
      let k : count - i ≡ suc (count - (i + 1)) = omega arith in
      let one : with_front front (items_at reading (count - i) bytes) ≡ None = rw (k, none) refl in
      sym so_far ∙ one

  pub is_done : (front : List A) (count i : ℕ) (bytes : List ℕ) (total : Option (List A × List ℕ)) → count ≤ i → with_front front (items_at reading (count - i) bytes) ≡ total → total ≡ Some (front, bytes)
  unfolding items_at
  is_done front count i bytes total le so_far =
      let k : count - i ≡ 0 = omega arith in
      let one : with_front front (items_at reading (count - i) bytes) ≡ Some (front, bytes) = rw k (ap (λ (xs : List A). Some (xs, bytes)) (append-nil front)) in
      sym so_far ∙ one

  -- a reader that found nothing, and a walk that stops at it
  pub fails_as : (front : List A) (count i : ℕ) (bytes : List ℕ) (total : Option (List A × List ℕ)) (why : DecodeErr) → i < count → Reads {X = A × List ℕ} (λ found. found) (Err why) (reading bytes)
      → with_front front (items_at reading (count - i) bytes) ≡ total → Reads {X = List A × List ℕ} (λ found. found) (Err why) total
  fails_as front count i bytes total NoValue lt none so_far = fails front count i bytes total lt none so_far
  fails_as front count i bytes total Memory lt none so_far = tt
