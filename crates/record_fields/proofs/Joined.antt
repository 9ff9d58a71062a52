-- Items one behind the other.
use Rattle.std.proofs.Common.{◌≡◌, ℕ, zero, suc, ◌+◌, ◌*◌, ◌≤◌, List, [], ◌∷◌, ◌++◌, length, take, sym, ap, ◌∙◌, append_assoc, arith}
use Rattle.std.proofs.Math.Nat.{mul-suc}
use Rattle.std.proofs.lemmas.List.{append-nil, length-append}
use Rattle.record_fields.specs.Items.{joined}

module _ {A : Type 0} (spelling : A → List ℕ) where
  pub joined_push : (xs : List A) (x : A) → joined spelling (xs ++ x ∷ []) ≡ joined spelling xs ++ spelling x
  joined_push [] x = append-nil (spelling x)
  joined_push (y ∷ xs) x = ap (λ (l : List ℕ). spelling y ++ l) (joined_push xs x) ∙ sym (append_assoc (spelling y) (joined spelling xs) (spelling x))

  pub length-joined : (width : ℕ) → ((x : A) → length (spelling x) ≡ width) → (xs : List A) → length (joined spelling xs) ≡ width * length xs
  length-joined width has [] = omega arith
  length-joined width has (x ∷ xs) =
      let more : width * length (x ∷ xs) ≡ width * length xs + width = mul-suc width (length xs) in
      omega (arith, more, length-append (spelling x) (joined spelling xs), has x, length-joined width has xs)

  -- a front has at most the bytes of all
  front-le : (n : ℕ) (xs : List A) → length (joined spelling (take n xs)) ≤ length (joined spelling xs)
  front-le zero xs = omega arith
  front-le (suc n) [] = omega arith
  front-le (suc n) (x ∷ xs) =
      omega (arith, length-append (spelling x) (joined spelling (take n xs)), length-append (spelling x) (joined spelling xs), front-le n xs)

  -- one more item behind a front
  pub length-one_more : (xs : List A) (i : ℕ) (x : A) → take (i + 1) xs ≡ take i xs ++ x ∷ [] → length (joined spelling (take (i + 1) xs)) ≡ length (joined spelling (take i xs)) + length (spelling x)
  length-one_more xs i x more = rw (more, joined_push (take i xs) x) (length-append (joined spelling (take i xs)) (spelling x))

  -- there is room for one more
  pub room_for : (xs : List A) (i : ℕ) (x : A) → take (i + 1) xs ≡ take i xs ++ x ∷ [] → length (joined spelling (take i xs)) + length (spelling x) ≤ length (joined spelling xs)
  room_for xs i x more = omega (arith, length-one_more xs i x more, front-le (i + 1) xs)
