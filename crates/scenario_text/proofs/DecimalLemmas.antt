-- Decimal digits, read from the left.
use Rattle.std.proofs.Common.{◌≡◌, ℕ, suc, ◌+◌, ◌-◌, ◌*◌, ◌<◌, ◌≤◌, true, not, eqb, leb, IsTrue, List, [], ◌∷◌, drop, length, get_or, refl, add-one, arith}
use Rattle.std.specs.List.{list_all}
use Rattle.std.proofs.Math.Seq.{drop-cons}
use Rattle.std.proofs.lemmas.Bool.{leb-true}
use Rattle.std.proofs.lemmas.List.{drop_all}
use Rattle.mdb_base.proofs.ForCallers.{is_true_both, is_true_parts}
use Rattle.scenario_text.specs.Names.{decimal, is_digit, is_number}

-- further digits never make a number smaller
pub decimal_grows : (n : ℕ) (ds : List ℕ) → n ≤ decimal n ds
unfolding decimal
decimal_grows n [] = omega arith
decimal_grows n (d ∷ ds) = let more = decimal_grows (n * 10 + (d - 48)) ds in omega (arith, more)

-- one digit more
pub decimal_turn : (n i : ℕ) (ds : List ℕ) → i < length ds → decimal n (drop i ds) ≡ decimal (n * 10 + (get_or ds i 0 - 48)) (drop (i + 1) ds)
unfolding decimal
decimal_turn n i ds h = rw (add-one, drop-cons ds i 0) refl

-- the next of what is left is a digit, and so are those behind it
pub digit_turn : (i : ℕ) (ds : List ℕ) → i < length ds → IsTrue (list_all is_digit (drop i ds)) → (48 ≤ get_or ds i 0) × IsTrue (list_all is_digit (drop (i + 1) ds))
digit_turn i ds h all =
    let parts = is_true_parts (is_digit (get_or ds i 0)) (list_all is_digit (drop (suc i) ds)) (rw (drop-cons ds i 0) at all) in
    let low = is_true_parts (leb 48 (get_or ds i 0)) (leb (get_or ds i 0) 57) parts.0 in
    (leb-true _ _ low.0, rw add-one parts.1)

-- no digit is left
pub decimal_end : (n i : ℕ) (ds : List ℕ) → length ds ≤ i → decimal n (drop i ds) ≡ n
unfolding decimal
decimal_end n i ds h = rw (drop_all i ds h) refl

-- a number has digits alone
pub is_number_digits : (word : List ℕ) → is_number word ≡ true → IsTrue (list_all is_digit word)
unfolding is_number
is_number_digits [] h = refl
is_number_digits (b ∷ []) h = is_true_both (is_digit b) true h refl
is_number_digits (b ∷ c ∷ more) h = (is_true_parts (not (eqb b 48)) (list_all is_digit (b ∷ c ∷ more)) h).1
