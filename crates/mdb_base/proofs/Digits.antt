-- How the digits of a number are put down in pairs.
use Rattle.std.proofs.Common.{◌≡◌, ℕ, ◌/◌, ◌%◌, ◌<◌, ◌≤◌, ◌^◌, List, ◌++◌, append_assoc, decimal, arith}
use Rattle.std.proofs.lemmas.Fmt.{decimal_digit, decimal_step}
use Rattle.mdb_base.specs.Texts.{pair}

-- a number of two digits
pub decimal_pair : (n : ℕ) → 10 ≤ n → n < 100 → decimal n ≡ pair n
decimal_pair n some few = rw (decimal_step n some (omega arith), decimal_digit (n / 10) (omega arith))

-- a number of three digits or more, behind what was there
pub decimal_in_pairs : (front : List ℕ) (n : ℕ) → 100 ≤ n → n < 2 ^ 64 → (front ++ decimal (n / 100)) ++ pair (n % 100) ≡ front ++ decimal n
decimal_in_pairs front n some fits =
    let hundreds : n / 10 / 10 ≡ n / 100 = omega arith in
    let tens : n % 100 / 10 ≡ n / 10 % 10 = omega arith in
    let ones : n % 100 % 10 ≡ n % 10 = omega arith in
    rw (append_assoc, decimal_step n (omega arith) fits, decimal_step (n / 10) (omega arith) (omega arith), append_assoc, hundreds, tens, ones)
