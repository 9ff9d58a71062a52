-- The numbers that a made scenario is drawn from: a linear congruential generator modulo 2^64 (Knuth, MMIX), of which the upper bits are used.
use Rattle.std.specs.Prelude.{ℕ, zero, suc, ◌+◌, ◌*◌, ◌/◌, ◌%◌, ◌^◌}

-- the number behind one
abbrev pub behind : ℕ → ℕ
behind x = (x * 6364136223846793005 + 1442695040888963407) % 2 ^ 64

-- the number so many behind it
abbrev pub so_far : ℕ → ℕ → ℕ
so_far zero x = x
so_far (suc draws) x = behind (so_far draws x)

-- what is drawn behind a number, below a bound
abbrev pub drawn : ℕ → ℕ → ℕ
drawn x bound = behind x / 2 ^ 33 % bound
