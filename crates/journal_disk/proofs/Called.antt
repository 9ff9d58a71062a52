-- How counts of calls add up.
use Rattle.std.proofs.Common.{◌≡◌, ℕ, ◌+◌, ◌≤◌, Result, Ok, Err, ap, ◌∙◌, arith}
use Rattle.journal_disk.specs.Disk.{Seen, HasCalled, HasCalledAtMost, TakesCalls, in_64_bits}

-- where no call was made
pub no_call : (old new : Seen) → new.calls ≡ old.calls → HasCalled 0 old new
no_call old new same = omega (arith, same)

-- some calls, and then some more
pub calls_add : (n m : ℕ) (a b c : Seen) → HasCalled n a b → HasCalled m b c → HasCalled (n + m) a c
calls_add n m a b c first second = omega (arith, first, second)

-- none before them, and none behind them
pub calls_behind : (n : ℕ) (a b c : Seen) → b.calls ≡ a.calls → HasCalled n b c → HasCalled n a c
calls_behind n a b c same second = second ∙ ap (λ (k : ℕ). in_64_bits (k + n)) same

pub calls_before : (n : ℕ) (a b c : Seen) → HasCalled n a b → c.calls ≡ b.calls → HasCalled n a c
calls_before n a b c first same = ap in_64_bits same ∙ first

-- ---- at most so many

pub at_most : (n m : ℕ) (old new : Seen) → n ≤ m → HasCalled n old new → HasCalledAtMost m old new
at_most n m old new few called = omega (arith, few, called)

-- where no call was made
pub none_at_most : (n : ℕ) (old new : Seen) → new.calls ≡ old.calls → HasCalledAtMost n old new
none_at_most n old new same = omega (arith, same)

pub at_most_more : (n m : ℕ) (old new : Seen) → n ≤ m → HasCalledAtMost n old new → HasCalledAtMost m old new
at_most_more n m old new few called = omega (arith, few, called)

pub at_most_behind : (n : ℕ) (a b c : Seen) → b.calls ≡ a.calls → HasCalledAtMost n b c → HasCalledAtMost n a c
at_most_behind n a b c same called = omega (arith, same, called)

pub at_most_add : (n m : ℕ) (a b c : Seen) → HasCalled n a b → HasCalledAtMost m b c → HasCalledAtMost (n + m) a c
at_most_add n m a b c first second = omega (arith, first, second)

-- ---- as an outcome says

-- where so many were made in any case
pub takes_all : {T E : Type 0} (n : ℕ) (old new : Seen) (r : Result T E) → HasCalled n old new → TakesCalls n old new r
takes_all n old new (Ok x) called = record { done = called; failed = tt }
takes_all n old new (Err e) called = record { done = tt; failed = at_most n n old new (omega arith) called }

-- where a call failed before the last one
pub takes_fewer : {T E : Type 0} (n m : ℕ) (old new : Seen) (e : E) → n ≤ m → HasCalledAtMost n old new → TakesCalls {T = T} m old new (Err e)
takes_fewer n m old new e few called = record { done = tt; failed = at_most_more n m old new few called }

-- some calls in any case, and then those of the outcome
pub takes_more : {T E : Type 0} (n m : ℕ) (a b c : Seen) (r : Result T E) → HasCalled n a b → TakesCalls m b c r → TakesCalls (n + m) a c r
takes_more n m a b c (Ok x) first second = record { done = calls_add n m a b c first second.done; failed = tt }
takes_more n m a b c (Err e) first second = record { done = tt; failed = at_most_add n m a b c first second.failed }

-- none before them
pub takes_behind : {T E : Type 0} (n : ℕ) (a b c : Seen) (r : Result T E) → b.calls ≡ a.calls → TakesCalls n b c r → TakesCalls n a c r
takes_behind n a b c (Ok x) same takes = record { done = calls_behind n a b c same takes.done; failed = tt }
takes_behind n a b c (Err e) same takes = record { done = tt; failed = at_most_behind n a b c same takes.failed }
