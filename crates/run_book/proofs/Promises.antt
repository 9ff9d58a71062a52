-- How many writes a run may install.
use Rattle.std.proofs.Common.{◌≡◌, ℕ, ◌≤◌, Bool, cond, is_some, Option, None, List, [], ◌∷◌, length, reverse, IsSome, ap, arith}
use Rattle.std.proofs.lemmas.List.{length-reverse}
use Rattle.fed_rules.specs.Runs.{Access, Got, Wrote}
use Rattle.run_book.specs.Held.{Held}
use Rattle.run_book.specs.Tables.{writes_in, promised_by}

pub writes_in-le : (acts : List Access) → writes_in acts ≤ length acts
writes_in-le [] = omega arith
writes_in-le (Got key value ∷ acts) = let h = writes_in-le acts in omega arith
writes_in-le (Wrote key value ∷ acts) = let h = writes_in-le acts in omega arith

-- who isn't sealed may install nothing
pub live-promises : (held : Held) → held.run.sealed ≡ None → promised_by held ≡ 0
live-promises held live = ap (λ (o : Option ℕ). cond (is_some o) (writes_in held.run.acts) 0) live

-- of accesses that were turned round
pub writes_in-turned : (accesses : List Access) → writes_in (reverse accesses) ≤ length accesses
writes_in-turned accesses = let h = writes_in-le (reverse accesses) in omega (arith, length-reverse accesses)

-- who is sealed may install all its writes
pub sealed-promises : (held : Held) → IsSome held.run.sealed → promised_by held ≡ writes_in held.run.acts
sealed-promises held sealed = ap (λ (b : Bool). cond b (writes_in held.run.acts) 0) sealed
