-- Commands that each item of a list adds in its turn.
use Rattle.std.proofs.Common.{◌≡◌, ℕ, zero, suc, ◌+◌, ◌<◌, List, [], ◌∷◌, length, take, get_or, refl, sym, subst, add-one, arith}
use Rattle.fed_rules.specs.declared.commands.Command.{Command}
use Rattle.fed_rules.specs.Closing.{for_each}
use Rattle.fed_rules.specs.Sessions.{Session}
use Rattle.closing.specs.Towards.{Fits}
use Rattle.closing.proofs.Towards.{Extends, extends_here, extends_twice, fits_less}

module _ {A : Type 0} (add : A → List Command → List Command) (grows : (x : A) (commands : List Command) → Extends (add x commands) commands) where
  pub each_extends : (xs : List A) (commands : List Command) → Extends (for_each add xs commands) commands
  each_extends [] commands = extends_here commands
  each_extends (x ∷ xs) commands = extends_twice commands (add x commands) (for_each add xs (add x commands)) (each_extends xs (add x commands)) (grows x commands)

  -- the first ones come first
  pub each_begins : (k : ℕ) (xs : List A) (commands : List Command) → Extends (for_each add xs commands) (for_each add (take k xs) commands)
  each_begins zero xs commands = each_extends xs commands
  each_begins (suc k) [] commands = extends_here commands
  each_begins (suc k) (x ∷ xs) commands = each_begins k xs (add x commands)

-- one more
pub each_more : {A : Type 0} (add : A → List Command → List Command) (xs : List A) (i : ℕ) (d : A) (commands : List Command) → i < length xs
    → for_each add (take (i + 1) xs) commands ≡ add (get_or xs i d) (for_each add (take i xs) commands)
each_more {A = A} add xs i d commands lt =
    subst (λ k. for_each add (take k xs) commands ≡ add (get_or xs i d) (for_each add (take i xs) commands)) (sym (add-one i)) (by_place xs i commands lt)
  where
    by_place : (ys : List A) (k : ℕ) (cs : List Command) → k < length ys → for_each add (take (suc k) ys) cs ≡ add (get_or ys k d) (for_each add (take k ys) cs)
    by_place [] k cs lt = absurd (omega arith)
    by_place (y ∷ ys) zero cs lt = refl
    by_place (y ∷ ys) (suc k) cs lt = by_place ys k (add y cs) (omega arith)

module _ {A : Type 0} (add : A → List Command → List Command) (grows : (x : A) (commands : List Command) → Extends (add x commands) commands) where
  -- what the first ones and the next one add comes first
  pub next_begins : (xs : List A) (i : ℕ) (d : A) (before : List Command) → i < length xs → Extends (for_each add xs before) (add (get_or xs i d) (for_each add (take i xs) before))
  next_begins xs i d before lt = subst (Extends (for_each add xs before)) (each_more add xs i d before lt) (each_begins add grows (i + 1) xs before)

  -- and its numbers fit
  pub room_for : (session : Session) (xs : List A) (i : ℕ) (d : A) (before : List Command) → i < length xs → Fits session (for_each add xs before) → Fits session (add (get_or xs i d) (for_each add (take i xs) before))
  room_for session xs i d before lt fits = fits_less session (for_each add xs before) (add (get_or xs i d) (for_each add (take i xs) before)) (next_begins xs i d before lt) fits
