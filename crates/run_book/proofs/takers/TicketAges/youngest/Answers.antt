use Rattle.std.proofs.Common.{◌≡◌, ◌<◌, Option, None, Some, IsSome, List, [], ◌∷◌, length, refl, subst, arith}
use Rattle.run_book.specs.Takers.{Takers, IsYoungestOf}
use Rattle.run_book.proofs.Trees.{youngest_is, none_in}
use Rattle.run_book.proofs.takers.TicketAges.youngest.Goals as goal

no_length : {A : Type 0} (xs : List A) → (0 < length xs → ⊥) → xs ≡ []
no_length [] h = refl
no_length (x ∷ xs) h = absurd (h (omega arith))

not_none : {A : Type 0} (o : Option A) → o ≡ None → IsSome o → ⊥
not_none None e h = cc
not_none (Some x) e h = cc

pub returns-in-Some : goal.returns-in-Some
returns-in-Some c =
    subst (λ (t : Takers). IsYoungestOf t.unended (Some (record { tid = c.in-Some.tid.now; rank = c.in-Some.age.now }))) c.self.view_is
    (youngest_is c.self.inside.unended.entries c.in-Some.age.now c.in-Some.tid.now c.in-Some.ensures.value c.in-Some.ensures.greatest)

pub returns-in-None : goal.returns-in-None
returns-in-None c =
    subst (λ (t : Takers). IsYoungestOf t.unended None) c.self.view_is
    (none_in c.self.inside.unended.entries (no_length _ (λ some. not_none _ c.in-None.is (c.last_key_value.ensures.variant.1 some))))
