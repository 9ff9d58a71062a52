-- What the policy holds back is a Take: where there is none, it makes no difference; and where it lets Takes pass, all pass.
use Rattle.std.proofs.Common.{◌≡◌, Bool, true, false, cond, not, ◌&&◌, ◌||◌, List, [], ◌∷◌, refl, sym, ap, ◌∙◌}
use Rattle.std.proofs.lemmas.Bool.{or_parts}
use Rattle.mdb_base.specs.Words.{some_of}
use Rattle.mdb_base.proofs.ForCallers.{and_false, each_all, those_all}
use Rattle.fed_rules.specs.declared.messages.Due.{Due}
use Rattle.fed_rules.specs.Coord.{is_take}
use Rattle.coord_tables.specs.Sending.{HoldsTheSame, is_held, passed}

module _ (may other : Bool) where
  held_alike : (due : Due) → is_take due ≡ false → is_held may due ≡ is_held other due
  held_alike due none = ap (λ b. b && not may) none ∙ sym (ap (λ b. b && not other) none)

  pub without_takes : (dues : List Due) → some_of is_take dues ≡ false → HoldsTheSame may other dues
  without_takes [] none = record { passes = refl; held = refl }
  without_takes (due ∷ dues) none =
      let parts = or_parts (is_take due) (some_of is_take dues) none in
      let same = held_alike due parts.0 in
      let rest = without_takes dues parts.1 in
      record {
        passes =
            ap (λ b. cond (not b) (due ∷ passed may dues) (passed may dues)) same
            ∙ ap (λ (ds : List Due). cond (not (is_held other due)) (due ∷ ds) ds) rest.passes;
        held = ap (λ b. b || some_of (is_held may) dues) same ∙ ap (λ b. is_held other due || b) rest.held;
      }

-- a policy that lets Takes pass holds nothing back
pub all_passed : (dues : List Due) → passed true dues ≡ dues
all_passed dues =
    those_all (λ (due : Due). not (is_held true due)) dues
    (each_all (λ (due : Due). not (is_held true due) ≡ true) (λ (due : Due). ap not (and_false (is_take due))) dues)
