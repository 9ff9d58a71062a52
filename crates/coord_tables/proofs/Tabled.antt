-- The table of known attempts after a change of one.
use Rattle.std.proofs.Common.{◌≡◌, Bool, true, false, cond, not, Some, None, List, [], ◌∷◌, refl, sym, ap, ◌∙◌}
use Rattle.std.proofs.lemmas.Bool.{cond-true, cond-false, false≢true}
use Rattle.mdb_base.specs.declared.names.Tid.{Tid}
use Rattle.mdb_base.specs.Names.{same_tid}
use Rattle.mdb_base.specs.Words.{map_some}
use Rattle.mdb_base.proofs.ForCallers.{same_tid-equal}
use Rattle.protocol_table.specs.declared.known.Known.{Known}
use Rattle.protocol_table.specs.Attempts.{changed, is_of, known_of, without}

-- the attempt after a change of the one of this name, and the others
pub known_changed : (tid : Tid) (change : Known → Known) → ((k : Known) → (change k).tid ≡ k.tid) → (table : List Known) → known_of tid (changed tid change table) ≡ map_some change (known_of tid table)
known_changed tid change keeps [] = refl
known_changed tid change keeps (k ∷ ks) = by_test (is_of tid k) refl (known_changed tid change keeps ks) where
  by_test : (b : Bool) → is_of tid k ≡ b → known_of tid (changed tid change ks) ≡ map_some change (known_of tid ks)
      → known_of tid (cond b (change k) k ∷ changed tid change ks) ≡ map_some change (cond b (Some k) (known_of tid ks))
  by_test true e rest = cond-true _ _ _ (ap (same_tid tid) (keeps k) ∙ e)
  by_test false e rest = cond-false _ _ _ e ∙ rest

others_apart : (tid t : Tid) (k : Known) → same_tid tid t ≡ false → is_of tid k ≡ true → is_of t k ≡ false
others_apart tid t k e is = by_test (is_of t k) refl where
  by_test : (b : Bool) → is_of t k ≡ b → b ≡ false
  by_test false f = refl
  by_test true f = absurd (false≢true (sym e ∙ ap (same_tid tid) (same_tid-equal t k.tid f) ∙ is))

pub other_changed : (tid t : Tid) (change : Known → Known) → same_tid tid t ≡ false → ((k : Known) → (change k).tid ≡ k.tid) → (table : List Known) → known_of t (changed tid change table) ≡ known_of t table
other_changed tid t change e keeps [] = refl
other_changed tid t change e keeps (k ∷ ks) = by_test (is_of tid k) refl (other_changed tid t change e keeps ks) where
  by_test : (b : Bool) → is_of tid k ≡ b → known_of t (changed tid change ks) ≡ known_of t ks
      → known_of t (cond b (change k) k ∷ changed tid change ks) ≡ known_of t (k ∷ ks)
  by_test true is rest = cond-false _ _ _ (ap (same_tid t) (keeps k) ∙ others_apart tid t k e is) ∙ rest ∙ sym (cond-false _ _ _ (others_apart tid t k e is))
  by_test false is rest = ap (λ o. cond (is_of t k) (Some k) o) rest

pub known_without : (tid : Tid) (table : List Known) → known_of tid (without tid table) ≡ None
known_without tid [] = refl
known_without tid (k ∷ ks) = by_test (is_of tid k) refl (known_without tid ks) where
  by_test : (b : Bool) → is_of tid k ≡ b → known_of tid (without tid ks) ≡ None → known_of tid (cond (not b) (k ∷ without tid ks) (without tid ks)) ≡ None
  by_test true e rest = rest
  by_test false e rest = cond-false _ _ _ e ∙ rest

pub other_without : (tid t : Tid) → same_tid tid t ≡ false → (table : List Known) → known_of t (without tid table) ≡ known_of t table
other_without tid t e [] = refl
other_without tid t e (k ∷ ks) = by_test (is_of tid k) refl (other_without tid t e ks) where
  by_test : (b : Bool) → is_of tid k ≡ b → known_of t (without tid ks) ≡ known_of t ks → known_of t (cond (not b) (k ∷ without tid ks) (without tid ks)) ≡ known_of t (k ∷ ks)
  by_test true is rest = rest ∙ sym (cond-false _ _ _ (others_apart tid t k e is))
  by_test false is rest = ap (λ o. cond (is_of t k) (Some k) o) rest
