-- Disks that aren't used are empty.
use Rattle.std.proofs.Common.{◌≡◌, ℕ, zero, suc, Bool, true, false, cond, nat_lt, is_some, Option, Some, None, List, [], ◌∷◌, slice_get, refl, subst, arith}
use Rattle.std.proofs.lemmas.Bool.{ltb-false}
use Rattle.mdb_base.specs.Words.{map_some}
use Rattle.fed_world.specs.SettingUp.{AreEmpty}
use Rattle.journal_disk.specs.Disk.{Seen}
use Rattle.session_outputs.specs.Disks.{first_used, is_used, sizes_of}

-- where no disk is used each is empty
pub are_empty : (disks : List Seen) → is_used (sizes_of disks) ≡ false → AreEmpty disks
are_empty [] e place seen at = absurd cc
are_empty (first ∷ disks) e place seen at = by_size (nat_lt 0 first.size) refl e place at (are_empty disks)
  where
    rest : (o : Option ℕ) → is_some (map_some suc o) ≡ false → is_some o ≡ false
    rest None e = refl
    rest (Some n) e = e

    by_size : (b : Bool) → nat_lt 0 first.size ≡ b → is_some (cond b (Some 0) (map_some suc (first_used (sizes_of disks)))) ≡ false → (place : ℕ) → slice_get (first ∷ disks) place ≡ Some seen
        → (is_used (sizes_of disks) ≡ false → AreEmpty disks) → seen.size ≡ 0
    by_size true is e place at more = absurd cc
    by_size false is e zero at more = let same : first ≡ seen = cc in let none = ltb-false 0 first.size is in subst (λ (d : Seen). d.size ≡ 0) same (omega (arith, none))
    by_size false is e (suc place) at more = more (rest (first_used (sizes_of disks)) e) place seen at
