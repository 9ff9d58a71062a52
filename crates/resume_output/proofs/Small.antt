-- Journals that are short enough.
use Rattle.std.proofs.Common.{◌≡◌, ◌≤◌, ◌^◌, ◌&&◌, ℕ, zero, suc, nat_le, Bool, true, List, [], ◌∷◌, length, map, None, arith, refl, sym, ◌∙◌, ap, subst}
use Rattle.std.proofs.lemmas.Bool.{and_parts, leb-true}
use Rattle.mdb_base.specs.Words.{each_of}
use Rattle.journal_disk.specs.Disk.{Image, Seen}
use Rattle.fed_rules.specs.Resumed.{going_on}
use Rattle.found_disks.specs.declared.reading.Journals.{Journals}
use Rattle.found_disks.specs.Finding.{NamesOf, found_in}
use Rattle.found_disks.specs.FoundLines.{AreShort, FoundSessionsBeginShortly}
use Rattle.found_disks.specs.Reading.{AreRead, images_of}
use Rattle.closing.specs.Steps.{CanClose}
use Rattle.resume_output.specs.Sizes.{are_small}

-- each of the disks is
pub each_small : {D : Type 0} (see : D → Seen) (items : List D) → are_small (map see items) ≡ each_of (λ (item : D). nat_le (see item).size (2 ^ 26)) items
each_small see [] = refl
each_small see (item ∷ items) = ap (λ b. nat_le (see item).size (2 ^ 26) && b) (each_small see items)

-- so the bytes that they tell are few
pub are_short : {D : Type 0} (see : D → Seen) → ((one : D) → length (see one).image.bytes ≡ (see one).size) → (items : List D) → are_small (map see items) ≡ true
    → AreShort (2 ^ 26) (images_of (map see items))
are_short see told [] small place image at = absurd cc
are_short see told (one ∷ items) small zero image at =
    let same : (see one).image ≡ image = cc in
    let few = leb-true (see one).size (2 ^ 26) (and_parts (nat_le (see one).size (2 ^ 26)) (are_small (map see items)) small).0 in
    subst (λ (i : Image). length i.bytes ≤ 2 ^ 26) same (subst (λ (n : ℕ). n ≤ 2 ^ 26) (sym (told one)) few)
are_short see told (one ∷ items) small (suc place) image at =
    are_short see told items (and_parts (nat_le (see one).size (2 ^ 26)) (are_small (map see items)) small).1 place image at

-- so a session that goes on from them may be closed
pub may_close : {D : Type 0} → FoundSessionsBeginShortly → (see : D → Seen) → ((one : D) → length (see one).image.bytes ≡ (see one).size) → (items handed : List D) (small : Bool)
    → handed ≡ items → small ≡ are_small (map see handed) → small ≡ true → (journals : Journals) → AreRead (images_of (map see items)) journals → NamesOf journals None
    → CanClose (going_on (found_in (images_of (map see items)) journals)) []
may_close law see told items handed small same is true_is journals read named =
    let few : are_small (map see items) ≡ true = ap (λ xs. are_small (map see xs)) (sym same) ∙ (sym is ∙ true_is) in
    omega (arith, law (images_of (map see items)) journals read named (are_short see told items few))
