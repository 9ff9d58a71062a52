-- Disks that tell how many bytes they have, and what stands at a place among them.
use Rattle.std.proofs.Common.{◌≡◌, ℕ, zero, suc, ◌<◌, Some, List, [], ◌∷◌, length, map, slice_get, refl, sym, ◌∙◌, ap, subst, arith}
use Rattle.mdb_base.specs.declared.names.SiteId.{SiteId}
use Rattle.fed_rules.proofs.ForCallers.{its-site}
use Rattle.fed_rules.specs.declared.scenario.Scenario.{Scenario}
use Rattle.fed_rules.specs.Scenarios.{home_of}
use Rattle.fed_rules.specs.SiteRecords.{Home}
use Rattle.journal_disk.specs.Disk.{Seen}

-- these disks tell as many bytes as they have
abbrev pub AreSized : List Seen → Type 0
AreSized disks = (place : ℕ) (seen : Seen) → slice_get disks place ≡ Some seen → length seen.image.bytes ≡ seen.size

-- so do all disks of a type of which each does
pub all_sized : {D : Type 0} (see : D → Seen) → ((one : D) → length (see one).image.bytes ≡ (see one).size) → (items : List D) → AreSized (map see items)
all_sized see sized [] place seen at = absurd cc
all_sized see sized (one ∷ items) zero seen at = let same : see one ≡ seen = cc in subst (λ (s : Seen). length s.image.bytes ≡ s.size) same (sized one)
all_sized see sized (one ∷ items) (suc place) seen at = all_sized see sized items place seen at

-- what stands at a place is one thing
pub one_at : (disks : List Seen) (place : ℕ) (a b : Seen) → slice_get disks place ≡ Some a → slice_get disks place ≡ Some b → a ≡ b
one_at disks place a b e f = let both : Some a ≡ Some b = sym e ∙ f in cc

-- the disk of a number is there
pub there_at : (disks : List Seen) (number : ℕ) → number < length disks → (seen : Seen) × (slice_get disks number ≡ Some seen)
there_at [] number lt = absurd (omega arith)
there_at (seen ∷ disks) zero lt = (seen, refl)
there_at (seen ∷ disks) (suc number) lt = there_at disks number (omega arith)

-- the number of a declared site
pub numbered : (scenario : Scenario) (n : ℕ) (home : Home) → home_of scenario (record { 0 = n }) ≡ Some home → home.site.0 ≡ n
numbered scenario n home declared = ap (λ (s : SiteId). s.0) (its-site scenario (record { 0 = n }) home declared)
