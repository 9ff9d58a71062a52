-- The declared sites of a scenario: they rise, none has the number of the coordinator, and each stands at one place.
use Rattle.std.proofs.Common.{◌≡◌, ℕ, zero, suc, ◌≤◌, ◌<◌, inl, inr, true, Some, List, [], ◌∷◌, length, slice_get, refl, ap, arith}
use Rattle.std.proofs.lemmas.Bool.{and_parts, leb-true}
use Rattle.mdb_base.specs.declared.names.SiteId.{SiteId}
use Rattle.mdb_base.specs.Words.{Each, each_of}
use Rattle.mdb_base.proofs.ForCallers.{each_inserted, each_of_mapped, one_place}
use Rattle.presumptions.specs.declared.Participant.{Participant}
use Rattle.order_laws.specs.Chains.{In}
use Rattle.order_laws.proofs.ForCallers.{each_at, slice_get-in}
use Rattle.fed_rules.proofs.ForCallers.{sites_rise}
use Rattle.fed_rules.specs.declared.scenario.Scenario.{Scenario}
use Rattle.fed_rules.specs.declared.scenario.SiteLine.{SiteLine}
use Rattle.fed_rules.specs.Plans.{IsScenario, is_between}
use Rattle.fed_rules.specs.Scenarios.{protocols, protocols_in, sites}
use Rattle.commit_laws.proofs.ForCallers.{by_site, members_rise}

-- ---- their order

-- ---- their numbers

lines_ranged : (lines : List SiteLine) → each_of (λ (l : SiteLine). is_between 1 8 l.site.0) lines ≡ true → Each (λ (m : Participant). 1 ≤ m.site.0) (protocols_in lines)
lines_ranged [] e = tt
lines_ranged (line ∷ lines) e =
    let parts = and_parts (is_between 1 8 line.site.0) (each_of (λ (l : SiteLine). is_between 1 8 l.site.0) lines) e in
    each_inserted (λ (m : Participant). 1 ≤ m.site.0) by_site (record { site = line.site; protocol = line.protocol }) (protocols_in lines)
    (leb-true 1 line.site.0 (and_parts _ _ parts.0).0) (lines_ranged lines parts.1)

-- a declared site is another actor than the coordinator
pub declared_least : (scenario : Scenario) (site : SiteId) → IsScenario scenario → In site (sites scenario) → 1 ≤ site.0
declared_least scenario site whole i =
    each_at (λ (s : SiteId). 1 ≤ s.0) site (sites scenario) (each_of_mapped (λ (s : SiteId). 1 ≤ s.0) (λ (m : Participant). m.site) (protocols scenario) (lines_ranged scenario.sites whole.sites.range)) i

-- ---- their places

-- and what is among them has a place
pub place_of : {A : Type 0} (x : A) (xs : List A) → In x xs → (n : ℕ) × (slice_get xs n ≡ Some x)
place_of x [] i = absurd i
place_of {A} x (y ∷ xs) (inl same) = (zero, ap (λ (z : A). Some z) same)
place_of x (y ∷ xs) (inr i) = (let rest = place_of x xs i in (suc rest.0, rest.1))

-- a list of the same length has an item at the place
pub beside : {A B : Type 0} (xs : List A) (ys : List B) (n : ℕ) (x : A) → length ys ≡ length xs → slice_get xs n ≡ Some x → (y : B) × (slice_get ys n ≡ Some y)
beside [] ys n x e at = cc
beside (z ∷ xs) [] n x e at = absurd (omega (arith, e))
beside (z ∷ xs) (y ∷ ys) zero x e at = (y, refl)
beside (z ∷ xs) (y ∷ ys) (suc n) x e at = beside xs ys n x (omega (arith, e)) at

above_first : {A : Type 0} (key : A → ℕ) (xs : List A) (n m : ℕ) (x : A) → Each (λ y. m < key y) xs → slice_get xs n ≡ Some x → m < key x
above_first key xs n m x above at = each_at (λ y. m < key y) x xs above (slice_get-in xs n x at)

-- so does each declared site
pub site_place : (scenario : Scenario) (a b : ℕ) (x y : SiteId) → IsScenario scenario → slice_get (sites scenario) a ≡ Some x → slice_get (sites scenario) b ≡ Some y → x.0 ≡ y.0 → a ≡ b
site_place scenario a b x y whole at there same = one_place (λ (s : SiteId). s.0) (sites scenario) a b x y (sites_rise (protocols scenario) (members_rise scenario whole)) at there same
