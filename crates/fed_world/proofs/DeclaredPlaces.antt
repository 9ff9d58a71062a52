-- Where the declared sites stand among each other.
use Rattle.std.proofs.Common.{◌≡◌, ℕ, zero, suc, Bool, true, false, cond, Option, Some, None, List, [], ◌∷◌, slice_get, inl, inr, refl, sym, ◌∙◌, ap, subst}
use Rattle.mdb_base.specs.declared.names.SiteId.{SiteId}
use Rattle.mdb_base.specs.Names.{same_site}
use Rattle.mdb_base.specs.Words.{map_some}
use Rattle.mdb_base.proofs.ForCallers.{among_some, same_site-equal, same_site-refl, some_parts}
use Rattle.presumptions.specs.declared.Participant.{Participant}
use Rattle.order_laws.specs.Chains.{In}
use Rattle.order_laws.proofs.ForCallers.{among_map, among_weaker, slice_get-in}
use Rattle.fed_rules.specs.declared.scenario.Scenario.{Scenario}
use Rattle.fed_rules.specs.Scenarios.{home_of, protocols, sites}
use Rattle.fed_rules.specs.SiteRecords.{Home}
use Rattle.global_exec.specs.Pasts.{IsAmong}
use Rattle.session_routes.specs.Routes.{place_in}
use Rattle.world_laws.proofs.ForCallers.{homed, homeless}

-- at the place of a site the site stands
pub at_its_place : (ss : List SiteId) (site : SiteId) (place : ℕ) → place_in ss site ≡ Some place → slice_get ss place ≡ Some site
at_its_place [] site place e = cc
at_its_place (other ∷ ss) site place e = by_test (same_site other site) refl e (at_its_place ss site)
  where
    by_rest : (o : Option ℕ) → map_some (λ (n : ℕ). suc n) o ≡ Some place → ((n : ℕ) → o ≡ Some n → slice_get ss n ≡ Some site) → slice_get (other ∷ ss) place ≡ Some site
    by_rest None e k = cc
    by_rest (Some n) e k = subst (λ (m : ℕ). slice_get (other ∷ ss) m ≡ Some site) (some_parts e) (k n refl)

    by_test : (b : Bool) → same_site other site ≡ b → cond b (Some zero) (map_some (λ (n : ℕ). suc n) (place_in ss site)) ≡ Some place → ((n : ℕ) → place_in ss site ≡ Some n → slice_get ss n ≡ Some site)
        → slice_get (other ∷ ss) place ≡ Some site
    by_test true is e k = subst (λ (m : ℕ). slice_get (other ∷ ss) m ≡ Some site) (some_parts e) (ap (λ (s : SiteId). Some s) (same_site-equal other site is))
    by_test false is e k = by_rest (place_in ss site) e k

-- a site without a place isn't
placeless : (ss : List SiteId) (site : SiteId) → place_in ss site ≡ None → In site ss → ⊥
placeless [] site e i = i
placeless (other ∷ ss) site e i = by_test (same_site other site) refl e i (placeless ss site)
  where
    by_rest : (o : Option ℕ) → map_some (λ (n : ℕ). suc n) o ≡ None → (o ≡ None → In site ss → ⊥) → In site ss → ⊥
    by_rest None e k i = k refl i
    by_rest (Some n) e k i = cc

    by_test : (b : Bool) → same_site other site ≡ b → cond b (Some zero) (map_some (λ (n : ℕ). suc n) (place_in ss site)) ≡ None → In site (other ∷ ss) → (place_in ss site ≡ None → In site ss → ⊥) → ⊥
    by_test true is e i k = cc
    by_test false is e (inl same) k = (let self : same_site other site ≡ true = ap (λ (s : SiteId). same_site other s) (sym same) ∙ same_site-refl other in let no : true ≡ false = sym self ∙ is in cc)
    by_test false is e (inr i) k = by_rest (place_in ss site) e k i

-- a site that stands among the declared ones has a home
pub home_at_place : (scenario : Scenario) (site : SiteId) (place : ℕ) → slice_get (sites scenario) place ≡ Some site → (home : Home) × (home_of scenario site ≡ Some home)
home_at_place scenario site place e = by_home (home_of scenario site) refl
  where
    by_home : (o : Option Home) → home_of scenario site ≡ o → (home : Home) × (home_of scenario site ≡ Some home)
    by_home None is = absurd (homeless scenario.sites scenario.items site is (slice_get-in (sites scenario) place site e))
    by_home (Some home) is = (home, is)

-- a site without a place has none
pub no_home_placeless : (scenario : Scenario) (site : SiteId) → place_in (sites scenario) site ≡ None → home_of scenario site ≡ None
no_home_placeless scenario site e = by_home (home_of scenario site) refl
  where
    by_home : (o : Option Home) → home_of scenario site ≡ o → home_of scenario site ≡ None
    by_home None is = is
    by_home (Some home) is = absurd (placeless (sites scenario) site e (homed scenario.sites scenario.items site home is))

-- a declared site is one of the coordinator's
pub among_sites : (scenario : Scenario) (site : SiteId) (home : Home) → home_of scenario site ≡ Some home → IsAmong site (protocols scenario)
among_sites scenario site home is =
    among_some (λ (member : Participant). same_site member.site site) (protocols scenario)
    (among_weaker (λ (p : Participant). p.site ≡ site) (λ (p : Participant). same_site p.site site ≡ true) (λ p e. ap (λ (s : SiteId). same_site p.site s) (sym e) ∙ same_site-refl p.site) (protocols scenario)
    (among_map (λ (s : SiteId). s ≡ site) (λ (p : Participant). p.site) (protocols scenario) (homed scenario.sites scenario.items site home is)))
