-- The declared sites are at most eight.
use Rattle.std.proofs.Common.{◌≡◌, ℕ, suc, ◌<◌, ◌≤◌, List, [], ◌∷◌, map, length, refl, ap, ◌∙◌, arith, eq-eqb}
use Rattle.std.proofs.lemmas.Bool.{and_parts, leb-true}
use Rattle.std.specs.Prelude.{nat_le}
use Rattle.mdb_base.specs.Words.{Among}
use Rattle.mdb_base.proofs.ForCallers.{length-map}
use Rattle.order_laws.specs.Chains.{Distinct, In}
use Rattle.order_laws.proofs.ForCallers.{among_is, among_map, each_of_at}
use Rattle.fed_rules.specs.declared.scenario.Scenario.{Scenario}
use Rattle.fed_rules.specs.declared.scenario.SiteLine.{SiteLine}
use Rattle.fed_rules.specs.Plans.{AreSites, is_between, one_site}
use Rattle.fed_rules.specs.Scenarios.{protocols, protocols_in}
use Rattle.commit_laws.proofs.ForCallers.{by_site}
use Rattle.closing_laws.proofs.Lengths.{few_numbers, length_inserted, numbers_differ}

protocols_many : (lines : List SiteLine) → length (protocols_in lines) ≡ length lines
protocols_many [] = refl
protocols_many (line ∷ lines) = length_inserted by_site (record { site = line.site; protocol = line.protocol }) (protocols_in lines) ∙ ap suc (protocols_many lines)

numbers : (scenario : Scenario) → AreSites scenario.sites → Distinct (map (λ (l : SiteLine). l.site.0) scenario.sites)
numbers scenario good = numbers_differ one_site (λ (l : SiteLine). l.site.0) (λ a b e. eq-eqb a.site.0 b.site.0 e) scenario.sites good.differ

in_range : (scenario : Scenario) → AreSites scenario.sites → (k : ℕ) → In k (map (λ (l : SiteLine). l.site.0) scenario.sites) → (0 < k) × (k ≤ 8)
in_range scenario good k i = of_line (among_map (λ n. n ≡ k) (λ (l : SiteLine). l.site.0) scenario.sites i)
  where
    of_line : Among (λ (l : SiteLine). l.site.0 ≡ k) scenario.sites → (0 < k) × (k ≤ 8)
    of_line m =
        let (line, listed, is) = among_is (λ (l : SiteLine). l.site.0 ≡ k) scenario.sites m in
        let parts = and_parts (nat_le 1 line.site.0) (nat_le line.site.0 8) (each_of_at (λ (l : SiteLine). is_between 1 8 l.site.0) scenario.sites line good.range listed) in
        let low = leb-true 1 line.site.0 parts.0 in
        let high = leb-true line.site.0 8 parts.1 in (omega (arith, low, is), omega (arith, high, is))

pub at_most_eight : (scenario : Scenario) → AreSites scenario.sites → length (protocols scenario) ≤ 8
at_most_eight scenario good =
    let few = few_numbers (map (λ (l : SiteLine). l.site.0) scenario.sites) 8 (numbers scenario good) (in_range scenario good) in
    let all = length-map (λ (l : SiteLine). l.site.0) scenario.sites in
    let same = protocols_many scenario.sites in omega (arith, few, all, same)
