use Rattle.std.proofs.Common.{map, ap, ◌∙◌, subst}
use Rattle.std.proofs.lemmas.List.{take_all}
use Rattle.std.specs.List.Sorted.{IsPermutation}
use Rattle.fed_rules.specs.declared.scenario.SiteLine.{SiteLine}
use Rattle.fed_rules.specs.Scenarios.{sites}
use Rattle.closing.proofs.RisingSites.{sorted_sites}
use Rattle.closing.proofs.actors.rising_sites.Goals as goal

pub returns : goal.returns
returns c =
    let found = c.loop-line.invariant ∙ ap (map (λ (line : SiteLine). line.site)) (take_all c.loop-line.line-index c.as_slice-line-items.result.now c.loop-line-test.false ∙ c.as_slice-line-items.ensures) in
    sorted_sites c.scenario.inside.sites c.sort_unstable.new.self.items
    (subst (λ xs. IsPermutation xs c.sort_unstable.new.self.items) found c.sort_unstable.ensures.permutation) c.sort_unstable.ensures.sorted
    ∙ ap sites c.scenario.view_is
