use Rattle.std.proofs.Common.{◌≡◌, map, take}
use Rattle.fed_rules.specs.declared.scenario.SiteLine.{SiteLine}
use Rattle.closing.proofs.actors.rising_sites.Given as goal

-- those of the first lines
abbrev pub invariant-loop-line : goal.invariant-loop-line
invariant-loop-line l = l.found.items ≡ map (λ (line : SiteLine). line.site) (take l.line-index l.line-items)
