use Rattle.std.proofs.Common.{◌≡◌}
use Rattle.scenario_maker.specs.Made.{behind_sites, made_sites}
use Rattle.scenario_maker.proofs.maker.draw_sites.Given as goal

abbrev pub invariant-loop-made : goal.invariant-loop-made
invariant-loop-made l =
    (l.lines.items ≡ made_sites l.made l.initial.draws.last) × (l.draws.last ≡ behind_sites l.made l.initial.draws.last)
