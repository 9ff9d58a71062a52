use Rattle.std.proofs.Common.{◌≡◌}
use Rattle.scenario_maker.specs.Made.{behind_transactions, made_transactions}
use Rattle.scenario_maker.proofs.maker.draw_transactions.Given as goal

abbrev pub invariant-loop-made : goal.invariant-loop-made
invariant-loop-made l =
    (l.lines.items ≡ made_transactions l.sites l.made l.initial.draws.last) × (l.draws.last ≡ behind_transactions l.sites l.made l.initial.draws.last)
