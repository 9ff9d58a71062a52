use Rattle.std.proofs.Common.{◌≡◌, ◌++◌}
use Rattle.scenario_maker.specs.Made.{made_rows}
use Rattle.scenario_maker.proofs.maker.add_rows.Given as goal

abbrev pub invariant-loop-key : goal.invariant-loop-key
invariant-loop-key l = l.items.items ≡ l.initial.items.items ++ made_rows l.key l.site.0
