use Rattle.std.proofs.Common.{◌≡◌, drop}
use Rattle.fed_rules.specs.CoordPast.{visits}
use Rattle.coord_tables.proofs.sites.visits.Given as goal

-- the first ones are elsewhere
abbrev pub invariant-loop-step : goal.invariant-loop-step
invariant-loop-step l = visits l.site (drop l.step-index l.steps) ≡ visits l.site l.steps
