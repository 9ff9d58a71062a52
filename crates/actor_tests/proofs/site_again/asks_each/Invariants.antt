use Rattle.std.proofs.Common.{◌≤◌}
use Rattle.actor_tests.specs.OfLines.{IsOfLines}
use Rattle.actor_tests.proofs.site_again.asks_each.Given as goal

abbrev pub invariant-loop-deed : goal.invariant-loop-deed
invariant-loop-deed l = record { few : l.lines ≤ 906; stood : IsOfLines l.lines l.dbms l.disk }
