use Rattle.std.proofs.Common.{◌≤◌, ◌⊎◌, None}
use Rattle.fed_hosts.specs.Rounds.{ArePolled, HaveGivenNone}
use Rattle.fed_hosts.proofs.rounds.first_between.Given as goal

abbrev pub invariant-loop-place : goal.invariant-loop-place
invariant-loop-place l =
    record {
      polled : ArePolled None l.fn.ports.items l.ports.items;
      none : HaveGivenNone l.from l.place l.fn.ports.items l.ports.items;
      within : (l.place ≤ l.from) ⊎ (l.place ≤ l.to);
    }
