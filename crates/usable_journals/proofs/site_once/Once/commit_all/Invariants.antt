use Rattle.std.proofs.Common.{ℕ, ◌≤◌, true, map, drop, length}
use Rattle.fed_rules.specs.Reopened.{local_read}
use Rattle.usable_journals.specs.OnceTold.{TakesAll}
use Rattle.usable_journals.proofs.site_once.Once.commit_all.Given as goal

-- the last ones were taken
abbrev pub invariant-loop-left : goal.invariant-loop-left
invariant-loop-left l = record {
  within : l.left ≤ length l.locals;
  taken : (counter : ℕ) → TakesAll l.fn.self l.self (map (local_read counter) (drop l.left l.locals)) true;
}

abbrev pub decreases-loop-left : goal.decreases-loop-left
decreases-loop-left l = l.left
