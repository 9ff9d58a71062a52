use Rattle.std.proofs.Common.{◌≤◌, true, map, drop, length}
use Rattle.fed_rules.specs.SiteRecords.{Held}
use Rattle.usable_journals.specs.Numbers.{Puts}
use Rattle.usable_journals.proofs.numbers.take_held.Given as goal

-- the last ones were put
abbrev pub invariant-loop-left : goal.invariant-loop-left
invariant-loop-left l = record {
  within : l.left ≤ length l.doubtful;
  put : Puts l.fn.numbers l.numbers (map (λ (held : Held). held.number) (drop l.left l.doubtful)) true;
}

abbrev pub decreases-loop-left : goal.decreases-loop-left
decreases-loop-left l = l.left
