use Rattle.std.proofs.Common.{◌≡◌, ◌++◌, map, take}
use Rattle.fed_rules.specs.CoordRecords.{commits}
use Rattle.fed_rules.specs.Reopened.{commit_read}
use Rattle.usable_journals.proofs.cycles.add_committed.Given as goal

-- the first ones were put there
abbrev pub invariant-loop-attempt : goal.invariant-loop-attempt
invariant-loop-attempt l = l.attempts.items ≡ l.initial.attempts.items ++ commits (map commit_read (take l.attempt-index l.committed))
