use Rattle.std.proofs.Common.{◌≡◌, ◌++◌, map, take}
use Rattle.audit_rules.specs.Agreement.{Ends}
use Rattle.audit_text.specs.Lines.{due_line}
use Rattle.audit_text.proofs.due.put_outcomes.Given as goal

-- the lines made so far stand at the end
abbrev pub invariant-loop-outcome : goal.invariant-loop-outcome
invariant-loop-outcome l = l.due.items ≡ l.fn.due.items ++ map due_line (map Ends (take l.outcome-index l.outcomes))
