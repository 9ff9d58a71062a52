use Rattle.std.proofs.Common.{◌≡◌, ◌++◌, map, take}
use Rattle.audit_rules.specs.Agreement.{Reads}
use Rattle.audit_text.specs.Lines.{due_line}
use Rattle.audit_text.proofs.due.put_all_reads.Given as goal

-- the lines made so far stand at the end
abbrev pub invariant-loop-reads : goal.invariant-loop-reads
invariant-loop-reads l = l.due.items ≡ l.fn.due.items ++ map due_line (map Reads (take l.reads-index l.all))
