use Rattle.std.proofs.Common.{◌≡◌, ◌++◌, map, take}
use Rattle.audit_rules.specs.Agreement.{Shows}
use Rattle.audit_text.specs.Lines.{due_line}
use Rattle.audit_text.proofs.due.put_tables.Given as goal

-- the lines made so far stand at the end
abbrev pub invariant-loop-table : goal.invariant-loop-table
invariant-loop-table l = l.due.items ≡ l.fn.due.items ++ map due_line (map Shows (take l.table-index l.tables))
