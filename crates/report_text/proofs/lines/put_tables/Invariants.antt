use Rattle.std.proofs.Common.{◌≡◌, ◌++◌, take}
use Rattle.std.specs.List.{flat_map}
use Rattle.report_text.specs.Spelling.{line_bytes, table_words}
use Rattle.report_text.proofs.lines.put_tables.Given as goal

-- what was written so far stands at the end
abbrev pub invariant-loop-table : goal.invariant-loop-table
invariant-loop-table l = l.out.items ≡ l.fn.out.items ++ flat_map (λ table. line_bytes (table_words table)) (take l.table-index l.tables)
