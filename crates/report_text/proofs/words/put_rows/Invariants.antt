use Rattle.std.proofs.Common.{◌≡◌, ◌++◌, map, take}
use Rattle.report_text.specs.Spelling.{spaced, row_text}
use Rattle.report_text.proofs.words.put_rows.Given as goal

-- what was written so far stands at the end
abbrev pub invariant-loop-row : goal.invariant-loop-row
invariant-loop-row l = l.out.items ≡ l.fn.out.items ++ spaced (map row_text (take l.row-index l.rows))
