use Rattle.std.proofs.Common.{◌≡◌, ◌++◌, take}
use Rattle.line_text.specs.Spelling.{lines_bytes}
use Rattle.outputs.proofs.output.put_lines.Given as goal

-- what was written so far stands at the end
abbrev pub invariant-loop-line : goal.invariant-loop-line
invariant-loop-line l = l.out.items ≡ l.fn.out.items ++ lines_bytes (take l.line-index l.lines)
