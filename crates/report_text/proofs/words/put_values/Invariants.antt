use Rattle.std.proofs.Common.{◌≡◌, ◌++◌, map, take, decimal}
use Rattle.report_text.specs.Spelling.{spaced}
use Rattle.report_text.proofs.words.put_values.Given as goal

-- what was written so far stands at the end
abbrev pub invariant-loop-value : goal.invariant-loop-value
invariant-loop-value l = l.out.items ≡ l.fn.out.items ++ spaced (map decimal (take l.value-index l.values))
