use Rattle.std.proofs.Common.{◌≡◌, ◌++◌, take}
use Rattle.std.specs.List.{flat_map}
use Rattle.report_text.specs.Spelling.{line_bytes, outcome_words}
use Rattle.report_text.proofs.lines.put_outcomes.Given as goal

-- what was written so far stands at the end
abbrev pub invariant-loop-outcome : goal.invariant-loop-outcome
invariant-loop-outcome l = l.out.items ≡ l.fn.out.items ++ flat_map (λ outcome. line_bytes (outcome_words outcome)) (take l.outcome-index l.outcomes)
