use Rattle.std.proofs.Common.{◌≡◌, suc, length}
use Rattle.scenario_text.specs.Kept.{IsDraft}
use Rattle.scenario_text.specs.Pieces.{lines}
use Rattle.scenario_text.specs.Texts.{with_lines, draft_of}
use Rattle.scenario_text.proofs.SizeLemmas.{size}
use Rattle.scenario_text.proofs.reading.draft_of.Given as goal

-- the draft so far with the lines that are left is the draft of all lines, and the line's number is one more than the lines that were taken
abbrev pub invariant-loop-rest : goal.invariant-loop-rest
invariant-loop-rest l = record {
  so_far : with_lines l.with_commands l.number (lines l.rest) l.draft ≡ draft_of l.with_commands l.text;
  kept : IsDraft l.draft;
  sized : l.number ≡ suc (size l.draft);
}

abbrev pub decreases-loop-rest : goal.decreases-loop-rest
decreases-loop-rest l = length l.rest
