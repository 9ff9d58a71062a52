use Rattle.std.proofs.Common.{◌+◌, ◌≤◌, length}
use Rattle.audit_text.proofs.Parts.{IsSearched}
use Rattle.audit_text.proofs.cutting.cut_printed.Given as goal

-- so many lines were passed, each of which had at least one byte
abbrev pub invariant-loop-rest : goal.invariant-loop-rest
invariant-loop-rest l = record {
  searched : IsSearched l.text l.rest l.count;
  short : l.count + length l.rest ≤ length l.text;
}

abbrev pub decreases-loop-rest : goal.decreases-loop-rest
decreases-loop-rest l = length l.rest
