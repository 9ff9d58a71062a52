use Rattle.std.proofs.Common.{◌≡◌, ◌+◌, ◌<◌, ◌^◌, drop, length}
use Rattle.scenario_text.specs.Pieces.{lines}
use Rattle.audit_text.specs.Dues.{verdict_on_dues}
use Rattle.audit_text.proofs.report.due_verdict.Given as goal

-- the lines that are left decide
abbrev pub invariant-loop-one : goal.invariant-loop-one
invariant-loop-one l = record {
  left : verdict_on_dues l.line (drop l.one-index l.due) (lines l.rest) ≡ verdict_on_dues l.number l.due (lines l.text);
  short : l.line + length l.rest < 2 ^ 32;
}
