use Rattle.std.proofs.Common.{◌∙◌}
use Rattle.audit_text.proofs.LastBytes.{bytes_before, other_byte}
use Rattle.audit_text.proofs.report.has_bytes.Goals as goal

pub returns-then-last-ne10 : goal.returns-then-last-ne10
returns-then-last-ne10 c =
    other_byte c.args.line.now.bytes.now c.args.bytes.now c.in-Some.front.now c.in-Some.last.now c.in-Some.ensures.cases.0 c.args.line.now.ended c.if-last-ne10.true

pub returns : goal.returns
returns c =
    c.same_bytes.ensures
    ∙ bytes_before c.args.line.now.bytes.now c.args.bytes.now c.in-Some.front.now c.in-Some.last.now c.in-Some.ensures.cases.0 c.args.line.now.ended c.if-not-line.false c.if-last-ne10.false
