use Rattle.std.proofs.Common.{drop, sym, ap, ◌+◌, ◌∙◌, arith}
use Rattle.scenario_text.specs.Pieces.{TextLine, lines}
use Rattle.audit_text.specs.Lines.{has_bytes}
use Rattle.audit_text.proofs.Parts.{lines_there, nothing, no_lines, something}
use Rattle.audit_text.proofs.Verdicts as verdicts
use Rattle.audit_text.proofs.report.due_verdict.Goals as goal

pub returns-then-is_empty : goal.returns-then-is_empty
returns-then-is_empty c =
    let dues = c.args.due.now in
    let i = c.loop-one.one-index in
    verdicts.missing _ c.loop-one.line (drop i dues) (lines c.loop-one.rest.now) c.loop-one.invariant.left c.one-item.result (drop (i + 1) dues) (verdicts.next_due dues i c.one-item.result c.loop-one-test.true c.one-item.is)
    (ap lines (nothing c.loop-one.rest.now c.is_empty.result c.is_empty.ensures c.if-is_empty.true) ∙ no_lines)

pub returns-then-not-has_bytes : goal.returns-then-not-has_bytes
returns-then-not-has_bytes c =
    let dues = c.args.due.now in
    let i = c.loop-one.one-index in
    let there = c.first_line-there.result in
    let line : TextLine = record { bytes = there.bytes.now; ended = there.ended } in
    verdicts.differs _ c.loop-one.line (drop i dues) (lines c.loop-one.rest.now) c.loop-one.invariant.left c.one-item.result (drop (i + 1) dues) line (lines there.behind.now)
    (verdicts.next_due dues i c.one-item.result c.loop-one-test.true c.one-item.is) c.first_line-there.ensures.lines
    (ap (has_bytes line) (sym c.as_slice.ensures) ∙ (sym c.has_bytes.ensures ∙ c.if-not-has_bytes.true))

pub loop-one-preserved : goal.loop-one-preserved
loop-one-preserved c =
    let dues = c.args.due.now in
    let i = c.loop-one.one-index in
    let there = c.first_line-there.result in
    let line : TextLine = record { bytes = there.bytes.now; ended = there.ended } in
    record {
      left = verdicts.goes_on _ c.loop-one.line (drop i dues) (lines c.loop-one.rest.now) c.loop-one.invariant.left c.one-item.result (drop (i + 1) dues) line (lines there.behind.now)
          (verdicts.next_due dues i c.one-item.result c.loop-one-test.true c.one-item.is) c.first_line-there.ensures.lines
          (ap (has_bytes line) (sym c.as_slice.ensures) ∙ (sym c.has_bytes.ensures ∙ c.if-not-has_bytes.false));
      short = omega arith;
    }

pub returns-then-is_empty-2 : goal.returns-then-is_empty-2
returns-then-is_empty-2 c =
    let dues = c.args.due.now in
    let i = c.loop-one.one-index in
    verdicts.ended _ c.loop-one.line (drop i dues) (lines c.loop-one.rest.now) c.loop-one.invariant.left (verdicts.none_due dues i c.loop-one-test.false)
    (ap lines (nothing c.loop-one.rest.now c.is_empty-2.result c.is_empty-2.ensures c.if-is_empty-2.true) ∙ no_lines)

pub returns-else-is_empty-2 : goal.returns-else-is_empty-2
returns-else-is_empty-2 c =
    let dues = c.args.due.now in
    let i = c.loop-one.one-index in
    let some = lines_there c.loop-one.rest.now (something c.loop-one.rest.now c.is_empty-2.result c.is_empty-2.ensures c.if-is_empty-2.false) in
    verdicts.one_more _ c.loop-one.line (drop i dues) (lines c.loop-one.rest.now) c.loop-one.invariant.left some.0 some.1 (verdicts.none_due dues i c.loop-one-test.false) some.2
