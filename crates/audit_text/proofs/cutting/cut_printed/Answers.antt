use Rattle.std.proofs.Common.{sym, ◌∙◌, arith}
use Rattle.scenario_text.specs.Pieces.{TextLine}
use Rattle.audit_text.proofs.Parts.{nothing, something, searched_end, searched_found, searched_more}
use Rattle.audit_text.proofs.cutting.cut_printed.Goals as goal

pub returns-then-is_mark-clause-cut : goal.returns-then-is_mark-clause-cut
returns-then-is_mark-clause-cut c =
    let there = c.first_line-line.result in
    let line : TextLine = record { bytes = there.bytes.now; ended = there.ended } in
    searched_found c.args.text.now c.loop-rest.rest.now c.split_at.result.0.now c.loop-rest.count line there.behind c.loop-rest.invariant.searched
    (something c.loop-rest.rest.now c.is_empty.result c.is_empty.ensures c.loop-rest-test.true) c.first_line-line.ensures.lines (sym c.is_mark.ensures ∙ c.if-is_mark.true) c.split_at.ensures.front

pub loop-rest-preserved : goal.loop-rest-preserved
loop-rest-preserved c =
    let there = c.first_line-line.result in
    let line : TextLine = record { bytes = there.bytes.now; ended = there.ended } in
    record {
      searched = searched_more c.args.text.now c.loop-rest.rest.now c.loop-rest.count line there.behind.now c.loop-rest.invariant.searched
          (something c.loop-rest.rest.now c.is_empty.result c.is_empty.ensures c.loop-rest-test.true) c.first_line-line.ensures.lines (sym c.is_mark.ensures ∙ c.if-is_mark.false)
          c.first_line-line.ensures.whole c.first_line-line.ensures.last;
      short = omega arith;
    }

pub returns-clause-cut : goal.returns-clause-cut
returns-clause-cut c =
    searched_end c.args.text.now c.loop-rest.rest.now c.loop-rest.count c.loop-rest.invariant.searched (nothing c.loop-rest.rest.now c.is_empty.result c.is_empty.ensures c.loop-rest-test.false)
