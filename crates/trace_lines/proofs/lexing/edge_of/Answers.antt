use Rattle.std.proofs.Common.{Some, None, arith}
use Rattle.mdb_base.specs.Texts.{tid_text}
use Rattle.line_text.specs.Range.{is_tid}
use Rattle.trace_lines.specs.Lexing.{is_target, target_text}
use Rattle.trace_lines.proofs.Named.{lacks-tid, edge_read}
use Rattle.trace_lines.proofs.Pairs.{no_mark, no_first, no_second, both_found}
use Rattle.trace_lines.proofs.lexing.edge_of.Goals as goal

pub returns-in_err-from : goal.returns-in_err-from
returns-in_err-from c =
    rw c.from_residual.ensures
    (edge_read c.args.text.now None (no_mark is_tid tid_text is_target target_text 62 (omega arith) (lacks-tid 62 (omega arith)) c.args.text.now c.in_err-from.ensures.cases))

pub returns-in_err-from-2 : goal.returns-in_err-from-2
returns-in_err-from-2 c =
    rw c.from_residual-in_err-from-2.ensures
    (edge_read c.args.text.now None
    (no_first is_tid tid_text is_target target_text 62 (omega arith) (lacks-tid 62 (omega arith)) c.args.text.now c.in_ok-from.from c.in_ok-from.target c.in_ok-from.ensures.cases c.in_err-from-2.ensures))

pub returns-in_err-to : goal.returns-in_err-to
returns-in_err-to c =
    rw c.from_residual-in_err-to.ensures
    (edge_read c.args.text.now None
    (no_second is_tid tid_text is_target target_text 62 (omega arith) (lacks-tid 62 (omega arith)) c.args.text.now c.in_ok-from.from c.in_ok-from.target c.in_ok-from.ensures.cases c.in_err-to.ensures))

pub returns : goal.returns
returns c =
    edge_read c.args.text.now (Some (c.in_ok-from-2.from, (c.in_ok-to.to, c.in_ok-to.site)))
    (both_found is_tid tid_text is_target target_text 62 (omega arith) (lacks-tid 62 (omega arith)) c.args.text.now c.in_ok-from.from c.in_ok-from.target c.in_ok-from-2.from
    (c.in_ok-to.to, c.in_ok-to.site) c.in_ok-from.ensures.cases c.in_ok-from-2.ensures c.in_ok-to.ensures)
