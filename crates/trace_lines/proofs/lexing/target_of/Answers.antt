use Rattle.std.proofs.Common.{arith}
use Rattle.mdb_base.specs.Texts.{tid_text}
use Rattle.line_text.specs.Range.{is_tid, is_site}
use Rattle.trace_lines.specs.Lexing.{site_text}
use Rattle.trace_lines.proofs.Named.{lacks-tid}
use Rattle.trace_lines.proofs.Pairs.{no_mark, no_first, no_second}
use Rattle.trace_lines.proofs.lexing.target_of.Goals as goal

pub returns-in_err-to : goal.returns-in_err-to
returns-in_err-to c =
    rw c.from_residual.ensures (no_mark is_tid tid_text is_site site_text 64 (omega arith) (lacks-tid 64 (omega arith)) c.args.text.now c.in_err-to.ensures.cases)

pub returns-in_err-tid_of : goal.returns-in_err-tid_of
returns-in_err-tid_of c =
    rw c.from_residual-in_err-tid_of.ensures
    (no_first is_tid tid_text is_site site_text 64 (omega arith) (lacks-tid 64 (omega arith)) c.args.text.now c.in_ok-to.to c.in_ok-to.site c.in_ok-to.ensures.cases c.in_err-tid_of.ensures)

pub returns-in_err-site_named : goal.returns-in_err-site_named
returns-in_err-site_named c =
    rw c.from_residual-in_err-site_named.ensures
    (no_second is_tid tid_text is_site site_text 64 (omega arith) (lacks-tid 64 (omega arith)) c.args.text.now c.in_ok-to.to c.in_ok-to.site c.in_ok-to.ensures.cases c.in_err-site_named.ensures)
