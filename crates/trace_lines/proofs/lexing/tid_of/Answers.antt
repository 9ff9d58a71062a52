use Rattle.std.proofs.Common.{Some, None}
use Rattle.trace_lines.proofs.Named.{tid_read}
use Rattle.trace_lines.proofs.lexing.tid_of.Goals as goal

pub returns-in_err-tx : goal.returns-in_err-tx
returns-in_err-tx c = rw c.from_residual.ensures (tid_read c.args.text.now None c.in_err-tx.ensures)

pub returns : goal.returns
returns c = rw c.tid_at.ensures (tid_read c.args.text.now (Some (c.in_ok-tx.tx, c.in_ok-tx.attempt)) c.in_ok-tx.ensures)
