use Rattle.std.proofs.Common.{Some}
use Rattle.trace_lines.proofs.Named.{site_read}
use Rattle.trace_lines.proofs.lexing.site_named.Goals as goal

pub returns : goal.returns
returns c = rw c.site_of.ensures (site_read c.args.text.now (Some c.in_ok-number.number) c.in_ok-number.ensures)
