use Rattle.std.proofs.Common.{Some, None}
use Rattle.trace_lines.proofs.Named.{place_read}
use Rattle.trace_lines.proofs.lexing.place_of.Goals as goal

pub returns-in_err-site : goal.returns-in_err-site
returns-in_err-site c = rw c.from_residual.ensures (place_read c.args.text.now None c.in_err-site.ensures)

pub returns : goal.returns
returns c = rw c.place_at.ensures (place_read c.args.text.now (Some (c.in_ok-site.site, c.in_ok-site.place)) c.in_ok-site.ensures)
