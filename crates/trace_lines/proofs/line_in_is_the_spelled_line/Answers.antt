use Rattle.trace_lines.proofs.Computed.{line_in_found, line_in_again}
use Rattle.trace_lines.proofs.line_in_is_the_spelled_line.Goals as goal

pub returns : goal.returns
returns c = λ line bytes. (line_in_found line bytes, λ spelled. line_in_again line bytes spelled.0 spelled.1)
