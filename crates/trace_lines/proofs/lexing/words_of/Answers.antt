use Rattle.std.proofs.Common.{IsUtf8, subst}
use Rattle.trace_lines.proofs.Visible.{words_are_text}
use Rattle.trace_lines.proofs.Computed.{words_are_bytes}
use Rattle.trace_lines.proofs.lexing.words_of.Goals as goal

pub returns-in_default-clause-none : goal.returns-in_default-clause-none
returns-in_default-clause-none c = λ _ words h e. c.in_default.ensures.cases.0 (subst IsUtf8 (words_are_bytes words c.args.text.now e) (words_are_text words h))
