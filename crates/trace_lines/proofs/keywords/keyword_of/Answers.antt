use Rattle.std.proofs.Common.{subst}
use Rattle.trace_lines.specs.Lexed.{Covers}
use Rattle.trace_lines.proofs.FirstBytes.{found_in}
use Rattle.trace_lines.proofs.keywords.keyword_of.Goals as goal

pub returns : goal.returns
returns c = found_in c.args.text.now c.group_of.result.now c.one_of.result (subst (λ first. Covers first c.group_of.result.now) c.first_byte.ensures c.group_of.ensures) c.one_of.ensures
