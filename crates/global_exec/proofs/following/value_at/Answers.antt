use Rattle.std.proofs.Common.{sym, ◌∙◌, arith}
use Rattle.global_exec.proofs.LastReads.{read_last}
use Rattle.global_exec.proofs.following.value_at.Goals as goal

pub returns : goal.returns
returns c = c.value_in.ensures ∙ sym (read_last c.args.reads.now c.args.reply c.args.register (omega arith) c.requires)
