use Rattle.std.proofs.lemmas.Result.{on_ok_weaker}
use Rattle.line_text.proofs.Written.{line_written}
use Rattle.line_text.proofs.printing.put_line.Goals as goal

pub returns-clause-ok : goal.returns-clause-ok
returns-clause-ok c =
    let sent = rw c.as_slice.ensures at c.put_sends.ensures.ok in
    on_ok_weaker c.put_sends.result (line_written c.args.line.now _ _ _ _ _ c.in_ok-put_command.ensures.ok c.in_ok-put_text.ensures.ok c.in_ok-put_answer.ensures.ok) sent
