use Rattle.mdb_base.proofs.ForCallers.{not_both}
use Rattle.trace_lines.proofs.OneWord.{no_word}
use Rattle.trace_lines.proofs.lexing.word_of.Goals as goal

pub returns-in_err-keyword_of : goal.returns-in_err-keyword_of
returns-in_err-keyword_of c =
    let result = c.begins_with_digit.result in
    rw c.from_residual.ensures
    (no_word c.args.text.now (λ digit. not_both result (c.begins_with_digit.ensures.1 digit) c.if-not-begins_with_digit.true) (rw c.as_bytes.ensures.value at c.in_err-keyword_of.ensures))
