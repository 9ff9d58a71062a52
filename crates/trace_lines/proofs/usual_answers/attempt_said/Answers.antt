use Rattle.std.proofs.Common.{[], ◌∷◌, refl, sym}
use Rattle.line_text.specs.declared.word.Word.TheVariants.{Attempt, Plain}
use Rattle.trace_lines.proofs.UsualWords.{said, word_alone, word_before}
use Rattle.trace_lines.proofs.usual_answers.attempt_said.Goals as goal

pub returns-in_ok-short_answer-in-None : goal.returns-in_ok-short_answer-in-None
returns-in_ok-short_answer-in-None c =
    let keyword = Plain c.args.keyword in
    let tid = Attempt c.args.tid in
    let text = c.args.text.now in
    said (keyword ∷ tid ∷ []) c.in_ok-short_answer-in-None.field-0 _ text (refl, (c.requires, tt)) (sym c.in_ok-short_answer-in-None.ensures) (word_before keyword (tid ∷ []) _ text (word_alone tid text))
