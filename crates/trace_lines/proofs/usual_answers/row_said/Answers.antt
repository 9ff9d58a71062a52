use Rattle.std.proofs.Common.{[], ◌∷◌, refl, sym, ◌∙◌}
use Rattle.line_text.specs.declared.word.Word.TheVariants.{Number, Plain}
use Rattle.trace_lines.proofs.UsualWords.{said, word_alone, word_before}
use Rattle.trace_lines.proofs.usual_answers.row_said.Goals as goal

pub returns : goal.returns
returns c =
    let keyword = Plain c.args.keyword in
    let number = Number c.args.number in
    let value = Number c.in_ok-value.value in
    let rest = c.in_ok-value.rest.now in
    let spelled = word_before keyword (number ∷ value ∷ []) _ rest (word_before number (value ∷ []) c.args.text.now rest (c.in_ok-value.ensures.1 ∙ word_alone value rest)) in
    said (keyword ∷ number ∷ value ∷ []) c.in_ok-answer.answer _ rest (refl, (c.requires, (c.in_ok-value.ensures.0, tt))) (sym c.in_ok-answer.ensures) spelled
