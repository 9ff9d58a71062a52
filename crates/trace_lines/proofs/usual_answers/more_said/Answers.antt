use Rattle.std.proofs.Common.{[], ◌∷◌, refl, sym, ◌∙◌}
use Rattle.line_text.specs.declared.word.Word.TheVariants.{Attempt, Plain}
use Rattle.trace_lines.proofs.UsualWords.{said, word_alone, word_before}
use Rattle.trace_lines.proofs.usual_answers.more_said.Goals as goal

pub returns-in_ok-answer-in-None : goal.returns-in_ok-answer-in-None
returns-in_ok-answer-in-None c =
    let keyword = Plain c.args.keyword in
    let tid = Attempt c.args.tid in
    let next = Plain c.args.next in
    let text = c.args.text.now in
    let spelled = word_before keyword (tid ∷ next ∷ []) _ text (word_before tid (next ∷ []) _ text (word_alone next text)) in
    said (keyword ∷ tid ∷ next ∷ []) c.in_ok-answer-in-None.answer _ text (refl, (c.requires, (refl, tt))) (sym c.in_ok-answer-in-None.ensures) spelled

pub returns-in_ok-answer-in-Some : goal.returns-in_ok-answer-in-Some
returns-in_ok-answer-in-Some c =
    let keyword = Plain c.args.keyword in
    let tid = Attempt c.args.tid in
    let next = Plain c.args.next in
    let word = c.in-Some.word in
    let rest = c.in-Some.rest.now in
    let last = word_before next (word ∷ []) c.args.text.now rest (c.in-Some.ensures.1 ∙ word_alone word rest) in
    let spelled = word_before keyword (tid ∷ next ∷ word ∷ []) _ rest (word_before tid (next ∷ word ∷ []) _ rest last) in
    said (keyword ∷ tid ∷ next ∷ word ∷ []) c.in_ok-answer-in-Some.answer _ rest (refl, (c.requires, (refl, (c.in-Some.ensures.0, tt)))) (sym c.in_ok-answer-in-Some.ensures) spelled
