use Rattle.std.proofs.Common.{[], ◌∷◌, refl, sym, ap, ◌∙◌}
use Rattle.line_text.specs.declared.word.Word.TheVariants.{Number, Plain}
use Rattle.trace_lines.proofs.UsualWords.{asked, word_alone, word_before}
use Rattle.trace_lines.proofs.usual_commands.usual_command.Goals as goal

pub returns-in_ok-number_command-in-None : goal.returns-in_ok-number_command-in-None
returns-in_ok-number_command-in-None c =
    let keyword = Plain c.in_ok-keyword.keyword in
    let first = Number c.in_ok-first.first in
    let rest = c.in_ok-first.rest.now in
    let spelled = ap (λ t. 32 ∷ t) c.in_ok-keyword.ensures ∙ word_before keyword (first ∷ []) _ rest (c.in_ok-first.ensures.1 ∙ word_alone first rest) in
    asked (keyword ∷ first ∷ []) _ c.args.text.now rest (refl, (c.in_ok-first.ensures.0, tt)) (sym c.in_ok-number_command-in-None.ensures) spelled

pub returns-in_ok-pair_command-in-Some : goal.returns-in_ok-pair_command-in-Some
returns-in_ok-pair_command-in-Some c =
    let keyword = Plain c.in_ok-keyword.keyword in
    let first = Number c.in_ok-first.first in
    let second = Number c.in-Some.second in
    let last = c.in-Some.last.now in
    let behind = word_before first (second ∷ []) _ last (c.in-Some.ensures.1 ∙ word_alone second last) in
    let spelled = ap (λ t. 32 ∷ t) c.in_ok-keyword.ensures ∙ word_before keyword (first ∷ second ∷ []) _ last (c.in_ok-first.ensures.1 ∙ behind) in
    asked (keyword ∷ first ∷ second ∷ []) _ c.args.text.now last (refl, (c.in_ok-first.ensures.0, (c.in-Some.ensures.0, tt))) (sym c.in_ok-pair_command-in-Some.ensures) spelled
