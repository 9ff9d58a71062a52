use Rattle.std.proofs.Common.{◌&&◌, ◌∙◌, IsTrue, sym, subst}
use Rattle.line_text.specs.Fits.{answer_fits, places_fit}
use Rattle.trace_lines.specs.Usual.{Sends}
use Rattle.trace_lines.proofs.UsualWords.{line_of_text}
use Rattle.trace_lines.proofs.usual_lines.usual_line.Goals as goal

pub returns-then-line_fits : goal.returns-then-line_fits
returns-then-line_fits c =
    let command = c.in-Some.command in
    let answer = c.in-Some-usual_answer.answer in
    let found = rw c.in-Some-2.is at c.in_ok-places.ensures in
    let sends = subst (λ places. Sends command places c.in-Some-usual_answer.behind.now) (sym c.of.ensures) found in
    let fits = sym c.line_fits.ensures ∙ c.if-line_fits.true in
    let same = subst (λ places. IsTrue (answer_fits command answer && places_fit command answer places)) c.as_slice.ensures fits in
    line_of_text (record { command = command; answer = answer; sends = c.of.result }) c.args.text.now c.in-Some.behind.now c.in-Some-behind_arrow.behind.now c.in-Some-usual_answer.behind.now
    c.in-Some.ensures c.in-Some-behind_arrow.ensures c.in-Some-usual_answer.ensures sends same
