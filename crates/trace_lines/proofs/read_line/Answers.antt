use Rattle.std.proofs.Common.{◌≡◌, ◌∙◌, IsTrue, IfOk, Result, sym, ap, subst}
use Rattle.std.proofs.lemmas.Result.{err_from_is_err_and}
use Rattle.fed_rules.specs.declared.commands.Line.{Line}
use Rattle.line_text.specs.Range.{is_line}
use Rattle.line_text.specs.Spelling.{line_bytes, line_words}
use Rattle.trace_lines.specs.declared.error.LineErr.{LineErr}
use Rattle.trace_lines.specs.Lexing.{pieces}
use Rattle.trace_lines.specs.Reading.{Gives, line_of}
use Rattle.trace_lines.proofs.Lines.{line_is_words}
use Rattle.trace_lines.proofs.Spelled.{line_pieces, gives_found, gives_none}
use Rattle.trace_lines.proofs.Computed.{gives_line_in, line_in_again}
use Rattle.trace_lines.proofs.read_line.Goals as goal

pub returns-in_err-words-clause-none : goal.returns-in_err-words-clause-none
returns-in_err-words-clause-none c =
    let p = err_from_is_err_and c.from_residual-in_err-words.result c.from_residual-in_err-words.ensures.1 in
    λ e line is spelled. c.in_err-words.ensures.none (cc (p.1, p.2)) (line_words line) (line_is_words line is) (sym (line_pieces line is) ∙ ap pieces (sym spelled))

pub returns-clause-found : goal.returns-clause-found
returns-clause-found c =
    let read = subst (λ words. Gives c.line_of.result (line_of words)) c.deref.ensures.value c.line_of.ensures in
    gives_found c.line_of.result c.in_ok-words.words.items c.args.text.now read c.in_ok-words.ensures.found.0 c.in_ok-words.ensures.found.1

pub returns-clause-none : goal.returns-clause-none
returns-clause-none c =
    let read = subst (λ words. Gives c.line_of.result (line_of words)) c.deref.ensures.value c.line_of.ensures in
    gives_none c.line_of.result c.in_ok-words.words.items c.args.text.now read c.in_ok-words.ensures.found.0 c.in_ok-words.ensures.found.1

-- what is read is what is computed, by the two other clauses
pub returns-in_err-words-clause-computed : goal.returns-in_err-words-clause-computed
returns-in_err-words-clause-computed c =
    let p = err_from_is_err_and c.from_residual-in_err-words.result c.from_residual-in_err-words.ensures.1 in
    gives_line_in c.from_residual-in_err-words.result c.args.text.now (subst (λ (r : Result Line LineErr). IfOk r (λ line. IsTrue (is_line line) × (c.args.text.now ≡ line_bytes line))) (sym p.1) tt) (returns-in_err-words-clause-none c)

pub returns-clause-computed : goal.returns-clause-computed
returns-clause-computed c = gives_line_in c.line_of.result c.args.text.now (returns-clause-found c) (returns-clause-none c)

-- a usual line
pub returns-in-Some-clause-computed : goal.returns-in-Some-clause-computed
returns-in-Some-clause-computed c =
    let found = rw c.in-Some.is at c.in_ok-line.ensures in
    line_in_again c.in-Some.line c.args.text.now found.0 found.1
