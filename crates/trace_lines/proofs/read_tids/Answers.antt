use Rattle.std.proofs.Common.{◌≡◌, ◌∙◌, IfOk, Some, sym, ap, subst}
use Rattle.std.proofs.lemmas.Result.{err_from_is_err_and}
use Rattle.trace_lines.specs.Lexed.{tids_in}
use Rattle.trace_lines.specs.Reading.{Reads, tids_of}
use Rattle.trace_lines.proofs.Computed.{reads_tids_in, tids_in_words}
use Rattle.trace_lines.proofs.read_tids.Goals as goal

pub returns-in_err-words : goal.returns-in_err-words
returns-in_err-words c =
    let p = err_from_is_err_and c.from_residual.result c.from_residual.ensures.1 in
    reads_tids_in (λ tids. tids.items) c.from_residual.result c.args.text.now (subst (λ r. IfOk r (λ tids. tids_in c.args.text.now ≡ Some tids.items)) (sym p.1) tt)
    (λ e words h are. c.in_err-words.ensures.none (cc (p.1, p.2)) words h are)

pub returns : goal.returns
returns c =
    subst (λ read. Reads (λ tids. tids.items) c.tids_of.result read)
    (ap tids_of c.deref.ensures.value ∙ sym (tids_in_words c.in_ok-words.words.items c.args.text.now c.in_ok-words.ensures.found.0 c.in_ok-words.ensures.found.1))
    c.tids_of.ensures
