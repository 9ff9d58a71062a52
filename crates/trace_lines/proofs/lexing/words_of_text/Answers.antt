use Rattle.std.proofs.Common.{◌∙◌, map, length, sym, ap, subst, lit<, arith}
use Rattle.std.proofs.lemmas.List.{take_all}
use Rattle.std.proofs.lemmas.Iterator.Splits.{YieldsList-from_str_split}
use Rattle.std.proofs.lemmas.Iterator.Consumers.{YieldsList-turn, YieldsList-end}
use Rattle.line_text.specs.Words.{word_text}
use Rattle.trace_lines.specs.Lexing.{pieces}
use Rattle.trace_lines.proofs.Pieces.{AreWords, IsAt, words_push, texts_push, no_word_at}
use Rattle.trace_lines.proofs.lexing.words_of_text.Goals as goal

pub returns-in_err-ok_or-clause-none : goal.returns-in_err-ok_or-clause-none
returns-in_err-ok_or-clause-none c =
    let turn = YieldsList-turn (YieldsList-from_str_split 32 c.args.text.now (lit< tt) (cc) (cc) (cc)) c.loop-word.yielded _ c.loop-word.yielded_by _ _ c.in-Some.word c.in-Some.is c.next.ensures.steps in
    let none = rw c.in_err-ok_or.ensures.ok_part at c.word_of.ensures in
    λ _ words are spelled. no_word_at words (length c.loop-word.yielded) c.in-Some.word.now are (subst (λ texts. IsAt texts (length c.loop-word.yielded) c.in-Some.word.now) (sym spelled) turn) none

pub loop-word-preserved : goal.loop-word-preserved
loop-word-preserved c =
    let turn = YieldsList-turn (YieldsList-from_str_split 32 c.args.text.now (lit< tt) (cc) (cc) (cc)) c.loop-word.yielded _ c.loop-word.yielded_by _ _ c.in-Some.word c.in-Some.is c.next.ensures.steps in
    let found = rw c.in_ok-ok_or.ensures.ok_part at c.word_of.ensures in
    record {
      each = subst AreWords (sym c.in_ok-push.ensures.items) (words_push c.loop-word.words.items c.in_ok-ok_or.field-0 c.loop-word.invariant.each found.0);
      spelled = ap (λ words. map word_text words) c.in_ok-push.ensures.items ∙ texts_push c.loop-word.words.items c.in_ok-ok_or.field-0 (pieces c.args.text.now) c.in-Some.word.now c.loop-word.yielded c.in-Some.word c.loop-word.invariant.spelled turn found.1;
    }

pub returns-clause-found : goal.returns-clause-found
returns-clause-found c =
    let end = YieldsList-end (YieldsList-from_str_split 32 c.args.text.now (lit< tt) (cc) (cc) (cc)) c.loop-word.yielded _ c.loop-word.yielded_by _ _ c.in-None.is c.next.ensures.steps in
    (c.loop-word.invariant.each, c.loop-word.invariant.spelled ∙ take_all (length c.loop-word.yielded) (pieces c.args.text.now) (omega (arith, end.1)))
