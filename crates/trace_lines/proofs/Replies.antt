-- A reply, a refusal and a decision with their words.
use Rattle.std.proofs.Common.{◌≡◌, Bool, not, IsTrue, List, [], ◌∷◌, Option, Some, None, refl, ap, subst}
use Rattle.std.proofs.lemmas.Option.{none-some, same_Some}
use Rattle.mdb_base.specs.Words.{each_of}
use Rattle.mdb_base.specs.declared.replies.Reply.{Reply}
use Rattle.mdb_base.specs.declared.replies.Reply.TheVariants.{Done, Value, Ticket, Wait, Refused, Unknown}
use Rattle.mdb_base.specs.declared.replies.Why.{Why}
use Rattle.mdb_base.specs.declared.replies.Why.TheVariants as Refusal
use Rattle.mdb_base.proofs.ForCallers.{is_true_both, is_true_parts}
use Rattle.presumptions.specs.declared.Decision.{Decision}
use Rattle.presumptions.specs.declared.Decision.TheVariants as Final
use Rattle.line_text.specs.declared.word.Keyword.{Keyword}
use Rattle.line_text.specs.declared.word.Keyword.TheVariants as Key
use Rattle.trace_lines.specs.declared.marks.Mark.{Mark}
use Rattle.line_text.specs.declared.word.Word.{Word}
use Rattle.line_text.specs.declared.word.Word.TheVariants.{Plain, Number, Attempt}
use Rattle.line_text.specs.Range.{is_tid, is_key, refusal_in_range, reply_in_range, no_in_range}
use Rattle.line_text.specs.Spelling.{refusal_words, reply_words, no_words, decision_word}
use Rattle.trace_lines.specs.Reading.{refusal_of, reply_of, no_of, decision_of, is_mark}
use Rattle.trace_lines.proofs.Pieces.{AreWords}
use Rattle.trace_lines.proofs.Guards.{from_guard, from_map, key_large}

-- no word is the mark
abbrev pub lacks_mark : Mark → List Word → Bool
lacks_mark mark = each_of (λ word. not (is_mark mark word))

pub refusal_again : (why : Why) → IsTrue (refusal_in_range why) → refusal_of (refusal_words why) ≡ Some why
refusal_again (Refusal.Die by) h = refl
refusal_again (Refusal.Late by) h = refl
refusal_again (Refusal.Invalid by key) h = rw (is_true_parts (is_tid by) (is_key key) h).1 refl
refusal_again (Refusal.TicketMoved by) h = refl

pub reply_again : (reply : Reply) → IsTrue (reply_in_range reply) → reply_of (reply_words reply) ≡ Some reply
reply_again Done h = refl
reply_again (Value value) h = refl
reply_again (Ticket ticket) h = refl
reply_again (Wait by) h = refl
reply_again (Refused (Refusal.Die by)) h = refl
reply_again (Refused (Refusal.Late by)) h = refl
reply_again (Refused (Refusal.Invalid by key)) h = rw (is_true_parts (is_tid by) (is_key key) h).1 refl
reply_again (Refused (Refusal.TicketMoved by)) h = refl
reply_again Unknown h = refl

pub no_again : (why : Option Why) → IsTrue (no_in_range why) → no_of (no_words why) ≡ Some why
no_again None h = refl
no_again (Some (Refusal.Die by)) h = refl
no_again (Some (Refusal.Late by)) h = refl
no_again (Some (Refusal.Invalid by key)) h = rw (is_true_parts (is_tid by) (is_key key) h).1 refl
no_again (Some (Refusal.TicketMoved by)) h = refl

-- the keyword of a decision
abbrev pub decision_key : Decision → Keyword
decision_key Final.Commit = Key.Commit
decision_key Final.Abort = Key.Abort

pub decision_again : (decision : Decision) → decision_of (decision_key decision) ≡ Some decision
decision_again Final.Commit = refl
decision_again Final.Abort = refl

pub refusal_lacks : (why : Why) → IsTrue (lacks_mark Mark.Sends (refusal_words why))
refusal_lacks (Refusal.Die by) = refl
refusal_lacks why = refl

pub reply_lacks : (reply : Reply) → IsTrue (lacks_mark Mark.Sends (reply_words reply))
reply_lacks (Refused why) = refusal_lacks why
reply_lacks Done = refl
reply_lacks reply = refl

pub no_lacks : (why : Option Why) → IsTrue (lacks_mark Mark.Sends (no_words why))
no_lacks None = refl
no_lacks (Some why) = refusal_lacks why

pub refusal_is_words : (why : Why) → IsTrue (refusal_in_range why) → AreWords (refusal_words why)
refusal_is_words (Refusal.Die by) h = (refl, (h, tt))
refusal_is_words (Refusal.Late by) h = (refl, (h, tt))
refusal_is_words (Refusal.Invalid by key) h = let t = is_true_parts (is_tid by) (is_key key) h in (refl, (t.0, (key_large key t.1, tt)))
refusal_is_words (Refusal.TicketMoved by) h = (refl, (h, tt))

pub reply_is_words : (reply : Reply) → IsTrue (reply_in_range reply) → AreWords (reply_words reply)
reply_is_words Done h = (refl, tt)
reply_is_words (Value value) h = (refl, (h, tt))
reply_is_words (Ticket ticket) h = (refl, (h, tt))
reply_is_words (Wait by) h = (refl, (h, tt))
reply_is_words (Refused why) h = refusal_is_words why h
reply_is_words Unknown h = (refl, tt)

pub no_is_words : (why : Option Why) → IsTrue (no_in_range why) → AreWords (no_words why)
no_is_words None h = (refl, tt)
no_is_words (Some why) h = refusal_is_words why h

-- the refusal is spelled by these words, and its numbers are in range
abbrev pub IsRefusalOf : List Word → Why → Type 0
IsRefusalOf words why = (words ≡ refusal_words why) × IsTrue (refusal_in_range why)

pub refusal_found : (words : List Word) (why : Why) → AreWords words → refusal_of words ≡ Some why → IsRefusalOf words why
refusal_found (Plain Key.Dies ∷ Attempt by ∷ []) why h e = subst (IsRefusalOf _) (same_Some _ why e) (refl, h.1.0)
refusal_found (Plain Key.Late ∷ Attempt by ∷ []) why h e = subst (IsRefusalOf _) (same_Some _ why e) (refl, h.1.0)
refusal_found (Plain Key.Invalid ∷ Attempt by ∷ Number n ∷ []) why h e =
    from_guard (is_key (record { 0 = n })) (record { 0 = n }) (Refusal.Invalid by) why (IsRefusalOf _) e (λ k. (refl, is_true_both _ _ h.1.0 k))
refusal_found (Plain Key.Moved ∷ Attempt by ∷ []) why h e = subst (IsRefusalOf _) (same_Some _ why e) (refl, h.1.0)
refusal_found words why h e = absurd (none-some why e)

-- the reply is spelled by these words, and its numbers are in range
abbrev pub IsReplyOf : List Word → Reply → Type 0
IsReplyOf words reply = (words ≡ reply_words reply) × IsTrue (reply_in_range reply)

pub reply_found : (words : List Word) (reply : Reply) → AreWords words → reply_of words ≡ Some reply → IsReplyOf words reply
reply_found (Plain Key.Done ∷ []) reply h e = subst (IsReplyOf _) (same_Some _ reply e) (refl, refl)
reply_found (Plain Key.Value ∷ Number value ∷ []) reply h e = subst (IsReplyOf _) (same_Some _ reply e) (refl, h.1.0)
reply_found (Plain Key.Ticket ∷ Number ticket ∷ []) reply h e = subst (IsReplyOf _) (same_Some _ reply e) (refl, h.1.0)
reply_found (Plain Key.Waits ∷ Attempt by ∷ []) reply h e = subst (IsReplyOf _) (same_Some _ reply e) (refl, h.1.0)
reply_found (Plain Key.Unknown ∷ []) reply h e = subst (IsReplyOf _) (same_Some _ reply e) (refl, refl)
reply_found words reply h e = from_map (refusal_of words) Refused reply (IsReplyOf words) e (λ why d. refusal_found words why h d)

-- the refusal of a no vote, where there was one, is spelled by these words, and its numbers are in range
abbrev pub IsNoOf : List Word → Option Why → Type 0
IsNoOf words why = (words ≡ no_words why) × IsTrue (no_in_range why)

pub no_found : (words : List Word) (why : Option Why) → AreWords words → no_of words ≡ Some why → IsNoOf words why
no_found (Plain Key.Unknown ∷ []) why h e = subst (IsNoOf _) (same_Some _ why e) (refl, refl)
no_found words why h e = from_map (refusal_of words) Some why (IsNoOf words) e (λ refusal d. refusal_found words refusal h d)

pub decision_found : (keyword : Keyword) (decision : Decision) → decision_of keyword ≡ Some decision → Plain keyword ≡ decision_word decision
decision_found Key.Commit decision e = ap decision_word (same_Some _ decision e)
decision_found Key.Abort decision e = ap decision_word (same_Some _ decision e)
decision_found keyword decision e = absurd (none-some decision e)
