-- An answer and its words.
use Rattle.std.proofs.Common.{◌≡◌, ℕ, Bool, true, IsTrue, List, [], ◌∷◌, Some, refl, ap, subst}
use Rattle.std.proofs.lemmas.Option.{none-some, same_Some}
use Rattle.std.proofs.lemmas.Bool.{false≢true}
use Rattle.mdb_base.specs.Words.{map_some}
use Rattle.mdb_base.specs.declared.names.Tid.{Tid}
use Rattle.mdb_base.specs.declared.replies.Reply.{Reply}
use Rattle.mdb_base.specs.declared.replies.Reply.TheVariants.{Refused}
use Rattle.mdb_base.specs.declared.replies.Why.TheVariants as Refusal
use Rattle.mdb_base.proofs.ForCallers.{is_true_both, is_true_parts}
use Rattle.presumptions.specs.declared.Decision.TheVariants as Final
use Rattle.fed_rules.specs.declared.commands.Command.{Command}
use Rattle.fed_rules.specs.declared.commands.Command.TheVariants as Ask
use Rattle.fed_rules.specs.declared.answers.Answer.{Answer}
use Rattle.fed_rules.specs.declared.answers.Answer.TheVariants as Say
use Rattle.line_text.specs.declared.word.Keyword.{Keyword}
use Rattle.line_text.specs.declared.word.Keyword.TheVariants as Key
use Rattle.trace_lines.specs.declared.marks.Mark.TheVariants as Mark
use Rattle.line_text.specs.declared.word.Word.{Word}
use Rattle.line_text.specs.declared.word.Word.TheVariants.{Plain, Number, Attempt}
use Rattle.line_text.specs.Fits.{is_decided, answer_fits}
use Rattle.line_text.specs.Range.{is_large, is_small, is_tid, is_key, reply_in_range, no_in_range, answer_in_range}
use Rattle.line_text.specs.Spelling.{answer_words, reply_words}
use Rattle.trace_lines.specs.Reading.{bare_answer, short_answer, vote_answer, attempt_answer, row_answer, plain_answer, double_answer, answer_behind, answer_of, reply_of, no_of, decision_of, small_of}
use Rattle.trace_lines.proofs.Pieces.{AreWords}
use Rattle.trace_lines.proofs.Guards.{from_guard, from_bind, from_map, key_large, small_large}
use Rattle.trace_lines.proofs.Replies.{lacks_mark, decision_found, reply_lacks, reply_is_words, reply_found, no_again, no_lacks, no_is_words, no_found}
use Rattle.trace_lines.proofs.Causes.{IsAnswerOf, decided_again, decided_found, ending_lacks, ending_is_words}

-- a decision has a cause exactly on abort
abbrev pub has_cause : Answer → Bool
has_cause (Say.Decides decision cause forgets) = is_decided decision cause
has_cause answer = true

-- a decision that a command can have has a cause exactly on abort
pub fits_cause : (command : Command) (answer : Answer) → IsTrue (answer_fits command answer) → IsTrue (has_cause answer)
fits_cause (Ask.Late tid) (Say.Decides Final.Commit cause forgets) h = absurd (false≢true h)
fits_cause (Ask.Late tid) (Say.Decides Final.Abort cause forgets) h = h
fits_cause (Ask.Take site place) (Say.Decides decision cause forgets) h = h
fits_cause command (Say.Decides decision cause forgets) h = absurd (false≢true h)
fits_cause command answer h = refl

did_again : (tid : Tid) (reply : Reply) → IsTrue (reply_in_range reply) → attempt_answer Key.Did tid (reply_words reply) ≡ Some (Say.Did tid reply)
did_again tid (Refused (Refusal.Invalid by key)) h = rw (is_true_parts (is_tid by) (is_key key) h).1 refl
did_again tid (Refused (Refusal.Die by)) h = refl
did_again tid (Refused why) h = refl
did_again tid reply h = refl

-- the words of an answer are read as it
pub answer_again : (answer : Answer) → IsTrue (answer_in_range answer) → IsTrue (has_cause answer) → answer_of (answer_words answer) ≡ Some answer
answer_again (Say.Read key value) h d = rw (is_true_parts (is_key key) (is_large value) h).0 refl
answer_again (Say.Wrote key value) h d = rw (is_true_parts (is_key key) (is_large value) h).0 refl
answer_again (Say.Invalid by key) h d = rw (is_true_parts (is_tid by) (is_key key) h).1 refl
answer_again (Say.Did tid reply) h d = did_again tid reply (is_true_parts (is_tid tid) (reply_in_range reply) h).1
answer_again (Say.VotesNo tid why) h d = rw (no_again why (is_true_parts (is_tid tid) (no_in_range why) h).1) refl
answer_again (Say.Settles tid Final.Commit) h d = refl
answer_again (Say.Settles tid Final.Abort) h d = refl
answer_again (Say.Answers Final.Commit) h d = refl
answer_again (Say.Answers Final.Abort) h d = refl
answer_again (Say.Presumes Final.Commit) h d = refl
answer_again (Say.Presumes Final.Abort) h d = refl
answer_again (Say.Decides Final.Commit cause forgets) h d = decided_again Final.Commit cause forgets d h
answer_again (Say.Decides Final.Abort cause forgets) h d = decided_again Final.Abort cause forgets d h
answer_again (Say.UpSite epoch doubtful) h d = let t = is_true_parts (is_small epoch) (is_small doubtful) h in rw (t.0, t.1) refl
answer_again (Say.UpCoord known) h d = rw h refl
answer_again answer h d = refl

-- `sends` doesn't stand among the words of an answer
pub answer_lacks : (answer : Answer) → IsTrue (lacks_mark Mark.Sends (answer_words answer))
answer_lacks (Say.Did tid reply) = reply_lacks reply
answer_lacks (Say.VotesNo tid why) = no_lacks why
answer_lacks (Say.Settles tid Final.Commit) = refl
answer_lacks (Say.Settles tid Final.Abort) = refl
answer_lacks (Say.Answers Final.Commit) = refl
answer_lacks (Say.Answers Final.Abort) = refl
answer_lacks (Say.Presumes Final.Commit) = refl
answer_lacks (Say.Presumes Final.Abort) = refl
answer_lacks (Say.Decides Final.Commit cause forgets) = ending_lacks cause forgets
answer_lacks (Say.Decides Final.Abort cause forgets) = ending_lacks cause forgets
answer_lacks answer = refl

-- the numbers of an answer are below 2 ^ 64
pub answer_is_words : (answer : Answer) → IsTrue (answer_in_range answer) → AreWords (answer_words answer)
answer_is_words Say.Only h = tt
answer_is_words (Say.Committed tid) h = (refl, (h, tt))
answer_is_words (Say.Running tid) h = (refl, (h, tt))
answer_is_words (Say.Begun tid) h = (refl, (h, tt))
answer_is_words (Say.Aborted tid) h = (refl, (h, tt))
answer_is_words (Say.Unheld tid) h = (refl, (h, tt))
answer_is_words (Say.Asks tid) h = (refl, (h, tt))
answer_is_words (Say.Dropped tid) h = (refl, (h, tt))
answer_is_words (Say.Read key value) h = let t = is_true_parts (is_key key) (is_large value) h in (refl, (key_large key t.0, (t.1, tt)))
answer_is_words (Say.Wrote key value) h = let t = is_true_parts (is_key key) (is_large value) h in (refl, (key_large key t.0, (t.1, tt)))
answer_is_words (Say.Waits by) h = (refl, (h, tt))
answer_is_words (Say.Dies by) h = (refl, (h, tt))
answer_is_words (Say.Late by) h = (refl, (h, tt))
answer_is_words (Say.Invalid by key) h = let t = is_true_parts (is_tid by) (is_key key) h in (refl, (t.0, (key_large key t.1, tt)))
answer_is_words (Say.Sealed tid number) h = let t = is_true_parts (is_tid tid) (is_large number) h in (refl, (t.0, (refl, (t.1, tt))))
answer_is_words (Say.Stopped kept) h = (refl, (refl, (h, tt)))
answer_is_words (Say.Did tid reply) h = let t = is_true_parts (is_tid tid) (reply_in_range reply) h in (refl, (t.0, reply_is_words reply t.1))
answer_is_words (Say.VotesYes tid ticket) h = let t = is_true_parts (is_tid tid) (is_large ticket) h in (refl, (t.0, (refl, (t.1, tt))))
answer_is_words (Say.VotesNo tid why) h = let t = is_true_parts (is_tid tid) (no_in_range why) h in (refl, (t.0, (refl, no_is_words why t.1)))
answer_is_words (Say.Settles tid Final.Commit) h = (refl, (h, (refl, tt)))
answer_is_words (Say.Settles tid Final.Abort) h = (refl, (h, (refl, tt)))
answer_is_words (Say.Answers Final.Commit) h = (refl, (refl, tt))
answer_is_words (Say.Answers Final.Abort) h = (refl, (refl, tt))
answer_is_words (Say.Presumes Final.Commit) h = (refl, (refl, tt))
answer_is_words (Say.Presumes Final.Abort) h = (refl, (refl, tt))
answer_is_words (Say.Decides Final.Commit cause forgets) h = (refl, (refl, ending_is_words cause forgets h))
answer_is_words (Say.Decides Final.Abort cause forgets) h = (refl, (refl, ending_is_words cause forgets h))
answer_is_words (Say.UpSite epoch doubtful) h = let t = is_true_parts (is_small epoch) (is_small doubtful) h in (refl, (refl, (small_large epoch t.0, (refl, (small_large doubtful t.1, tt)))))
answer_is_words (Say.UpCoord known) h = (refl, (refl, (small_large known h, tt)))
answer_is_words answer h = (refl, tt)

-- an answer of one word
bare_found : (keyword : Keyword) (answer : Answer) → bare_answer keyword ≡ Some answer → IsAnswerOf (Plain keyword ∷ []) answer
bare_found Key.None answer e = subst (IsAnswerOf _) (same_Some _ answer e) (refl, refl)
bare_found Key.Down answer e = subst (IsAnswerOf _) (same_Some _ answer e) (refl, refl)
bare_found Key.Idle answer e = subst (IsAnswerOf _) (same_Some _ answer e) (refl, refl)
bare_found Key.Spent answer e = subst (IsAnswerOf _) (same_Some _ answer e) (refl, refl)
bare_found Key.End answer e = subst (IsAnswerOf _) (same_Some _ answer e) (refl, refl)
bare_found Key.Unfinished answer e = subst (IsAnswerOf _) (same_Some _ answer e) (refl, refl)
bare_found Key.Unbegun answer e = subst (IsAnswerOf _) (same_Some _ answer e) (refl, refl)
bare_found Key.Aborted answer e = subst (IsAnswerOf _) (same_Some _ answer e) (refl, refl)
bare_found Key.Set answer e = subst (IsAnswerOf _) (same_Some _ answer e) (refl, refl)
bare_found Key.Awake answer e = subst (IsAnswerOf _) (same_Some _ answer e) (refl, refl)
bare_found Key.Defers answer e = subst (IsAnswerOf _) (same_Some _ answer e) (refl, refl)
bare_found Key.Ignored answer e = subst (IsAnswerOf _) (same_Some _ answer e) (refl, refl)
bare_found Key.Waits answer e = subst (IsAnswerOf _) (same_Some _ answer e) (refl, refl)
bare_found Key.Voted answer e = subst (IsAnswerOf _) (same_Some _ answer e) (refl, refl)
bare_found Key.Acked answer e = subst (IsAnswerOf _) (same_Some _ answer e) (refl, refl)
bare_found Key.Forgets answer e = subst (IsAnswerOf _) (same_Some _ answer e) (refl, refl)
bare_found Key.Undecided answer e = subst (IsAnswerOf _) (same_Some _ answer e) (refl, refl)
bare_found Key.Initiates answer e = subst (IsAnswerOf _) (same_Some _ answer e) (refl, refl)
bare_found Key.Large answer e = subst (IsAnswerOf _) (same_Some _ answer e) (refl, refl)
bare_found Key.Checked answer e = subst (IsAnswerOf _) (same_Some _ answer e) (refl, refl)
bare_found keyword answer e = absurd (none-some answer e)

-- an answer of a word and an attempt
short_found : (keyword : Keyword) (tid : Tid) (answer : Answer) → IsTrue (is_tid tid) → short_answer keyword tid ≡ Some answer → IsAnswerOf (Plain keyword ∷ Attempt tid ∷ []) answer
short_found Key.Committed tid answer h e = subst (IsAnswerOf _) (same_Some _ answer e) (refl, h)
short_found Key.Running tid answer h e = subst (IsAnswerOf _) (same_Some _ answer e) (refl, h)
short_found Key.Begun tid answer h e = subst (IsAnswerOf _) (same_Some _ answer e) (refl, h)
short_found Key.Aborted tid answer h e = subst (IsAnswerOf _) (same_Some _ answer e) (refl, h)
short_found Key.Unheld tid answer h e = subst (IsAnswerOf _) (same_Some _ answer e) (refl, h)
short_found Key.Asks tid answer h e = subst (IsAnswerOf _) (same_Some _ answer e) (refl, h)
short_found Key.Dropped tid answer h e = subst (IsAnswerOf _) (same_Some _ answer e) (refl, h)
short_found Key.Waits tid answer h e = subst (IsAnswerOf _) (same_Some _ answer e) (refl, h)
short_found Key.Dies tid answer h e = subst (IsAnswerOf _) (same_Some _ answer e) (refl, h)
short_found Key.Late tid answer h e = subst (IsAnswerOf _) (same_Some _ answer e) (refl, h)
short_found keyword tid answer h e = absurd (none-some answer e)

vote_found : (tid : Tid) (words : List Word) (answer : Answer) → IsTrue (is_tid tid) → AreWords words → vote_answer tid words ≡ Some answer → IsAnswerOf (Plain Key.Votes ∷ Attempt tid ∷ words) answer
vote_found tid (Plain Key.Yes ∷ Number ticket ∷ []) answer k h e = subst (IsAnswerOf _) (same_Some _ answer e) (refl, is_true_both _ _ k h.1.0)
vote_found tid (Plain Key.No ∷ words) answer k h e =
    from_map (no_of words) (Say.VotesNo tid) answer (IsAnswerOf _) e
    (λ why d. let found = no_found words why h.1 d in (ap (λ ws. Plain Key.Votes ∷ Attempt tid ∷ Plain Key.No ∷ ws) found.0, is_true_both _ _ k found.1))
vote_found tid words answer k h e = absurd (none-some answer e)

-- an answer of a word, an attempt and more
attempt_answer_found : (keyword : Keyword) (tid : Tid) (words : List Word) (answer : Answer) → IsTrue (is_tid tid) → AreWords words → attempt_answer keyword tid words ≡ Some answer → IsAnswerOf (Plain keyword ∷ Attempt tid ∷ words) answer
attempt_answer_found keyword tid [] answer k h e = short_found keyword tid answer k e
attempt_answer_found Key.Invalid by (Number n ∷ []) answer k h e =
    from_guard (is_key (record { 0 = n })) (record { 0 = n }) (Say.Invalid by) answer (IsAnswerOf _) e (λ small. (refl, is_true_both _ _ k small))
attempt_answer_found Key.Committed tid (Plain Key.Number ∷ Number number ∷ []) answer k h e = subst (IsAnswerOf _) (same_Some _ answer e) (refl, is_true_both _ _ k h.1.0)
attempt_answer_found Key.Did tid words answer k h e =
    from_map (reply_of words) (Say.Did tid) answer (IsAnswerOf _) e (λ reply d. let found = reply_found words reply h d in (ap (λ ws. Plain Key.Did ∷ Attempt tid ∷ ws) found.0, is_true_both _ _ k found.1))
attempt_answer_found Key.Votes tid words answer k h e = vote_found tid words answer k h e
attempt_answer_found Key.Settles tid (Plain keyword ∷ []) answer k h e =
    from_map (decision_of keyword) (Say.Settles tid) answer (IsAnswerOf _) e (λ decision d. (ap (λ w. Plain Key.Settles ∷ Attempt tid ∷ w ∷ []) (decision_found keyword decision d), k))
attempt_answer_found keyword tid words answer k h e = absurd (none-some answer e)

-- an answer of a word, a key and a value
row_found : (keyword : Keyword) (n : ℕ) (words : List Word) (answer : Answer) → AreWords words → row_answer keyword n words ≡ Some answer → IsAnswerOf (Plain keyword ∷ Number n ∷ words) answer
row_found Key.Read n (Number value ∷ []) answer h e =
    from_guard (is_key (record { 0 = n })) (record { 0 = n }) (λ key. Say.Read key value) answer (IsAnswerOf _) e (λ small. (refl, is_true_both _ _ small h.0))
row_found Key.Wrote n (Number value ∷ []) answer h e =
    from_guard (is_key (record { 0 = n })) (record { 0 = n }) (λ key. Say.Wrote key value) answer (IsAnswerOf _) e (λ small. (refl, is_true_both _ _ small h.0))
row_found keyword n words answer h e = absurd (none-some answer e)

-- an answer of two keywords and more, other than a decision
plain_found : (first second : Keyword) (words : List Word) (answer : Answer) → AreWords words → plain_answer first second words ≡ Some answer → IsAnswerOf (Plain first ∷ Plain second ∷ words) answer
plain_found Key.Stopped Key.Kept (Number kept ∷ []) answer h e = subst (IsAnswerOf _) (same_Some _ answer e) (refl, h.0)
plain_found Key.Answers keyword [] answer h e =
    from_map (decision_of keyword) Say.Answers answer (IsAnswerOf _) e (λ decision d. (ap (λ w. Plain Key.Answers ∷ w ∷ []) (decision_found keyword decision d), refl))
plain_found Key.Presumes keyword [] answer h e =
    from_map (decision_of keyword) Say.Presumes answer (IsAnswerOf _) e (λ decision d. (ap (λ w. Plain Key.Presumes ∷ w ∷ []) (decision_found keyword decision d), refl))
plain_found Key.Up Key.Known (Number n ∷ []) answer h e = from_guard (is_small n) n Say.UpCoord answer (IsAnswerOf _) e (λ small. (refl, small))
plain_found Key.Up Key.Epoch (Number m ∷ Plain Key.Doubtful ∷ Number n ∷ []) answer h e =
    from_bind (is_small m) m (λ epoch. map_some (Say.UpSite epoch) (small_of n)) answer (IsAnswerOf _) e
    (λ first d. from_guard (is_small n) n (Say.UpSite m) answer (IsAnswerOf _) d (λ second. (refl, is_true_both _ _ first second)))
plain_found first second words answer h e = absurd (none-some answer e)

double_found : (first second : Keyword) (words : List Word) (answer : Answer) → AreWords words → double_answer first second words ≡ Some answer → IsAnswerOf (Plain first ∷ Plain second ∷ words) answer
double_found Key.Decides second words answer h e = decided_found second words answer h e
double_found first second words answer h e = plain_found first second words answer h e

behind_found : (keyword : Keyword) (words : List Word) (answer : Answer) → AreWords words → answer_behind keyword words ≡ Some answer → IsAnswerOf (Plain keyword ∷ words) answer
behind_found keyword [] answer h e = bare_found keyword answer e
behind_found keyword (Attempt tid ∷ words) answer h e = attempt_answer_found keyword tid words answer h.0 h.1 e
behind_found keyword (Number n ∷ words) answer h e = row_found keyword n words answer h.1 e
behind_found keyword (Plain second ∷ words) answer h e = double_found keyword second words answer h.1 e
behind_found keyword words answer h e = absurd (none-some answer e)

-- what is read as an answer is spelled by these words
pub answer_found : (words : List Word) (answer : Answer) → AreWords words → answer_of words ≡ Some answer → IsAnswerOf words answer
answer_found [] answer h e = subst (IsAnswerOf _) (same_Some _ answer e) (refl, refl)
answer_found (Plain keyword ∷ words) answer h e = behind_found keyword words answer h.1 e
answer_found words answer h e = absurd (none-some answer e)
