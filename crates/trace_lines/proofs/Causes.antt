-- A cause, and what stands behind a decision, with their words.
use Rattle.std.proofs.Common.{◌≡◌, ℕ, Bool, true, false, IsTrue, List, [], ◌∷◌, ◌++◌, map, Option, Some, None, option_and_then, append-nil, refl, sym, ap, ◌∙◌, subst}
use Rattle.std.proofs.lemmas.Option.{none-some, same_Some}
use Rattle.std.proofs.lemmas.Bool.{false≢true}
use Rattle.mdb_base.specs.Words.{each_of}
use Rattle.mdb_base.specs.declared.replies.Edge.{Edge}
use Rattle.mdb_base.proofs.ForCallers.{is_true_both, is_true_parts}
use Rattle.presumptions.specs.declared.Decision.{Decision}
use Rattle.presumptions.specs.declared.Decision.TheVariants as Final
use Rattle.fed_rules.specs.declared.answers.Answer.{Answer}
use Rattle.fed_rules.specs.declared.answers.Answer.TheVariants as Say
use Rattle.fed_rules.specs.declared.answers.Cause.{Cause}
use Rattle.fed_rules.specs.declared.answers.Cause.TheVariants as Because
use Rattle.line_text.specs.declared.word.Keyword.{Keyword}
use Rattle.line_text.specs.declared.word.Keyword.TheVariants as Key
use Rattle.trace_lines.specs.declared.marks.Mark.{Mark}
use Rattle.line_text.specs.declared.word.Word.{Word}
use Rattle.line_text.specs.declared.word.Word.TheVariants.{Plain, Number, Attempt, Joined}
use Rattle.line_text.specs.Fits.{is_decided}
use Rattle.line_text.specs.Range.{is_site, is_tid, is_edge, cause_in_range, maybe_cause_in_range, answer_in_range}
use Rattle.line_text.specs.Spelling.{cause_words, maybe_cause_words, forgets_words, decision_word, answer_words}
use Rattle.trace_lines.specs.Reading.{edges_of, site_cause, cause_of, cut_at, forgets_of, ending_of, decides, decided_answer, decision_of}
use Rattle.trace_lines.proofs.Pieces.{AreWords}
use Rattle.trace_lines.proofs.Guards.{from_bind, from_map, from_next, site_large}
use Rattle.trace_lines.proofs.Cuts.{cut_behind, cut_none, cut_found, lacks_both}
use Rattle.trace_lines.proofs.Replies.{lacks_mark, decision_key, decision_found}

-- the edges of a cycle
edges_again : (edges : List Edge) → edges_of (map Joined edges) ≡ Some edges
edges_again [] = refl
edges_again (edge ∷ edges) = rw (edges_again edges) refl

pub cause_again : (cause : Cause) → IsTrue (cause_in_range cause) → cause_of (cause_words cause) ≡ Some cause
cause_again Because.Late h = refl
cause_again (Because.Dies site by) h = rw (is_true_parts (is_site site) (is_tid by) h).0 refl
cause_again (Because.TooLate site by) h = rw (is_true_parts (is_site site) (is_tid by) h).0 refl
cause_again (Because.Unknown site) h = rw h refl
cause_again (Because.No site) h = rw h refl
cause_again (Because.Cycle edges) h = rw (edges_again edges) refl

edges_lack : (mark : Mark) (edges : List Edge) → IsTrue (lacks_mark mark (map Joined edges))
edges_lack mark [] = refl
edges_lack Mark.Arrow (edge ∷ edges) = edges_lack Mark.Arrow edges
edges_lack Mark.Sends (edge ∷ edges) = edges_lack Mark.Sends edges
edges_lack Mark.Forgets (edge ∷ edges) = edges_lack Mark.Forgets edges

cause_lacks_sends : (cause : Cause) → IsTrue (lacks_mark Mark.Sends (cause_words cause))
cause_lacks_sends (Because.Cycle edges) = edges_lack Mark.Sends edges
cause_lacks_sends Because.Late = refl
cause_lacks_sends cause = refl

cause_lacks_forgets : (cause : Cause) → IsTrue (lacks_mark Mark.Forgets (cause_words cause))
cause_lacks_forgets (Because.Cycle edges) = edges_lack Mark.Forgets edges
cause_lacks_forgets Because.Late = refl
cause_lacks_forgets cause = refl

maybe_lacks_forgets : (cause : Option Cause) → IsTrue (lacks_mark Mark.Forgets (maybe_cause_words cause))
maybe_lacks_forgets None = refl
maybe_lacks_forgets (Some cause) = cause_lacks_forgets cause

pub ending_lacks : (cause : Option Cause) (forgets : Bool) → IsTrue (lacks_mark Mark.Sends (maybe_cause_words cause ++ forgets_words forgets))
ending_lacks None true = refl
ending_lacks None false = refl
ending_lacks (Some cause) true = lacks_both Mark.Sends (cause_words cause) (forgets_words true) (cause_lacks_sends cause) refl
ending_lacks (Some cause) false = lacks_both Mark.Sends (cause_words cause) (forgets_words false) (cause_lacks_sends cause) refl

ending_again : (cause : Option Cause) (forgets : Bool) → ending_of (maybe_cause_words cause ++ forgets_words forgets) ≡ Some (maybe_cause_words cause, forgets)
ending_again cause true = rw (cut_behind Mark.Forgets (maybe_cause_words cause) (Plain Key.Forgets) [] (maybe_lacks_forgets cause) refl) refl
ending_again cause false = rw (append-nil (maybe_cause_words cause), cut_none Mark.Forgets (maybe_cause_words cause) (maybe_lacks_forgets cause)) refl

-- a decision, its cause and its end are read again
pub decided_again : (decision : Decision) (cause : Option Cause) (forgets : Bool) → IsTrue (is_decided decision cause) → IsTrue (maybe_cause_in_range cause)
    → decided_answer (decision_key decision) (maybe_cause_words cause ++ forgets_words forgets) ≡ Some (Say.Decides decision cause forgets)
decided_again Final.Commit None forgets h k = rw (ending_again None forgets) refl
decided_again Final.Commit (Some cause) forgets h k = absurd (false≢true h)
decided_again Final.Abort None forgets h k = absurd (false≢true h)
decided_again Final.Abort (Some cause) forgets h k = rw (ending_again (Some cause) forgets, cause_again cause k) refl

edges_are_words : (edges : List Edge) → IsTrue (each_of is_edge edges) → AreWords (map Joined edges)
edges_are_words [] h = tt
edges_are_words (edge ∷ edges) h = let t = is_true_parts (is_edge edge) (each_of is_edge edges) h in (t.0, edges_are_words edges t.1)

cause_is_words : (cause : Cause) → IsTrue (cause_in_range cause) → AreWords (cause_words cause)
cause_is_words Because.Late h = (refl, tt)
cause_is_words (Because.Dies site by) h = let t = is_true_parts (is_site site) (is_tid by) h in (refl, (site_large site t.0, (refl, (t.1, tt))))
cause_is_words (Because.TooLate site by) h = let t = is_true_parts (is_site site) (is_tid by) h in (refl, (site_large site t.0, (refl, (t.1, tt))))
cause_is_words (Because.Unknown site) h = (refl, (site_large site h, (refl, tt)))
cause_is_words (Because.No site) h = (refl, (site_large site h, (refl, tt)))
cause_is_words (Because.Cycle edges) h = (refl, edges_are_words edges h)

-- words of two lists
pub words_of_both : (xs ys : List Word) → AreWords xs → AreWords ys → AreWords (xs ++ ys)
words_of_both [] ys h k = k
words_of_both (x ∷ xs) ys h k = (h.0, words_of_both xs ys h.1 k)

forgets_is_words : (forgets : Bool) → AreWords (forgets_words forgets)
forgets_is_words true = (refl, tt)
forgets_is_words false = tt

pub ending_is_words : (cause : Option Cause) (forgets : Bool) → IsTrue (maybe_cause_in_range cause) → AreWords (maybe_cause_words cause ++ forgets_words forgets)
ending_is_words None forgets h = forgets_is_words forgets
ending_is_words (Some cause) forgets h = words_of_both (cause_words cause) (forgets_words forgets) (cause_is_words cause h) (forgets_is_words forgets)

-- the cause is spelled by these words, and its numbers are in range
abbrev IsCauseOf : List Word → Cause → Type 0
IsCauseOf words cause = (words ≡ cause_words cause) × IsTrue (cause_in_range cause)

edges_found : (words : List Word) (edges : List Edge) → AreWords words → edges_of words ≡ Some edges → (words ≡ map Joined edges) × IsTrue (each_of is_edge edges)
edges_found [] edges h e = subst (λ edges. ([] ≡ map Joined edges) × IsTrue (each_of is_edge edges)) (same_Some _ edges e) (refl, refl)
edges_found (Joined edge ∷ words) edges h e =
    from_map (edges_of words) (λ more. edge ∷ more) edges (λ edges. (Joined edge ∷ words ≡ map Joined edges) × IsTrue (each_of is_edge edges)) e
    (λ more d. let rest = edges_found words more h.1 d in (ap (λ ws. Joined edge ∷ ws) rest.0, is_true_both _ _ h.0 rest.1))
edges_found words edges h e = absurd (none-some edges e)

site_cause_found : (n : ℕ) (words : List Word) (cause : Cause) → IsTrue (is_site (record { 0 = n })) → AreWords words → site_cause (record { 0 = n }) words ≡ Some cause → IsCauseOf (Plain Key.Site ∷ Number n ∷ words) cause
site_cause_found n (Plain Key.Dies ∷ Attempt by ∷ []) cause k h e = subst (IsCauseOf _) (same_Some _ cause e) (refl, is_true_both _ _ k h.1.0)
site_cause_found n (Plain Key.Late ∷ Attempt by ∷ []) cause k h e = subst (IsCauseOf _) (same_Some _ cause e) (refl, is_true_both _ _ k h.1.0)
site_cause_found n (Plain Key.Unknown ∷ []) cause k h e = subst (IsCauseOf _) (same_Some _ cause e) (refl, k)
site_cause_found n (Plain Key.No ∷ []) cause k h e = subst (IsCauseOf _) (same_Some _ cause e) (refl, k)
site_cause_found n words cause k h e = absurd (none-some cause e)

cause_found : (words : List Word) (cause : Cause) → AreWords words → cause_of words ≡ Some cause → IsCauseOf words cause
cause_found (Plain Key.Late ∷ []) cause h e = subst (IsCauseOf _) (same_Some _ cause e) (refl, refl)
cause_found (Plain Key.Site ∷ Number n ∷ words) cause h e =
    from_bind (is_site (record { 0 = n })) (record { 0 = n }) (λ site. site_cause site words) cause (IsCauseOf _) e (λ k d. site_cause_found n words cause k h.1.1 d)
cause_found (Plain Key.Cycle ∷ words) cause h e =
    from_map (edges_of words) Because.Cycle cause (IsCauseOf (Plain Key.Cycle ∷ words)) e
    (λ edges d. let rest = edges_found words edges h.1 d in (ap (λ ws. Plain Key.Cycle ∷ ws) rest.0, rest.1))
cause_found words cause h e = absurd (none-some cause e)

-- what stood behind a decision
ending_found : (words : List Word) (parts : List Word × Bool) → ending_of words ≡ Some parts → words ≡ parts.0 ++ forgets_words parts.1
ending_found words parts e = by_cut (cut_at Mark.Forgets words) refl e
  where
    by_cut : (o : Option (List Word × List Word)) → cut_at Mark.Forgets words ≡ o → forgets_of o words ≡ Some parts → words ≡ parts.0 ++ forgets_words parts.1
    by_cut None d f = subst (λ (p : List Word × Bool). words ≡ p.0 ++ forgets_words p.1) (same_Some _ parts f) (sym (append-nil words))
    by_cut (Some (front, [])) d f = subst (λ (p : List Word × Bool). words ≡ p.0 ++ forgets_words p.1) (same_Some _ parts f) (cut_found Mark.Forgets words (front, []) d)
    by_cut (Some (front, word ∷ more)) d f = absurd (none-some parts f)

-- the front and the back of words are words
pub words_front : (xs ys : List Word) → AreWords (xs ++ ys) → AreWords xs
words_front [] ys h = tt
words_front (x ∷ xs) ys h = (h.0, words_front xs ys h.1)

pub words_back : (xs ys : List Word) → AreWords (xs ++ ys) → AreWords ys
words_back [] ys h = h
words_back (x ∷ xs) ys h = words_back xs ys h.1

-- the answer is spelled by these words, and its numbers are in range
abbrev pub IsAnswerOf : List Word → Answer → Type 0
IsAnswerOf words answer = (words ≡ answer_words answer) × IsTrue (answer_in_range answer)

decides_found : (decision : Decision) (front : List Word) (forgets : Bool) (answer : Answer) → AreWords front → decides decision (front, forgets) ≡ Some answer → IsAnswerOf (Plain Key.Decides ∷ decision_word decision ∷ front ++ forgets_words forgets) answer
decides_found Final.Commit [] forgets answer h e = subst (IsAnswerOf _) (same_Some _ answer e) (refl, refl)
decides_found Final.Commit (word ∷ words) forgets answer h e = absurd (none-some answer e)
decides_found Final.Abort words forgets answer h e =
    from_map (cause_of words) (λ cause. Say.Decides Final.Abort (Some cause) forgets) answer (IsAnswerOf _) e
    (λ cause d. let found = cause_found words cause h d in (ap (λ ws. Plain Key.Decides ∷ Plain Key.Abort ∷ ws ++ forgets_words forgets) found.0, found.1))

-- what is read as a decision is spelled by these words
pub decided_found : (keyword : Keyword) (words : List Word) (answer : Answer) → AreWords words → decided_answer keyword words ≡ Some answer → IsAnswerOf (Plain Key.Decides ∷ Plain keyword ∷ words) answer
decided_found keyword words answer h e =
    from_next (decision_of keyword) (λ decision. option_and_then (decides decision) (ending_of words)) answer (IsAnswerOf (Plain Key.Decides ∷ Plain keyword ∷ words) answer) e
    (λ decision d f. from_next (ending_of words) (decides decision) answer (IsAnswerOf (Plain Key.Decides ∷ Plain keyword ∷ words) answer) f
    (λ parts g k.
    let whole : words ≡ parts.0 ++ forgets_words parts.1 = ending_found words parts g in
    let front = words_front parts.0 (forgets_words parts.1) (subst AreWords whole h) in
    let found = decides_found decision parts.0 parts.1 answer front k in
    (ap (λ ws. Plain Key.Decides ∷ Plain keyword ∷ ws) whole ∙ ap (λ w. Plain Key.Decides ∷ w ∷ parts.0 ++ forgets_words parts.1) (decision_found keyword decision d) ∙ found.0, found.1)))
