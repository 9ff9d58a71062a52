-- Cutting words at a mark.
use Rattle.std.proofs.Common.{◌≡◌, Bool, true, false, not, cond, IsTrue, List, [], ◌∷◌, ◌++◌, Option, Some, None, refl, ap, subst}
use Rattle.std.proofs.lemmas.Option.{none-some, same_Some}
use Rattle.mdb_base.specs.Words.{map_some}
use Rattle.mdb_base.proofs.ForCallers.{is_true_both, is_true_parts, not_true}
use Rattle.line_text.specs.declared.word.Keyword.TheVariants as Key
use Rattle.trace_lines.specs.declared.marks.Mark.{Mark}
use Rattle.line_text.specs.declared.word.Word.{Word}
use Rattle.line_text.specs.declared.word.Word.TheVariants.{Plain}
use Rattle.trace_lines.specs.Reading.{cut_at, is_mark}
use Rattle.trace_lines.proofs.Replies.{lacks_mark}

-- the first mark behind words that lack it
pub cut_behind : (mark : Mark) (front : List Word) (word : Word) (rest : List Word) → IsTrue (lacks_mark mark front) → IsTrue (is_mark mark word) → cut_at mark (front ++ word ∷ rest) ≡ Some (front, rest)
cut_behind mark [] word rest h k = rw k refl
cut_behind mark (first ∷ front) word rest h k =
    let tests = is_true_parts (not (is_mark mark first)) (lacks_mark mark front) h in
    rw (not_true _ tests.0, cut_behind mark front word rest tests.1 k) refl

-- words that lack the mark have no cut
pub cut_none : (mark : Mark) (words : List Word) → IsTrue (lacks_mark mark words) → cut_at mark words ≡ None
cut_none mark [] h = refl
cut_none mark (first ∷ words) h =
    let tests = is_true_parts (not (is_mark mark first)) (lacks_mark mark words) h in
    rw (not_true _ tests.0, cut_none mark words tests.1) refl

-- two lists that lack the mark
pub lacks_both : (mark : Mark) (xs ys : List Word) → IsTrue (lacks_mark mark xs) → IsTrue (lacks_mark mark ys) → IsTrue (lacks_mark mark (xs ++ ys))
lacks_both mark [] ys h k = k
lacks_both mark (x ∷ xs) ys h k =
    let tests = is_true_parts (not (is_mark mark x)) (lacks_mark mark xs) h in
    is_true_both _ _ tests.0 (lacks_both mark xs ys tests.1 k)

-- the keyword of a mark
abbrev pub mark_word : Mark → Word
mark_word Mark.Arrow = Plain Key.Arrow
mark_word Mark.Sends = Plain Key.Sends
mark_word Mark.Forgets = Plain Key.Forgets

-- what is a mark is its keyword
is_mark_word : (mark : Mark) (word : Word) → is_mark mark word ≡ true → word ≡ mark_word mark
is_mark_word Mark.Arrow (Plain Key.Arrow) h = refl
is_mark_word Mark.Sends (Plain Key.Sends) h = refl
is_mark_word Mark.Forgets (Plain Key.Forgets) h = refl
is_mark_word mark word h = cc

-- what was cut stood round the mark
by_test : (mark : Mark) (word : Word) (words : List Word) (b : Bool) → is_mark mark word ≡ b → ((parts : List Word × List Word) → cut_at mark words ≡ Some parts → words ≡ parts.0 ++ mark_word mark ∷ parts.1)
    → (parts : List Word × List Word) → cond b (Some ([], words)) (map_some (λ parts. (word ∷ parts.0, parts.1)) (cut_at mark words)) ≡ Some parts → word ∷ words ≡ parts.0 ++ mark_word mark ∷ parts.1
by_test mark word words true t more parts e =
    subst (λ (p : List Word × List Word). word ∷ words ≡ p.0 ++ mark_word mark ∷ p.1) (same_Some _ parts e) (ap (λ w. w ∷ words) (is_mark_word mark word t))
by_test mark word words false t more parts e = behind (cut_at mark words) refl e
  where
    behind : (o : Option (List Word × List Word)) → cut_at mark words ≡ o → map_some (λ parts. (word ∷ parts.0, parts.1)) o ≡ Some parts → word ∷ words ≡ parts.0 ++ mark_word mark ∷ parts.1
    behind None d f = absurd (none-some parts f)
    behind (Some p) d f = subst (λ (q : List Word × List Word). word ∷ words ≡ q.0 ++ mark_word mark ∷ q.1) (same_Some _ parts f) (ap (λ ws. word ∷ ws) (more p d))

pub cut_found : (mark : Mark) (words : List Word) (parts : List Word × List Word) → cut_at mark words ≡ Some parts → words ≡ parts.0 ++ mark_word mark ∷ parts.1
cut_found mark [] parts e = absurd (none-some parts e)
cut_found mark (word ∷ words) parts e = by_test mark word words (is_mark mark word) refl (λ p d. cut_found mark words p d) parts e
