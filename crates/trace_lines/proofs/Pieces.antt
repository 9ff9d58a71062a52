-- The words of a text, piece by piece.
use Rattle.std.proofs.Common.{◌≡◌, ℕ, zero, suc, ◌<◌, IsTrue, List, [], ◌∷◌, ◌++◌, None, length, map, take, get_or, sym, ap, ◌∙◌, arith}
use Rattle.std.proofs.lemmas.List.{map-append, take_more, length_push}
use Rattle.mdb_base.specs.Words.{Each}
use Rattle.line_text.specs.declared.word.Word.{Word}
use Rattle.line_text.specs.Range.{is_word}
use Rattle.line_text.specs.Words.{word_text}
use Rattle.trace_lines.specs.Lexing.{Spells}

-- the piece at this place
abbrev pub IsAt : List (List ℕ) → ℕ → List ℕ → Type 0
IsAt pieces i piece = (i < length pieces) × (piece ≡ get_or pieces i piece)

-- words with numbers in range
abbrev pub AreWords : List Word → Type 0
AreWords = Each (λ word. IsTrue (is_word word))

-- one more word
pub words_push : (words : List Word) (word : Word) → AreWords words → IsTrue (is_word word) → AreWords (words ++ word ∷ [])
words_push [] word h k = (k, tt)
words_push (w ∷ words) word h k = (h.0, words_push words word h.1 k)

-- one more piece
pub texts_push : {A : Type 0} (words : List Word) (word : Word) (pieces : List (List ℕ)) (piece : List ℕ) (yielded : List A) (item : A) → map word_text words ≡ take (length yielded) pieces → IsAt pieces (length yielded) piece → piece ≡ word_text word
    → map word_text (words ++ word ∷ []) ≡ take (length (yielded ++ item ∷ [])) pieces
texts_push words word pieces piece yielded item h turn spelled =
    map-append word_text words (word ∷ []) ∙ ap (λ texts. texts ++ word_text word ∷ []) h ∙ ap (λ text. take (length yielded) pieces ++ text ∷ []) (sym spelled ∙ turn.1)
    ∙ sym (take_more pieces (length yielded) piece turn.0) ∙ ap (λ n. take n pieces) (sym (length_push yielded item))

-- a piece that no word spells
pub no_word_at : (words : List Word) (i : ℕ) (piece : List ℕ) → AreWords words → IsAt (map word_text words) i piece → Spells is_word word_text piece None → ⊥
no_word_at [] i piece h turn none = absurd (omega (arith, turn.0))
no_word_at (word ∷ words) zero piece h turn none = none word h.0 turn.1
no_word_at (word ∷ words) (suc i) piece h turn none = no_word_at words i piece h.1 (omega (arith, turn.0), turn.1) none
