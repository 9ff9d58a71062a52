-- The bytes of a line: words of visible bytes, with one space between each two.
use Rattle.std.proofs.Common.{◌≡◌, ℕ, zero, suc, ◌<◌, ◌^◌, Bool, false, ◌&&◌, IsTrue, List, [], ◌∷◌, ◌++◌, map, decimal, codes, nat_lt, eqb, IsUtf8, IsAscii, refl, ap, ◌∙◌, arith}
use Rattle.std.specs.List.{AllByRecursion}
use Rattle.std.proofs.lemmas.Bool.{ltb-true, lt-ltb, ne_eqb}
use Rattle.std.proofs.lemmas.List.Elements.{All-from_recursion}
use Rattle.std.proofs.lemmas.List.Splits.{slice_split_none, slice_split_at}
use Rattle.std.proofs.lemmas.Str.{IsUtf8-from_ascii}
use Rattle.mdb_base.specs.Words.{each_of}
use Rattle.mdb_base.specs.Texts.{tid_text}
use Rattle.mdb_base.specs.declared.names.Tid.{Tid}
use Rattle.mdb_base.specs.declared.replies.Edge.{Edge}
use Rattle.mdb_base.proofs.ForCallers.{is_true_both, is_true_parts}
use Rattle.fed_rules.specs.declared.commands.Place.{Place}
use Rattle.line_text.specs.declared.word.Keyword.{Keyword}
use Rattle.line_text.specs.declared.word.Keyword.TheVariants as Key
use Rattle.line_text.specs.declared.word.Word.{Word}
use Rattle.line_text.specs.declared.word.Word.TheVariants.{Plain, Number, Attempt, Sent, Joined}
use Rattle.line_text.specs.Range.{is_large, is_site, is_tid, is_place, is_edge, is_word}
use Rattle.line_text.specs.Words.{keyword_text, place_text, edge_text, word_text}
use Rattle.line_text.specs.Spelling.{words_bytes}
use Rattle.trace_lines.specs.Lexing.{pieces}
use Rattle.trace_lines.proofs.Bytes.{AreDigits, digits-decimal}
use Rattle.trace_lines.proofs.Named.{site_is_large, tid_is_large, place_is_large}
use Rattle.trace_lines.proofs.Pieces.{AreWords}

-- a byte that is ASCII and above the space
abbrev pub is_visible : ℕ → Bool
is_visible b = nat_lt 32 b && nat_lt b 128

abbrev pub AreVisible : List ℕ → Type 0
AreVisible bs = IsTrue (each_of is_visible bs)

visible_both : (xs ys : List ℕ) → AreVisible xs → AreVisible ys → AreVisible (xs ++ ys)
visible_both [] ys h k = k
visible_both (x ∷ xs) ys h k = let t = is_true_parts (is_visible x) (each_of is_visible xs) h in is_true_both _ _ t.0 (visible_both xs ys t.1 k)

visible_digits : (ds : List ℕ) → AreDigits ds → AreVisible ds
visible_digits [] h = refl
visible_digits (d ∷ ds) h = is_true_both _ _ (is_true_both _ _ (lt-ltb 32 d (omega (arith, h.0.0))) (lt-ltb d 128 (omega (arith, h.0.1)))) (visible_digits ds h.1)

visible_number : (n : ℕ) → IsTrue (is_large n) → AreVisible (decimal n)
visible_number n h = visible_digits (decimal n) (digits-decimal n (ltb-true n (2 ^ 64) h))

visible_keyword : (keyword : Keyword) → AreVisible (keyword_text keyword)
visible_keyword Key.Arrow = refl
visible_keyword keyword = refl

visible_tid : (tid : Tid) → IsTrue (is_tid tid) → AreVisible (tid_text tid)
visible_tid tid h =
    let large = is_true_parts (is_large tid.tx.0) (is_large tid.attempt) (tid_is_large tid h) in
    visible_both (decimal tid.tx.0 ++ codes ".") (decimal tid.attempt) (visible_both (decimal tid.tx.0) (codes ".") (visible_number tid.tx.0 large.0) refl) (visible_number tid.attempt large.1)

visible_place : (sent : Place) → IsTrue (is_place sent) → AreVisible (place_text sent)
visible_place sent h =
    let large = is_true_parts (is_large sent.site.0) (is_large sent.place) (place_is_large sent h) in
    visible_both (decimal sent.site.0 ++ codes "/") (decimal sent.place) (visible_both (decimal sent.site.0) (codes "/") (visible_number sent.site.0 large.0) refl) (visible_number sent.place large.1)

visible_edge : (edge : Edge) → IsTrue (is_edge edge) → AreVisible (edge_text edge)
visible_edge edge h =
    let outer = is_true_parts (is_tid edge.from && is_tid edge.to) (is_site edge.site) h in
    let inner = is_true_parts (is_tid edge.from) (is_tid edge.to) outer.0 in
    visible_both (tid_text edge.from ++ codes ">" ++ tid_text edge.to ++ codes "@") (decimal edge.site.0)
    (visible_both (tid_text edge.from ++ codes ">" ++ tid_text edge.to) (codes "@")
    (visible_both (tid_text edge.from ++ codes ">") (tid_text edge.to) (visible_both (tid_text edge.from) (codes ">") (visible_tid edge.from inner.0) refl) (visible_tid edge.to inner.1)) refl)
    (visible_number edge.site.0 (site_is_large edge.site outer.1))

pub visible_word : (word : Word) → IsTrue (is_word word) → AreVisible (word_text word)
visible_word (Plain keyword) h = visible_keyword keyword
visible_word (Number n) h = visible_number n h
visible_word (Attempt tid) h = visible_tid tid h
visible_word (Sent sent) h = visible_place sent h
visible_word (Joined edge) h = visible_edge edge h

-- visible bytes hold no space
no_space : (bs : List ℕ) → AreVisible bs → AllByRecursion (λ b. eqb b 32 ≡ false) bs
no_space [] h = tt
no_space (b ∷ bs) h =
    let t = is_true_parts (is_visible b) (each_of is_visible bs) h in
    let above = ltb-true 32 b (is_true_parts (nat_lt 32 b) (nat_lt b 128) t.0).0 in
    (ne_eqb b 32 (λ e. omega (arith, above)), no_space bs t.1)

-- the pieces of joined words are their texts
pub pieces_again : (word : Word) (words : List Word) → AreWords (word ∷ words) → pieces (words_bytes (word ∷ words)) ≡ map word_text (word ∷ words)
pieces_again word [] h = slice_split_none (λ b. eqb b 32) (word_text word) (All-from_recursion (λ b. eqb b 32 ≡ false) (word_text word) (no_space (word_text word) (visible_word word h.0)))
pieces_again word (next ∷ more) h =
    slice_split_at (λ b. eqb b 32) (word_text word) 32 (words_bytes (next ∷ more)) (All-from_recursion (λ b. eqb b 32 ≡ false) (word_text word) (no_space (word_text word) (visible_word word h.0))) refl
    ∙ ap (λ texts. word_text word ∷ texts) (pieces_again next more h.1)

-- bytes below 128 are ASCII
abbrev AreAscii : List ℕ → Type 0
AreAscii = AllByRecursion (λ b. b < 128)

ascii_visible : (bs : List ℕ) → AreVisible bs → AreAscii bs
ascii_visible [] h = tt
ascii_visible (b ∷ bs) h =
    let t = is_true_parts (is_visible b) (each_of is_visible bs) h in
    (ltb-true b 128 (is_true_parts (nat_lt 32 b) (nat_lt b 128) t.0).1, ascii_visible bs t.1)

ascii_both : (xs ys : List ℕ) → AreAscii xs → AreAscii ys → AreAscii (xs ++ ys)
ascii_both [] ys h k = k
ascii_both (x ∷ xs) ys h k = (h.0, ascii_both xs ys h.1 k)

ascii_words : (words : List Word) → AreWords words → AreAscii (words_bytes words)
ascii_words [] h = tt
ascii_words (word ∷ []) h = ascii_visible (word_text word) (visible_word word h.0)
ascii_words (word ∷ next ∷ more) h =
    ascii_both (word_text word) (32 ∷ words_bytes (next ∷ more)) (ascii_visible (word_text word) (visible_word word h.0)) ((omega arith), ascii_words (next ∷ more) h.1)

ascii_at : (bs : List ℕ) → AreAscii bs → IsAscii bs
ascii_at [] h i = omega arith
ascii_at (b ∷ bs) h zero = h.0
ascii_at (b ∷ bs) h (suc i) = ascii_at bs h.1 i

-- joined words are text
pub words_are_text : (words : List Word) → AreWords words → IsUtf8 (words_bytes words)
words_are_text words h = IsUtf8-from_ascii (words_bytes words) (ascii_at (words_bytes words) (ascii_words words h))
