-- A line and its bytes.
use Rattle.std.proofs.Common.{◌≡◌, ℕ, ◌<◌, IsTrue, List, [], ◌∷◌, ◌++◌, map, length, Some, Result, Ok, Err, IfOk, IsErrOf, length-append, sym, ap, ◌∙◌, arith}
use Rattle.std.specs.List.{join_with_byte}
use Rattle.std.proofs.lemmas.Option.{none-some, same_Some}
use Rattle.std.proofs.lemmas.List.Splits.{join_with_byte-slice_split}
use Rattle.fed_rules.specs.declared.commands.Line.{Line}
use Rattle.line_text.specs.declared.word.Keyword.TheVariants as Key
use Rattle.line_text.specs.declared.word.Word.{Word}
use Rattle.line_text.specs.declared.word.Word.TheVariants.{Plain}
use Rattle.line_text.specs.Range.{is_line}
use Rattle.line_text.specs.Words.{word_text}
use Rattle.line_text.specs.Spelling.{command_words, answer_words, sends_words, line_words, words_bytes, line_bytes}
use Rattle.trace_lines.specs.Lexing.{pieces}
use Rattle.trace_lines.specs.declared.error.LineErr.{LineErr}
use Rattle.trace_lines.specs.declared.error.LineErr.TheVariants as errors
use Rattle.trace_lines.specs.Reading.{Gives, line_of}
use Rattle.trace_lines.proofs.Pieces.{AreWords}
use Rattle.trace_lines.proofs.Lines.{line_is_words, line_again, line_found}
use Rattle.trace_lines.proofs.OneWord.{one_words}
use Rattle.trace_lines.proofs.Visible.{pieces_again}

some_pieces : (words : List Word) → 0 < length words → AreWords words → pieces (words_bytes words) ≡ map word_text words
some_pieces [] h k = absurd (omega arith)
some_pieces (word ∷ words) h k = pieces_again word words k

-- a line has words
has_words : (line : Line) → 0 < length (line_words line)
has_words line =
    omega (arith, length-append (command_words line.command ++ Plain Key.Arrow ∷ answer_words line.answer) (sends_words line.command line.sends), length-append (command_words line.command) (Plain Key.Arrow ∷ answer_words line.answer))

-- the pieces of a line's bytes are its words
pub line_pieces : (line : Line) → IsTrue (is_line line) → pieces (line_bytes line) ≡ map word_text (line_words line)
line_pieces line h = some_pieces (line_words line) (has_words line) (line_is_words line h)

-- words whose texts are the pieces of a line's bytes are read as it
pub read_again : (words : List Word) (bytes : List ℕ) (line : Line) → AreWords words → map word_text words ≡ pieces bytes → IsTrue (is_line line) → bytes ≡ line_bytes line → line_of words ≡ Some line
read_again words bytes line h texts is spelled =
    let same : words ≡ line_words line = one_words words (line_words line) h (line_is_words line is) (texts ∙ ap pieces spelled ∙ line_pieces line is) in
    ap line_of same ∙ line_again line is

-- words whose texts are the pieces of the bytes are spelled by them, and so is the line that they are read as
pub read_spelled : (words : List Word) (bytes : List ℕ) (line : Line) → AreWords words → map word_text words ≡ pieces bytes → line_of words ≡ Some line → IsTrue (is_line line) × (bytes ≡ line_bytes line)
read_spelled words bytes line h texts e =
    let found = line_found words line h e in
    (found.1, sym (join_with_byte-slice_split 32 bytes) ∙ ap (join_with_byte 32) (sym texts) ∙ ap words_bytes found.0)

-- lines that are spelled alike are the same
pub same_line : (a b : Line) → IsTrue (is_line a) → IsTrue (is_line b) → line_bytes a ≡ line_bytes b → a ≡ b
same_line a b h k e = same_Some a b (sym (line_again a h) ∙ read_again (line_words a) (line_bytes a) b (line_is_words a h) (sym (line_pieces a h)) k e)

-- the reader of words gives a line that is spelled so
pub gives_found : (result : Result Line LineErr) (words : List Word) (bytes : List ℕ) → Gives result (line_of words) → AreWords words → map word_text words ≡ pieces bytes → IfOk result (λ line. IsTrue (is_line line) × (bytes ≡ line_bytes line))
gives_found (Ok line) words bytes g h texts = read_spelled words bytes line h texts g
gives_found (Err e) words bytes g h texts = tt

-- and nothing only where no line is
pub gives_none : (result : Result Line LineErr) (words : List Word) (bytes : List ℕ) → Gives result (line_of words) → AreWords words → map word_text words ≡ pieces bytes → IsErrOf result errors.NoLine → (line : Line) → IsTrue (is_line line) → bytes ≡ line_bytes line → ⊥
gives_none (Ok line) words bytes g h texts e = absurd (let same : Ok line ≡ Err errors.NoLine = e in cc)
gives_none (Err errors.NoLine) words bytes g h texts e = λ line is spelled. none-some line (sym g ∙ read_again words bytes line h texts is spelled)
gives_none (Err errors.Memory) words bytes g h texts e = absurd (let same : ◌≡◌ {A = Result Line LineErr} (Err errors.Memory) (Err errors.NoLine) = e in cc)
