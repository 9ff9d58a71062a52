-- What words that stand at the front of a text say: a command, an answer, places, and a line.
use Rattle.std.proofs.Common.{◌≡◌, ℕ, Bool, true, ◌==◌, IsTrue, List, [], ◌∷◌, ◌++◌, Some, map, codes, length, append-nil, refl, sym, ap, ◌∙◌, arith}
use Rattle.std.proofs.lemmas.Bool.{eqb-true}
use Rattle.std.proofs.lemmas.List.{append_assoc, map-append}
use Rattle.mdb_base.specs.Words.{each_of}
use Rattle.mdb_base.proofs.ForCallers.{is_true_both, is_true_parts}
use Rattle.fed_rules.specs.declared.answers.Answer.{Answer}
use Rattle.fed_rules.specs.declared.commands.Command.{Command}
use Rattle.fed_rules.specs.declared.commands.Line.{Line}
use Rattle.fed_rules.specs.declared.commands.Place.{Place}
use Rattle.line_text.specs.declared.word.Keyword.TheVariants as Key
use Rattle.line_text.specs.declared.word.Word.{Word}
use Rattle.line_text.specs.declared.word.Word.TheVariants.{Plain}
use Rattle.line_text.specs.Fits.{line_fits}
use Rattle.line_text.specs.Range.{is_place}
use Rattle.line_text.specs.Words.{word_text}
use Rattle.line_text.specs.Spelling.{answer_words, command_words, line_words, place_word, sends_words, spaced, words_bytes}
use Rattle.line_text.proofs.ForCallers.{line_parts, spaced_both}
use Rattle.trace_lines.specs.Reading.{answer_of, command_of}
use Rattle.trace_lines.specs.Usual.{Asks, IsText, Says, Sends}
use Rattle.trace_lines.proofs.Pieces.{AreWords}
use Rattle.trace_lines.proofs.Answered.{answer_found}
use Rattle.trace_lines.proofs.CommandLaws.{command_found}

-- each word behind a space is the words with one space between each two, behind a space
pub spaced_words : (word : Word) (words : List Word) → spaced (word ∷ words) ≡ 32 ∷ words_bytes (word ∷ words)
spaced_words word [] = ap (λ text. 32 ∷ text) (append-nil (word_text word))
spaced_words word (next ∷ more) = ap (λ rest. 32 ∷ (word_text word ++ rest)) (spaced_words next more)

-- one more word, and what stands behind it
pub word_more : (words : List Word) (word : Word) (text rest behind : List ℕ) → text ≡ spaced words ++ 32 ∷ rest → rest ≡ word_text word ++ behind → text ≡ spaced (words ++ word ∷ []) ++ behind
word_more words word text rest behind h e =
    h ∙ ap (λ r. spaced words ++ 32 ∷ r) e ∙ sym (append_assoc (spaced words) (32 ∷ word_text word) behind)
    ∙ ap (λ front. front ++ behind) (ap (λ last. spaced words ++ last) (sym (append-nil (32 ∷ word_text word))) ∙ sym (spaced_both words (word ∷ [])))

-- a word before others
pub word_before : (word : Word) (words : List Word) (text rest : List ℕ) → text ≡ spaced words ++ rest → 32 ∷ (word_text word ++ text) ≡ spaced (word ∷ words) ++ rest
word_before word words text rest e = ap (λ t. 32 ∷ (word_text word ++ t)) e ∙ sym (append_assoc (32 ∷ word_text word) (spaced words) rest)

-- the last word
pub word_alone : (word : Word) (rest : List ℕ) → 32 ∷ (word_text word ++ rest) ≡ spaced (word ∷ []) ++ rest
word_alone word rest = word_before word [] rest rest refl

-- words that are read as a command, or as an answer, are its words
pub asked : (words : List Word) (command : Command) (text rest : List ℕ) → AreWords words → command_of words ≡ Some command → 32 ∷ text ≡ spaced words ++ rest → Asks command text rest
asked words command text rest h e spelled = let found = command_found words command h e in (found.1, spelled ∙ ap (λ ws. spaced ws ++ rest) found.0)

pub said : (words : List Word) (answer : Answer) (text rest : List ℕ) → AreWords words → answer_of words ≡ Some answer → text ≡ spaced words ++ rest → Says answer text rest
said words answer text rest h e spelled = let found = answer_found words answer h e in (found.1, spelled ∙ ap (λ ws. spaced ws ++ rest) found.0)

-- one more place
pub each_more : (places : List Place) (sent : Place) → IsTrue (each_of is_place places) → IsTrue (is_place sent) → IsTrue (each_of is_place (places ++ sent ∷ []))
each_more [] sent h k = is_true_both (is_place sent) true k refl
each_more (place ∷ places) sent h k =
    let parts = is_true_parts (is_place place) (each_of is_place places) h in
    is_true_both _ _ parts.0 (each_more places sent parts.1 k)

pub place_more : (command : Command) (places : List Place) (sent : Place) (text rest behind : List ℕ) → text ≡ spaced (map (place_word command) places) ++ rest → rest ≡ 32 ∷ (word_text (place_word command sent) ++ behind)
    → text ≡ spaced (map (place_word command) (places ++ sent ∷ [])) ++ behind
place_more command places sent text rest behind h e =
    word_more (map (place_word command) places) (place_word command sent) text (word_text (place_word command sent) ++ behind) behind (h ∙ ap (λ r. spaced (map (place_word command) places) ++ r) e) refl
    ∙ ap (λ ws. spaced ws ++ behind) (sym (map-append (place_word command) places (sent ∷ [])))

-- there is a place
some_sent : (command : Command) (places : List Place) (sent : Place) → sends_words command (places ++ sent ∷ []) ≡ Plain Key.Sends ∷ map (place_word command) (places ++ sent ∷ [])
some_sent command [] sent = refl
some_sent command (place ∷ places) sent = refl

pub all_sent : (command : Command) (places : List Place) (sent : Place) (text rest behind : List ℕ) → IsTrue (each_of is_place places) → IsTrue (is_place sent) → text ≡ spaced (map (place_word command) places) ++ rest
    → rest ≡ 32 ∷ (word_text (place_word command sent) ++ behind) → behind ≡ [] → Sends command (places ++ sent ∷ []) (codes " sends" ++ text)
all_sent command places sent text rest behind h k spelled e none =
    let words = map (place_word command) (places ++ sent ∷ []) in
    let whole = place_more command places sent text rest behind spelled e ∙ ap (λ t. spaced words ++ t) none ∙ append-nil (spaced words) in
    (each_more places sent h k, ap (λ t. codes " sends" ++ t) whole ∙ sym (ap spaced (some_sent command places sent)))

-- words behind one space each are the bytes behind a space
text_of_words : (words : List Word) (text : List ℕ) → 32 ∷ text ≡ spaced words → text ≡ words_bytes words
text_of_words [] text e = absurd cc
text_of_words (word ∷ words) text e = let same : 32 ∷ text ≡ 32 ∷ words_bytes (word ∷ words) = e ∙ spaced_words word words in cc

-- the parts of a line are its words
line_of_parts : (line : Line) → spaced (line_words line) ≡ spaced (command_words line.command) ++ (codes " =>" ++ (spaced (answer_words line.answer) ++ spaced (sends_words line.command line.sends)))
line_of_parts line =
    let answer = answer_words line.answer in
    let sends = sends_words line.command line.sends in
    ap spaced (line_parts line) ∙ spaced_both (command_words line.command) (Plain Key.Arrow ∷ (answer ++ sends))
    ∙ ap (λ t. spaced (command_words line.command) ++ (codes " =>" ++ t)) (spaced_both answer sends)

-- a text that has them is the line's
pub line_of_text : (line : Line) (text first next last : List ℕ) → Asks line.command text first → first ≡ codes " =>" ++ next → Says line.answer next last → Sends line.command line.sends last → IsTrue (line_fits line) → IsText line text
line_of_text line text first next last asks arrow says sends fits =
    let command = spaced (command_words line.command) in
    let answer = spaced (answer_words line.answer) in
    let whole = asks.1 ∙ ap (λ t. command ++ t) (arrow ∙ ap (λ t. codes " =>" ++ t) (says.1 ∙ ap (λ t. answer ++ t) sends.1)) ∙ sym (line_of_parts line) in
    (is_true_both _ _ fits (is_true_both _ _ (is_true_both _ _ asks.0 says.0) sends.0), text_of_words (line_words line) text whole)

-- bytes of which there are none
pub none_left : (bytes : List ℕ) (test : Bool) → test ≡ (length bytes == 0) → IsTrue test → bytes ≡ []
none_left [] test e h = refl
none_left (b ∷ bytes) test e h = let none = eqb-true (length (b ∷ bytes)) 0 (sym e ∙ h) in absurd (omega (arith, none))
