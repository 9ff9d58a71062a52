-- The bytes of lines, with a report behind them, determine the lines.
use Rattle.std.proofs.Common.{◌≡◌, ◌≢◌, ℕ, not, eqb, IsTrue, List, [], ◌∷◌, ◌++◌, get_or, codes, nat_lt, append_assoc, refl, sym, ap, ◌∙◌, arith}
use Rattle.std.proofs.lemmas.Bool.{ltb-true, eq-eqb}
use Rattle.mdb_base.specs.Words.{each_of, Each}
use Rattle.mdb_base.proofs.ForCallers.{all_append, is_true_parts}
use Rattle.fed_rules.specs.declared.commands.Command.{Command}
use Rattle.fed_rules.specs.declared.commands.Command.TheVariants as Ask
use Rattle.fed_rules.specs.declared.commands.Line.{Line}
use Rattle.line_text.specs.declared.word.Keyword.TheVariants as Key
use Rattle.line_text.specs.declared.word.Word.{Word}
use Rattle.line_text.specs.declared.word.Word.TheVariants.{Plain}
use Rattle.line_text.specs.Range.{is_line}
use Rattle.line_text.specs.Words.{word_text}
use Rattle.line_text.specs.Spelling.{command_words, answer_words, sends_words, line_words, words_bytes, line_bytes, lines_bytes}
use Rattle.trace_lines.proofs.Bytes.{Lacks}
use Rattle.trace_lines.proofs.Pairs.{one_parting}
use Rattle.trace_lines.proofs.Pieces.{AreWords}
use Rattle.trace_lines.proofs.Visible.{is_visible, AreVisible, visible_word}
use Rattle.line_text.proofs.ForCallers.{line_parts}
use Rattle.trace_lines.proofs.Lines.{line_is_words}
use Rattle.trace_lines.proofs.Spelled.{same_line}

-- a line holds no line feed
visible_no_feed : (bs : List ℕ) → AreVisible bs → Lacks 10 bs
visible_no_feed [] h = tt
visible_no_feed (b ∷ bs) h =
    let t = is_true_parts (is_visible b) (each_of is_visible bs) h in
    let above = ltb-true 32 b (is_true_parts (nat_lt 32 b) (nat_lt b 128) t.0).0 in
    ((λ e. omega (arith, above)), visible_no_feed bs t.1)

words_no_feed : (words : List Word) → AreWords words → Lacks 10 (words_bytes words)
words_no_feed [] h = tt
words_no_feed (word ∷ []) h = visible_no_feed (word_text word) (visible_word word h.0)
words_no_feed (word ∷ next ∷ more) h =
    all_append (λ b. b ≢ 10) (word_text word) (32 ∷ words_bytes (next ∷ more)) (visible_no_feed (word_text word) (visible_word word h.0)) ((λ e. omega arith), words_no_feed (next ∷ more) h.1)

line_no_feed : (line : Line) → IsTrue (is_line line) → Lacks 10 (line_bytes line)
line_no_feed line h = words_no_feed (line_words line) (line_is_words line h)

-- no command begins as a report does
no_report : (command : Command) (words : List Word) (rest : List ℕ) → IsTrue (not (eqb (get_or (words_bytes (command_words command ++ words) ++ rest) 0 0) 111))
no_report (Ask.Begin tx) words rest = refl
no_report command words rest = refl

line_no_report : (line : Line) (rest x : List ℕ) → line_bytes line ++ rest ≡ codes "order" ++ x → ⊥
line_no_report line rest x e =
    let words : List Word = Plain Key.Arrow ∷ (answer_words line.answer ++ sends_words line.command line.sends) in
    let first = no_report line.command words rest in
    let same : get_or (words_bytes (command_words line.command ++ words) ++ rest) 0 0 ≡ 111 = ap (λ ws. get_or (words_bytes ws ++ rest) 0 0) (sym (line_parts line)) ∙ ap (λ bs. get_or bs 0 0) e in
    absurd (let test = eq-eqb _ 111 same in cc)

-- the first line, and the others with what follows them
first_line : (line : Line) (lines : List Line) (x : List ℕ) → lines_bytes (line ∷ lines) ++ x ≡ line_bytes line ++ 10 ∷ (lines_bytes lines ++ x)
first_line line lines x = append_assoc (line_bytes line ++ 10 ∷ []) (lines_bytes lines) x ∙ append_assoc (line_bytes line) (10 ∷ []) (lines_bytes lines ++ x)

-- lines and reports that are spelled alike are the same
pub same_text : (a b : List Line) (x y : List ℕ) → Each (λ line. IsTrue (is_line line)) a → Each (λ line. IsTrue (is_line line)) b → lines_bytes a ++ (codes "order" ++ x) ≡ lines_bytes b ++ (codes "order" ++ y) → (a ≡ b) × (x ≡ y)
same_text [] [] x y h k e = (refl, cc)
same_text [] (m ∷ b) x y h k e = absurd (line_no_report m (10 ∷ (lines_bytes b ++ (codes "order" ++ y))) x (sym (first_line m b (codes "order" ++ y)) ∙ sym e))
same_text (l ∷ a) [] x y h k e = absurd (line_no_report l (10 ∷ (lines_bytes a ++ (codes "order" ++ x))) y (sym (first_line l a (codes "order" ++ x)) ∙ e))
same_text (l ∷ a) (m ∷ b) x y h k e =
    let parts = one_parting 10 (line_bytes l) (line_bytes m) (lines_bytes a ++ (codes "order" ++ x)) (lines_bytes b ++ (codes "order" ++ y)) (line_no_feed l h.0) (line_no_feed m k.0) (sym (first_line l a (codes "order" ++ x)) ∙ e ∙ first_line m b (codes "order" ++ y)) in
    let first : l ≡ m = same_line l m h.0 k.0 parts.0 in
    let others = same_text a b x y h.1 k.1 parts.1 in
    (ap (λ n. n ∷ a) first ∙ ap (λ c. m ∷ c) others.0, others.1)
