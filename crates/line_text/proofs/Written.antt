-- A line is written part by part: its command, the arrow, its answer and what it sent.
use Rattle.std.proofs.Common.{◌≡◌, ℕ, List, [], ◌∷◌, ◌++◌, ap, sym, ◌∙◌, append-nil}
use Rattle.std.specs.Prelude.{codes}
use Rattle.std.proofs.lemmas.Grind.{flat_map-append}
use Rattle.std.proofs.lemmas.List.{append_assoc}
use Rattle.fed_rules.specs.declared.commands.Command.{Command}
use Rattle.fed_rules.specs.declared.commands.Command.TheVariants as Ask
use Rattle.fed_rules.specs.declared.commands.Line.{Line}
use Rattle.line_text.specs.declared.word.Keyword.TheVariants as Key
use Rattle.line_text.specs.declared.word.Word.{Word}
use Rattle.line_text.specs.declared.word.Word.TheVariants.{Plain, Number, Attempt}
use Rattle.line_text.specs.Words.{word_text}
use Rattle.line_text.specs.Spelling.{answer_words, command_words, line_bytes, line_words, sends_words, spaced, words_bytes}

-- the first word, and each other one behind a space
joined_by_spaces : (word : Word) (words : List Word) → words_bytes (word ∷ words) ≡ word_text word ++ spaced words
joined_by_spaces word [] = sym (append-nil (word_text word))
joined_by_spaces word (next ∷ more) = ap (λ rest. word_text word ++ 32 ∷ rest) (joined_by_spaces next more)

-- the words of a line, regrouped
pub line_parts : (line : Line) → line_words line ≡ command_words line.command ++ Plain Key.Arrow ∷ (answer_words line.answer ++ sends_words line.command line.sends)
line_parts line = append_assoc (command_words line.command) (Plain Key.Arrow ∷ answer_words line.answer) (sends_words line.command line.sends)

-- words behind others, each behind a space
pub spaced_both : (xs ys : List Word) → spaced (xs ++ ys) ≡ spaced xs ++ spaced ys
spaced_both xs ys = flat_map-append (λ (word : Word). 32 ∷ word_text word) xs ys

first_both : (word : Word) (words more : List Word) → words_bytes ((word ∷ words) ++ more) ≡ words_bytes (word ∷ words) ++ spaced more
first_both word words more =
    joined_by_spaces word (words ++ more) ∙ ap (λ rest. word_text word ++ rest) (spaced_both words more)
    ∙ sym (append_assoc (word_text word) (spaced words) (spaced more)) ∙ ap (λ front. front ++ spaced more) (sym (joined_by_spaces word words))

-- a command has a first word, so what follows it stands behind spaces
command_both : (command : Command) (more : List Word) → words_bytes (command_words command ++ more) ≡ words_bytes (command_words command) ++ spaced more
command_both (Ask.Begin tx) more = first_both (Plain Key.Begin) (Number tx.0 ∷ []) more
command_both (Ask.Step tx) more = first_both (Plain Key.Step) (Number tx.0 ∷ []) more
command_both (Ask.Commit tx) more = first_both (Plain Key.Commit) (Number tx.0 ∷ []) more
command_both (Ask.Abort tx) more = first_both (Plain Key.Abort) (Number tx.0 ∷ []) more
command_both (Ask.Fate tx) more = first_both (Plain Key.Fate) (Number tx.0 ∷ []) more
command_both (Ask.Go tx) more = first_both (Plain Key.Go) (Number tx.0 ∷ []) more
command_both (Ask.Again tid) more = first_both (Plain Key.Again) (Attempt tid ∷ []) more
command_both (Ask.Late tid) more = first_both (Plain Key.Late) (Attempt tid ∷ []) more
command_both (Ask.Give site place) more = first_both (Plain Key.Give) (Number site.0 ∷ Number place ∷ []) more
command_both (Ask.Take site place) more = first_both (Plain Key.Take) (Number site.0 ∷ Number place ∷ []) more
command_both (Ask.Ask site tid) more = first_both (Plain Key.Ask) (Number site.0 ∷ Attempt tid ∷ []) more
command_both (Ask.Drop site tid) more = first_both (Plain Key.Drop) (Number site.0 ∷ Attempt tid ∷ []) more
command_both (Ask.Halt actor cut) more = first_both (Plain Key.Halt) (Number actor ∷ Number cut ∷ []) more
command_both (Ask.Trip actor calls cut) more = first_both (Plain Key.Trip) (Number actor ∷ Number calls ∷ Number cut ∷ []) more
command_both (Ask.Back actor) more = first_both (Plain Key.Back) (Number actor ∷ []) more
command_both (Ask.Check actor) more = first_both (Plain Key.Check) (Number actor ∷ []) more

abbrev pub arrow : List ℕ
arrow = 32 ∷ codes "=>"

line_in_parts : (line : Line) → line_bytes line ≡ words_bytes (command_words line.command) ++ (arrow ++ (spaced (answer_words line.answer) ++ spaced (sends_words line.command line.sends)))
line_in_parts line =
    let answer = answer_words line.answer in
    let sends = sends_words line.command line.sends in
    ap words_bytes (line_parts line) ∙ command_both line.command (Plain Key.Arrow ∷ (answer ++ sends))
    ∙ ap (λ rest. words_bytes (command_words line.command) ++ (arrow ++ rest)) (spaced_both answer sends)

-- what is written part by part is the line
pub line_written : (line : Line) (old first next third all : List ℕ) → first ≡ old ++ words_bytes (command_words line.command) → next ≡ first ++ arrow
    → third ≡ next ++ spaced (answer_words line.answer) → all ≡ third ++ spaced (sends_words line.command line.sends) → all ≡ old ++ line_bytes line
line_written line old first next third all e f g h =
    let command : List ℕ = words_bytes (command_words line.command) in
    let answer : List ℕ = spaced (answer_words line.answer) in
    let sends : List ℕ = spaced (sends_words line.command line.sends) in
    h ∙ ap (λ front. front ++ sends) (g ∙ ap (λ front. front ++ answer) (f ∙ ap (λ front. front ++ arrow) e))
    ∙ append_assoc ((old ++ command) ++ arrow) answer sends ∙ append_assoc (old ++ command) arrow (answer ++ sends)
    ∙ append_assoc old command (arrow ++ (answer ++ sends)) ∙ ap (λ text. old ++ text) (sym (line_in_parts line))
