-- A line and its words.
use Rattle.std.proofs.Common.{◌≡◌, cond, ◌&&◌, IsTrue, List, [], ◌∷◌, ◌++◌, map, Option, Some, None, option_and_then, append-nil, refl, sym, ap, ◌∙◌, subst}
use Rattle.std.proofs.lemmas.Option.{none-some, cond_some}
use Rattle.mdb_base.specs.Words.{map_some, each_of}
use Rattle.mdb_base.proofs.ForCallers.{is_true_both, is_true_parts}
use Rattle.fed_rules.specs.declared.commands.Command.{Command}
use Rattle.fed_rules.specs.declared.commands.Line.{Line}
use Rattle.fed_rules.specs.declared.commands.Place.{Place}
use Rattle.fed_rules.specs.declared.answers.Answer.{Answer}
use Rattle.line_text.specs.declared.word.Keyword.TheVariants as Key
use Rattle.trace_lines.specs.declared.marks.Mark.TheVariants as Mark
use Rattle.line_text.specs.declared.word.Word.{Word}
use Rattle.line_text.specs.declared.word.Word.TheVariants.{Plain}
use Rattle.line_text.specs.Fits.{answer_fits, places_fit, line_fits}
use Rattle.line_text.specs.Range.{is_place, command_in_range, answer_in_range, line_in_range, is_line}
use Rattle.line_text.specs.Spelling.{command_words, answer_words, place_word, sends_words, line_words}
use Rattle.line_text.proofs.ForCallers.{line_parts}
use Rattle.trace_lines.specs.Reading.{command_of, answer_of, places_of, cut_at, sends_of, line_behind, line_of}
use Rattle.trace_lines.proofs.Pieces.{AreWords}
use Rattle.trace_lines.proofs.Guards.{from_map, from_next}
use Rattle.trace_lines.proofs.Cuts.{cut_behind, cut_none, cut_found}
use Rattle.trace_lines.proofs.CommandLaws.{command_again, command_cut, command_is_words, command_found}
use Rattle.trace_lines.proofs.Causes.{words_of_both, words_front, words_back}
use Rattle.trace_lines.proofs.Answered.{fits_cause, answer_again, answer_lacks, answer_is_words, answer_found}
use Rattle.trace_lines.proofs.Sends.{places_again, sends_is_words, places_found}

-- what a line keeps, part by part
pub record Parts (line : Line) : Type 0 where
  pub answer_fits : IsTrue (answer_fits line.command line.answer)
  pub places_fit : IsTrue (places_fit line.command line.answer line.sends)
  pub command : IsTrue (command_in_range line.command)
  pub answer : IsTrue (answer_in_range line.answer)
  pub places : IsTrue (each_of is_place line.sends)

parts_of : (line : Line) → IsTrue (is_line line) → Parts line
parts_of line h =
    let halves = is_true_parts (line_fits line) (line_in_range line) h in
    let fits = is_true_parts (answer_fits line.command line.answer) (places_fit line.command line.answer line.sends) halves.0 in
    let ranges = is_true_parts (command_in_range line.command && answer_in_range line.answer) (each_of is_place line.sends) halves.1 in
    let inner = is_true_parts (command_in_range line.command) (answer_in_range line.answer) ranges.0 in
    record { answer_fits = fits.0; places_fit = fits.1; command = inner.0; answer = inner.1; places = ranges.1 }

-- the numbers of a line are below 2 ^ 64
pub line_is_words : (line : Line) → IsTrue (is_line line) → AreWords (line_words line)
line_is_words line h =
    let parts = parts_of line h in
    words_of_both (command_words line.command ++ Plain Key.Arrow ∷ answer_words line.answer) (sends_words line.command line.sends)
    (words_of_both (command_words line.command) (Plain Key.Arrow ∷ answer_words line.answer) (command_is_words line.command parts.command) (refl, answer_is_words line.answer parts.answer))
    (sends_is_words line.command line.sends parts.places)

-- the places behind an answer are read again
sends_again : (command : Command) (answer : Answer) (places : List Place) → IsTrue (places_fit command answer places) → IsTrue (each_of is_place places)
    → sends_of command (cut_at Mark.Sends (answer_words answer ++ sends_words command places)) (answer_words answer ++ sends_words command places) ≡ Some (answer_words answer, places)
sends_again command answer [] h k = rw (append-nil (answer_words answer), cut_none Mark.Sends (answer_words answer) (answer_lacks answer)) refl
sends_again command answer (sent ∷ more) h k =
    rw (cut_behind Mark.Sends (answer_words answer) (Plain Key.Sends) (map (place_word command) (sent ∷ more)) (answer_lacks answer) refl, places_again command answer sent more h k) refl

behind_again : (line : Line) → Parts line → line_behind line.command (answer_words line.answer ++ sends_words line.command line.sends) ≡ Some line
behind_again line parts =
    rw (sends_again line.command line.answer line.sends parts.places_fit parts.places, answer_again line.answer parts.answer (fits_cause line.command line.answer parts.answer_fits)) refl

-- the words of a line are read as it
pub line_again : (line : Line) → IsTrue (is_line line) → line_of (line_words line) ≡ Some line
line_again line h =
    let parts = parts_of line h in
    let fits = (is_true_parts (line_fits line) (line_in_range line) h).0 in
    rw (line_parts line, command_cut line.command (answer_words line.answer ++ sends_words line.command line.sends), command_again line.command parts.command, behind_again line parts, fits) refl

-- what is read behind the arrow is spelled by these words
record IsBehind (command : Command) (words : List Word) (line : Line) : Type 0 where
  same : line.command ≡ command
  spelled : words ≡ answer_words line.answer ++ sends_words command line.sends
  answer : IsTrue (answer_in_range line.answer)
  places : IsTrue (each_of is_place line.sends)

-- the line of a command, the words of its answer and its places
abbrev line_with : Command → List Word × List Place → Option Line
line_with command parts = map_some (λ answer. record { command = command; answer = answer; sends = parts.1 }) (answer_of parts.0)

behind_found : (command : Command) (words : List Word) (line : Line) → IsTrue (command_in_range command) → AreWords words → line_behind command words ≡ Some line → IsBehind command words line
behind_found command words line k h e = by_cut (cut_at Mark.Sends words) refl e
  where
    by_places : (front sent : List Word) (o : Option (List Place)) → words ≡ front ++ Plain Key.Sends ∷ sent → places_of command sent ≡ o → option_and_then (line_with command) (map_some (λ places. (front, places)) o) ≡ Some line → IsBehind command words line
    by_places front sent None w d f = absurd (none-some line f)
    by_places front sent (Some places) w d f =
        let both_are = subst AreWords w h in
        let found = places_found command sent places k (words_back front (Plain Key.Sends ∷ sent) both_are).1 d in
        from_map (answer_of front) (λ answer. record { command = command; answer = answer; sends = places }) line (IsBehind command words) f
        (λ answer g.
        let said = answer_found front answer (words_front front (Plain Key.Sends ∷ sent) both_are) g in
        record { same = refl; spelled = w ∙ ap (λ ws. ws ++ Plain Key.Sends ∷ sent) said.0 ∙ ap (λ ws. answer_words answer ++ ws) found.0; answer = said.1; places = found.1 })

    by_cut : (o : Option (List Word × List Word)) → cut_at Mark.Sends words ≡ o → option_and_then (line_with command) (sends_of command o words) ≡ Some line → IsBehind command words line
    by_cut None d f =
        from_map (answer_of words) (λ answer. record { command = command; answer = answer; sends = [] }) line (IsBehind command words) f
        (λ answer g. let said = answer_found words answer h g in record { same = refl; spelled = said.0 ∙ sym (append-nil (answer_words answer)); answer = said.1; places = refl })
    by_cut (Some (front, sent)) d f = by_places front sent (places_of command sent) (cut_found Mark.Sends words (front, sent) d) refl f

-- what is read as a line is spelled by these words
pub line_found : (words : List Word) (line : Line) → AreWords words → line_of words ≡ Some line → (words ≡ line_words line) × IsTrue (is_line line)
line_found words line h e =
    from_next (option_and_then (λ parts. option_and_then (λ command. line_behind command parts.1) (command_of parts.0)) (cut_at Mark.Arrow words)) (λ l. cond (line_fits l) (Some l) None) line _ e
    (λ l d f.
    let fits = cond_some (line_fits l) l line f in
    from_next (cut_at Mark.Arrow words) (λ parts. option_and_then (λ command. line_behind command parts.1) (command_of parts.0)) l _ d
    (λ parts g i.
    let whole : words ≡ parts.0 ++ Plain Key.Arrow ∷ parts.1 = cut_found Mark.Arrow words parts g in
    let are = subst AreWords whole h in
    from_next (command_of parts.0) (λ command. line_behind command parts.1) l _ i
    (λ command j m.
    let asked = command_found parts.0 command (words_front parts.0 (Plain Key.Arrow ∷ parts.1) are) j in
    let behind = behind_found command parts.1 l asked.1 (words_back parts.0 (Plain Key.Arrow ∷ parts.1) are).1 m in
    let ranges : IsTrue (line_in_range l) = is_true_both _ _ (is_true_both _ _ (subst (λ c. IsTrue (command_in_range c)) (sym behind.same) asked.1) behind.answer) behind.places in
    subst (λ l. (words ≡ line_words l) × IsTrue (is_line l)) fits.1 (
      whole ∙ ap (λ ws. ws ++ Plain Key.Arrow ∷ parts.1) asked.0 ∙ ap (λ ws. command_words command ++ Plain Key.Arrow ∷ ws) behind.spelled
          ∙ ap (λ c. command_words c ++ Plain Key.Arrow ∷ (answer_words l.answer ++ sends_words c l.sends)) (sym behind.same) ∙ sym (line_parts l),
      is_true_both _ _ fits.0 ranges,
    ))))
