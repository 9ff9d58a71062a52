-- The steps of a tape.
use Rattle.std.proofs.Common.{◌≡◌, ◌≢◌, List, [], ◌∷◌, ◌++◌, reverse, Ok, Err, refl, ap, sym, ◌∙◌}
use Rattle.std.proofs.lemmas.List.{reverse-append}
use Rattle.fed_rules.specs.declared.answers.Answer.{Answer}
use Rattle.fed_rules.specs.declared.commands.Command.{Command}
use Rattle.line_text.specs.declared.error.DoorErr.TheVariants as Fails
use Rattle.client_drivers.specs.Calls.{Called, Notes}
use Rattle.client_drivers.specs.Tapes.{Tape, TapeTells}
use Rattle.client_drivers.proofs.Driving.{called}

-- where an answer is left none was refused
empty_if : (refused : List Called) (answers : List Answer) (answer : Answer) (rest : List Answer) → answers ≡ answer ∷ rest → (refused ≢ [] → answers ≡ []) → refused ≡ []
empty_if [] answers answer rest e h = refl
empty_if (c ∷ cs) answers answer rest e h = let none = h (λ same. cc) in cc

-- the next answer of the tape is told
pub tells_answer : (old new : Tape) (command : Command) (answer : Answer) → old.answers ≡ answer ∷ new.answers → new.calls ≡ old.calls ++ command ∷ [] →
    Notes TapeTells old new command (Ok answer)
tells_answer old new command answer next noted told h =
    let none = empty_if h.refused old.answers answer new.answers next h.at_end in
    record {
      refused = [];
      answered = called command (Ok answer) ∷ h.answered;
      all = ap (λ (cs : List Called). called command (Ok answer) ∷ cs) (h.all ∙ ap (λ (cs : List Called). cs ++ h.answered) none);
      each_refused = tt;
      at_end = λ ne. absurd (ne refl);
      each_answered = (refl, h.each_answered);
      noted = ap (λ (cs : List Command). command ∷ cs) h.noted ∙ sym (ap (λ (cs : List Command). reverse cs) noted ∙ reverse-append old.calls (command ∷ []));
    }

-- behind the end of the tape want of memory is told
pub tells_end : (old new : Tape) (command : Command) → new.answers ≡ [] → new.calls ≡ old.calls → Notes TapeTells old new command (Err Fails.Memory)
tells_end old new command none same told h = record {
  refused = called command (Err Fails.Memory) ∷ h.refused;
  answered = h.answered;
  all = ap (λ (cs : List Called). called command (Err Fails.Memory) ∷ cs) h.all;
  each_refused = (refl, h.each_refused);
  at_end = λ ne. none;
  each_answered = h.each_answered;
  noted = h.noted ∙ ap (λ (cs : List Command). reverse cs) (sym same);
}

-- the tape of a door that has these answers left, the last one first, and these calls
abbrev pub tape_of : List Answer → List Command → Tape
tape_of answers calls = record { answers = reverse answers; calls = calls }

-- the last of the answers is the next one of the tape
pub tells_popped : (old : Tape) (answers left : List Answer) (calls more : List Command) (command : Command) (answer : Answer) → tape_of answers calls ≡ old →
    answers ≡ left ++ answer ∷ [] → more ≡ calls ++ command ∷ [] → Notes TapeTells old (tape_of left more) command (Ok answer)
tells_popped old answers left calls more command answer is popped noted =
    tells_answer old (tape_of left more) command answer
    (ap (λ (t : Tape). t.answers) (sym is) ∙ (ap (λ (xs : List Answer). reverse xs) popped ∙ reverse-append left (answer ∷ [])))
    (noted ∙ ap (λ (t : Tape). t.calls ++ command ∷ []) is)

-- no answer is left
pub tells_over : (old : Tape) (answers left : List Answer) (calls more : List Command) (command : Command) → tape_of answers calls ≡ old →
    left ≡ [] → more ≡ calls → Notes TapeTells old (tape_of left more) command (Err Fails.Memory)
tells_over old answers left calls more command is none same =
    tells_end old (tape_of left more) command (ap (λ (xs : List Answer). reverse xs) none) (same ∙ ap (λ (t : Tape). t.calls) is)
