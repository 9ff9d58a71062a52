-- What the last of right lines sent.
use Rattle.std.proofs.Common.{◌≡◌, ◌==◌, suc, ◌-◌, ◌<◌, true, false, List, [], ◌∷◌, length, map, reverse, get_or, inl, inr, refl, sym, ◌∙◌, ap, subst, arith}
use Rattle.std.proofs.lemmas.Bool.Decides.{nat_tests}
use Rattle.std.proofs.lemmas.List.{get_or-reverse, length-reverse}
use Rattle.fed_rules.specs.declared.commands.Command.{Command}
use Rattle.fed_rules.specs.declared.commands.Line.{Line}
use Rattle.fed_rules.specs.declared.commands.Place.{Place}
use Rattle.fed_rules.specs.declared.scenario.Scenario.{Scenario}
use Rattle.fed_rules.specs.Closing.{last_sends, sends_of_last, sent_next}
use Rattle.fed_rules.specs.Resumed.{plan_of}
use Rattle.fed_rules.specs.Scenarios.{protocols}
use Rattle.fed_rules.specs.Sessions.{Session, fresh}
use Rattle.fed_rules.specs.Story.{found_coordinator, found_sites, lines_of}
use Rattle.fed_world.specs.Beginnings.{Begins}
use Rattle.fed_world.specs.Lines.{AreLinesIn, IsRightIn}

newest_first : (session : Session) (lines : List Line) (d : Line) → 0 < length lines → IsRightIn session lines
    → (get_or lines 0 d).sends ≡ last_sends session (map (λ (line : Line). line.command) lines)
newest_first session [] d some right = absurd (omega arith)
newest_first session (line ∷ lines) d some right = right.1.sends

-- its places are those of what the last command sent
pub last_line : (session : Session) (commands : List Command) (lines : List Line) (d : Line) → 0 < length lines → AreLinesIn lines session commands
    → (get_or lines (length lines - 1) d).sends ≡ last_sends session commands
last_line session commands lines d some are =
    let count = length-reverse lines in
    let place : length lines - 1 ≡ length lines - 1 - 0 = omega arith in
    ap (λ k. (get_or lines k d).sends) place
    ∙ ap (λ (line : Line). line.sends) (sym (get_or-reverse lines 0 d some))
    ∙ (newest_first session (reverse lines) d (omega arith) are.right ∙ ap (last_sends session) are.commands_are)

-- nothing was sent before the first command
first_quiet : (session : Session) → Begins session → last_sends session [] ≡ []
first_quiet session (inl e) = subst (λ s. last_sends s [] ≡ []) (sym e) refl
first_quiet session (inr goes) =
    subst (λ s. last_sends s [] ≡ []) (sym goes.is)
    (ap (λ o. sends_of_last (lines_of (found_coordinator (protocols (plan_of session.found)) o (found_sites session.found.sites)))) goes.usable.is)

-- so without lines nothing was
pub none_sent : (session : Session) (commands : List Command) (lines : List Line) → Begins session → AreLinesIn lines session commands → true ≡ (length lines == 0) → [] ≡ last_sends session commands
none_sent session commands [] begins are e = sym (ap (last_sends session) (sym are.commands_are) ∙ first_quiet session begins)
none_sent session commands (line ∷ lines) begins are e = (let few : (suc (length lines) == 0) ≡ false = grind (arith, nat_tests) in let clash : true ≡ false = e ∙ few in cc)

-- nothing was sent at no message
pub sent_at_none : (scenario : Scenario) (commands : List Command) (places : List Place) → true ≡ (length places == 0) → [] ≡ sent_next scenario commands places
sent_at_none scenario commands [] e = refl
sent_at_none scenario commands (place ∷ places) e = (let few : (suc (length places) == 0) ≡ false = grind (arith, nat_tests) in let clash : true ≡ false = e ∙ few in cc)

-- and what was sent last at some
pub sent_at_some : (scenario : Scenario) (commands : List Command) (places : List Place) → false ≡ (length places == 0) → last_sends (fresh scenario) commands ≡ sent_next scenario commands places
sent_at_some scenario commands [] e = (let none : (length {A = Place} [] == 0) ≡ true = refl in let clash : false ≡ true = e ∙ none in cc)
sent_at_some scenario commands (place ∷ places) e = refl
