-- A printed line compared with a due one of its command is compared with what happened.
use Rattle.std.proofs.Common.{◌≡◌, ℕ, Bool, true, false, not, ◌&&◌, Option, Some, None, List, refl, sym, ap, subst, ◌∙◌}
use Rattle.mdb_base.specs.declared.names.SiteId.{SiteId}
use Rattle.mdb_base.specs.declared.replies.Edge.{Edge}
use Rattle.mdb_base.specs.Words.{given, item_at, when}
use Rattle.presumptions.specs.declared.Participant.{Participant}
use Rattle.fed_rules.specs.declared.answers.Answer.{Answer}
use Rattle.fed_rules.specs.declared.answers.Answer.TheVariants as Say
use Rattle.fed_rules.specs.declared.commands.Command.{Command}
use Rattle.fed_rules.specs.declared.commands.Command.TheVariants as Cmd
use Rattle.fed_rules.specs.declared.commands.Line.{Line}
use Rattle.fed_rules.specs.declared.commands.Place.{Place}
use Rattle.fed_rules.specs.declared.events.CoordEvent.{CoordEvent}
use Rattle.fed_rules.specs.declared.events.CoordEvent.TheVariants as Ev
use Rattle.fed_rules.specs.declared.messages.FromSite.{FromSite}
use Rattle.fed_rules.specs.declared.scenario.Scenario.{Scenario}
use Rattle.fed_rules.specs.Coord.{coord_line}
use Rattle.fed_rules.specs.CoordPast.{CoordHappening, CoordPast, message_tid}
use Rattle.fed_rules.specs.Right.{IsAnswer, IsNext}
use Rattle.fed_rules.specs.Scenarios.{policy, protocols}
use Rattle.fed_rules.specs.Story.{Story, Happened, AtSite, AtCoordinator, Nowhere, answer_of, at_coordinator, coord_past, happens, on_take, places_of, sent_from, tell}
use Rattle.audit_rules.specs.declared.verdict.What.{What}
use Rattle.audit_rules.specs.declared.verdict.What.TheVariants as Fails
use Rattle.audit_rules.specs.Faults.{compared, compared_at, edges_of, errs, errs_at, fault_in, may_name, names_cycle}
use Rattle.audit_rules.specs.Same.{same_answer, same_places, without_edges}
use Rattle.audit_rules.proofs.ForCallers.{compared_alike}
use Rattle.audit_lines.specs.Compared.{TellsAt, TellsWrong, compared_in, fault_by, is_take}
use Rattle.audit_lines.proofs.Alike.{due_is_whole, still_names}
use Rattle.audit_lines.proofs.Takes.{IsNoTake, TookNothing, heard, takes_none}

-- what is compared of the answers of two lines of a command, and what is told of their edges
record Compares (members : List Participant) (story : Story) (happened : Happened) (command : Command) (printed due : Answer) (named : List Edge) (wrong : Bool) : Type 0 where
  answers : same_answer (compared_in command printed) (compared_in command due) ≡ same_answer (compared happened printed) (compared happened due)
  edges : (is_take command && names_cycle due && wrong) ≡ errs members story happened named

-- ---- a command by which the coordinator takes nothing

untaken_at : (event : CoordEvent) (a : Answer) → IsNoTake event → compared_at event a ≡ a
untaken_at (Ev.Take site message) a none = absurd none
untaken_at event a none = refl

untaken : (happened : Happened) (a : Answer) → TookNothing happened → compared happened a ≡ a
untaken (AtSite site x) a none = refl
untaken (AtCoordinator x) a none = untaken_at x.event a none
untaken (Nowhere answer) a none = refl

right_at : (members : List Participant) (past : CoordPast) (x : CoordHappening) (event : CoordEvent) (edges : List Edge) → IsNoTake event → errs_at members past x event edges ≡ false
right_at members past x (Ev.Take site message) edges none = absurd none
right_at members past x event edges none = refl

none_errs : (members : List Participant) (story : Story) (happened : Happened) (edges : List Edge) → TookNothing happened → errs members story happened edges ≡ false
none_errs members story (AtSite site x) edges none = refl
none_errs members story (AtCoordinator x) edges none = right_at members (coord_past story) x x.event edges none
none_errs members story (Nowhere answer) edges none = refl

whole_in : (command : Command) (a : Answer) → is_take command ≡ false → compared_in command a ≡ a
whole_in (Cmd.Take site place) a e = cc
whole_in command a e = refl

other_command : (members : List Participant) (story : Story) (happened : Happened) (command : Command) (printed due : Answer) (edges : List Edge) (wrong : Bool)
    → is_take command ≡ false → TookNothing happened → Compares members story happened command printed due edges wrong
other_command members story happened command printed due edges wrong other none = record {
  answers =
      ap (λ a. same_answer a (compared_in command due)) (whole_in command printed other) ∙ ap (same_answer printed) (whole_in command due other)
      ∙ sym (ap (λ a. same_answer a (compared happened due)) (untaken happened printed none) ∙ ap (same_answer printed) (untaken happened due none));
  edges = ap (λ b. b && names_cycle due && wrong) other ∙ sym (none_errs members story happened edges none);
}

-- ---- `take`

by_due : (due told wrong may : Bool) → due ≡ told → (told ≡ true → wrong ≡ not may) → (true && due && wrong) ≡ (told && not may)
by_due true true wrong may e h = h refl
by_due true false wrong may e h = cc
by_due false true wrong may e h = cc
by_due false false wrong may e h = refl

names_told : (due told : Answer) → without_edges due ≡ without_edges told → names_cycle due ≡ names_cycle told
names_told due told e = sym (still_names due) ∙ (ap names_cycle e ∙ still_names told)

at_take : (members : List Participant) (story : Story) (x : CoordHappening) (event : CoordEvent) (site : SiteId) (place : ℕ) (message : FromSite) (printed due : Answer) (edges : List Edge) (wrong : Bool)
    → event ≡ Ev.Take site message → compared_at event due ≡ compared_at event x.answer → TellsAt members (coord_past story) x event edges wrong
    → (same_answer (compared_in (Cmd.Take site place) printed) (compared_in (Cmd.Take site place) due) ≡ same_answer (compared_at event printed) (compared_at event due))
    × ((true && names_cycle due && wrong) ≡ errs_at members (coord_past story) x event edges)
at_take members story x event site place message printed due edges wrong is same tells =
    let tells_it : TellsAt members (coord_past story) x (Ev.Take site message) edges wrong = subst (λ e. TellsAt members (coord_past story) x e edges wrong) is tells in
    let same_it : without_edges due ≡ without_edges x.answer = subst (λ e. compared_at e due ≡ compared_at e x.answer) is same in (
      ap (λ e. same_answer (compared_at e printed) (compared_at e due)) (sym is),
      by_due (names_cycle due) (names_cycle x.answer) wrong (may_name members (coord_past story) x (message_tid message) edges) (names_told due x.answer same_it) tells_it
          ∙ ap (λ e. errs_at members (coord_past story) x e edges) (sym is),
    )

module _ (scenario : Scenario) (story : Story) (site : SiteId) (place : ℕ) (printed due : Answer) (edges : List Edge) (wrong : Bool) where
  by_message : (o : Option FromSite) (happened : Happened) → happened ≡ given o (λ message. at_coordinator scenario story (Ev.Take site message)) (Nowhere Say.None)
      → IsAnswer (protocols scenario) story happened due → TellsWrong (protocols scenario) story happened edges wrong
      → Compares (protocols scenario) story happened (Cmd.Take site place) printed due edges wrong
  unfolding given
  by_message None happened is answer tells =
      let none : due ≡ Say.None = subst (λ h. IsAnswer (protocols scenario) story h due) is answer in
      let unnamed : names_cycle due ≡ false = ap names_cycle none in
      subst (λ h. Compares (protocols scenario) story h (Cmd.Take site place) printed due edges wrong) (sym is) (record {
        answers = sym (due_is_whole printed due unnamed);
        edges = ap (λ b. true && b && wrong) unnamed;
      })
  by_message (Some message) happened is answer tells =
      let x = coord_line (protocols scenario) (policy scenario) (coord_past story) (Ev.Take site message) in
      let same = (compared_alike (protocols scenario) story happened due answer).0 in
      let same_it : compared_at x.event due ≡ compared_at x.event x.answer = subst (λ h. compared h due ≡ compared h (answer_of h)) is same in
      let tells_it : TellsAt (protocols scenario) (coord_past story) x x.event edges wrong = subst (λ h. TellsWrong (protocols scenario) story h edges wrong) is tells in
      let both = at_take (protocols scenario) story x x.event site place message printed due edges wrong (heard scenario story (Ev.Take site message)) same_it tells_it in
      subst (λ h. Compares (protocols scenario) story h (Cmd.Take site place) printed due edges wrong) (sym is) (record { answers = both.0; edges = both.1 })

-- ---- any command

module _ (scenario : Scenario) (story : Story) (printed due : Answer) (edges : List Edge) (wrong : Bool) where
  takes_it : (site : SiteId) (place : ℕ) → happens scenario story (Cmd.Take site place) ≡ given (item_at (sent_from site story) place) (λ message. at_coordinator scenario story (Ev.Take site message)) (Nowhere Say.None)
  unfolding happens on_take
  takes_it site place = refl

  of_take : (command : Command) → is_take command ≡ true → IsAnswer (protocols scenario) story (happens scenario story command) due → TellsWrong (protocols scenario) story (happens scenario story command) edges wrong
      → Compares (protocols scenario) story (happens scenario story command) command printed due edges wrong
  of_take (Cmd.Take site place) e answer tells =
      by_message scenario story site place printed due edges wrong (item_at (sent_from site story) place) (happens scenario story (Cmd.Take site place)) (takes_it site place) answer tells
  of_take command e answer tells = cc

  by_take : (command : Command) (b : Bool) → is_take command ≡ b → IsAnswer (protocols scenario) story (happens scenario story command) due → TellsWrong (protocols scenario) story (happens scenario story command) edges wrong
      → Compares (protocols scenario) story (happens scenario story command) command printed due edges wrong
  by_take command true e answer tells = of_take command e answer tells
  by_take command false e answer tells =
      other_command (protocols scenario) story (happens scenario story command) command printed due edges wrong e (takes_none scenario story command e)

  compares : (command : Command) → IsAnswer (protocols scenario) story (happens scenario story command) due → TellsWrong (protocols scenario) story (happens scenario story command) edges wrong
      → Compares (protocols scenario) story (happens scenario story command) command printed due edges wrong
  compares command answer tells = by_take command (is_take command) refl answer tells

-- the reason by the due line is the reason by what happened
pub fault_is : (scenario : Scenario) (story : Story) (printed due : Line) (wrong : Bool) → due.command ≡ printed.command → IsNext scenario story due
    → TellsWrong (protocols scenario) story (tell scenario story printed.command).happened (edges_of printed.answer) wrong
    → fault_by printed due wrong ≡ fault_in scenario story (tell scenario story printed.command).happened printed
unfolding fault_in
fault_is scenario story printed due wrong of_one next tells =
    let happened = happens scenario story printed.command in
    let answer : IsAnswer (protocols scenario) story happened due.answer = subst (λ c. IsAnswer (protocols scenario) story (happens scenario story c) due.answer) of_one next.answer in
    let sends : due.sends ≡ places_of story happened = subst (λ c. due.sends ≡ places_of story (happens scenario story c)) of_one next.sends in
    let both = compares scenario story printed.answer due.answer (edges_of printed.answer) wrong printed.command answer tells in
    let same = (compared_alike (protocols scenario) story happened due.answer answer).0 in
    let last : Bool → Option What = λ (b : Bool). when b (Some Fails.Cycle) None in
    let second : List Place → Option What → Option What = λ (ps : List Place) (rest : Option What). when (not (same_places printed.sends ps)) (Some Fails.Places) rest in
    let first : Bool → Option What → Option What = λ (b : Bool) (rest : Option What). when (not b) (Some Fails.Answer) rest in
    ap (λ (c : Command). first (same_answer (compared_in c printed.answer) (compared_in c due.answer)) (second due.sends (last (is_take c && names_cycle due.answer && wrong)))) of_one
    ∙ (ap (λ b. first b (second due.sends (last (is_take printed.command && names_cycle due.answer && wrong)))) (both.answers ∙ ap (same_answer (compared happened printed.answer)) same)
    ∙ (ap (λ ps. first (same_answer (compared happened printed.answer) (compared happened (answer_of happened))) (second ps (last (is_take printed.command && names_cycle due.answer && wrong)))) sends
    ∙ ap (λ b. first (same_answer (compared happened printed.answer) (compared happened (answer_of happened))) (second (places_of story happened) (last b))) both.edges))
