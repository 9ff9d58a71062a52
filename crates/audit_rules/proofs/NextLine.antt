-- A printed line without a fault is the next one of the story, of declared sites and actors, and such a line has none.
use Rattle.std.proofs.Common.{◌≡◌, Bool, true, false, not, ◌&&◌, Option, Some, None, List, [], ◌∷◌, refl, sym, ap, ◌∙◌, subst}
use Rattle.mdb_base.specs.declared.replies.Edge.{Edge}
use Rattle.mdb_base.specs.Words.{when}
use Rattle.presumptions.specs.declared.Decision.{Decision}
use Rattle.presumptions.specs.declared.Participant.{Participant}
use Rattle.order_laws.proofs.ForCallers.{not_false}
use Rattle.fed_rules.specs.declared.answers.Answer.{Answer}
use Rattle.fed_rules.specs.declared.answers.Answer.TheVariants as Say
use Rattle.fed_rules.specs.declared.answers.Cause.TheVariants as For
use Rattle.fed_rules.specs.declared.commands.Line.{Line}
use Rattle.fed_rules.specs.declared.events.CoordEvent.{CoordEvent}
use Rattle.fed_rules.specs.declared.events.CoordEvent.TheVariants as Ev
use Rattle.fed_rules.specs.declared.scenario.Scenario.{Scenario}
use Rattle.fed_rules.specs.CoordPast.{CoordHappening, CoordPast, records, message_tid}
use Rattle.fed_rules.specs.CoordRecords.{commits}
use Rattle.fed_rules.specs.Right.{SameButCycle, MayPrint, IsAnswer, IsNext, IsRefusal, refused}
use Rattle.fed_rules.specs.Scenarios.{protocols}
use Rattle.fed_rules.specs.Story.{Story, Happened, AtSite, AtCoordinator, Nowhere, tell, answer_of, places_of, coord_past}
use Rattle.audit_rules.specs.declared.verdict.What.{What}
use Rattle.audit_rules.specs.declared.verdict.What.TheVariants as Fails
use Rattle.audit_rules.specs.Same.{same_answer, same_places, without_edges}
use Rattle.audit_rules.specs.Faults.{compared, compared_at, edges_of, errs, errs_at, fault_in, fault_of, may_name, names_cycle, names_declared}
use Rattle.audit_rules.proofs.AnswersAlike.{answers_alike, answers_self, places_alike, places_self}
use Rattle.audit_rules.proofs.Cycles.{cycle_means, cycle_passes}

-- ---- answers but for the edges of a cycle

still_names : (a : Answer) → names_cycle (without_edges a) ≡ names_cycle a
still_names (Say.Decides decision (Some (For.Cycle edges)) forgets) = refl
still_names a = refl

unchanged : (a : Answer) → names_cycle a ≡ false → without_edges a ≡ a
unchanged (Say.Decides decision (Some (For.Cycle edges)) forgets) e = cc
unchanged a e = refl

decision_in : Answer → Decision → Decision
decision_in (Say.Decides decision cause forgets) other = decision
decision_in a other = other

forgets_in : Answer → Bool
forgets_in (Say.Decides decision cause forgets) = forgets
forgets_in a = false

to_cycle : (IsOne : List Edge → Type 0) (d : Decision) (edges : List Edge) (forgets : Bool) (told : Answer)
    → Say.Decides d (Some (For.Cycle [])) forgets ≡ without_edges told → (names_cycle told ≡ true → IsOne edges)
    → SameButCycle IsOne (Say.Decides d (Some (For.Cycle edges)) forgets) told
unfolding decision_in forgets_in
to_cycle IsOne d edges forgets (Say.Decides other (Some (For.Cycle others)) told) e one =
    (ap (λ a. decision_in a d) e, ap forgets_in e, one refl)
to_cycle IsOne d edges forgets told e one = let clash : true ≡ names_cycle told = ap names_cycle e ∙ still_names told in cc

pub but_cycle : (IsOne : List Edge → Type 0) (printed told : Answer) → without_edges printed ≡ without_edges told
    → (names_cycle told ≡ true → IsOne (edges_of printed)) → SameButCycle IsOne printed told
but_cycle IsOne (Say.Decides decision (Some (For.Cycle edges)) forgets) told e one = to_cycle IsOne decision edges forgets told e one
but_cycle IsOne printed told e one =
    let none : names_cycle told ≡ false = sym (still_names told) ∙ sym (ap names_cycle e) in e ∙ unchanged told none

-- ---- what may be printed

when_due : (a b : Bool) → (a && not b) ≡ false → a ≡ true → b ≡ true
when_due true true e f = refl
when_due true false e f = cc
when_due false b e f = cc

may_print : (members : List Participant) (past : CoordPast) (x : CoordHappening) (event : CoordEvent) (printed : Answer)
    → compared_at event printed ≡ compared_at event x.answer → errs_at members past x event (edges_of printed) ≡ false
    → MayPrint members past x event printed
may_print members past x (Ev.Take site message) printed e none =
    but_cycle (IsRefusal members past x (message_tid message)) printed x.answer e
    (λ due. cycle_means (refused members (x ∷ past) (message_tid message) ∷ commits (records past)) (message_tid message) (edges_of printed)
    (when_due (names_cycle x.answer) (may_name members past x (message_tid message) (edges_of printed)) none due))
may_print members past x event printed e none = e

is_answer : (members : List Participant) (story : Story) (happened : Happened) (printed : Answer)
    → compared happened printed ≡ compared happened (answer_of happened) → errs members story happened (edges_of printed) ≡ false
    → IsAnswer members story happened printed
is_answer members story (AtSite site x) printed e none = e
is_answer members story (AtCoordinator x) printed e none = may_print members (coord_past story) x x.event printed e none
is_answer members story (Nowhere answer) printed e none = e

-- ---- without a fault it is the next one

none_when : (b : Bool) (what : What) (rest : Option What) → when b (Some what) rest ≡ None → (b ≡ false) × (rest ≡ None)
unfolding when
none_when true what rest e = cc
none_when false what rest e = (refl, e)

pub no_fault_means : (scenario : Scenario) (story : Story) (line : Line) → fault_of scenario story line ≡ None
    → (names_declared scenario line.command ≡ true) × IsNext scenario story line
unfolding fault_of fault_in
no_fault_means scenario story line e =
    let happened = (tell scenario story line.command).happened in
    let (declared, f) = none_when (not (names_declared scenario line.command)) Fails.Form _ e in
    let (answers, g) = none_when (not (same_answer (compared happened line.answer) (compared happened (answer_of happened)))) Fails.Answer _ f in
    let (places, h) = none_when (not (same_places line.sends (places_of story happened))) Fails.Places _ g in
    let (cycle, last) = none_when (errs (protocols scenario) story happened (edges_of line.answer)) Fails.Cycle None h in (
      not_false _ declared,
      record {
        answer = is_answer (protocols scenario) story happened line.answer (answers_alike _ _ (not_false _ answers)) cycle;
        sends = places_alike line.sends (places_of story happened) (not_false _ places);
      },
    )

-- ---- the next one is without a fault

same_compared : (IsOne : List Edge → Type 0) (printed told : Answer) → SameButCycle IsOne printed told
    → (without_edges printed ≡ without_edges told) × (names_cycle told ≡ true → IsOne (edges_of printed))
same_compared IsOne (Say.Decides decision (Some (For.Cycle edges)) forgets) (Say.Decides other (Some (For.Cycle others)) told) s =
    (ap (λ d. Say.Decides d (Some (For.Cycle [])) forgets) s.0 ∙ ap (λ f. Say.Decides other (Some (For.Cycle [])) f) s.1, λ e. s.2)
same_compared IsOne (Say.Decides decision (Some (For.Cycle edges)) forgets) told s = (ap without_edges s, λ e. cc)
same_compared IsOne printed told s = (ap without_edges s, λ e. (let clash : names_cycle printed ≡ true = ap names_cycle s ∙ e in cc))

not_due : (a b : Bool) → (a ≡ true → b ≡ true) → (a && not b) ≡ false
not_due true true h = refl
not_due true false h = (let e : false ≡ true = h refl in cc)
not_due false b h = refl

compared_event : (members : List Participant) (past : CoordPast) (x : CoordHappening) (event : CoordEvent) (printed : Answer)
    → MayPrint members past x event printed
    → (compared_at event printed ≡ compared_at event x.answer) × (errs_at members past x event (edges_of printed) ≡ false)
compared_event members past x (Ev.Take site message) printed m =
    let (same, one) = same_compared (IsRefusal members past x (message_tid message)) printed x.answer m in (
      same,
      not_due (names_cycle x.answer) (may_name members past x (message_tid message) (edges_of printed))
          (λ e. cycle_passes (refused members (x ∷ past) (message_tid message) ∷ commits (records past)) (message_tid message) (edges_of printed) (one e)),
    )
compared_event members past x event printed m = (m, refl)

pub compared_alike : (members : List Participant) (story : Story) (happened : Happened) (printed : Answer) → IsAnswer members story happened printed
    → (compared happened printed ≡ compared happened (answer_of happened)) × (errs members story happened (edges_of printed) ≡ false)
compared_alike members story (AtSite site x) printed m = (m, refl)
compared_alike members story (AtCoordinator x) printed m = compared_event members (coord_past story) x x.event printed m
compared_alike members story (Nowhere answer) printed m = (m, refl)

when_none : (b : Bool) (what : What) (rest : Option What) → b ≡ false → rest ≡ None → when b (Some what) rest ≡ None
unfolding when
when_none true what rest e f = cc
when_none false what rest e f = f

not_of : (b : Bool) → b ≡ true → not b ≡ false
not_of true e = refl
not_of false e = cc

-- the next line, of declared sites and actors, has no fault
pub next_has_none : (scenario : Scenario) (story : Story) (line : Line) → names_declared scenario line.command ≡ true → IsNext scenario story line
    → fault_of scenario story line ≡ None
unfolding fault_of fault_in
next_has_none scenario story line declared next =
    let happened = (tell scenario story line.command).happened in
    let (same, right) = compared_alike (protocols scenario) story happened line.answer next.answer in
    let answers : same_answer (compared happened line.answer) (compared happened (answer_of happened)) ≡ true =
    subst (λ a. same_answer (compared happened line.answer) a ≡ true) same (answers_self (compared happened line.answer)) in
    let places : same_places line.sends (places_of story happened) ≡ true =
    subst (λ ps. same_places line.sends ps ≡ true) next.sends (places_self line.sends) in
    when_none (not (names_declared scenario line.command)) Fails.Form _ (not_of _ declared)
    (when_none (not (same_answer (compared happened line.answer) (compared happened (answer_of happened)))) Fails.Answer _ (not_of _ answers)
    (when_none (not (same_places line.sends (places_of story happened))) Fails.Places _ (not_of _ places)
    (when_none (errs (protocols scenario) story happened (edges_of line.answer)) Fails.Cycle None right refl)))
