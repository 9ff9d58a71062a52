-- A coordinator that forgets a commit at once answers otherwise than its next line would.
use Rattle.std.proofs.Common.{◌≡◌, true, false, None, List, [], ◌∷◌, reverse, refl, sym, ap, ◌∙◌}
use Rattle.mdb_base.specs.declared.names.Engine.TheVariants.{Locking}
use Rattle.presumptions.specs.declared.Decision.TheVariants as Decided
use Rattle.presumptions.specs.declared.Participant.{Participant}
use Rattle.presumptions.specs.declared.Protocol.TheVariants as By
use Rattle.fed_rules.specs.declared.answers.Answer.{Answer}
use Rattle.fed_rules.specs.declared.answers.Answer.TheVariants as Say
use Rattle.fed_rules.specs.declared.commands.Command.{Command}
use Rattle.fed_rules.specs.declared.events.CoordEvent.{CoordEvent}
use Rattle.fed_rules.specs.declared.scenario.Scenario.{Scenario}
use Rattle.fed_rules.specs.Coord.{coord_line}
use Rattle.fed_rules.specs.CoordPast.{CoordHappening, CoordPast}
use Rattle.fed_rules.specs.Policies.{Policy}
use Rattle.fed_rules.specs.Scenarios.{policy, protocols}
use Rattle.fed_rules.specs.Story.{coord_past}
use Rattle.fed_rules.proofs.ForCallers.{give, global, go, opened, scenario_of, set, site, step_at, take}
use Rattle.coord_laws.specs.Pasts.{IsMadeByEvents}
use Rattle.coord_laws.proofs.ForCallers.{coord_made}
use Rattle.commit_laws.specs.WrongRules.{story_by, commits_forgotten_at_once}
use Rattle.refuted_rules.specs.Coordinators.{IsMadeByNoEvents}

-- the last answer, and the one that the rules give to its event
abbrev given : CoordPast → Answer
given [] = Say.None
given (x ∷ past) = x.answer

abbrev wanted : List Participant → Policy → CoordPast → Answer
wanted protocols policy [] = Say.None
wanted protocols policy (x ∷ past) = (coord_line protocols policy past x.event).answer

-- where events make the past, they are the same
answered_so : (protocols : List Participant) (policy : Policy) (past : CoordPast) → IsMadeByEvents protocols policy past
    → given past ≡ wanted protocols policy past
answered_so protocols policy [] made = refl
answered_so protocols policy (x ∷ past) (event, is, numbered, made) =
    let same : x.event ≡ event = ap (λ (y : CoordHappening). y.event) is ∙ (coord_made protocols policy past event).heard in
    ap (λ (y : CoordHappening). y.answer) is ∙ ap (λ (e : CoordEvent). (coord_line protocols policy past e).answer) (sym same)

abbrev one_site : Scenario
one_site = scenario_of (site 1 Locking By.Nothing ∷ []) [] (global 1 (step_at 1 (set 1 11) ∷ []) ∷ [])

abbrev decided : List Command
decided = reverse (go 1 ∷ give 1 0 ∷ take 1 0 ∷ give 1 1 ∷ take 1 1 ∷ give 1 2 ∷ take 1 2 ∷ [])

abbrev past : CoordPast
past = coord_past (story_by commits_forgotten_at_once one_site decided)

forgets : given past ≡ Say.Decides Decided.Commit None true
unfolding opened
forgets = refl

remembers : wanted (protocols one_site) (policy one_site) past ≡ Say.Decides Decided.Commit None false
unfolding opened
remembers = refl

pub unmade : IsMadeByNoEvents commits_forgotten_at_once
unmade =
    record {
      scenario = one_site;
      commands = decided;
      broken = λ made. (let no : Say.Decides Decided.Commit None true ≡ Say.Decides Decided.Commit None false = sym forgets ∙ (answered_so (protocols one_site) (policy one_site) past made ∙ remembers) in cc);
    }
