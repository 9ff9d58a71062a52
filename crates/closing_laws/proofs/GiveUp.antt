-- The third step: each attempt that is known without a decision is given up.
use Rattle.std.proofs.Common.{◌≡◌, Bool, true, false, List, [], ◌∷◌, inl, inr, refl, subst}
use Rattle.mdb_base.specs.declared.names.Tid.{Tid}
use Rattle.order_laws.specs.Chains.{In}
use Rattle.order_laws.proofs.ForCallers.{in_those}
use Rattle.fed_rules.specs.declared.commands.Command.{Command}
use Rattle.fed_rules.specs.declared.commands.Command.TheVariants as Cmd
use Rattle.fed_rules.specs.declared.scenario.Scenario.{Scenario}
use Rattle.fed_rules.specs.Closing.{for_each, undecided, give_up}
use Rattle.fed_rules.specs.CoordPast.{standing, begun_tids, is_open, known_decision}
use Rattle.fed_rules.specs.Sessions.{Session}
use Rattle.fed_rules.specs.Story.{Story, coord_past, happens, story_in}
use Rattle.commit_laws.proofs.ForCallers.{CoordinatorFits, member_of, nowhere, session_sound}
use Rattle.fed_rules.proofs.ForCallers.{rising_in}
use Rattle.closing_laws.proofs.CoordTurns.{gentle_late, late_decides}
use Rattle.coord_laws.proofs.ForCallers.{begun_in, is_undecided}
use Rattle.closing_laws.proofs.Onward.{IsCalm, Onward, onward_here, onward_on, onward_next}
use Rattle.fed_rules.specs.Scenarios.{protocols}
use Rattle.closing_laws.proofs.Calm.{undecided_open}

-- the attempt is known without a decision
abbrev undecided_in : Scenario → Story → Tid → Bool
undecided_in scenario story tid = is_undecided (standing (protocols scenario) (coord_past story) tid)

record GivesUp (scenario : Scenario) (tids : List Tid) (before now : Story) : Type 0 where
  onward : Onward scenario before now
  decided : (tid : Tid) → In tid tids → undecided_in scenario now tid ≡ false

gives_up : (session : Session) (fits : CoordinatorFits session) (tids : List Tid) (commands : List Command) → IsCalm (story_in session commands)
    → GivesUp session.plan tids (story_in session commands) (story_in session (for_each (λ tid more. Cmd.Late tid ∷ more) tids commands))
gives_up session fits [] commands c = record { onward = onward_here session.plan (story_in session commands) c; decided = λ tid i. absurd i }
gives_up session fits (tid ∷ tids) commands c =
    let story = story_in session commands in
    let first = onward_next session.plan story (Cmd.Late tid) (happens session.plan story (Cmd.Late tid)) c (gentle_late session fits commands tid c) in
    let rest = gives_up session fits tids (Cmd.Late tid ∷ commands) first.calm in
    record {
      onward = onward_on session.plan story (story_in session (Cmd.Late tid ∷ commands)) _ first rest.onward;
      decided = λ other i. elim i [
        | inl e ↦ rest.onward.decided other (subst (λ t. undecided_in session.plan (story_in session (Cmd.Late tid ∷ commands)) t ≡ false) e (late_decides session fits commands tid c))
        | inr j ↦ rest.decided other j
      ];
    }

-- behind it nothing is undecided
pub record IsDecided (scenario : Scenario) (before now : Story) : Type 0 where
  pub onward : Onward scenario before now
  pub decided : (tid : Tid) → is_undecided (standing (protocols scenario) (coord_past now) tid) ≡ false

pub given_up : (session : Session) (fits : CoordinatorFits session) (commands : List Command) → IsCalm (story_in session commands) → IsDecided session.plan (story_in session commands) (story_in session (give_up session commands))
given_up session fits commands c = record { onward = all.onward; decided = λ tid. by_test tid (undecided_in session.plan (story_in session commands) tid) refl }
  where
    all : GivesUp session.plan (undecided (story_in session commands)) (story_in session commands) (story_in session (give_up session commands))
    all = gives_up session fits (undecided (story_in session commands)) commands c

    by_test : (tid : Tid) (b : Bool) → undecided_in session.plan (story_in session commands) tid ≡ b → undecided_in session.plan (story_in session (give_up session commands)) tid ≡ false
    by_test tid false e = all.onward.decided tid e
    by_test tid true e =
        all.decided tid (rising_in _ tid (in_those (is_open (coord_past (story_in session commands))) tid (begun_tids (coord_past (story_in session commands)))
        (begun_in (coord_past (story_in session commands)) tid ((session_sound session fits (member_of nowhere) tid commands).undecided e))
        (undecided_open (is_open (coord_past (story_in session commands)) tid) (known_decision (protocols session.plan) (coord_past (story_in session commands)) tid) e)))
