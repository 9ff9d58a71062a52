-- In a session without transactions that goes on from the disks that it finds nobody is ever undecided, so no outcome changes, whatever commands come.
use Rattle.std.proofs.Common.{◌≡◌, List, [], ◌∷◌, refl, sym, subst, ◌∙◌}
use Rattle.mdb_base.specs.declared.names.Tid.{Tid}
use Rattle.fed_rules.specs.declared.commands.Command.{Command}
use Rattle.fed_rules.specs.Coord.{coord_line}
use Rattle.fed_rules.specs.CoordPast.{CoordHappening, CoordPast, records}
use Rattle.fed_rules.specs.CoordRecords.{outcome}
use Rattle.fed_rules.specs.Scenarios.{policy, protocols}
use Rattle.fed_rules.specs.Sessions.{Session}
use Rattle.fed_rules.specs.Story.{AtCoordinator, AtSite, Happened, Nowhere, Story, coord_past, happens, story_in, with_coordinator}
use Rattle.coord_laws.proofs.ForCallers.{CoordSound, Turn, any_member, coord_lines, coord_made, same_outcome}
use Rattle.commit_laws.proofs.ForCallers.{CoordinatorFits, IsNext, linked, numbered, session_sound}
use Rattle.found_laws.proofs.CoordGentle.{NobodyIsOpen, closed_standing, still_nobody}
use Rattle.found_laws.proofs.Idle.{IsIdle, begins_nothing}

pub record Stays (g : Tid) (first now : CoordPast) : Type 0 where
  pub nobody : NobodyIsOpen now
  pub same : outcome (records now) g ≡ outcome (records first) g

module _ (session : Session) (fits : CoordinatorFits session) (idle : IsIdle session.plan) (g : Tid) where
  stays_next : (first : CoordPast) (story : Story) (happened : Happened) → CoordSound (protocols session.plan) any_member g (coord_past story)
      → IsNext session.plan story happened → Stays g first (coord_past story) → Stays g first (with_coordinator happened (coord_past story))
  stays_next first story (Nowhere answer) sound next s = s
  stays_next first story (AtSite at x) sound next s = s
  stays_next first story (AtCoordinator x) sound (event, is, came) s =
      subst (λ y. Stays g first (y ∷ coord_past story)) (sym is) (record {
        nobody = still_nobody (protocols session.plan) (coord_past story) event line (coord_made (protocols session.plan) (policy session.plan) (coord_past story) event)
            (begins_nothing session.plan story event idle came) s.nobody;
        same = same_outcome (protocols session.plan) any_member g (coord_past story) event line turn (closed_standing (protocols session.plan) (coord_past story) g (s.nobody g)) ∙ s.same;
      })
    where
      line : CoordHappening
      line = coord_line (protocols session.plan) (policy session.plan) (coord_past story) event

      turn : Turn (protocols session.plan) any_member g (coord_past story) event (coord_line (protocols session.plan) (policy session.plan) (coord_past story) event)
      turn = record {
        sound = sound;
        line = coord_lines (protocols session.plan) (policy session.plan) g (coord_past story) event sound.firm;
        numbered = numbered session.plan story event came;
      }

  pub outcomes_on : NobodyIsOpen (coord_past (story_in session [])) → (commands : List Command)
      → Stays g (coord_past (story_in session [])) (coord_past (story_in session commands))
  outcomes_on none [] = record { nobody = none; same = refl }
  outcomes_on none (command ∷ commands) =
      stays_next (coord_past (story_in session [])) (story_in session commands) (happens session.plan (story_in session commands) command)
      (session_sound session fits any_member g commands) (linked session.plan (story_in session commands) command).next (outcomes_on none commands)
