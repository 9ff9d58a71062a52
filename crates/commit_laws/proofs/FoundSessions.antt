-- The coordinator of a session that goes on from the disks that it finds: its past is one that events make of what its journal stands for, so that every
-- law of a coordinator holds of it.
use Rattle.std.proofs.Common.{◌≡◌, Option, Some, None, List, [], ◌∷◌, ◌++◌, map, refl, sym, ap, ◌∙◌, subst, inl, inr}
use Rattle.mdb_base.specs.declared.names.SiteId.{SiteId}
use Rattle.mdb_base.specs.declared.names.Tid.{Tid}
use Rattle.mdb_base.proofs.ForCallers.{append_nil}
use Rattle.presumptions.specs.declared.Participant.{Participant}
use Rattle.fed_rules.specs.declared.commands.Command.{Command}
use Rattle.fed_rules.specs.declared.records.CoordRecord.{CoordRecord}
use Rattle.fed_rules.specs.declared.records.SiteRecord.{SiteRecord}
use Rattle.fed_rules.specs.declared.scenario.Scenario.{Scenario}
use Rattle.fed_rules.specs.CoordPast.{CoordPast}
use Rattle.fed_rules.specs.Found.{Journal}
use Rattle.fed_rules.specs.Reopened.{first_of, opened_coordinator, opened_site}
use Rattle.fed_rules.specs.Scenarios.{policy, protocols}
use Rattle.fed_rules.specs.Sessions.{Session, fresh}
use Rattle.fed_rules.specs.SitePast.{SitePast}
use Rattle.fed_rules.specs.SiteRecords.{Home}
use Rattle.fed_rules.specs.Story.{AtCoordinator, AtSite, Happened, Nowhere, Story, coord_past, found_coordinator, found_site, found_sites, happens, home_found, story_in, untold, with_coordinator}
use Rattle.coord_laws.specs.Pasts.{IsGoingOn, IsOpened}
use Rattle.coord_laws.proofs.ForCallers.{CoordSound, past_sound}
use Rattle.commit_laws.proofs.Links.{Linked, linked, numbered}

-- lines of the coordinator are its past, and lines of a site are none of it
pub of_coordinator : (past : CoordPast) (story : Story) → coord_past (map (λ x. untold (AtCoordinator x)) past ++ story) ≡ past ++ coord_past story
of_coordinator [] story = refl
of_coordinator (x ∷ past) story = ap (λ p. x ∷ p) (of_coordinator past story)

pub of_site : (site : SiteId) (past : SitePast) (story : Story) → coord_past (map (λ x. untold (AtSite site x)) past ++ story) ≡ coord_past story
of_site site [] story = refl
of_site site (x ∷ past) story = of_site site past story

pub of_sites : (journals : List (Journal SiteRecord)) → coord_past (found_sites journals) ≡ []
of_sites [] = refl
of_sites (journal ∷ journals) = by_home (home_found (first_of journal.records)) ∙ of_sites journals
  where
    by_home : (o : Option Home) → coord_past (found_site o journal (found_sites journals)) ≡ coord_past (found_sites journals)
    by_home None = refl
    by_home (Some home) = of_site home.site (opened_site journal) (found_sites journals)

-- the journal that is found names declared participants, no attempt committed twice, and its tickets close no cycle
abbrev pub CoordinatorFits : Session → Type 0
CoordinatorFits session =
    (journal : Journal CoordRecord) → session.found.coordinator ≡ Some journal → IsOpened (protocols session.plan) (opened_coordinator (protocols session.plan) journal)

-- nothing is found where a session begins with empty disks
pub fresh_fits : (scenario : Scenario) → CoordinatorFits (fresh scenario)
fresh_fits scenario journal found = cc

pub session_goes_on : (session : Session) → CoordinatorFits session → (commands : List Command)
    → IsGoingOn (protocols session.plan) (policy session.plan) (coord_past (story_in session commands))
session_goes_on session fits [] = by_found session.found.coordinator refl
  where
    by_found : (o : Option (Journal CoordRecord)) → session.found.coordinator ≡ o
        → IsGoingOn (protocols session.plan) (policy session.plan) (coord_past (found_coordinator (protocols session.plan) o (found_sites session.found.sites)))
    by_found None e = subst (IsGoingOn (protocols session.plan) (policy session.plan)) (sym (of_sites session.found.sites)) tt
    by_found (Some journal) e =
        let opened = opened_coordinator (protocols session.plan) journal in
        let past : coord_past (found_coordinator (protocols session.plan) (Some journal) (found_sites session.found.sites)) ≡ opened =
        of_coordinator opened (found_sites session.found.sites) ∙ ap (λ p. opened ++ p) (of_sites session.found.sites) ∙ append_nil opened in
        subst (IsGoingOn (protocols session.plan) (policy session.plan)) (sym past) (inl (fits journal e))
session_goes_on session fits (command ∷ commands) =
    more (happens session.plan (story_in session commands) command) (linked session.plan (story_in session commands) command) (session_goes_on session fits commands)
  where
    more : (happened : Happened) → Linked session.plan (story_in session commands) happened
        → IsGoingOn (protocols session.plan) (policy session.plan) (coord_past (story_in session commands))
        → IsGoingOn (protocols session.plan) (policy session.plan) (with_coordinator happened (coord_past (story_in session commands)))
    more (Nowhere answer) l m = m
    more (AtSite at x) l m = m
    more (AtCoordinator x) l m =
        inr (record { event = l.next.0; is = l.next.1; numbered = numbered session.plan (story_in session commands) l.next.0 l.next.2 }, m)

-- so all that is known of one attempt in every coordinator's past is known in it
pub session_sound : (session : Session) → CoordinatorFits session → (member : Participant) (g : Tid) (commands : List Command)
    → CoordSound (protocols session.plan) member g (coord_past (story_in session commands))
session_sound session fits member g commands =
    past_sound (protocols session.plan) (policy session.plan) member g (coord_past (story_in session commands)) (session_goes_on session fits commands)
