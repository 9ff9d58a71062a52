-- What a session begins with in which each right line fits its command, and what holds behind its commands.
use Rattle.std.proofs.Common.{◌≡◌, ◌⊎◌, ◌<◌, true, None, Some, List, [], ◌∷◌, length, inl, refl, sym, subst, arith}
use Rattle.mdb_base.specs.declared.acts.Step.{Step}
use Rattle.mdb_base.specs.declared.names.SiteId.{SiteId}
use Rattle.mdb_base.specs.declared.names.Tid.{Tid}
use Rattle.mdb_base.specs.declared.names.Tx.{Tx}
use Rattle.mdb_base.specs.Words.{Each}
use Rattle.order_laws.specs.Chains.{In}
use Rattle.order_laws.proofs.ForCallers.{among_is, among_map, each_from}
use Rattle.presumptions.specs.declared.Participant.{Participant}
use Rattle.fed_rules.specs.declared.commands.Command.{Command}
use Rattle.fed_rules.specs.declared.scenario.Scenario.{Scenario}
use Rattle.fed_rules.specs.CoordPast as Coordinator
use Rattle.fed_rules.specs.CoordPast.{is_open}
use Rattle.fed_rules.specs.Plans.{AreSites, IsScenario}
use Rattle.fed_rules.specs.Scenarios.{global_program, home_of, local_site, program_of, protocols, sites}
use Rattle.fed_rules.specs.Sessions.{Session, fresh}
use Rattle.fed_rules.specs.SitePast.{trip}
use Rattle.fed_rules.specs.SiteRecords.{Home}
use Rattle.fed_rules.specs.Story.{coord_past, past_of, sent_from, story_in}
use Rattle.commit_laws.proofs.ForCallers.{CoordinatorFits, HasCalls, fresh_fits}
use Rattle.federation_laws.proofs.ForCallers.{global-declared, global_program-is, program_fits}
use Rattle.line_laws.proofs.Outstanding.{IsMember, Ready, visits_own}

-- ---- where sites are declared

pub member_of : (scenario : Scenario) (site : SiteId) → In site (sites scenario) → IsMember (protocols scenario) site
member_of scenario site i = among_is (λ (p : Participant). p.site ≡ site) (protocols scenario) (among_map (λ s. s ≡ site) (λ (p : Participant). p.site) (protocols scenario) i)

-- the program of a global transaction may begin
pub sited_program : (scenario : Scenario) → IsScenario scenario → (tx : Tx) (steps : List Step) → global_program scenario tx ≡ Some steps
    → Each (λ (step : Step). IsMember (protocols scenario) step.site) steps × ((step : Step) × In step steps)
sited_program scenario whole tx steps e =
    let parts = global_program-is scenario tx steps e in
    (each_from (λ (step : Step). IsMember (protocols scenario) step.site) steps (λ step i. there parts.1 step (subst (In step) (sym parts.0) i)), first steps (program_fits scenario tx steps whole e).some)
  where
    there : local_site scenario tx ≡ None → (step : Step) → In step (program_of scenario tx) → IsMember (protocols scenario) step.site
    there global step i =
        among_is (λ (p : Participant). p.site ≡ step.site) (protocols scenario) (global-declared scenario whole tx global step.site (visits_own (program_of scenario tx) step i))

    first : (ss : List Step) → 0 < length ss → (step : Step) × In step ss
    first [] some = absurd (omega (arith, some))
    first (step ∷ ss) some = (step, inl refl)

-- ---- what a session begins with

-- behind some commands each undecided attempt is ready, what is armed at an actor has calls left, and who sent is declared
pub record State (session : Session) (commands : List Command) : Type 0 where
  pub ready : (g : Tid) → is_open (coord_past (story_in session commands)) g ≡ true → Ready (protocols session.plan) (coord_past (story_in session commands)) g
  pub armed : HasCalls (Coordinator.trip (coord_past (story_in session commands)))
  pub site_armed : (home : Home) → home_of session.plan home.site ≡ Some home → HasCalls (trip (past_of home.site (story_in session commands)))
  pub senders : (site : SiteId) → (sent_from site (story_in session commands) ≡ []) ⊎ IsMember (protocols session.plan) site

-- its sites are in their range, each once, its global programs have a step and visit declared sites, the journal that its coordinator found fits, and so
-- it is before its first command
pub record Starts (session : Session) : Type 0 where
  pub sites : AreSites session.plan.sites
  pub programs : (tx : Tx) (steps : List Step) → global_program session.plan tx ≡ Some steps
      → Each (λ (step : Step). IsMember (protocols session.plan) step.site) steps × ((step : Step) × In step steps)
  pub fits : CoordinatorFits session
  pub first : State session []

-- one that begins with empty disks does
pub fresh_starts : (scenario : Scenario) → IsScenario scenario → Starts (fresh scenario)
fresh_starts scenario whole = record {
  sites = whole.sites;
  programs = sited_program scenario whole;
  fits = fresh_fits scenario;
  first = record { ready = λ g o. cc; armed = λ t e. cc; site_armed = λ home declared t e. cc; senders = λ site. inl refl };
}
