-- Where a disk call failed within the event of a command: what holds of the actor's disk is what some stop within that event leaves.
use Rattle.std.proofs.Common.{◌≡◌, ℕ, Some, inl, inr}
use Rattle.fed_rules.specs.declared.commands.Command.{Command}
use Rattle.fed_rules.specs.declared.events.CoordEvent.{CoordEvent}
use Rattle.fed_rules.specs.declared.events.SiteEvent.{SiteEvent}
use Rattle.fed_rules.specs.declared.scenario.Scenario.{Scenario}
use Rattle.fed_rules.specs.CoordPast.{CoordPast}
use Rattle.fed_rules.specs.Requests.{Request, Submits, Declines}
use Rattle.fed_rules.specs.Scenarios.{global_program, home_of}
use Rattle.fed_rules.specs.SitePast.{SitePast}
use Rattle.fed_rules.specs.SiteRecords.{Home}
use Rattle.fed_rules.specs.Story.{Story, coord_past, coord_requested, happens, past_of, requested}
use Rattle.actor_store.specs.declared.errors.StepErr.TheVariants as Step_err
use Rattle.coord_core.specs.Stands.{stopped_before, stopped_within}
use Rattle.coord_tables.specs.Terms.{Terms}
use Rattle.global_manager.specs.Stands as Manager
use Rattle.local_dbms.specs.Stands as Dbms
use Rattle.local_dbms.specs.Stands.{OwnPrograms}
use Rattle.site_core.specs.Stands.{StopAt, stopped_past}
use Rattle.fed_world.specs.Asks.{terms_of}
use Rattle.outputs.specs.Stops.{CoordinatorStops, SiteStops}

-- what holds of the coordinator's disk wherever the coordinator stands for a past holds of what the failed call left
pub coord_stops : (K : Terms → OwnPrograms → CoordPast → Type 0) (M : CoordPast → Type 0) (scenario : Scenario) (story : Story) (command : Command) (asked : Request CoordEvent)
    → ((cut : ℕ) → K (terms_of scenario) (global_program scenario) (stopped_before (terms_of scenario) (coord_past story) cut) → M (stopped_before (terms_of scenario) (coord_past story) cut))
    → ((event : CoordEvent) (calls cut : ℕ) → K (terms_of scenario) (global_program scenario) (stopped_within (terms_of scenario) (coord_past story) event calls cut)
    → M (stopped_within (terms_of scenario) (coord_past story) event calls cut))
    → happens scenario story command ≡ coord_requested scenario story asked
    → Manager.Fails K Step_err.Disk (terms_of scenario) (global_program scenario) (coord_past story) asked → CoordinatorStops M command scenario story
coord_stops K M scenario story command (Declines answer) before within e f = absurd f
coord_stops K M scenario story command (Submits event) before within e (inl f) = record { event = event; happens = e; stop = inl (f.cut, before f.cut f.stood) }
coord_stops K M scenario story command (Submits event) before within e (inr f) =
    record { event = event; happens = e; stop = inr (f.calls, f.cut, f.stops, within event f.calls f.cut f.stood) }

-- and so of a site's
pub site_stops : (S : Home → OwnPrograms → SitePast → Type 0) (K : Home → SitePast → Type 0) (scenario : Scenario) (story : Story) (home : Home) (programs : OwnPrograms) (command : Command) (asked : Request SiteEvent) (number : ℕ)
    → ((event : SiteEvent) (at : StopAt) → S home programs (stopped_past home (past_of home.site story) event at) → K home (stopped_past home (past_of home.site story) event at))
    → number ≡ home.site.0 → home_of scenario home.site ≡ Some home → happens scenario story command ≡ requested home story asked
    → Dbms.Fails S Step_err.Disk home programs (past_of home.site story) asked → SiteStops number K command scenario story
site_stops S K scenario story home programs command (Declines answer) number held n declared e f = absurd f
site_stops S K scenario story home programs command (Submits event) number held n declared e f =
    record { home = home; declared = declared; number_is = n; event = event; happens = e; stop = (f.0, held event f.0 f.1, f.2) }
