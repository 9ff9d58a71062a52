-- The sites of a story in their seats.
use Rattle.std.specs.Prelude.{ℕ, ◌≡◌, ◌≤◌, Some, List, length, slice_get}
use Rattle.mdb_base.specs.declared.names.SiteId.{SiteId}
use Rattle.fed_rules.specs.Scenarios.{home_of, sites}
use Rattle.fed_rules.specs.Sessions.{Session}
use Rattle.fed_rules.specs.SitePast.{SitePast}
use Rattle.fed_rules.specs.SiteRecords.{Home}
use Rattle.fed_rules.specs.Story.{Story, past_of, sent_from, sent_to}
use Rattle.any_engine.specs.declared.engine.AnyEngine.{AnyEngine}
use Rattle.local_dbms.specs.declared.dbms.LocalDbms.{LocalDbms}
use Rattle.local_dbms.specs.Stands.{OwnPrograms}
use Rattle.session_report.specs.declared.marks.Marks.{Marks}
use Rattle.session_routes.specs.declared.traffic.Traffic.{Traffic}
use Rattle.fed_world.specs.Beginnings.{first_marks, programs_at}
use Rattle.fed_world.specs.SeatParts.{PartAt}

-- a fact on the local database system of a site
abbrev pub OfDbms : Type 1
OfDbms = LocalDbms AnyEngine → Home → OwnPrograms → SitePast → Type 0

-- the declared site at this place
pub record SiteAt (K : OfDbms) (dbms : LocalDbms AnyEngine) (marks : Marks) (traffic : Traffic) (session : Session) (site : SiteId) (story : Story) : Type 0 where
  pub home : Home
  pub is : home.site ≡ site
  pub declared : home_of session.plan site ≡ Some home
  pub part : PartAt (K dbms) marks traffic home (programs_at session site) (past_of site story) (first_marks session home) (sent_to site story) (sent_from site story)

-- there is a local database system with its marks and its messages for each declared site, by rising site
pub record SitesAt (K : OfDbms) (cores : List (LocalDbms AnyEngine)) (marks : List Marks) (channels : List Traffic) (session : Session) (story : Story) : Type 0 where
  pub all_cores : length cores ≡ length (sites session.plan)
  pub all_marks : length marks ≡ length (sites session.plan)
  pub all_channels : length channels ≡ length (sites session.plan)
  pub each : (place : ℕ) (site : SiteId) (dbms : LocalDbms AnyEngine) (own : Marks) (traffic : Traffic) → slice_get (sites session.plan) place ≡ Some site
      → slice_get cores place ≡ Some dbms → slice_get marks place ≡ Some own → slice_get channels place ≡ Some traffic → SiteAt K dbms own traffic session site story

-- to and from each site were sent at most so many messages
pub record AreFew (story : Story) (most : ℕ) : Type 0 where
  pub to : (site : SiteId) → length (sent_to site story) ≤ most
  pub from : (site : SiteId) → length (sent_from site story) ≤ most
