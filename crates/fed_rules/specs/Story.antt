-- The story of a scenario and its commands: what each command makes happen, which messages were sent, and which line is printed.
-- The story is kept newest first. Any message that was sent may be taken at any time, any number of times, or never.
use Rattle.std.specs.Prelude.{ℕ, zero, suc, cond, Option, Some, None, List, [], ◌∷◌, ◌++◌, length, map}
use Rattle.mdb_base.specs.declared.names.SiteId.{SiteId}
use Rattle.mdb_base.specs.declared.names.Tid.{Tid}
use Rattle.mdb_base.specs.declared.names.Tx.{Tx}
use Rattle.mdb_base.specs.Names.{same_site}
use Rattle.mdb_base.specs.Words.{given, those, item_at}
use Rattle.fed_rules.specs.declared.answers.Answer.{Answer}
use Rattle.fed_rules.specs.declared.answers.Answer.TheVariants as Say
use Rattle.fed_rules.specs.declared.commands.Command.{Command}
use Rattle.fed_rules.specs.declared.commands.Command.TheVariants as Cmd
use Rattle.fed_rules.specs.declared.commands.Line.{Line}
use Rattle.fed_rules.specs.declared.commands.Place.{Place}
use Rattle.fed_rules.specs.declared.events.CoordEvent.{CoordEvent}
use Rattle.fed_rules.specs.declared.events.CoordEvent.TheVariants as Coord_event
use Rattle.fed_rules.specs.declared.events.SiteEvent.{SiteEvent}
use Rattle.fed_rules.specs.declared.events.SiteEvent.TheVariants as Site_event
use Rattle.fed_rules.specs.declared.messages.FromSite.{FromSite}
use Rattle.fed_rules.specs.declared.messages.ToSite.{ToSite}
use Rattle.fed_rules.specs.declared.scenario.Scenario.{Scenario}
use Rattle.fed_rules.specs.Coord.{coord_line}
use Rattle.fed_rules.specs.CoordCommands.{go_request, fate_request, attempt_request}
use Rattle.fed_rules.specs.CoordPast.{CoordHappening, CoordPast}
pub use Rattle.fed_rules.specs.Requests.{Request, Submits, Declines, most_attempts, unless_begun, attempt}
use Rattle.fed_rules.specs.Sessions.{Session, fresh}
use Rattle.fed_rules.specs.Scenarios.{home_of, local_home, global_program, program_of, policy, protocols}
use Rattle.fed_rules.specs.Site.{site_line}
pub use Rattle.fed_rules.specs.SiteCommands.{value_of, run_reads}
use Rattle.fed_rules.specs.SiteCommands.{Verb, Begin, Step_on, Commit, Abort, Fate, request}
use Rattle.fed_rules.specs.SitePast.{SiteHappening, SitePast}
use Rattle.fed_rules.specs.SiteRecords.{Home}
use Rattle.presumptions.specs.declared.Participant.{Participant}
use Rattle.fed_rules.specs.declared.records.CoordRecord.{CoordRecord}
use Rattle.fed_rules.specs.declared.records.SiteRecord.{SiteRecord}
use Rattle.fed_rules.specs.Found.{Journal}
use Rattle.fed_rules.specs.Reopened.{first_of, home_by, opened_coordinator, opened_site}

-- who makes a line: a site, the coordinator, or nobody, where no actor hears of the command
pub data Happened : Type 0 where
  AtSite : SiteId → SiteHappening → Happened
  AtCoordinator : CoordHappening → Happened
  Nowhere : Answer → Happened

-- a command, and what it made happen
pub record Told : Type 0 where
  pub command : Command
  pub happened : Happened

abbrev pub Story : Type 0
Story = List Told

abbrev pub with_site : SiteId → Happened → SitePast → SitePast
with_site site (AtSite at x) past = cond (same_site at site) (x ∷ past) past
with_site site (AtCoordinator x) past = past
with_site site (Nowhere answer) past = past

-- the past of a site
abbrev pub past_of : SiteId → Story → SitePast
past_of site [] = []
past_of site (told ∷ story) = with_site site told.happened (past_of site story)

abbrev pub with_coordinator : Happened → CoordPast → CoordPast
with_coordinator (AtSite at x) past = past
with_coordinator (AtCoordinator x) past = x ∷ past
with_coordinator (Nowhere answer) past = past

-- the past of the coordinator
abbrev pub coord_past : Story → CoordPast
coord_past [] = []
coord_past (told ∷ story) = with_coordinator told.happened (coord_past story)

-- what a line sends to a site
abbrev pub sends_to : SiteId → Happened → List ToSite
sends_to site (AtSite at x) = []
sends_to site (AtCoordinator x) = map (λ sent. sent.message) (those (λ sent. same_site sent.site site) x.sends)
sends_to site (Nowhere answer) = []

-- the messages sent to a site, in the order of sending
abbrev pub sent_to : SiteId → Story → List ToSite
sent_to site [] = []
sent_to site (told ∷ story) = sent_to site story ++ sends_to site told.happened

-- what a line sends from a site
abbrev pub sends_from : SiteId → Happened → List FromSite
sends_from site (AtSite at x) = cond (same_site at site) x.sends []
sends_from site (AtCoordinator x) = []
sends_from site (Nowhere answer) = []

-- the messages sent from a site, in the order of sending
abbrev pub sent_from : SiteId → Story → List FromSite
sent_from site [] = []
sent_from site (told ∷ story) = sent_from site story ++ sends_from site told.happened

-- the next event of a site
abbrev pub at_site : Home → Story → SiteEvent → Happened
at_site home story event = AtSite home.site (site_line home (past_of home.site story) event)

-- the next event of the coordinator
abbrev pub at_coordinator : Scenario → Story → CoordEvent → Happened
at_coordinator scenario story event = AtCoordinator (coord_line (protocols scenario) (policy scenario) (coord_past story) event)

-- what a request makes happen at a site
abbrev pub requested : Home → Story → Request SiteEvent → Happened
requested home story (Submits event) = at_site home story event
requested home story (Declines answer) = Nowhere answer

-- what a request makes happen at the coordinator
abbrev pub coord_requested : Scenario → Story → Request CoordEvent → Happened
coord_requested scenario story (Submits event) = at_coordinator scenario story event
coord_requested scenario story (Declines answer) = Nowhere answer

-- a command of a local transaction comes to its site; without one it comes to this
unfoldable pub on_local : Scenario → Story → Verb → Tx → Happened → Happened
on_local scenario story verb tx nowhere =
    given (local_home scenario tx)
    (λ home. requested home story (request verb home (program_of scenario tx) (past_of home.site story) tx))
    nowhere

-- a command of a global transaction
unfoldable pub on_go : Scenario → Story → Tx → Happened
on_go scenario story tx =
    coord_requested scenario story (go_request (protocols scenario) (policy scenario) (global_program scenario tx) (coord_past story) tx)

-- `fate`, of a local transaction at its site and of a global one at the coordinator
unfoldable pub on_fate : Scenario → Story → Tx → Happened
on_fate scenario story tx =
    on_local scenario story Fate tx (coord_requested scenario story (fate_request (global_program scenario tx) tx))

-- an event of the coordinator about an attempt that was begun
unfoldable pub on_attempt : Scenario → Story → Tid → CoordEvent → Happened
on_attempt scenario story tid event = coord_requested scenario story (attempt_request (coord_past story) tid event)

-- an event of a declared site
unfoldable pub on_site : Scenario → Story → SiteId → SiteEvent → Happened
on_site scenario story site event = given (home_of scenario site) (λ home. at_site home story event) (Nowhere Say.None)

-- `give`: the site takes a message that was sent to it
unfoldable pub on_give : Scenario → Story → SiteId → ℕ → Happened
on_give scenario story site place =
    given (item_at (sent_to site story) place) (λ message. on_site scenario story site (Site_event.Give message)) (Nowhere Say.None)

-- `take`: the coordinator takes a message that was sent from the site
unfoldable pub on_take : Scenario → Story → SiteId → ℕ → Happened
on_take scenario story site place =
    given (item_at (sent_from site story) place)
    (λ message. at_coordinator scenario story (Coord_event.Take site message))
    (Nowhere Say.None)

-- an event of an actor: the coordinator is actor 0
unfoldable pub on_actor : Scenario → Story → ℕ → CoordEvent → SiteEvent → Happened
on_actor scenario story zero at_coord at_site = at_coordinator scenario story at_coord
on_actor scenario story (suc n) at_coord at_site = on_site scenario story (record { 0 = suc n }) at_site

-- what a command makes happen
unfoldable pub happens : Scenario → Story → Command → Happened
happens scenario story (Cmd.Begin tx) = on_local scenario story Begin tx (Nowhere Say.None)
happens scenario story (Cmd.Step tx) = on_local scenario story Step_on tx (Nowhere Say.None)
happens scenario story (Cmd.Commit tx) = on_local scenario story Commit tx (Nowhere Say.None)
happens scenario story (Cmd.Abort tx) = on_local scenario story Abort tx (Nowhere Say.None)
happens scenario story (Cmd.Fate tx) = on_fate scenario story tx
happens scenario story (Cmd.Go tx) = on_go scenario story tx
happens scenario story (Cmd.Again tid) = on_attempt scenario story tid (Coord_event.Again tid)
happens scenario story (Cmd.Late tid) = on_attempt scenario story tid (Coord_event.Late tid)
happens scenario story (Cmd.Give site place) = on_give scenario story site place
happens scenario story (Cmd.Take site place) = on_take scenario story site place
happens scenario story (Cmd.Ask site tid) = on_site scenario story site (Site_event.Ask tid)
happens scenario story (Cmd.Drop site tid) = on_site scenario story site (Site_event.Drop tid)
happens scenario story (Cmd.Halt actor cut) = on_actor scenario story actor (Coord_event.Halt cut) (Site_event.Halt cut)
happens scenario story (Cmd.Trip actor calls cut) =
    on_actor scenario story actor (Coord_event.Trip calls cut) (Site_event.Trip calls cut)
happens scenario story (Cmd.Back actor) = on_actor scenario story actor Coord_event.Back Site_event.Back
happens scenario story (Cmd.Check actor) = on_actor scenario story actor Coord_event.Check Site_event.Check

abbrev pub tell : Scenario → Story → Command → Told
tell scenario story command = record { command = command; happened = happens scenario story command }

-- lines that no command made
abbrev pub untold : Happened → Told
untold happened = record { command = Cmd.Back 0; happened = happened }

abbrev pub found_site : Option Home → Journal SiteRecord → Story → Story
found_site None journal story = story
found_site (Some home) journal story = map (λ x. untold (AtSite home.site x)) (opened_site journal) ++ story

abbrev pub home_found : Option SiteRecord → Option Home
home_found None = None
home_found (Some first) = home_by first

-- the pasts of the sites whose journals are found
abbrev pub found_sites : List (Journal SiteRecord) → Story
found_sites [] = []
found_sites (journal ∷ journals) = found_site (home_found (first_of journal.records)) journal (found_sites journals)

abbrev pub found_coordinator : List Participant → Option (Journal CoordRecord) → Story → Story
found_coordinator protocols None story = story
found_coordinator protocols (Some journal) story = map (λ x. untold (AtCoordinator x)) (opened_coordinator protocols journal) ++ story

-- what a session begins with: nothing, or where it goes on from disks the pasts that their journals stand for
abbrev pub first_story : Session → Story
first_story session = found_coordinator (protocols session.plan) session.found.coordinator (found_sites session.found.sites)

-- the story of these commands, the last one first
abbrev pub story_in : Session → List Command → Story
story_in session [] = first_story session
story_in session (command ∷ commands) = tell session.plan (story_in session commands) command ∷ story_in session commands

-- and of a session that begins with empty disks
abbrev pub story_of : Scenario → List Command → Story
story_of scenario commands = story_in (fresh scenario) commands

abbrev pub answer_of : Happened → Answer
answer_of (AtSite site x) = x.answer
answer_of (AtCoordinator x) = x.answer
answer_of (Nowhere answer) = answer

-- the place that a site's message gets, if the line sends one
abbrev pub place_from : SiteId → ℕ → List FromSite → List Place
place_from site sent [] = []
place_from site sent (message ∷ messages) = record { site = site; place = sent } ∷ []

-- the places of what a line sends: each message is numbered in its channel
abbrev pub places_of : Story → Happened → List Place
places_of story (AtSite site x) = place_from site (length (sent_from site story)) x.sends
places_of story (AtCoordinator x) = map (λ sent. record { site = sent.site; place = length (sent_to sent.site story) }) x.sends
places_of story (Nowhere answer) = []

-- the line of what was told last
abbrev pub line_of : Story → Told → Line
line_of story told = record { command = told.command; answer = answer_of told.happened; sends = places_of story told.happened }

-- the lines of a story, the last one first
abbrev pub lines_of : Story → List Line
lines_of [] = []
lines_of (told ∷ story) = line_of story told ∷ lines_of story
