-- The steps of closing, as what they add to the commands.
use Rattle.std.specs.Prelude.{ℕ, ◌≡◌, ◌<◌, ◌+◌, ◌^◌, Bool, true, false, not, Option, Some, None, List, [], ◌∷◌, ◌++◌, length, map}
use Rattle.mdb_base.specs.declared.names.SiteId.{SiteId}
use Rattle.mdb_base.specs.declared.names.Tid.{Tid}
use Rattle.mdb_base.specs.Words.{those}
use Rattle.fed_rules.specs.declared.commands.Command.{Command}
use Rattle.fed_rules.specs.declared.commands.Command.TheVariants as Cmd
use Rattle.fed_rules.specs.declared.commands.Place.{Place}
use Rattle.fed_rules.specs.declared.scenario.Scenario.{Scenario}
use Rattle.fed_rules.specs.Closing.{closed_in, deliver, for_each, in_doubt_at, inquire, last_sends, live, send_again}
use Rattle.fed_rules.specs.Scenarios.{home_of}
use Rattle.fed_rules.specs.Sessions.{Session}
use Rattle.fed_rules.specs.SitePast.{is_local}
use Rattle.fed_rules.specs.Story.{Story, past_of, story_in}
use Rattle.closing_laws.specs.AtRest.{AllUp, StaysUp}
use Rattle.fed_world.specs.Beginnings.{made_up}
use Rattle.closing.specs.declared.actors.SiteTids.{SiteTids}
use Rattle.closing.specs.Towards.{Fits}

-- the commands with these behind them, the first one first
abbrev pub with_commands : List Command → List Command → List Command
with_commands more commands = for_each (λ command commands. command ∷ commands) more commands

-- the numbers of them all fit
abbrev pub FitWith : List Command → Session → List Command → Type 0
FitWith more session commands = Fits session (with_commands more commands)

-- every actor is up, and the numbers of what a step makes of the commands fit
pub record MayStep (step : Session → List Command → List Command) (session : Session) (commands : List Command) : Type 0 where
  pub up : AllUp (story_in session commands)
  pub fits : Fits session (step session commands)

-- with the lines with which the session begins there are few enough commands that the numbers of those that close it fit: they are at most 1,638,418,
-- however long it was
abbrev pub CanClose : Session → List Command → Type 0
CanClose session commands = made_up session + length commands < 2 ^ 29

-- every actor is up from the second step of closing on, and the numbers of the commands that close the session fit
pub record MayClose (session : Session) (commands : List Command) : Type 0 where
  pub stays : StaysUp session commands
  pub fits : Fits session (closed_in session commands)

-- the command by which the message at this place is given
abbrev pub give_of : Place → Command
give_of place = Cmd.Give place.site place.place

-- and taken
abbrev pub take_of : Place → Command
take_of place = Cmd.Take place.site place.place

-- the item of a list that has one alone
abbrev pub only_of : {A : Type 0} → List A → Option A
only_of [] = None
only_of (x ∷ []) = Some x
only_of (x ∷ y ∷ xs) = None

-- what the coordinator just sent is given
abbrev pub last_sends_given : Session → List Command → List Command
last_sends_given session commands = for_each (λ place more. Cmd.Give place.site place.place ∷ more) (last_sends session commands) commands

-- the messages at these places are delivered
abbrev pub deliver_all : List Place → Session → List Command → List Command
deliver_all places session = for_each (deliver session) places

-- a site asks about each of these attempts
abbrev pub asks_about : SiteId → List Tid → Session → List Command → List Command
asks_about site tids session = for_each (inquire session site) tids

-- the commands of the first steps
abbrev pub disarm_of : ℕ → Command
disarm_of actor = Cmd.Trip actor 0 0

abbrev pub back_of : ℕ → Command
back_of actor = Cmd.Back actor

abbrev pub late_of : Tid → Command
late_of tid = Cmd.Late tid

-- each of these decisions is sent again
abbrev pub sent_for : List Tid → Session → List Command → List Command
sent_for tids session = for_each (send_again session) tids

-- each of these sites asks about its attempts
abbrev pub asks_all : List SiteTids → Session → List Command → List Command
asks_all sites session = for_each (λ at. for_each (inquire session at.site) at.tids.items) sites

-- the command that ends a local attempt, or another one
abbrev pub end_of : SiteId → Bool → Tid → Command
end_of site true tid = Cmd.Abort tid.tx
end_of site false tid = Cmd.Drop site tid

-- the commands that end those of a site's live attempts that are local, or those that aren't
abbrev pub ending_of : (Tid → Bool) → SiteId → Bool → List Tid → List Command
ending_of is_own site true tids = map (λ tid. Cmd.Abort tid.tx) (those is_own tids)
ending_of is_own site false tids = map (λ tid. Cmd.Drop site tid) (those (λ tid. not (is_own tid)) tids)

-- what a site does with its live attempts
abbrev pub clearing_at : Scenario → Story → SiteId → List Command
clearing_at scenario story site =
    ending_of (is_local (past_of site story)) site true (live scenario story site)
    ++ ending_of (is_local (past_of site story)) site false (live scenario story site)

-- and each of these sites
abbrev pub clearing_of : Scenario → Story → List SiteId → List Command
clearing_of scenario story [] = []
clearing_of scenario story (site ∷ sites) = clearing_at scenario story site ++ clearing_of scenario story sites

-- these are the attempts that each of the sites is in doubt of
abbrev pub AreDoubtful : Scenario → Story → List SiteId → List SiteTids → Type 0
AreDoubtful scenario story sites all =
    ◌≡◌ {A = List (SiteId × List Tid)} (map {B = SiteId × List Tid} (λ (at : SiteTids). (at.site, at.tids.items)) all)
    (map {B = SiteId × List Tid} (λ site. (site, in_doubt_at (home_of scenario site) story)) sites)
