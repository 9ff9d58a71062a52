-- What the lines of a site's host make of its site: each line with the envelope that it takes, the newest first.
use Rattle.std.specs.Prelude.{ℕ, ◌&&◌, Bool, true, false, is_none, nat_lt, Option, Some, None, List, [], ◌∷◌, ◌++◌, length}
use Rattle.mdb_base.specs.declared.names.Tx.{Tx}
use Rattle.mdb_base.specs.Words.{how_many}
use Rattle.fed_rules.specs.declared.answers.Answer.TheVariants as Say
use Rattle.fed_rules.specs.declared.commands.Command.{Command}
use Rattle.fed_rules.specs.declared.commands.Command.TheVariants as Cmd
use Rattle.fed_rules.specs.declared.commands.Stamped.{Stamped}
use Rattle.fed_rules.specs.declared.events.SiteEvent.{SiteEvent}
use Rattle.fed_rules.specs.declared.events.SiteEvent.TheVariants as Ev
use Rattle.fed_rules.specs.declared.messages.FromSite.{FromSite}
use Rattle.fed_rules.specs.declared.messages.ToSite.{ToSite}
use Rattle.fed_rules.specs.Requests.{Request, Submits, Declines}
use Rattle.fed_rules.specs.Site.{site_line}
use Rattle.fed_rules.specs.SiteCommands as Rule
use Rattle.fed_rules.specs.SiteCommands.{own_request, past_behind}
use Rattle.fed_rules.specs.SitePast.{SitePast, begins_tx, trip}
use Rattle.fed_rules.specs.SiteRecords.{Home}
use Rattle.fed_messages.specs.declared.Envelope.{Envelope}
use Rattle.fed_messages.specs.declared.Packet.{Packet}
use Rattle.host_laws.specs.Lines.{packets_at}
use Rattle.host_laws.specs.Plans.{SitePlan}

-- a line, with the envelope that it takes
pub record SiteTurn : Type 0 where
  pub line : Stamped
  pub took : Option (Envelope ToSite)

-- what is given of the envelope that a line takes
abbrev pub giving : Option (Envelope ToSite) → Request SiteEvent
giving None = Declines Say.None
giving (Some envelope) = Submits (Ev.Give envelope.message)

-- what the site makes of a command of its host; a host has no other commands than these
abbrev pub request_of : SitePlan → SitePast → Command → Option (Envelope ToSite) → Request SiteEvent
request_of plan past (Cmd.Begin tx) took = own_request Rule.Begin plan.home (plan.programs tx) past tx
request_of plan past (Cmd.Step tx) took = own_request Rule.Step_on plan.home (plan.programs tx) past tx
request_of plan past (Cmd.Commit tx) took = own_request Rule.Commit plan.home (plan.programs tx) past tx
request_of plan past (Cmd.Abort tx) took = own_request Rule.Abort plan.home (plan.programs tx) past tx
request_of plan past (Cmd.Fate tx) took = own_request Rule.Fate plan.home (plan.programs tx) past tx
request_of plan past (Cmd.Give site place) took = giving took
request_of plan past (Cmd.Ask site tid) took = Submits (Ev.Ask tid)
request_of plan past (Cmd.Trip actor calls cut) took = Submits (Ev.Trip calls cut)
request_of plan past (Cmd.Back actor) took = Submits Ev.Back
request_of plan past command took = Declines Say.None

-- what a request sends
abbrev pub sends_of : Home → SitePast → Request SiteEvent → List FromSite
sends_of home past (Submits event) = (site_line home past event).sends
sends_of home past (Declines answer) = []

-- the past of the site behind these lines: those that submit an event add what it makes happen, and the others change nothing
abbrev pub past_of : SitePlan → List SiteTurn → SitePast
past_of plan [] = []
past_of plan (turn ∷ turns) = past_behind plan.home (past_of plan turns) (request_of plan (past_of plan turns) turn.line.line.command turn.took)

-- what the newest line comes to
abbrev pub request_at : SitePlan → List SiteTurn → SiteTurn → Request SiteEvent
request_at plan turns turn = request_of plan (past_of plan turns) turn.line.line.command turn.took

-- what it sends
abbrev pub sends_at : SitePlan → List SiteTurn → SiteTurn → List FromSite
sends_at plan turns turn = sends_of plan.home (past_of plan turns) (request_at plan turns turn)

-- the messages that were sent, in the order of sending
abbrev pub sent_by : SitePlan → List SiteTurn → List FromSite
sent_by plan [] = []
sent_by plan (turn ∷ turns) = sent_by plan turns ++ sends_at plan turns turn

-- the same as packets: each with its number and the stamp of its line
abbrev pub packets_by : SitePlan → List SiteTurn → List Packet
packets_by plan [] = []
packets_by plan (turn ∷ turns) = packets_by plan turns ++ packets_at (length (sent_by plan turns)) turn.line.stamp (sends_at plan turns turn)

-- the last stamp, 0 before the first line
abbrev pub last_stamp : List SiteTurn → ℕ
last_stamp [] = 0
last_stamp (turn ∷ turns) = turn.line.stamp

-- whether the command arms a stop
abbrev pub is_trip : Command → Bool
is_trip (Cmd.Trip actor calls cut) = true
is_trip command = false

abbrev pub is_arming : SiteTurn → Bool
is_arming turn = is_trip turn.line.line.command

-- how many stops were armed
abbrev pub trips_of : List SiteTurn → ℕ
trips_of turns = how_many is_arming turns

-- how many lines began an attempt of this transaction
abbrev pub begun_in : Tx → List SiteTurn → ℕ
begun_in tx turns = how_many (λ turn. begins_tx tx turn.line.line.answer) turns

-- whether the next line has to arm a stop: behind a line after which no trip is in force, where a stop is left
abbrev pub is_due : SitePlan → List SiteTurn → Bool
is_due plan [] = false
is_due plan (turn ∷ turns) = is_none (trip (past_of plan (turn ∷ turns))) && nat_lt (trips_of (turn ∷ turns)) (length plan.stops)
