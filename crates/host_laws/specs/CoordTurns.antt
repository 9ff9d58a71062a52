-- What the lines of the coordinator's host make of the coordinator: each line with the envelope that it takes, the newest first.
use Rattle.std.specs.Prelude.{ℕ, ◌≡◌, ◌&&◌, Bool, false, cond, is_none, nat_lt, option_to_list, Option, Some, None, List, [], ◌∷◌, ◌++◌, length}
use Rattle.mdb_base.specs.declared.names.SiteId.{SiteId}
use Rattle.mdb_base.specs.declared.names.Tx.{Tx}
use Rattle.mdb_base.specs.Names.{same_site}
use Rattle.mdb_base.specs.Words.{found, how_many, map_some}
use Rattle.presumptions.specs.declared.Participant.{Participant}
use Rattle.fed_rules.specs.declared.answers.Answer.{Answer}
use Rattle.fed_rules.specs.declared.answers.Answer.TheVariants as Say
use Rattle.fed_rules.specs.declared.commands.Command.{Command}
use Rattle.fed_rules.specs.declared.commands.Command.TheVariants as Cmd
use Rattle.fed_rules.specs.declared.commands.Place.{Place}
use Rattle.fed_rules.specs.declared.commands.Stamped.{Stamped}
use Rattle.fed_rules.specs.declared.events.CoordEvent.{CoordEvent}
use Rattle.fed_rules.specs.declared.events.CoordEvent.TheVariants as Ev
use Rattle.fed_rules.specs.declared.messages.FromSite.{FromSite}
use Rattle.fed_rules.specs.declared.messages.Sent.{Sent}
use Rattle.fed_rules.specs.declared.messages.ToSite.{ToSite}
use Rattle.fed_rules.specs.CoordCommands.{attempt_request, fate_request, go_request}
use Rattle.fed_rules.specs.CoordPast.{CoordPast, trip}
use Rattle.fed_rules.specs.Requests.{Request, Submits, Declines}
use Rattle.fed_rules.specs.Right.{MayPrint}
use Rattle.fed_rules.specs.SitePast.{begins_tx}
use Rattle.fed_rules.specs.Site_of.{message_to}
use Rattle.fed_rules.specs.Terms.{Terms, line_of}
use Rattle.coord_tables.specs.Terms.{Terms, line_of}
use Rattle.fed_messages.specs.declared.Envelope.{Envelope}
use Rattle.fed_messages.specs.declared.Packet.{Packet}
use Rattle.host_laws.specs.CoordLines.{packets_to}
use Rattle.host_laws.specs.CoordPlans.{CoordPlan}
use Rattle.host_laws.specs.Turns.{is_trip}

-- a line, with the envelope that it takes
pub record CoordTurn : Type 0 where
  pub line : Stamped
  pub took : Option (Envelope FromSite)

-- what is taken of the envelope from this site
abbrev pub taken_from : SiteId → Option (Envelope FromSite) → Request CoordEvent
taken_from site None = Declines Say.None
taken_from site (Some envelope) = Submits (Ev.Take site envelope.message)

-- what the coordinator makes of a command of its host; a host has no other commands than these
abbrev pub coord_request : CoordPlan → CoordPast → Command → Option (Envelope FromSite) → Request CoordEvent
coord_request plan past (Cmd.Go tx) took = go_request plan.terms.protocols plan.terms.policy (plan.programs tx) past tx
coord_request plan past (Cmd.Fate tx) took = fate_request (plan.programs tx) tx
coord_request plan past (Cmd.Again tid) took = attempt_request past tid (Ev.Again tid)
coord_request plan past (Cmd.Late tid) took = attempt_request past tid (Ev.Late tid)
coord_request plan past (Cmd.Take site place) took = taken_from site took
coord_request plan past (Cmd.Trip actor calls cut) took = Submits (Ev.Trip calls cut)
coord_request plan past (Cmd.Back actor) took = Submits Ev.Back
coord_request plan past command took = Declines Say.None

-- what a request sends
abbrev pub coord_sends : Terms → CoordPast → Request CoordEvent → List Sent
coord_sends terms past (Submits event) = (line_of terms past event).sends
coord_sends terms past (Declines answer) = []

-- what may be answered to a request: of a refusal by a cycle another cycle may be named
abbrev pub MayAnswer : Terms → CoordPast → Request CoordEvent → Answer → Type 0
MayAnswer terms past (Submits event) answer = MayPrint terms.protocols past (line_of terms past event) (line_of terms past event).event answer
MayAnswer terms past (Declines declined) answer = answer ≡ declined

-- the past behind a request
abbrev pub coord_behind : Terms → CoordPast → Request CoordEvent → CoordPast
coord_behind terms past (Submits event) = line_of terms past event ∷ past
coord_behind terms past (Declines answer) = past

-- the past of the coordinator behind these lines: those that submit an event add what it makes happen, and the others change nothing
abbrev pub coord_past_of : CoordPlan → List CoordTurn → CoordPast
coord_past_of plan [] = []
coord_past_of plan (turn ∷ turns) = coord_behind plan.terms (coord_past_of plan turns) (coord_request plan (coord_past_of plan turns) turn.line.line.command turn.took)

-- what the newest line comes to
abbrev pub coord_request_at : CoordPlan → List CoordTurn → CoordTurn → Request CoordEvent
coord_request_at plan turns turn = coord_request plan (coord_past_of plan turns) turn.line.line.command turn.took

-- what it sends
abbrev pub coord_sends_at : CoordPlan → List CoordTurn → CoordTurn → List Sent
coord_sends_at plan turns turn = coord_sends plan.terms (coord_past_of plan turns) (coord_request_at plan turns turn)

-- the messages that were sent to a site, in the order of sending
abbrev pub sent_to : CoordPlan → SiteId → List CoordTurn → List ToSite
sent_to plan site [] = []
sent_to plan site (turn ∷ turns) = sent_to plan site turns ++ option_to_list (message_to site (coord_sends_at plan turns turn))

-- the same as packets: each with its number and the stamp of its line
abbrev pub offered_to : CoordPlan → SiteId → List CoordTurn → List Packet
offered_to plan site [] = []
offered_to plan site (turn ∷ turns) = offered_to plan site turns ++ packets_to (length (sent_to plan site turns)) turn.line.stamp (option_to_list (message_to site (coord_sends_at plan turns turn)))

-- the place that a message to the site gets, where one is sent
abbrev pub place_sent : CoordPlan → List CoordTurn → List Sent → SiteId → Option Place
place_sent plan turns sends site = map_some (λ message. record { site = site; place = length (sent_to plan site turns) }) (message_to site sends)

-- the places of what is sent, by rising site
abbrev pub places_sent : CoordPlan → List CoordTurn → List Sent → List Place
places_sent plan turns sends = found (λ (member : Participant). place_sent plan turns sends member.site) plan.terms.protocols

-- the envelope that a line takes from this site
abbrev pub from_site : SiteId → Command → Option (Envelope FromSite) → Option (Envelope FromSite)
from_site own (Cmd.Take site place) took = cond (same_site site own) took None
from_site own command took = None

-- the envelopes that lines took from this site, the newest first
abbrev pub took_from : SiteId → List CoordTurn → List (Envelope FromSite)
took_from site turns = found (λ (turn : CoordTurn). from_site site turn.line.line.command turn.took) turns

-- the last stamp, 0 before the first line
abbrev pub coord_last_stamp : List CoordTurn → ℕ
coord_last_stamp [] = 0
coord_last_stamp (turn ∷ turns) = turn.line.stamp

-- how many stops were armed
abbrev pub coord_trips_of : List CoordTurn → ℕ
coord_trips_of turns = how_many (λ (turn : CoordTurn). is_trip turn.line.line.command) turns

-- how many lines began an attempt of this transaction
abbrev pub coord_begun_in : Tx → List CoordTurn → ℕ
coord_begun_in tx turns = how_many (λ (turn : CoordTurn). begins_tx tx turn.line.line.answer) turns

-- whether the next line has to arm a stop: behind a line after which no trip is in force, where a stop is left
abbrev pub coord_is_due : CoordPlan → List CoordTurn → Bool
coord_is_due plan [] = false
coord_is_due plan (turn ∷ turns) = is_none (trip (coord_past_of plan (turn ∷ turns))) && nat_lt (coord_trips_of (turn ∷ turns)) (length plan.stops)
