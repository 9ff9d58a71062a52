-- What a site's host keeps.
use Rattle.std.specs.Prelude.{◌≡◌, ◌+◌, ◌*◌, ◌<◌, ◌≤◌, ◌^◌, ◌++◌, [], ◌∷◌, Bool, true, false, ℕ, Option, Some, None, List, length, map, reverse, option_map, slice_get}
use Rattle.mdb_base.specs.declared.names.Tx.{Tx}
use Rattle.mdb_base.specs.Counts.{HasRisen}
use Rattle.mdb_base.specs.Words.{Each, found}
use Rattle.fed_rules.specs.declared.commands.Command.{Command}
use Rattle.fed_rules.specs.declared.events.SiteEvent.{SiteEvent}
use Rattle.fed_rules.specs.declared.messages.ToSite.{ToSite}
use Rattle.fed_rules.specs.declared.scenario.StopLine.{StopLine}
use Rattle.fed_rules.specs.OwnPrograms.{OwnPrograms}
use Rattle.fed_rules.specs.Requests.{Submits}
use Rattle.fed_rules.specs.Runs.{Start, EngineLine}
use Rattle.fed_rules.specs.SitePast.{SitePast, attempts_of}
use Rattle.fed_messages.specs.declared.Envelope.{Envelope}
use Rattle.fed_messages.specs.declared.Packet.{Packet}
use Rattle.journal_disk.specs.Disk.{Seen}
use Rattle.held_disks.specs.Stops.{SiteStopsWithin}
use Rattle.local_dbms.specs.Stands.{Stands}
use Rattle.scripted_link.specs.Inlets.{inlet_ring, returned, taken}
use Rattle.scripted_link.specs.Outlets.{HasMovedOn, offered, outlet_wire}
use Rattle.scripted_link.specs.Rings.{Wire}
use Rattle.fed_hosts.specs.declared.ends.HostEnds.{HostEnds}
use Rattle.fed_hosts.specs.declared.site_actor.SiteActor.{SiteActor}
use Rattle.host_laws.specs.Hearing.{Bears, HasHeard}
use Rattle.host_laws.specs.History.{IsCommand, IsHistory}
use Rattle.host_laws.specs.Plans.{SitePlan, most_lines}
use Rattle.host_laws.specs.Turns.{SiteTurn, begun_in, is_due, last_stamp, packets_by, past_of, request_of, sent_by, trips_of}

-- how many attempts of a transaction it begins at most
abbrev pub most_begun : ℕ
most_begun = 31

-- a scripted stop of a site
pub record IsStop (site : ℕ) (stop : StopLine) : Type 0 where
  pub actor : stop.actor ≡ site
  pub calls : 1 ≤ stop.calls

-- the plan is the one of the site that the ends are of, and its rings are those of the ends: first the one to the site, then the one from it
pub record IsPlanned (sites : List SitePlan) (rings : List Wire) (plan : SitePlan) (ends : HostEnds) : Type 0 where
  pub place : ℕ
  pub at : slice_get sites place ≡ Some plan
  pub site : ends.site ≡ plan.home.site
  pub to : option_map (λ (wire : Wire). wire.ring) (slice_get rings (2 * place)) ≡ Some (inlet_ring ends.inlet)
  pub from : slice_get rings (2 * place + 1) ≡ Some (outlet_wire ends.outlet)
  pub stops : Each (IsStop plan.home.site.0) plan.stops

-- the lines are right, and what is kept beside them is theirs
pub record IsLogged {E D : Type 0} (plan : SitePlan) (turns : List SiteTurn) (actor : SiteActor E D) : Type 0 where
  pub right : IsHistory plan turns
  pub lines : actor.lines.items ≡ reverse (map (λ (turn : SiteTurn). turn.line) turns)
  pub sent : actor.sent.items ≡ sent_by plan turns
  pub offers : offered actor.ends.outlet ≡ packets_by plan turns
  pub stops : actor.stops.items ≡ plan.stops
  pub armed : actor.armed ≡ trips_of turns
  pub last : actor.last ≡ last_stamp turns
  pub low : last_stamp turns ≤ 2 ^ 62 + length turns
  pub short : length turns ≤ most_lines
  pub few_sent : length (sent_by plan turns) ≤ length turns
  pub counted : (tx : Tx) → attempts_of (past_of plan turns) tx ≡ begun_in tx turns
  pub few : (tx : Tx) → begun_in tx turns ≤ most_begun

-- and no stop has still to be armed
pub record IsKept {E D : Type 0} (plan : SitePlan) (turns : List SiteTurn) (actor : SiteActor E D) : Type 0 where
  pub logged : IsLogged plan turns actor
  pub settled : length turns < most_lines → is_due plan turns ≡ false

-- the envelope that a command takes, where it takes one, is that of the packet that was put back
abbrev pub IsBorne : OwnPrograms → Option Packet → Option (Envelope ToSite) → Type 0
IsBorne programs back None = Unit {0}
IsBorne programs None (Some envelope) = ⊥
IsBorne programs (Some packet) (Some envelope) = Bears programs packet envelope

-- the event is that of a command that the host could have had next; a message in it is that of the packet that was put back
pub record IsUnfinished (plan : SitePlan) (back : Option Packet) (turns : List SiteTurn) (event : SiteEvent) : Type 0 where
  pub command : Command
  pub took : Option (Envelope ToSite)
  pub could : IsCommand plan turns command took
  pub borne : IsBorne plan.programs back took
  pub is : request_of plan (past_of plan turns) command took ≡ Submits event

-- what a failed disk call leaves: this holds of what a stop within one further event leaves, which a command of the host left unfinished
pub record IsBroken (K : SitePast → Type 0) (plan : SitePlan) (back : Option Packet) (turns : List SiteTurn) : Type 0 where
  pub event : SiteEvent
  pub unfinished : IsUnfinished plan back turns event
  pub stop : SiteStopsWithin K plan.home (past_of plan turns) event

-- until a disk call fails, this holds of what the events of the lines made
abbrev pub IsStanding : (SitePast → Type 0) → Bool → SitePlan → Option Packet → List SiteTurn → Type 0
IsStanding K false plan back turns = K (past_of plan turns)
IsStanding K true plan back turns = IsBroken K plan back turns

-- the disk's count stands where it stood until a disk call fails, and has risen then
abbrev pub IsCounting : Bool → ℕ → ℕ → Type 0
IsCounting false before now = now ≡ before
IsCounting true before now = HasRisen before now

-- all that a site's host keeps, by the plans and the rings of the run, where it has answered for these packets
pub record KeepsFor {E D : Type 0} (stands : E → Start → List EngineLine → Type 0) (tells : Bool) (seen : D → Seen) (sites : List SitePlan) (rings : List Wire) (failed : Bool) (took : List Packet) (actor : SiteActor E D) : Type 0 where
  pub plan : SitePlan
  pub turns : List SiteTurn
  pub planned : IsPlanned sites rings plan actor.ends
  pub kept : IsKept plan turns actor
  pub moved_on : HasMovedOn actor.ends.outlet
  pub heard : HasHeard plan.programs took (found (λ (turn : SiteTurn). turn.took) turns)
  pub standing : IsStanding (Stands stands tells actor.dbms (seen actor.disk) plan.home plan.programs) failed plan (returned actor.ends.inlet) turns
  pub faults : IsCounting failed plan.faults (seen actor.disk).faults

-- where it has answered for all that it took
abbrev pub Keeps : {E D : Type 0} → (E → Start → List EngineLine → Type 0) → Bool → (D → Seen) → List SitePlan → List Wire → Bool → SiteActor E D → Type 0
Keeps stands tells seen sites rings failed actor = KeepsFor stands tells seen sites rings failed (taken actor.ends.inlet) actor

-- where a packet was taken last, for which it has not answered yet
pub record HoldsPacket {E D : Type 0} (stands : E → Start → List EngineLine → Type 0) (tells : Bool) (seen : D → Seen) (sites : List SitePlan) (rings : List Wire) (packet : Packet) (actor : SiteActor E D) : Type 0 where
  pub before : List Packet
  pub took : taken actor.ends.inlet ≡ before ++ packet ∷ []
  pub keeps : KeepsFor stands tells seen sites rings false before actor
