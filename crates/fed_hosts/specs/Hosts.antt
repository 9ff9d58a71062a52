-- How a site's host begins, and what it leaves.
use Rattle.std.specs.Prelude.{◌≡◌, ◌<◌, ◌≤◌, Bool, false, List, [], length, reverse, map}
use Rattle.mdb_base.specs.declared.names.Tx.{Tx}
use Rattle.mdb_base.specs.Rising.{IsRising}
use Rattle.mdb_base.specs.Words.{found}
use Rattle.fed_rules.specs.declared.commands.Stamped.{Stamped}
use Rattle.fed_rules.specs.declared.scenario.StopLine.{StopLine}
use Rattle.fed_rules.specs.Runs.{Start, EngineLine}
use Rattle.journal_disk.specs.Disk.{Seen}
use Rattle.local_dbms.specs.declared.dbms.LocalDbms.{LocalDbms}
use Rattle.local_dbms.specs.Stands.{Stands}
use Rattle.scripted_link.specs.Inlets.{empty_count, returned, taken}
use Rattle.scripted_link.specs.Outlets.{HasMovedOn, offered}
use Rattle.scripted_link.specs.Rings.{Wire}
use Rattle.fed_hosts.specs.declared.ends.HostEnds.{HostEnds}
use Rattle.fed_hosts.specs.declared.parts.SiteParts.{SiteParts}
use Rattle.host_laws.specs.Hearing.{HasHeard}
use Rattle.host_laws.specs.History.{IsHistory}
use Rattle.fed_hosts.specs.Keeps.{IsCounting, IsPlanned, IsStanding, most_begun}
use Rattle.host_laws.specs.Plans.{SitePlan, most_lines}
use Rattle.host_laws.specs.Turns.{SiteTurn, begun_in, is_due, packets_by, sent_by}
use Rattle.fed_hosts.specs.Views.{SiteView}

-- a host may begin: its site was set up and did nothing yet, nothing was offered to its rings or taken from them, and all is as the run names it
pub record CanOpen {E : Type 0} (stands : E → Start → List EngineLine → Type 0) (tells : Bool) (sites : List SitePlan) (rings : List Wire) (dbms : LocalDbms E) (disk : Seen) (stops : List StopLine) (ends : HostEnds) : Type 0 where
  pub plan : SitePlan
  pub planned : IsPlanned sites rings plan ends
  pub stops_are : stops ≡ plan.stops
  pub stood : Stands stands tells dbms disk plan.home plan.programs []
  pub faults : disk.faults ≡ plan.faults
  pub taken_none : taken ends.inlet ≡ []
  pub offered_none : offered ends.outlet ≡ []
  pub uncounted : empty_count ends.inlet ≡ 0

-- What a host leaves: its lines, with the packets that it took, are what the rules make of its past; its stamps rise, at most 31 of them begin
-- an attempt of a transaction, and no stop has still to be armed; its outlet was offered what they sent, and no packet waits there while a
-- slot of its ring is known to be free; and until a disk call failed its site stands for what the events of the lines made, and its disk's
-- count stands where it stood; behind that it stands for what a stop within the event of a further command leaves.
pub record IsHeld {E D : Type 0} (stands : E → Start → List EngineLine → Type 0) (tells : Bool) (seen : D → Seen) (sites : List SitePlan) (rings : List Wire) (parts : SiteParts E D) : Type 0 where
  pub plan : SitePlan
  pub turns : List SiteTurn
  pub planned : IsPlanned sites rings plan parts.ends
  pub right : IsHistory plan turns
  pub lines : parts.lines ≡ reverse (map (λ (turn : SiteTurn). turn.line) turns)
  pub rise : IsRising (λ (line : Stamped). line.stamp) parts.lines
  pub sent : parts.sent ≡ sent_by plan turns
  pub offers : offered parts.ends.outlet ≡ packets_by plan turns
  pub moved_on : HasMovedOn parts.ends.outlet
  pub heard : HasHeard plan.programs (taken parts.ends.inlet) (found (λ (turn : SiteTurn). turn.took) turns)
  pub short : length turns ≤ most_lines
  pub few : (tx : Tx) → begun_in tx turns ≤ most_begun
  pub settled : length turns < most_lines → is_due plan turns ≡ false
  pub standing : IsStanding (Stands stands tells parts.dbms (seen parts.disk) plan.home plan.programs) parts.failed plan (returned parts.ends.inlet) turns
  pub faults : IsCounting parts.failed plan.faults (seen parts.disk).faults

-- it is what was seen of the host
pub record HasReturned {E D : Type 0} (view : SiteView) (parts : SiteParts E D) : Type 0 where
  pub site : parts.ends.site ≡ view.site
  pub lines : parts.lines ≡ view.lines
  pub took : taken parts.ends.inlet ≡ view.took
  pub failed : parts.failed ≡ view.failed
