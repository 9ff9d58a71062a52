-- What a line that was carried leaves of all that a site's host keeps.
use Rattle.std.proofs.Common.{◌≡◌, suc, ◌≤◌, ◌<◌, ◌^◌, Bool, false, Option, List, [], ◌∷◌, ◌++◌, length, refl, ap, ◌∙◌, subst, arith}
use Rattle.mdb_base.specs.Words.{Each, found, with_some}
use Rattle.fed_rules.specs.declared.answers.Answer.{Answer}
use Rattle.fed_rules.specs.declared.commands.Command.{Command}
use Rattle.fed_rules.specs.declared.commands.Stamped.{Stamped}
use Rattle.fed_rules.specs.declared.events.SiteEvent.{SiteEvent}
use Rattle.fed_rules.specs.declared.messages.ToSite.{ToSite}
use Rattle.fed_rules.specs.Requests.{Request, Submits, Declines}
use Rattle.fed_rules.specs.Runs.{Start, EngineLine}
use Rattle.fed_rules.specs.SiteCommands.{past_behind}
use Rattle.fed_rules.specs.SitePast.{SitePast}
use Rattle.fed_rules.specs.SiteRecords.{Home}
use Rattle.fed_messages.specs.declared.Envelope.{Envelope}
use Rattle.fed_messages.specs.declared.Packet.{Packet}
use Rattle.journal_disk.specs.Disk.{Seen}
use Rattle.local_dbms.specs.declared.asks.SiteAsk.{SiteAsk}
use Rattle.local_dbms.specs.declared.dbms.LocalDbms.{LocalDbms}
use Rattle.local_dbms.specs.Asks.{CanAsk}
use Rattle.local_dbms.specs.Stands.{IsShort, OwnPrograms, Some_site, Stands}
use Rattle.scripted_link.specs.declared.inlet.Inlet.{Inlet}
use Rattle.scripted_link.specs.Inlets.{empty_count, taken}
use Rattle.scripted_link.specs.Outlets.{HasMovedOn}
use Rattle.scripted_link.specs.Rings.{Wire}
use Rattle.fed_hosts.specs.declared.site_actor.SiteActor.{SiteActor}
use Rattle.fed_hosts.specs.declared.site_actor.LineParts.{LineParts}
use Rattle.fed_hosts.specs.Carrying.{HasArmed, IsBesideLines, IsTold, turn_of}
use Rattle.host_laws.specs.Hearing.{HasHeard}
use Rattle.fed_hosts.specs.Keeps.{IsKept, IsPlanned, IsStop, Keeps, KeepsFor}
use Rattle.host_laws.specs.Plans.{SitePlan, most_lines}
use Rattle.fed_hosts.specs.Rooms.{IsSame}
use Rattle.host_laws.specs.Turns.{SiteTurn, is_trip, past_of, request_at, request_of}
use Rattle.fed_hosts.specs.Views.{Adds, IsSeen, SiteView, view_of}
use Rattle.fed_hosts.proofs.Armed.{as_many}
use Rattle.fed_hosts.proofs.Same.{view_same}
use Rattle.fed_hosts.proofs.Served.{adds, keeps_armed, kept_beside}
use Rattle.fed_hosts.proofs.Views.{view_from}

behind_short : (home : Home) (past : SitePast) (r : Request SiteEvent) → length (past_behind home past r) ≤ suc (length past)
behind_short home past (Submits event) = omega arith
behind_short home past (Declines answer) = omega arith

-- the past has at most one happening for each line
pub past_short : (plan : SitePlan) (turns : List SiteTurn) → length (past_of plan turns) ≤ length turns
past_short plan [] = omega arith
past_short plan (turn ∷ turns) =
    let one = behind_short plan.home (past_of plan turns) (request_at plan turns turn) in
    let others = past_short plan turns in
    omega (arith, one, others)

-- what a line that is carried leaves of all that the actor stands for
abbrev pub Carries : {E D : Type 0} → (E → Start → List EngineLine → Type 0) → Bool → Seen → SiteActor E D → SiteActor E D → LineParts → Type 0
Carries stands tells seen old new told =
    (plan : SitePlan) (turns : List SiteTurn) (took : Option (Envelope ToSite)) → IsKept plan turns old → length turns < most_lines → IsTold plan turns told took → is_trip told.command ≡ false
    → Each (IsStop plan.home.site.0) plan.stops → old.ends.site ≡ plan.home.site → Stands stands tells old.dbms seen plan.home plan.programs (past_of plan (turn_of old told took ∷ turns))
    → HasArmed stands tells seen plan (turn_of old told took ∷ turns) (old.lines.items ++ (turn_of old told took).line ∷ []) new

-- what is seen of the host beside its lines
pub view_beside : {E D : Type 0} (old new : SiteActor E D) → IsBesideLines old new → view_of new false ≡ record (view_of old false) { lines = new.lines.items }
view_beside old new beside =
    view_from (view_of new false) (record (view_of old false) { lines = new.lines.items }) beside.site refl (ap (λ (i : Inlet). taken i) beside.inlet) (ap (λ (i : Inlet). empty_count i) beside.inlet) beside.idle refl

module _ {E D : Type 0} (stands : E → Start → List EngineLine → Type 0) (tells : Bool) (seen : D → Seen) (sites : List SitePlan) (rings : List Wire) where
  -- so the past is short enough
  pub short_past : (failed : Bool) (packets : List Packet) (actor : SiteActor E D) (k : KeepsFor stands tells seen sites rings failed packets actor) → length (past_of k.plan k.turns) < 2 ^ 30
  short_past failed packets actor k =
      let short = k.kept.logged.short in
      let few = past_short k.plan k.turns in
      omega (arith, short, few)

  -- and the site stands for it, and may be asked what asks no more
  pub stood_asked : (packets : List Packet) (actor : SiteActor E D) (ask : SiteAsk) → ((home : Home) (programs : OwnPrograms) (past : SitePast) → IsShort home programs past → CanAsk ask home programs past)
      → KeepsFor stands tells seen sites rings false packets actor → Some_site (Stands stands tells actor.dbms (seen actor.disk)) (CanAsk ask)
  stood_asked packets actor ask may k =
      let past = past_of k.plan k.turns in
      record { home = k.plan.home; programs = k.plan.programs; past = past; stood = k.standing; holds = may k.plan.home k.plan.programs past (short_past false packets actor k) }

  -- what is seen of the host is of the lines that it keeps
  abbrev pub keeps_seen : (failed shown : Bool) (actor : SiteActor E D) (k : Keeps stands tells seen sites rings failed actor) → IsSeen sites k.plan k.turns (view_of actor shown)
  keeps_seen failed shown actor k = record { place = k.planned.place; at = k.planned.at; site = k.planned.site; right = k.kept.logged.right; lines = k.kept.logged.lines; heard = k.heard }

  -- what a line leaves
  pub record HasLine (old new : SiteActor E D) (told : LineParts) : Type 0 where
    pub keeps : Keeps stands tells seen sites rings false new
    pub view : view_of new false ≡ record (view_of old false) { lines = new.lines.items }
    pub adds : Adds old.lines.items new.lines.items told.command told.answer

  pub line_carried : (old : SiteActor E D) (dbms : LocalDbms E) (disk : D) (new : SiteActor E D) (plan : SitePlan) (turns : List SiteTurn) (told : LineParts) (took : Option (Envelope ToSite)) (packets : List Packet)
      → IsPlanned sites rings plan old.ends → IsKept plan turns old → length old.lines.items < most_lines → IsTold plan turns told took → is_trip told.command ≡ false
      → Stands stands tells dbms (seen disk) plan.home plan.programs (past_behind plan.home (past_of plan turns) (request_of plan (past_of plan turns) told.command took))
      → taken old.ends.inlet ≡ packets → HasHeard plan.programs packets (with_some took (found (λ (turn : SiteTurn). turn.took) turns)) → (seen disk).faults ≡ plan.faults
      → Carries stands tells (seen disk) (record old { dbms = dbms; disk = disk }) new told
      → IsBesideLines (record old { dbms = dbms; disk = disk }) new → HasMovedOn new.ends.outlet → HasLine old new told
  line_carried old dbms disk new plan turns told took packets planned kept few is untripped stood took_are heard faults carries beside moved_on =
      let mid : SiteActor E D = record old { dbms = dbms; disk = disk } in
      let count = as_many plan turns old kept.logged in
      let turn = turn_of mid told took in
      let h = carries plan turns took (kept_beside old dbms disk plan turns kept) (omega (arith, count, few)) is untripped planned.stops planned.site stood in
      record {
        keeps = keeps_armed stands tells seen sites rings plan turns turn mid new packets (old.lines.items ++ turn.line ∷ []) planned h beside moved_on took_are heard faults;
        view = view_beside mid new beside;
        adds = adds old.lines.items new.lines.items turn.line told.command told.answer h.arming h.is_arming refl refl h.lines;
      }

  -- seen from before room was made
  pub line_view : (old ready new : SiteActor E D) (told : LineParts) → IsSame old ready → ready.idle ≡ old.idle → HasLine ready new told → view_of new false ≡ record (view_of old false) { lines = new.lines.items }
  line_view old ready new told same idle h = h.view ∙ ap (λ (v : SiteView). record v { lines = new.lines.items }) (view_same old ready same idle false)

  pub line_adds : (old ready new : SiteActor E D) (told : LineParts) (command : Command) (answer : Answer) → IsSame old ready → HasLine ready new told → told.command ≡ command → told.answer ≡ answer
      → Adds old.lines.items new.lines.items command answer
  line_adds old ready new told command answer same h command_is answer_is =
      subst (λ (ls : List Stamped). Adds ls new.lines.items command answer) same.lines
      (subst (λ (a : Answer). Adds ready.lines.items new.lines.items command a) answer_is (subst (λ (c : Command). Adds ready.lines.items new.lines.items c told.answer) command_is h.adds))
