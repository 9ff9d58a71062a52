-- What a call of a site's host leaves.
use Rattle.std.proofs.Common.{Err, ◌≡◌, ℕ, Bool, false, Option, List, [], ◌∷◌, ◌++◌, map, append_assoc, refl, sym, ap, ◌∙◌, subst}
use Rattle.mdb_base.specs.Counts.{HasCauseOf}
use Rattle.mdb_base.specs.Words.{found, with_some}
use Rattle.mdb_base.proofs.ForCallers.{reverse_more}
use Rattle.fed_rules.specs.declared.answers.Answer.{Answer}
use Rattle.fed_rules.specs.declared.commands.Command.{Command}
use Rattle.fed_rules.specs.declared.commands.Stamped.{Stamped}
use Rattle.fed_rules.specs.declared.events.SiteEvent.{SiteEvent}
use Rattle.fed_rules.specs.declared.messages.ToSite.{ToSite}
use Rattle.fed_rules.specs.Requests.{Request, Submits, Declines}
use Rattle.fed_rules.specs.Runs.{Start, EngineLine}
use Rattle.fed_messages.specs.declared.Envelope.{Envelope}
use Rattle.fed_messages.specs.declared.Packet.{Packet}
use Rattle.journal_disk.specs.Disk.{Seen}
use Rattle.actor_store.specs.declared.errors.StepErr.{StepErr}
use Rattle.actor_store.specs.declared.errors.StepErr.TheVariants as Err_is
use Rattle.local_dbms.specs.declared.dbms.LocalDbms.{LocalDbms}
use Rattle.local_dbms.specs.Stands.{Fails, OwnPrograms, Stands}
use Rattle.scripted_link.specs.declared.inlet.Inlet.{Inlet}
use Rattle.scripted_link.specs.Inlets.{inlet_ring, returned, taken}
use Rattle.scripted_link.specs.Outlets.{HasMovedOn}
use Rattle.scripted_link.specs.Rings.{Wire}
use Rattle.scripted_link.proofs.ForCallers.{moved_same}
use Rattle.fed_hosts.specs.declared.site_actor.SiteActor.{SiteActor}
use Rattle.fed_hosts.specs.Carrying.{HasArmed, IsBesideLines}
use Rattle.host_laws.specs.Hearing.{HasHeard, IsRead, Taking}
use Rattle.fed_hosts.specs.Keeps.{IsCounting, IsKept, IsPlanned, IsStanding, IsUnfinished, Keeps, KeepsFor}
use Rattle.host_laws.specs.Plans.{SitePlan}
use Rattle.fed_hosts.specs.Rooms.{IsSame}
use Rattle.fed_hosts.specs.Serving.{has_failed}
use Rattle.host_laws.specs.Turns.{SiteTurn, past_of}
use Rattle.fed_hosts.specs.Views.{Adds, IsArming}
use Rattle.fed_hosts.proofs.Faults.{counting}
use Rattle.fed_hosts.proofs.Same.{kept_same, planned_kept, planned_same}

-- what submits an event submits no other one
pub submitted : (event other : SiteEvent) → Submits event ≡ Submits other → event ≡ other
submitted event other e = cc

-- a packet more that is taken
pub heard_more : (programs : OwnPrograms) (packets : List Packet) (envelopes : List (Envelope ToSite)) (packet : Packet) (read : Option (Envelope ToSite)) → HasHeard programs packets envelopes → IsRead programs packet read
    → HasHeard programs (packets ++ packet ∷ []) (with_some read envelopes)
heard_more programs packets envelopes packet read h is =
    let taking : Taking = record { packet = packet; bears = read } in
    record {
      takings = taking ∷ h.takings;
      packets_are = ap (λ (ps : List Packet). ps ++ packet ∷ []) h.packets_are ∙ sym (reverse_more packet (map (λ (t : Taking). t.packet) h.takings));
      read = (is, h.read);
      envelopes_are = ap (λ (es : List (Envelope ToSite)). with_some read es) h.envelopes_are;
    }

-- the line and what is armed behind it
pub adds : (old new : List Stamped) (line : Stamped) (command : Command) (answer : Answer) (arming : List Stamped) → IsArming arming → line.line.command ≡ command → line.line.answer ≡ answer
    → new ≡ (old ++ line ∷ []) ++ arming → Adds old new command answer
adds old new line command answer arming is command_is answer_is lines = record {
  stamp = line.stamp;
  places = line.line.sends;
  arming = arming;
  is_arming = is;
  lines = lines ∙ append_assoc old (line ∷ []) arming
      ∙ ap (λ (c : Command). old ++ record { stamp = line.stamp; line = record { command = c; answer = line.line.answer; sends = line.line.sends } } ∷ arming) command_is
      ∙ ap (λ (a : Answer). old ++ record { stamp = line.stamp; line = record { command = command; answer = a; sends = line.line.sends } } ∷ arming) answer_is;
}

-- the lines stay what they are whatever the site and its disk become
pub kept_beside : {E D : Type 0} (old : SiteActor E D) (dbms : LocalDbms E) (disk : D) (plan : SitePlan) (turns : List SiteTurn) → IsKept plan turns old → IsKept plan turns (record old { dbms = dbms; disk = disk })
kept_beside old dbms disk plan turns kept =
    let l = kept.logged in
    record {
      logged = record { right = l.right; lines = l.lines; sent = l.sent; offers = l.offers; stops = l.stops; armed = l.armed; last = l.last; low = l.low; short = l.short; few_sent = l.few_sent; counted = l.counted; few = l.few };
      settled = kept.settled;
    }

module _ {E D : Type 0} (stands : E → Start → List EngineLine → Type 0) (tells : Bool) (seen : D → Seen) (sites : List SitePlan) (rings : List Wire) where
  abbrev pub keeps_same : (failed : Bool) (old new : SiteActor E D) → IsSame old new → Keeps stands tells seen sites rings failed old → Keeps stands tells seen sites rings failed new
  keeps_same failed old new same k = record {
    plan = k.plan;
    turns = k.turns;
    planned = planned_kept old new same sites rings k.plan k.planned;
    kept = kept_same old new same k.plan k.turns k.kept;
    moved_on = moved_same old.ends.outlet new.ends.outlet same.waiting same.free k.moved_on;
    heard = subst (λ (i : Inlet). HasHeard k.plan.programs (taken i) (found (λ (t : SiteTurn). t.took) k.turns)) (sym same.inlet) k.heard;
    standing = subst (λ (d : D). IsStanding (Stands stands tells new.dbms (seen d) k.plan.home k.plan.programs) failed k.plan (returned new.ends.inlet) k.turns) (sym same.disk)
        (subst (λ (m : LocalDbms E). IsStanding (Stands stands tells m (seen old.disk) k.plan.home k.plan.programs) failed k.plan (returned new.ends.inlet) k.turns) (sym same.dbms)
        (subst (λ (i : Inlet). IsStanding (Stands stands tells old.dbms (seen old.disk) k.plan.home k.plan.programs) failed k.plan (returned i) k.turns) (sym same.inlet) k.standing));
    faults = subst (λ (d : D). IsCounting failed k.plan.faults (seen d).faults) (sym same.disk) k.faults;
  }

  -- behind a line that was carried
  pub keeps_armed : (plan : SitePlan) (turns : List SiteTurn) (turn : SiteTurn) (old new : SiteActor E D) (packets : List Packet) (lines : List Stamped) → IsPlanned sites rings plan old.ends
      → HasArmed stands tells (seen old.disk) plan (turn ∷ turns) lines new → IsBesideLines old new → HasMovedOn new.ends.outlet → taken old.ends.inlet ≡ packets
      → HasHeard plan.programs packets (found (λ (t : SiteTurn). t.took) (turn ∷ turns)) → (seen old.disk).faults ≡ plan.faults → Keeps stands tells seen sites rings false new
  keeps_armed plan turns turn old new packets lines planned h beside moved_on took heard faults = record {
    plan = plan;
    turns = h.more;
    planned = planned_same sites rings plan old.ends new.ends beside.site (ap (λ (i : Inlet). inlet_ring i) beside.inlet) beside.wire planned;
    kept = h.kept;
    moved_on = moved_on;
    heard = subst (λ (es : List (Envelope ToSite)). HasHeard plan.programs (taken new.ends.inlet) es) (sym h.took)
        (subst (λ (ps : List Packet). HasHeard plan.programs ps (found (λ (t : SiteTurn). t.took) (turn ∷ turns))) (sym (ap taken beside.inlet ∙ took)) heard);
    standing = subst (λ (d : D). Stands stands tells new.dbms (seen d) plan.home plan.programs (past_of plan h.more)) (sym beside.disk) h.stood;
    faults = subst (λ (d : D). (seen d).faults ≡ plan.faults) (sym beside.disk) faults;
  }

  -- behind an event that wasn't answered
  pub keeps_failed : {T : Type 0} (packets : List Packet) (old new : SiteActor E D) (dbms : LocalDbms E) (disk : D) (why : StepErr) (k : KeepsFor stands tells seen sites rings false packets old) (request : Request SiteEvent)
      → ((event : SiteEvent) → request ≡ Submits event → IsUnfinished k.plan (returned new.ends.inlet) k.turns event) → Fails (Stands stands tells dbms (seen disk)) why k.plan.home k.plan.programs (past_of k.plan k.turns) request
      → HasCauseOf {T = T} Err_is.Disk (seen old.disk).faults (seen disk).faults (Err why)
      → IsSame (record old { dbms = dbms; disk = disk }) new → KeepsFor stands tells seen sites rings (has_failed why) packets new
  keeps_failed packets old new dbms disk why k request could fails cause same = record {
    plan = k.plan;
    turns = k.turns;
    planned = planned_kept (record old { dbms = dbms; disk = disk }) new same sites rings k.plan k.planned;
    kept = kept_same (record old { dbms = dbms; disk = disk }) new same k.plan k.turns (kept_beside old dbms disk k.plan k.turns k.kept);
    moved_on = moved_same old.ends.outlet new.ends.outlet same.waiting same.free k.moved_on;
    heard = k.heard;
    standing = subst (λ (d : D). IsStanding (Stands stands tells new.dbms (seen d) k.plan.home k.plan.programs) (has_failed why) k.plan (returned new.ends.inlet) k.turns) (sym same.disk)
        (subst (λ (m : LocalDbms E). IsStanding (Stands stands tells m (seen disk) k.plan.home k.plan.programs) (has_failed why) k.plan (returned new.ends.inlet) k.turns) (sym same.dbms) (standing why request refl fails));
    faults = subst (λ (d : D). IsCounting (has_failed why) k.plan.faults (seen d).faults) (sym same.disk) (subst (λ (n : ℕ). IsCounting (has_failed why) n (seen disk).faults) k.faults (counting _ _ why cause));
  } where
    standing : (w : StepErr) (r : Request SiteEvent) → request ≡ r → Fails (Stands stands tells dbms (seen disk)) w k.plan.home k.plan.programs (past_of k.plan k.turns) r
        → IsStanding (Stands stands tells dbms (seen disk) k.plan.home k.plan.programs) (has_failed w) k.plan (returned new.ends.inlet) k.turns
    standing Err_is.Memory r e f = f
    standing Err_is.Disk (Submits event) e f = record { event = event; unfinished = could event e; stop = f }
    standing Err_is.Disk (Declines answer) e f = absurd f
