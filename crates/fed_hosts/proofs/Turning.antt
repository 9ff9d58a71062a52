-- What a turn of a site's host leaves: of a start, of an inquiry, and of a packet.
use Rattle.std.proofs.Common.{◌≡◌, ◌+◌, ◌≤◌, ◌<◌, ◌^◌, Bool, true, false, is_some, Err, Option, Some, None, List, [], ◌∷◌, ◌++◌, length, refl, sym, ap, ap₂, ◌∙◌, subst, arith}
use Rattle.mdb_base.specs.declared.names.SiteId.{SiteId}
use Rattle.mdb_base.specs.declared.names.Tid.{Tid}
use Rattle.mdb_base.specs.Counts.{HasCauseOf}
use Rattle.mdb_base.specs.Words.{found}
use Rattle.mdb_base.proofs.ForCallers.{length-append}
use Rattle.fed_rules.specs.declared.commands.Command.TheVariants as Cmd
use Rattle.fed_rules.specs.declared.events.SiteEvent.TheVariants as Ev
use Rattle.fed_rules.specs.declared.events.SiteStep.{SiteStep}
use Rattle.fed_rules.specs.declared.messages.ToSite.{ToSite}
use Rattle.fed_rules.specs.Requests.{Submits}
use Rattle.fed_rules.specs.Runs.{Start, EngineLine}
use Rattle.fed_messages.specs.declared.Envelope.{Envelope}
use Rattle.fed_messages.specs.declared.Packet.{Packet}
use Rattle.fed_messages.specs.Packets.{IsEnvelope, Spells, envelope_bytes}
use Rattle.fed_messages.specs.Spelling.{IsToSite, to_site_bytes}
use Rattle.journal_disk.specs.Disk.{Seen}
use Rattle.local_dbms.specs.declared.dbms.LocalDbms.{LocalDbms}
use Rattle.actor_store.specs.declared.errors.StepErr.{StepErr}
use Rattle.actor_store.specs.declared.errors.StepErr.TheVariants as Err_is
use Rattle.local_dbms.specs.Stands.{Fails, OwnPrograms, Stands, Tells}
use Rattle.site_core.specs.Made.{about}
use Rattle.scripted_link.specs.declared.inlet.Inlet.{Inlet}
use Rattle.scripted_link.specs.Inlets.{inlet_ring, returned, taken}
use Rattle.scripted_link.specs.Outlets.{HasMovedOn}
use Rattle.scripted_link.specs.Rings.{Wire}
use Rattle.fed_hosts.specs.declared.site_actor.SiteActor.{SiteActor}
use Rattle.fed_hosts.specs.declared.site_actor.LineParts.{LineParts}
use Rattle.fed_hosts.specs.Carrying.{IsBesideLines}
use Rattle.host_laws.specs.Hearing.{Bears, HasHeard, IsRead}
use Rattle.fed_hosts.specs.Keeps.{HoldsPacket, IsBorne, IsKept, IsUnfinished, Keeps, KeepsFor}
use Rattle.host_laws.specs.Plans.{SitePlan, most_lines}
use Rattle.fed_hosts.specs.Rooms.{HasRoom, IsReady}
use Rattle.fed_hosts.specs.Serving.{has_failed}
use Rattle.host_laws.specs.Turns.{SiteTurn, past_of}
use Rattle.fed_hosts.proofs.Events.{event_told}
use Rattle.fed_hosts.proofs.Lines.{Carries, HasLine, line_carried}
use Rattle.fed_hosts.proofs.Own.{line_back}
use Rattle.fed_hosts.proofs.Same.{planned_same, same_self}
use Rattle.fed_hosts.proofs.Served.{heard_more, keeps_failed, submitted}

pub snoc_same : {A : Type 0} (xs ys : List A) (x : A) → xs ++ x ∷ [] ≡ ys ++ x ∷ [] → xs ≡ ys
snoc_same [] [] x e = refl
snoc_same [] (y ∷ ys) x e = absurd (let n = ap length e in let m = length-append ys (x ∷ []) in omega (arith, n, m))
snoc_same (z ∷ zs) [] x e = absurd (let n = ap length e in let m = length-append zs (x ∷ []) in omega (arith, n, m))
snoc_same {A} (z ∷ zs) (y ∷ ys) x e =
    let head : z ≡ y = cc in
    let tail : zs ++ x ∷ [] ≡ ys ++ x ∷ [] = cc in
    ap₂ (λ (a : A) (rest : List A). a ∷ rest) head (snoc_same zs ys x tail)

-- an envelope is the only one that its packet spells
abbrev pub IsOnly : Packet → Option (Envelope ToSite) → Type 0
IsOnly packet decoded = (e : Envelope ToSite) → IsEnvelope IsToSite e → Spells packet (envelope_bytes to_site_bytes e) → decoded ≡ Some e

-- a packet that spells none is left aside
pub unread_none : (programs : OwnPrograms) (packet : Packet) (decoded : Option (Envelope ToSite)) → IsOnly packet decoded → decoded ≡ None → IsRead programs packet None
unread_none programs packet decoded only none = λ e bears. (let some = only e bears.in_range bears.spelled in cc)

-- so is one whose stamp is too great
pub unread_late : (programs : OwnPrograms) (packet : Packet) (decoded : Option (Envelope ToSite)) (envelope : Envelope ToSite) → IsOnly packet decoded → decoded ≡ Some envelope → 2 ^ 62 ≤ envelope.stamp → IsRead programs packet None
unread_late programs packet decoded envelope only is late = λ e bears. (
    let some = only e bears.in_range bears.spelled in
    let same : envelope ≡ e = cc in
    let stamp = ap (λ (v : Envelope ToSite). v.stamp) same in
    let small = bears.small in
    omega (arith, late, stamp, small))

-- and one about a transaction of the site's own
pub unread_own : (programs : OwnPrograms) (packet : Packet) (decoded : Option (Envelope ToSite)) (envelope : Envelope ToSite) → IsOnly packet decoded → decoded ≡ Some envelope → is_some (programs (about envelope.message).tx) ≡ true → IsRead programs packet None
unread_own programs packet decoded envelope only is own = λ e bears. (
    let some = only e bears.in_range bears.spelled in
    let same : envelope ≡ e = cc in
    let none : is_some (programs (about envelope.message).tx) ≡ false = ap (λ (v : Envelope ToSite). is_some (programs (about v.message).tx)) same ∙ ap is_some bears.foreign in
    cc)

module _ {E D : Type 0} (stands : E → Start → List EngineLine → Type 0) (tells : Bool) (seen : D → Seen) (sites : List SitePlan) (rings : List Wire) where
  -- what the host keeps whatever its inlet becomes
  abbrev pub keeps_polled : (packets : List Packet) (old : SiteActor E D) (inlet : Inlet) → inlet_ring inlet ≡ inlet_ring old.ends.inlet → KeepsFor stands tells seen sites rings false packets old
      → KeepsFor stands tells seen sites rings false packets (record old { ends = record old.ends { inlet = inlet } })
  keeps_polled packets old inlet ring k =
      let l = k.kept.logged in
      record {
        plan = k.plan;
        turns = k.turns;
        planned = planned_same sites rings k.plan old.ends (record old.ends { inlet = inlet }) refl ring refl k.planned;
        kept = record {
          logged = record { right = l.right; lines = l.lines; sent = l.sent; offers = l.offers; stops = l.stops; armed = l.armed; last = l.last; low = l.low; short = l.short; few_sent = l.few_sent; counted = l.counted; few = l.few };
          settled = k.kept.settled;
        };
        moved_on = k.moved_on;
        heard = k.heard;
        standing = k.standing;
        faults = k.faults;
      }

  pub keeps_as : (failed : Bool) (packets others : List Packet) (actor : SiteActor E D) → packets ≡ others → KeepsFor stands tells seen sites rings failed packets actor → KeepsFor stands tells seen sites rings failed others actor
  keeps_as failed packets others actor same k = subst (λ (ps : List Packet). KeepsFor stands tells seen sites rings failed ps actor) same k

  -- a packet that was taken
  pub holds_next : (old : SiteActor E D) (inlet : Inlet) (packet : Packet) → inlet_ring inlet ≡ inlet_ring old.ends.inlet → taken inlet ≡ taken old.ends.inlet ++ packet ∷ [] → Keeps stands tells seen sites rings false old
      → HoldsPacket stands tells seen sites rings packet (record old { ends = record old.ends { inlet = inlet } })
  holds_next old inlet packet ring took k = record { before = taken old.ends.inlet; took = took; keeps = keeps_polled (taken old.ends.inlet) old inlet ring k }

  -- one that is left aside
  pub left_aside : (packet : Packet) (actor : SiteActor E D) (h : HoldsPacket stands tells seen sites rings packet actor) → IsRead h.keeps.plan.programs packet None → Keeps stands tells seen sites rings false actor
  left_aside packet actor h none =
      let k = h.keeps in
      record {
        plan = k.plan;
        turns = k.turns;
        planned = k.planned;
        kept = k.kept;
        moved_on = k.moved_on;
        heard = subst (λ (ps : List Packet). HasHeard k.plan.programs ps (found (λ (t : SiteTurn). t.took) k.turns)) (sym h.took)
            (heard_more k.plan.programs h.before (found (λ (t : SiteTurn). t.took) k.turns) packet None k.heard none);
        standing = k.standing;
        faults = k.faults;
      }

  -- one that was put back, where its message wasn't answered
  pub put_back : {T : Type 0} (packet : Packet) (old : SiteActor E D) (h : HoldsPacket stands tells seen sites rings packet old) (dbms : LocalDbms E) (disk : D) (inlet : Inlet) (why : StepErr) (envelope : Envelope ToSite)
      → Bears h.keeps.plan.programs packet envelope → taken old.ends.inlet ≡ taken inlet ++ packet ∷ [] → returned inlet ≡ Some packet → inlet_ring inlet ≡ inlet_ring old.ends.inlet
      → Fails (Stands stands tells dbms (seen disk)) why h.keeps.plan.home h.keeps.plan.programs (past_of h.keeps.plan h.keeps.turns) (Submits (Ev.Give envelope.message))
      → HasCauseOf {T = T} Err_is.Disk (seen old.disk).faults (seen disk).faults (Err why)
      → Keeps stands tells seen sites rings (has_failed why) (record old { dbms = dbms; disk = disk; ends = record old.ends { inlet = inlet } })
  put_back packet old h dbms disk inlet why envelope bears took back ring fails cause =
      let k = h.keeps in
      let mid = record old { ends = record old.ends { inlet = inlet } } in
      let new = record mid { dbms = dbms; disk = disk } in
      let unfinished : IsUnfinished k.plan (returned inlet) k.turns (Ev.Give envelope.message) =
      record {
        command = Cmd.Give old.ends.site envelope.index;
        took = Some envelope;
        could = (k.planned.site, record { envelope = envelope; is = refl; place_is = refl });
        borne = subst (λ (o : Option Packet). IsBorne k.plan.programs o (Some envelope)) (sym back) bears;
        is = refl;
      } in
      keeps_as (has_failed why) h.before (taken inlet) new (snoc_same h.before (taken inlet) packet (sym h.took ∙ took))
      (keeps_failed stands tells seen sites rings h.before mid new dbms disk why (keeps_polled h.before old inlet ring k) (Submits (Ev.Give envelope.message))
      (λ event e. subst (IsUnfinished k.plan (returned inlet) k.turns) (submitted (Ev.Give envelope.message) event e) unfinished) fails cause (same_self new))

  module _ (old : SiteActor E D) (dbms : LocalDbms E) (disk : D) (new : SiteActor E D) (few : length old.lines.items < most_lines) (faults : (seen disk).faults ≡ (seen old.disk).faults)
      (beside : IsBesideLines (record old { dbms = dbms; disk = disk }) new) (moved_on : HasMovedOn new.ends.outlet) where
    -- the line of a start
    pub start_line : (k : Keeps stands tells seen sites rings false old) (step : SiteStep)
        → Tells (Stands stands tells dbms (seen disk)) step k.plan.home k.plan.programs (past_of k.plan k.turns) (Submits Ev.Back)
        → Carries stands tells (seen disk) (record old { dbms = dbms; disk = disk }) new (record { command = Cmd.Back old.ends.site.0; answer = step.answer; send = None; after = 0 })
        → HasLine stands tells seen sites rings old new (record { command = Cmd.Back old.ends.site.0; answer = step.answer; send = None; after = 0 })
    start_line k step serves carries =
        let told : LineParts = record { command = Cmd.Back old.ends.site.0; answer = step.answer; send = None; after = 0 } in
        let none = (line_back k.plan.home (past_of k.plan k.turns)).0 in
        let is = event_told k.plan k.turns told None Ev.Back (ap (λ (s : SiteId). s.0) k.planned.site, refl) refl (omega arith) refl k.standing.core.holds.made tt serves.said (sym none) in
        line_carried stands tells seen sites rings old dbms disk new k.plan k.turns told None (taken old.ends.inlet) k.planned k.kept few is refl serves.next refl k.heard (faults ∙ k.faults) carries beside moved_on

    -- the line of an inquiry
    pub ask_line : (k : Keeps stands tells seen sites rings false old) (tid : Tid) (step : SiteStep)
        → Tells (Stands stands tells dbms (seen disk)) step k.plan.home k.plan.programs (past_of k.plan k.turns) (Submits (Ev.Ask tid))
        → Carries stands tells (seen disk) (record old { dbms = dbms; disk = disk }) new (record { command = Cmd.Ask old.ends.site tid; answer = step.answer; send = step.sends; after = 0 })
        → HasLine stands tells seen sites rings old new (record { command = Cmd.Ask old.ends.site tid; answer = step.answer; send = step.sends; after = 0 })
    ask_line k tid step sends carries =
        let told : LineParts = record { command = Cmd.Ask old.ends.site tid; answer = step.answer; send = step.sends; after = 0 } in
        let is = event_told k.plan k.turns told None (Ev.Ask tid) (k.planned.site, refl) refl (omega arith) refl k.standing.core.holds.made tt sends.said sends.sent in
        line_carried stands tells seen sites rings old dbms disk new k.plan k.turns told None (taken old.ends.inlet) k.planned k.kept few is refl sends.next refl k.heard (faults ∙ k.faults) carries beside moved_on

    -- the line of a message that is taken
    pub give_line : (packet : Packet) (h : HoldsPacket stands tells seen sites rings packet old) (envelope : Envelope ToSite) (step : SiteStep)
        → Bears h.keeps.plan.programs packet envelope → Tells (Stands stands tells dbms (seen disk)) step h.keeps.plan.home h.keeps.plan.programs (past_of h.keeps.plan h.keeps.turns) (Submits (Ev.Give envelope.message))
        → Carries stands tells (seen disk) (record old { dbms = dbms; disk = disk }) new (record { command = Cmd.Give old.ends.site envelope.index; answer = step.answer; send = step.sends; after = envelope.stamp })
        → HasLine stands tells seen sites rings old new (record { command = Cmd.Give old.ends.site envelope.index; answer = step.answer; send = step.sends; after = envelope.stamp })
    give_line packet h envelope step bears sends carries =
        let k = h.keeps in
        let told : LineParts = record { command = Cmd.Give old.ends.site envelope.index; answer = step.answer; send = step.sends; after = envelope.stamp } in
        let is = event_told k.plan k.turns told (Some envelope) (Ev.Give envelope.message) (k.planned.site, record { envelope = envelope; is = refl; place_is = refl }) refl bears.small refl k.standing.core.holds.made tt sends.said sends.sent in
        line_carried stands tells seen sites rings old dbms disk new k.plan k.turns told (Some envelope) (h.before ++ packet ∷ []) k.planned k.kept few is refl sends.next h.took
        (heard_more k.plan.programs h.before (found (λ (t : SiteTurn). t.took) k.turns) packet (Some envelope) k.heard bears) (faults ∙ k.faults) carries beside moved_on

  -- the room and the numbers of a line that may send a message
  pub line_ready : (actor : SiteActor E D) (plan : SitePlan) (turns : List SiteTurn) (told : LineParts) → IsKept plan turns actor → HasRoom actor → told.after < 2 ^ 62 → IsReady actor told
  line_ready actor plan turns told kept room small =
      let l = kept.logged in
      let last = l.last in
      let low = l.low in
      let short = l.short in
      let few = l.few_sent in
      let sent = ap length l.sent in
      let lines = room.lines in
      record {
        line = omega (arith, lines);
        last = omega (arith, last, low, short);
        after = omega (arith, small);
        send = λ some. record { number = omega (arith, sent, few, short); sent = room.sent; outlet = room.outlet };
      }

  pub last_fits : (actor : SiteActor E D) (plan : SitePlan) (turns : List SiteTurn) → IsKept plan turns actor → actor.last + 2 < 2 ^ 64
  last_fits actor plan turns kept =
      let last = kept.logged.last in
      let low = kept.logged.low in
      let short = kept.logged.short in
      omega (arith, last, low, short)
