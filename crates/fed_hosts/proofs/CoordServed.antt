-- What a call of the coordinator's host leaves.
use Rattle.std.proofs.Common.{Err, ◌≡◌, ℕ, ◌<◌, Bool, true, false, cond, Option, None, List, [], ◌∷◌, ◌++◌, length, inl, inr, refl, sym, ap, ◌∙◌, subst, arith}
use Rattle.mdb_base.specs.declared.names.SiteId.{SiteId}
use Rattle.mdb_base.specs.Counts.{HasCauseOf}
use Rattle.mdb_base.specs.Names.{same_site}
use Rattle.mdb_base.specs.Words.{with_some}
use Rattle.fed_rules.specs.declared.answers.Answer.{Answer}
use Rattle.fed_rules.specs.declared.commands.Command.{Command}
use Rattle.fed_rules.specs.declared.commands.Command.TheVariants as Cmd
use Rattle.fed_rules.specs.declared.commands.Stamped.{Stamped}
use Rattle.fed_rules.specs.declared.events.CoordEvent.{CoordEvent}
use Rattle.fed_rules.specs.declared.messages.FromSite.{FromSite}
use Rattle.fed_rules.specs.Policies.{Policy}
use Rattle.fed_rules.specs.Requests.{Request, Submits, Declines}
use Rattle.fed_messages.specs.declared.Envelope.{Envelope}
use Rattle.journal_disk.specs.Disk.{Seen}
use Rattle.actor_store.specs.declared.errors.StepErr.{StepErr}
use Rattle.actor_store.specs.declared.errors.StepErr.TheVariants as Err_is
use Rattle.global_manager.specs.declared.manager.GlobalManager.{GlobalManager}
use Rattle.global_manager.specs.Stands.{Fails, Stands}
use Rattle.scripted_link.specs.Inlets.{taken}
use Rattle.scripted_link.specs.Rings.{Wire}
use Rattle.fed_hosts.specs.declared.coord_actor.CoordActor.{CoordActor}
use Rattle.fed_hosts.specs.declared.coord_actor.CoordLineParts.{CoordLineParts}
use Rattle.fed_hosts.specs.declared.ports.Port.{Port}
use Rattle.fed_hosts.specs.CoordCarrying.{HasCoordArmed, IsBesideCoordLines, IsCoordTold, coord_turn_of}
use Rattle.host_laws.specs.CoordHearing.{HasHeardFrom}
use Rattle.fed_hosts.specs.CoordKeeps.{CoordKeeps, CoordKeepsFor, HaveHeard, IsCoordKept, IsCoordPlanned, IsCoordStanding, IsCoordUnfinished}
use Rattle.host_laws.specs.CoordPlans.{CoordPlan}
use Rattle.fed_hosts.specs.CoordRooms.{IsSameCoord}
use Rattle.host_laws.specs.CoordTurns.{CoordTurn, coord_behind, coord_past_of, coord_request, from_site, took_from}
use Rattle.fed_hosts.specs.CoordViews.{CoordView, coord_view_of}
use Rattle.fed_hosts.specs.Keeps.{IsCounting}
use Rattle.fed_hosts.specs.Ports.{backs_of, HaveMovedOn}
use Rattle.host_laws.specs.Plans.{most_lines}
use Rattle.fed_hosts.specs.Serving.{has_failed}
use Rattle.host_laws.specs.Turns.{is_trip}
use Rattle.fed_hosts.specs.Views.{Adds}
use Rattle.fed_hosts.proofs.CoordAdding.{ports_planned}
use Rattle.fed_hosts.proofs.CoordArmed.{coord_as_many}
use Rattle.fed_hosts.proofs.CoordSame.{coord_kept_for, coord_kept_same, coord_view_from, coord_view_same, empties_beside, heard_beside, moved_same_ports, same_beside, tooks_beside}
use Rattle.fed_hosts.proofs.Faults.{counting}
use Rattle.fed_hosts.proofs.Served.{adds}

-- what was heard stays so for lines that took the same
heard_took : (turns more : List CoordTurn) (ports : List Port) → ((site : SiteId) → took_from site more ≡ took_from site turns) → HaveHeard turns ports → HaveHeard more ports
heard_took turns more ports took heard place port at = subst (λ (es : List (Envelope FromSite)). HasHeardFrom (taken port.ends.inlet) es) (sym (took port.ends.site)) (heard place port at)

none_from : (b : Bool) (o : Option (Envelope FromSite)) → o ≡ None → cond b o None ≡ None
none_from true o none = none
none_from false o none = refl

alone_from : (site : SiteId) (command : Command) → from_site site command None ≡ None
alone_from site (Cmd.Take from place) = none_from (same_site from site) None refl
alone_from site command = refl

-- a line that takes no message
pub heard_alone : (turn : CoordTurn) (turns : List CoordTurn) (ports : List Port) → turn.took ≡ None → HaveHeard turns ports → HaveHeard (turn ∷ turns) ports
heard_alone turn turns ports alone heard = heard_took turns (turn ∷ turns) ports (λ site. none_more (from_site site turn.line.line.command turn.took) (took_from site turns)
    (ap (λ (e : Option (Envelope FromSite)). from_site site turn.line.line.command e) alone ∙ alone_from site turn.line.line.command)) heard
  where
    none_more : (o : Option (Envelope FromSite)) (es : List (Envelope FromSite)) → o ≡ None → with_some o es ≡ es
    none_more o es none = ap (λ (e : Option (Envelope FromSite)). with_some e es) none

-- what submits an event submits no other one
pub submitted : (event other : CoordEvent) → Submits event ≡ Submits other → event ≡ other
submitted event other e = cc

-- what a line that is carried leaves of all that the actor stands for
abbrev pub CoordCarries : {P D : Type 0} → (P → Policy) → Bool → Seen → CoordActor P D → CoordActor P D → CoordLineParts → Type 0
CoordCarries test tells seen old new told =
    (rings : List Wire) (plan : CoordPlan) (turns : List CoordTurn) (took : Option (Envelope FromSite)) → IsCoordKept plan turns old → length turns < most_lines → IsCoordTold plan turns told took → is_trip told.command ≡ false
    → IsCoordPlanned rings plan old.ports.items → Stands test tells old.manager seen plan.terms plan.programs (coord_past_of plan (coord_turn_of old told took ∷ turns))
    → HasCoordArmed test tells seen plan (coord_turn_of old told took ∷ turns) (old.lines.items ++ (coord_turn_of old told took).line ∷ []) new

-- what is seen of the host beside its lines
pub coord_view_beside : {P D : Type 0} (old new : CoordActor P D) → IsBesideCoordLines old new → coord_view_of new false ≡ record (coord_view_of old false) { lines = new.lines.items }
coord_view_beside old new beside =
    coord_view_from (coord_view_of new false) (record (coord_view_of old false) { lines = new.lines.items }) refl (tooks_beside old.ports.items new.ports.items beside.ports) (empties_beside old.ports.items new.ports.items beside.ports) beside.first refl

module _ {P D : Type 0} (test : P → Policy) (tells : Bool) (seen : D → Seen) (plan : CoordPlan) (rings : List Wire) where
  abbrev pub coord_keeps_for_same : (ports : List Port) (old new : CoordActor P D) → IsSameCoord old new → CoordKeepsFor test tells seen plan rings false ports old → CoordKeepsFor test tells seen plan rings false ports new
  coord_keeps_for_same ports old new same k =
      record {
        turns = k.turns;
        planned = ports_planned rings plan old.ports.items new.ports.items (same_beside old.ports.items new.ports.items same.ports) k.planned;
        kept = coord_kept_same old new same plan k.turns k.kept;
        moved_on = moved_same_ports old.ports.items new.ports.items same.ports k.moved_on;
        heard = k.heard;
        standing = subst (λ (d : D). Stands test tells new.manager (seen d) plan.terms plan.programs (coord_past_of plan k.turns)) (sym same.disk)
            (subst (λ (m : GlobalManager P). Stands test tells m (seen old.disk) plan.terms plan.programs (coord_past_of plan k.turns)) (sym same.manager) k.standing);
        faults = subst (λ (d : D). (seen d).faults ≡ plan.faults) (sym same.disk) k.faults;
      }

  -- what other ports heard
  abbrev pub coord_keeps_heard : (failed : Bool) (ports others : List Port) (actor : CoordActor P D) (k : CoordKeepsFor test tells seen plan rings failed ports actor) → HaveHeard k.turns others
      → CoordKeepsFor test tells seen plan rings failed others actor
  coord_keeps_heard failed ports others actor k heard = record { turns = k.turns; planned = k.planned; kept = k.kept; moved_on = k.moved_on; heard = heard; standing = k.standing; faults = k.faults }

  abbrev pub coord_keeps_same : (old new : CoordActor P D) → IsSameCoord old new → CoordKeeps test tells seen plan rings false old → CoordKeeps test tells seen plan rings false new
  coord_keeps_same old new same k =
      coord_keeps_heard false old.ports.items new.ports.items new (coord_keeps_for_same old.ports.items old new same k)
      (heard_beside k.turns old.ports.items new.ports.items (same_beside old.ports.items new.ports.items same.ports) k.heard)

  -- behind a line that was carried
  keeps_armed : (turn : CoordTurn) (turns : List CoordTurn) (old new : CoordActor P D) (lines : List Stamped) → IsCoordPlanned rings plan old.ports.items → HasCoordArmed test tells (seen old.disk) plan (turn ∷ turns) lines new
      → IsBesideCoordLines old new → HaveMovedOn new.ports.items → HaveHeard (turn ∷ turns) old.ports.items → (seen old.disk).faults ≡ plan.faults → CoordKeeps test tells seen plan rings false new
  keeps_armed turn turns old new lines planned h beside moved_on heard faults = record {
    turns = h.more;
    planned = ports_planned rings plan old.ports.items new.ports.items beside.ports planned;
    kept = h.kept;
    moved_on = moved_on;
    heard = heard_took (turn ∷ turns) h.more new.ports.items h.took (heard_beside (turn ∷ turns) old.ports.items new.ports.items beside.ports heard);
    standing = subst (λ (d : D). Stands test tells new.manager (seen d) plan.terms plan.programs (coord_past_of plan h.more)) (sym beside.disk) h.stood;
    faults = subst (λ (d : D). (seen d).faults ≡ plan.faults) (sym beside.disk) faults;
  }

  -- behind an event that wasn't answered
  pub coord_keeps_failed : {T : Type 0} (ports : List Port) (old new : CoordActor P D) (manager : GlobalManager P) (disk : D) (why : StepErr) (k : CoordKeepsFor test tells seen plan rings false ports old) (request : Request CoordEvent)
      → ((event : CoordEvent) → request ≡ Submits event → IsCoordUnfinished plan (backs_of new.ports.items) k.turns event) → Fails (Stands test tells manager (seen disk)) why plan.terms plan.programs (coord_past_of plan k.turns) request → HasCauseOf {T = T} Err_is.Disk (seen old.disk).faults (seen disk).faults (Err why)
      → IsSameCoord (record old { manager = manager; disk = disk }) new → CoordKeepsFor test tells seen plan rings (has_failed why) ports new
  coord_keeps_failed ports old new manager disk why k request could fails cause same =
      let beside = same_beside old.ports.items new.ports.items same.ports in
      record {
        turns = k.turns;
        planned = ports_planned rings plan old.ports.items new.ports.items beside k.planned;
        kept = coord_kept_same (record old { manager = manager; disk = disk }) new same plan k.turns (coord_kept_for old manager disk plan k.turns k.kept);
        moved_on = moved_same_ports old.ports.items new.ports.items same.ports k.moved_on;
        heard = k.heard;
        standing = subst (λ (d : D). IsCoordStanding (Stands test tells new.manager (seen d) plan.terms plan.programs) (has_failed why) plan (backs_of new.ports.items) k.turns) (sym same.disk)
            (subst (λ (m : GlobalManager P). IsCoordStanding (Stands test tells m (seen disk) plan.terms plan.programs) (has_failed why) plan (backs_of new.ports.items) k.turns) (sym same.manager) (standing why request refl fails));
        faults = subst (λ (d : D). IsCounting (has_failed why) plan.faults (seen d).faults) (sym same.disk) (subst (λ (n : ℕ). IsCounting (has_failed why) n (seen disk).faults) k.faults (counting _ _ why cause));
      }
    where
      standing : (w : StepErr) (r : Request CoordEvent) → request ≡ r → Fails (Stands test tells manager (seen disk)) w plan.terms plan.programs (coord_past_of plan k.turns) r
          → IsCoordStanding (Stands test tells manager (seen disk) plan.terms plan.programs) (has_failed w) plan (backs_of new.ports.items) k.turns
      standing Err_is.Memory r e f = f
      standing Err_is.Disk (Submits event) e (inl f) = record { event = event; unfinished = could event e; stop = inl (f.cut, f.stood) }
      standing Err_is.Disk (Submits event) e (inr f) = record { event = event; unfinished = could event e; stop = inr (f.calls, f.cut, f.stops, f.stood) }
      standing Err_is.Disk (Declines answer) e f = absurd f

  -- what a line leaves
  pub record HasCoordLine (old new : CoordActor P D) (told : CoordLineParts) : Type 0 where
    pub keeps : CoordKeeps test tells seen plan rings false new
    pub view : coord_view_of new false ≡ record (coord_view_of old false) { lines = new.lines.items }
    pub adds : Adds old.lines.items new.lines.items told.command told.answer

  pub coord_line_carried : (old : CoordActor P D) (manager : GlobalManager P) (disk : D) (new : CoordActor P D) (turns : List CoordTurn) (told : CoordLineParts) (took : Option (Envelope FromSite))
      → IsCoordPlanned rings plan old.ports.items → IsCoordKept plan turns old → length old.lines.items < most_lines → IsCoordTold plan turns told took → is_trip told.command ≡ false
      → Stands test tells manager (seen disk) plan.terms plan.programs (coord_behind plan.terms (coord_past_of plan turns) (coord_request plan (coord_past_of plan turns) told.command took))
      → HaveHeard (coord_turn_of (record old { manager = manager; disk = disk }) told took ∷ turns) old.ports.items → (seen disk).faults ≡ plan.faults
      → CoordCarries test tells (seen disk) (record old { manager = manager; disk = disk }) new told
      → IsBesideCoordLines (record old { manager = manager; disk = disk }) new → HaveMovedOn new.ports.items → HasCoordLine old new told
  coord_line_carried old manager disk new turns told took planned kept few is untripped stood heard faults carries beside moved_on =
      let mid : CoordActor P D = record old { manager = manager; disk = disk } in
      let count = coord_as_many plan turns old kept.logged in
      let turn = coord_turn_of mid told took in
      let h = carries rings plan turns took (coord_kept_for old manager disk plan turns kept) (omega (arith, count, few)) is untripped planned stood in
      record {
        keeps = keeps_armed turn turns mid new (old.lines.items ++ turn.line ∷ []) planned h beside moved_on heard faults;
        view = coord_view_beside mid new beside;
        adds = adds old.lines.items new.lines.items turn.line told.command told.answer h.arming h.is_arming refl refl h.lines;
      }

  -- seen from before room was made
  pub coord_line_view : (old ready new : CoordActor P D) (told : CoordLineParts) → IsSameCoord old ready → ready.first ≡ old.first → HasCoordLine ready new told → coord_view_of new false ≡ record (coord_view_of old false) { lines = new.lines.items }
  coord_line_view old ready new told same first h = h.view ∙ ap (λ (v : CoordView). record v { lines = new.lines.items }) (coord_view_same old ready same first false)

  pub coord_line_adds : (old ready new : CoordActor P D) (told : CoordLineParts) (command : Command) (answer : Answer) → IsSameCoord old ready → HasCoordLine ready new told → told.command ≡ command → told.answer ≡ answer
      → Adds old.lines.items new.lines.items command answer
  coord_line_adds old ready new told command answer same h command_is answer_is =
      subst (λ (ls : List Stamped). Adds ls new.lines.items command answer) same.lines
      (subst (λ (a : Answer). Adds ready.lines.items new.lines.items command a) answer_is (subst (λ (c : Command). Adds ready.lines.items new.lines.items c told.answer) command_is h.adds))
