-- What the next line takes was sent in the story so far.
use Rattle.std.proofs.Common.{◌≡◌, ℕ, ◌<◌, true, false, Option, Some, None, List, ◌∷◌, ◌++◌, reverse, slice_get, sym, ap, ◌∙◌, subst, arith}
use Rattle.mdb_base.specs.declared.names.SiteId.{SiteId}
use Rattle.mdb_base.specs.Names.{same_site}
use Rattle.mdb_base.specs.Words.{found, item_at, some_of}
use Rattle.mdb_base.proofs.ForCallers.{cond-true, same_site-refl, some_parts}
use Rattle.order_laws.specs.Chains.{In}
use Rattle.presumptions.specs.declared.Participant.{Participant}
use Rattle.order_laws.proofs.ForCallers.{found_there}
use Rattle.fed_rules.specs.declared.commands.Command.{Command}
use Rattle.fed_rules.specs.declared.commands.Line.{Line}
use Rattle.fed_rules.specs.declared.commands.Stamped.{Stamped}
use Rattle.fed_rules.specs.declared.scenario.Scenario.{Scenario}
use Rattle.fed_rules.specs.Right.{story_told}
use Rattle.fed_rules.specs.Scenarios.{protocols, sites}
use Rattle.fed_rules.specs.Story as Told
use Rattle.fed_rules.specs.Terms.{IsAmong}
use Rattle.fed_messages.specs.declared.Envelope.{Envelope}
use Rattle.fed_messages.specs.declared.Packet.{Packet}
use Rattle.fed_messages.specs.Spelling.{IsFromSite, IsToSite, from_site_bytes, to_site_bytes}
use Rattle.trace_merge.specs.Traces.{Entry, IsOrdered}
use Rattle.host_laws.specs.CoordHearing.{BearsFrom, IsReadFrom, TakingFrom}
use Rattle.host_laws.specs.CoordHistory.{IsCoordCommand, IsCoordNext}
use Rattle.host_laws.specs.CoordTurns.{CoordTurn, coord_last_stamp, from_site, offered_to, sent_to, took_from}
use Rattle.host_laws.specs.Hearing.{Bears, IsRead, Taking}
use Rattle.host_laws.specs.History.{IsNext}
use Rattle.host_laws.specs.Lines.{next_stamp, stamp_of}
use Rattle.host_laws.specs.Logs.{AreLogs, CoordLog, Scripts, SiteLog}
use Rattle.host_laws.specs.Merged.{AreShort}
use Rattle.host_laws.specs.Turns.{SiteTurn, last_stamp, packets_by, sends_at, sent_by}
use Rattle.host_laws.specs.Written.{FitsFromSite, FitsToSite}
use Rattle.host_laws.proofs.AtCoordinator.{WasTaken}
use Rattle.host_laws.proofs.AtSite.{WasGiven}
use Rattle.host_laws.proofs.DeclaredSites.{beside, place_of}
use Rattle.host_laws.proofs.Rings.{arrived, came_offered, heard, in_middle}
use Rattle.host_laws.proofs.Sides.{Sides, from_channel, not_earlier, sends_to_site, to_channel}
use Rattle.host_laws.proofs.Stamps.{among_in, coord_stamps, site_stamps}
use Rattle.host_laws.proofs.Spelled.{one_from_site, one_to_site}

-- a message that is taken has a lesser stamp than the line
earlier : {M : Type 0} (stamp last : ℕ) (took : Option (Envelope M)) (envelope : Envelope M) → stamp ≡ next_stamp last (stamp_of took) → took ≡ Some envelope → envelope.stamp < stamp
earlier stamp last None envelope is e = cc
earlier stamp last (Some other) envelope is e = (let same : other.stamp ≡ envelope.stamp = ap (λ n. n.stamp) (some_parts e) in omega (arith, same, is))

-- the item of a number, by another list and number that are the same
by_number : {M : Type 0} (ms ns : List M) (place index : ℕ) (message : M) → ms ≡ ns → place ≡ index → item_at ns index ≡ Some message → item_at ms place ≡ Some message
by_number {M} ms ns place index message same is at = ap (λ (xs : List M). item_at xs place) same ∙ ap (λ (n : ℕ). item_at ns n) is ∙ at

module _ (scripts : Scripts) (scenario : Scenario) (coordinator : CoordLog) (logs : List SiteLog) (are : AreLogs scripts scenario coordinator logs) (short : AreShort coordinator logs)
    (told : List Line) (e : Entry) (rest : List Entry) (ordered : IsOrdered (e ∷ rest)) (sides : Sides scenario coordinator logs told (e ∷ rest)) where
  -- the coordinator takes a message of its number
  pub coord_takes : (turn : CoordTurn) (ahead done : List CoordTurn) → reverse ahead ++ turn ∷ done ≡ coordinator.turns → turn.line ≡ e.line → IsCoordNext coordinator.plan done turn
      → WasTaken (story_told scenario told) turn.line.line.command turn.took
  coord_takes turn ahead done split line_is next site place envelope command_is took_is place_is =
      let among : IsAmong site coordinator.plan.terms.protocols = (subst (λ (c : Command). IsCoordCommand coordinator.plan done c turn.took) command_is next.command).0 in
      let declared : In site (sites scenario) = among_in (protocols scenario) site (ap (λ t. some_of (λ (member : Participant). same_site member.site site) t.protocols) (sym are.coordinator_is.terms) ∙ among) in
      let p = place_of site (sites scenario) declared in
      let log = beside (sites scenario) logs p.0 site are.count p.1 in
      let took = beside (sites scenario) coordinator.tooks p.0 site are.coordinator_is.count p.1 in
      let side = sides.each p.0 site log.0 p.1 log.1 in
      let it = are.site_is p.0 site log.0 p.1 log.1 in
      let few = short.1 p.0 log.0 log.1 in
      let linked = are.linked p.0 site log.0 took.0 p.1 log.1 took.1 in
      let hears = are.coordinator_is.heard p.0 site took.0 p.1 took.1 in
      let bears : from_site site turn.line.line.command turn.took ≡ Some envelope =
      ap (λ (c : Command). from_site site c turn.took) command_is ∙ cond-true (same_site site site) turn.took None (same_site-refl site) ∙ took_is in
      let there : In envelope (took_from site coordinator.turns) =
      found_there (λ (t : CoordTurn). from_site site t.line.line.command t.took) turn envelope coordinator.turns (subst (In turn) split (in_middle (reverse ahead) done turn)) bears in
      let h =
      heard (λ (taking : TakingFrom). taking.packet) (λ (taking : TakingFrom). taking.bears) IsReadFrom hears.takings took.0 (took_from site coordinator.turns) envelope hears.packets_are hears.read hears.envelopes_are there in
      let packet : Packet = h.packet in
      let read : BearsFrom packet envelope = h.read in
      let offered : In packet (packets_by log.0.plan log.0.turns) = came_offered (scripts false site) (packets_by log.0.plan log.0.turns) took.0 packet linked.from h.among in
      let less : envelope.stamp < e.line.stamp =
      subst (λ (x : Stamped). envelope.stamp < x.stamp) line_is (earlier turn.line.stamp (coord_last_stamp done) turn.took envelope next.stamp took_is) in
      by_number (Told.sent_from site (story_told scenario told)) (sent_by log.0.plan side.done) place envelope.index envelope.message side.from place_is
      (arrived (λ (t : SiteTurn). t.line.stamp) from_site_bytes (sends_at log.0.plan) (sent_by log.0.plan) (packets_by log.0.plan) FitsFromSite IsFromSite one_from_site (from_channel log.0.plan)
      log.0.turns side.ahead side.done side.split (omega (arith, few)) (site_stamps scripts scenario coordinator logs are short p.0 site log.0 p.1 log.1) it.fit packet envelope offered read.in_range read.spelled e.line.stamp
      (not_earlier (λ (t : SiteTurn). t.line) site.0 e rest side.ahead ordered side.lines) less)

  -- so does a site
  pub site_takes : (p : ℕ) (site : SiteId) (log : SiteLog) → slice_get (sites scenario) p ≡ Some site → slice_get logs p ≡ Some log
      → (turn : SiteTurn) (ahead done : List SiteTurn) → reverse ahead ++ turn ∷ done ≡ log.turns → turn.line ≡ e.line → IsNext log.plan done turn
      → WasGiven (story_told scenario told) site turn.line.line.command turn.took
  site_takes p site log at log_at turn ahead done split line_is next place envelope command_is took_is place_is =
      let took = beside (sites scenario) coordinator.tooks p site are.coordinator_is.count at in
      let side = sides.each p site log at log_at in
      let it = are.site_is p site log at log_at in
      let few = short.0 in
      let linked = are.linked p site log took.0 at log_at took.1 in
      let there : In envelope (found (λ (t : SiteTurn). t.took) log.turns) =
      found_there (λ (t : SiteTurn). t.took) turn envelope log.turns (subst (In turn) split (in_middle (reverse ahead) done turn)) took_is in
      let h =
      heard (λ (taking : Taking). taking.packet) (λ (taking : Taking). taking.bears) (IsRead log.plan.programs) it.heard.takings log.took (found (λ (t : SiteTurn). t.took) log.turns) envelope
      it.heard.packets_are it.heard.read it.heard.envelopes_are there in
      let packet : Packet = h.packet in
      let read : Bears log.plan.programs packet envelope = h.read in
      let offered : In packet (offered_to coordinator.plan site coordinator.turns) =
      came_offered (scripts true site) (offered_to coordinator.plan site coordinator.turns) log.took packet linked.to h.among in
      let less : envelope.stamp < e.line.stamp =
      subst (λ (x : Stamped). envelope.stamp < x.stamp) line_is (earlier turn.line.stamp (last_stamp done) turn.took envelope next.stamp took_is) in
      by_number (Told.sent_to site (story_told scenario told)) (sent_to coordinator.plan site sides.own.done) place envelope.index envelope.message side.to place_is
      (arrived (λ (t : CoordTurn). t.line.stamp) to_site_bytes (sends_to_site coordinator.plan site) (sent_to coordinator.plan site) (offered_to coordinator.plan site) FitsToSite IsToSite one_to_site
      (to_channel coordinator.plan site)
      coordinator.turns sides.own.ahead sides.own.done sides.own.split (omega (arith, few)) (coord_stamps scripts scenario coordinator logs are short) (are.coordinator_is.fit p site at) packet envelope offered read.in_range read.spelled e.line.stamp
      (not_earlier (λ (t : CoordTurn). t.line) 0 e rest sides.own.ahead ordered sides.own.lines) less)
