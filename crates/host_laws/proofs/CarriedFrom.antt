-- The ring from a site: what the lines of its host say, and what the coordinator's lines take.
use Rattle.std.proofs.Common.{◌≡◌, ℕ, ◌<◌, ◌^◌, ◌⊎◌, cond, Bool, true, false, Option, Some, None, List, [], ◌∷◌, ◌++◌, length, map, refl, sym, ap, ap₂, ◌∙◌, subst, inl, inr, arith}
use Rattle.mdb_base.specs.declared.names.SiteId.{SiteId}
use Rattle.mdb_base.specs.Names.{same_site}
use Rattle.mdb_base.specs.Words.{Each, found, map_some, with_some}
use Rattle.mdb_base.proofs.ForCallers.{same_site-refl}
use Rattle.fed_rules.specs.declared.answers.Answer.{Answer}
use Rattle.fed_rules.specs.declared.commands.Command.{Command}
use Rattle.fed_rules.specs.declared.commands.Command.TheVariants as Cmd
use Rattle.fed_rules.specs.declared.commands.Place.{Place}
use Rattle.fed_rules.specs.declared.messages.FromSite.{FromSite}
use Rattle.fed_rules.specs.declared.messages.ToSite.{ToSite}
use Rattle.fed_messages.specs.declared.Envelope.{Envelope}
use Rattle.fed_messages.specs.declared.Packet.{Packet}
use Rattle.fed_messages.specs.Packets.{Spells, envelope_bytes}
use Rattle.fed_messages.specs.Spelling.{IsFromSite, from_site_bytes}
use Rattle.fed_rules.specs.Terms.{IsAmong}
use Rattle.host_laws.specs.CoordHearing.{BearsFrom, IsReadFrom}
use Rattle.host_laws.specs.CoordHistory.{IsCoordCommand, IsCoordHistory}
use Rattle.host_laws.specs.CoordPlans.{CoordPlan}
use Rattle.host_laws.specs.CoordTurns.{CoordTurn, from_site, took_from}
use Rattle.host_laws.specs.History.{IsCommand, IsHistory}
use Rattle.host_laws.specs.Lines.{stamp_of}
use Rattle.host_laws.specs.Merged.{taken_place}
use Rattle.host_laws.specs.Plans.{SitePlan}
use Rattle.host_laws.specs.Turns.{SiteTurn, packets_by, request_at, sends_at, sent_by, past_of}
use Rattle.host_laws.proofs.CarriedChannels.{DoesBear, IsBorne, MayBear, Said, WasSent, offered_in, packet_at, sent_in}
use Rattle.host_laws.proofs.CarriedPackets.{spells_text}
use Rattle.host_laws.proofs.Sides.{few_sent}

-- What the lines of the site's host say.

module _ (plan : SitePlan) where
  -- what the lines say to the coordinator
  abbrev pub said_from : List SiteTurn → List (Said FromSite)
  said_from [] = []
  said_from (turn ∷ turns) = record { stamp = turn.line.stamp; messages = sends_at plan turns turn; few = few_sent plan.home (past_of plan turns) (request_at plan turns turn) } ∷ said_from turns

  pub from_sent : (turns : List SiteTurn) → sent_by plan turns ≡ sent_in (said_from turns)
  from_sent [] = refl
  from_sent (turn ∷ turns) = ap (λ (messages : List FromSite). messages ++ sends_at plan turns turn) (from_sent turns)

  pub from_offered : (turns : List SiteTurn) → packets_by plan turns ≡ offered_in from_site_bytes (said_from turns)
  from_offered [] = refl
  from_offered (turn ∷ turns) =
      ap₂ (λ (packets : List Packet) (n : ℕ). packets ++ map (packet_at from_site_bytes n turn.line.stamp) (sends_at plan turns turn))
      (from_offered turns) (ap length (from_sent turns))

  pub from_length : (turns : List SiteTurn) → length (said_from turns) ≡ length turns
  from_length [] = refl
  from_length (turn ∷ turns) = let rest = from_length turns in omega (arith, rest)

  -- each stamp of what is said is one of the lines
  pub from_stamps : (P : ℕ → Type 0) (turns : List SiteTurn) → Each (λ turn. P turn.line.stamp) turns → Each (λ said. P said.stamp) (said_from turns)
  from_stamps P [] h = tt
  from_stamps P (turn ∷ turns) h = (h.0, from_stamps P turns h.1)

-- a packet that was sent bears its envelope, where that is in range
pub sent_bears_from : (saids : List (Said FromSite)) (packet : Packet) (w : WasSent from_site_bytes saids packet) → w.index < 2 ^ 32 → w.stamp < 2 ^ 62 → IsFromSite w.message
    → BearsFrom packet (record { index = w.index; stamp = w.stamp; message = w.message })
sent_bears_from saids packet w index stamp message =
    record {
      in_range = record { index = index; stamp = omega (arith, stamp); message = message };
      spelled = subst (λ (p : Packet). Spells p (envelope_bytes from_site_bytes sent)) (sym w.is) (spells_text (envelope_bytes from_site_bytes sent));
      small = stamp;
    }
  where
    sent : Envelope FromSite
    sent = record { index = w.index; stamp = w.stamp; message = w.message }

-- What the coordinator's host takes.

borne_from : (packet : Packet) (envelope : Envelope FromSite) → BearsFrom packet envelope → IsBorne from_site_bytes packet envelope
borne_from packet envelope b = record { index = b.in_range.index; spelled = b.spelled; small = b.small }

pub may_bear_from : (packet : Packet) (o : Option (Envelope FromSite)) → IsReadFrom packet o → MayBear from_site_bytes packet o
may_bear_from packet None h = tt
may_bear_from packet (Some envelope) h = borne_from packet envelope h

pub does_bear_from : (packet : Packet) (envelope : Envelope FromSite) (o : Option (Envelope FromSite)) → BearsFrom packet envelope → IsReadFrom packet o → DoesBear from_site_bytes packet o
does_bear_from packet envelope None b h = h envelope b
does_bear_from packet envelope (Some other) b h = borne_from packet other h

-- The lines of the coordinator's host.

-- the place that a line of the host takes of the messages from a site is the number of the envelope that it takes from there
module _ (site : SiteId) (plan : CoordPlan) (turns : List CoordTurn) where
  place_at : (own : SiteId) (place : ℕ) (took : Option (Envelope FromSite)) (envelope : Envelope FromSite) → took ≡ Some envelope → place ≡ envelope.index → (b : Bool)
      → cond b (Some place) None ≡ map_some (λ (e : Envelope FromSite). e.index) (cond b took None)
  place_at own place took envelope is same true = ap (λ (n : ℕ). Some n) same ∙ sym (ap (map_some (λ (e : Envelope FromSite). e.index)) is)
  place_at own place took envelope is same false = refl

  place_taken : (answer : Answer) (sends : List Place) (command : Command) (took : Option (Envelope FromSite)) → IsCoordCommand plan turns command took
      → taken_place site (record { command = command; answer = answer; sends = sends }) ≡ map_some (λ (envelope : Envelope FromSite). envelope.index) (from_site site command took)
  place_taken answer sends (Cmd.Take own place) took h = place_at own place took h.1.envelope h.1.is h.1.place_is (same_site own site)
  place_taken answer sends command took h = refl

pub places_taken : (site : SiteId) (plan : CoordPlan) (turns : List CoordTurn) → IsCoordHistory plan turns
    → Each (λ turn. taken_place site turn.line.line ≡ map_some (λ (envelope : Envelope FromSite). envelope.index) (from_site site turn.line.line.command turn.took)) turns
places_taken site plan [] h = tt
places_taken site plan (turn ∷ turns) h = (place_taken site plan turns turn.line.line.answer turn.line.line.sends turn.line.line.command turn.took h.0.command, places_taken site plan turns h.1)

-- a line of a site's host takes none
module _ (site : SiteId) (plan : SitePlan) (turns : List SiteTurn) where
  takes_none : (answer : Answer) (sends : List Place) (command : Command) (took : Option (Envelope ToSite)) → IsCommand plan turns command took
      → taken_place site (record { command = command; answer = answer; sends = sends }) ≡ None
  takes_none answer sends (Cmd.Take own place) took h = absurd h
  takes_none answer sends command took h = refl

pub site_takes_none : (site : SiteId) (plan : SitePlan) (turns : List SiteTurn) → IsHistory plan turns → Each (λ turn. taken_place site turn.line.line ≡ None) turns
site_takes_none site plan [] h = tt
site_takes_none site plan (turn ∷ turns) h = (takes_none site plan turns turn.line.line.answer turn.line.line.sends turn.line.line.command turn.took h.0.command, site_takes_none site plan turns h.1)

-- The stamps that the lines take.

-- where a fact holds of the stamp of each envelope that is found, it holds of each line's, or that is 0
pub stamps_found : {T M : Type 0} (look : T → Option (Envelope M)) (P : ℕ → Type 0) (lines : List T) → Each (λ envelope. P envelope.stamp) (found look lines) → Each (λ line. (stamp_of (look line) ≡ 0) ⊎ P (stamp_of (look line))) lines
stamps_found look P [] h = tt
stamps_found {T} {M} look P (line ∷ lines) h = by_value (look line) refl h (stamps_found look P lines)
  where
    by_value : (o : Option (Envelope M)) → look line ≡ o → Each (λ envelope. P envelope.stamp) (with_some o (found look lines))
        → (Each (λ envelope. P envelope.stamp) (found look lines) → Each (λ other. (stamp_of (look other) ≡ 0) ⊎ P (stamp_of (look other))) lines)
        → Each (λ other. (stamp_of (look other) ≡ 0) ⊎ P (stamp_of (look other))) (line ∷ lines)
    by_value None e h rest = (inl (ap stamp_of e), rest h)
    by_value (Some envelope) e h rest = (inr (subst P (sym (ap stamp_of e)) h.0), rest h.1)

-- of the coordinator's lines, where it holds of what is taken from each of its sites
module _ (plan : CoordPlan) (P : ℕ → Type 0) where
  abbrev HoldsFrom : List CoordTurn → Type 0
  HoldsFrom turns = (site : SiteId) → IsAmong site plan.terms.protocols → Each (λ (envelope : Envelope FromSite). P envelope.stamp) (took_from site turns)

  from_rest : (turn : CoordTurn) (turns : List CoordTurn) → HoldsFrom (turn ∷ turns) → HoldsFrom turns
  from_rest turn turns h site among = by_value (from_site site turn.line.line.command turn.took) (h site among)
    where
      by_value : (o : Option (Envelope FromSite)) → Each (λ (envelope : Envelope FromSite). P envelope.stamp) (with_some o (took_from site turns)) → Each (λ (envelope : Envelope FromSite). P envelope.stamp) (took_from site turns)
      by_value None all = all
      by_value (Some envelope) all = all.1

  none_taken : (took : Option (Envelope FromSite)) → took ≡ None → (stamp_of took ≡ 0) ⊎ P (stamp_of took)
  none_taken took none = inl (ap stamp_of none)

  stamp_taken : (turns : List CoordTurn) (command : Command) (took : Option (Envelope FromSite)) → IsCoordCommand plan turns command took
      → ((site : SiteId) → IsAmong site plan.terms.protocols → Each (λ (envelope : Envelope FromSite). P envelope.stamp) (with_some (from_site site command took) (took_from site turns))) → (stamp_of took ≡ 0) ⊎ P (stamp_of took)
  stamp_taken turns (Cmd.Go tx) took h all = none_taken took h.1
  stamp_taken turns (Cmd.Fate tx) took h all = none_taken took h.1
  stamp_taken turns (Cmd.Again tid) took h all = none_taken took h
  stamp_taken turns (Cmd.Late tid) took h all = none_taken took h
  stamp_taken turns (Cmd.Take site place) took h all =
      let own : cond (same_site site site) took None ≡ Some h.1.envelope = ap (λ (b : Bool). cond b took None) (same_site-refl site) ∙ h.1.is in
      let each = subst (λ (o : Option (Envelope FromSite)). Each (λ (envelope : Envelope FromSite). P envelope.stamp) (with_some o (took_from site turns))) own (all site h.0) in
      inr (subst P (sym (ap stamp_of h.1.is)) each.0)
  stamp_taken turns (Cmd.Trip actor calls cut) took h all = none_taken took h.1
  stamp_taken turns (Cmd.Back actor) took h all = none_taken took h.1
  stamp_taken turns (Cmd.Begin tx) took h all = absurd h
  stamp_taken turns (Cmd.Step tx) took h all = absurd h
  stamp_taken turns (Cmd.Commit tx) took h all = absurd h
  stamp_taken turns (Cmd.Abort tx) took h all = absurd h
  stamp_taken turns (Cmd.Give site place) took h all = absurd h
  stamp_taken turns (Cmd.Ask site tid) took h all = absurd h
  stamp_taken turns (Cmd.Drop site tid) took h all = absurd h
  stamp_taken turns (Cmd.Halt actor cut) took h all = absurd h
  stamp_taken turns (Cmd.Check actor) took h all = absurd h

  pub stamps_taken : (turns : List CoordTurn) → IsCoordHistory plan turns → HoldsFrom turns → Each (λ turn. (stamp_of turn.took ≡ 0) ⊎ P (stamp_of turn.took)) turns
  stamps_taken [] h all = tt
  stamps_taken (turn ∷ turns) h all = (stamp_taken turns turn.line.line.command turn.took h.0.command all, stamps_taken turns h.1 (from_rest turn turns all))
