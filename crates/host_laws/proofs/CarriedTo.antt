-- The ring to a site: what the coordinator's lines say, and what the lines of the site's host take.
use Rattle.std.proofs.Common.{◌≡◌, ℕ, ◌<◌, ◌^◌, cond, Bool, false, Option, Some, None, List, [], ◌∷◌, ◌++◌, length, map, refl, sym, ap, ap₂, ◌∙◌, subst, arith, IsSome}
use Rattle.std.specs.Option.{option_to_list}
use Rattle.mdb_base.specs.declared.names.SiteId.{SiteId}
use Rattle.mdb_base.specs.declared.names.Tx.{Tx}
use Rattle.mdb_base.specs.Names.{same_site, same_tx}
use Rattle.mdb_base.specs.Words.{Each, first_where, map_some}
use Rattle.mdb_base.proofs.ForCallers.{length-option, same_site-refl}
use Rattle.fed_rules.specs.declared.answers.Answer.{Answer}
use Rattle.fed_rules.specs.declared.commands.Command.{Command}
use Rattle.fed_rules.specs.declared.commands.Command.TheVariants as Cmd
use Rattle.fed_rules.specs.declared.commands.Place.{Place}
use Rattle.fed_rules.specs.declared.messages.FromSite.{FromSite}
use Rattle.fed_rules.specs.declared.messages.ToSite.{ToSite}
use Rattle.fed_rules.specs.declared.scenario.Scenario.{Scenario}
use Rattle.fed_rules.specs.declared.scenario.TxLine.{TxLine}
use Rattle.fed_rules.specs.Scenarios.{global_line, global_program}
use Rattle.fed_messages.specs.declared.Envelope.{Envelope}
use Rattle.fed_messages.specs.declared.Packet.{Packet}
use Rattle.fed_messages.specs.Packets.{Spells, envelope_bytes}
use Rattle.fed_messages.specs.Spelling.{IsToSite, to_site_bytes}
use Rattle.fed_rules.specs.OwnPrograms.{OwnPrograms, own_programs, program_at}
use Rattle.fed_rules.specs.Site_of.{about, message_to}
use Rattle.host_laws.specs.CoordHistory.{IsCoordCommand, IsCoordHistory}
use Rattle.host_laws.specs.CoordPlans.{CoordPlan}
use Rattle.host_laws.specs.CoordTurns.{CoordTurn, coord_sends_at, offered_to, sent_to}
use Rattle.host_laws.specs.Hearing.{Bears, IsRead}
use Rattle.host_laws.specs.History.{IsCommand, IsHistory}
use Rattle.host_laws.specs.Merged.{given_place}
use Rattle.host_laws.specs.Plans.{SitePlan}
use Rattle.host_laws.specs.Turns.{SiteTurn}
use Rattle.host_laws.proofs.CarriedChannels.{DoesBear, IsBorne, MayBear, Said, WasSent, offered_in, packet_at, sent_in}
use Rattle.host_laws.proofs.CarriedPackets.{spells_text}

-- What the coordinator's lines say.

module _ (plan : CoordPlan) (site : SiteId) where
  -- what the lines say to the site
  abbrev pub said_to : List CoordTurn → List (Said ToSite)
  said_to [] = []
  said_to (turn ∷ turns) =
      record { stamp = turn.line.stamp; messages = option_to_list (message_to site (coord_sends_at plan turns turn)); few = length-option (message_to site (coord_sends_at plan turns turn)) } ∷ said_to turns

  pub to_sent : (turns : List CoordTurn) → sent_to plan site turns ≡ sent_in (said_to turns)
  to_sent [] = refl
  to_sent (turn ∷ turns) = ap (λ (messages : List ToSite). messages ++ option_to_list (message_to site (coord_sends_at plan turns turn))) (to_sent turns)

  pub to_offered : (turns : List CoordTurn) → offered_to plan site turns ≡ offered_in to_site_bytes (said_to turns)
  to_offered [] = refl
  to_offered (turn ∷ turns) =
      ap₂ (λ (packets : List Packet) (n : ℕ). packets ++ map (packet_at to_site_bytes n turn.line.stamp) (option_to_list (message_to site (coord_sends_at plan turns turn))))
      (to_offered turns) (ap length (to_sent turns))

  pub to_length : (turns : List CoordTurn) → length (said_to turns) ≡ length turns
  to_length [] = refl
  to_length (turn ∷ turns) = let rest = to_length turns in omega (arith, rest)

  -- each stamp of what is said is one of the lines
  pub to_stamps : (P : ℕ → Type 0) (turns : List CoordTurn) → Each (λ turn. P turn.line.stamp) turns → Each (λ said. P said.stamp) (said_to turns)
  to_stamps P [] h = tt
  to_stamps P (turn ∷ turns) h = (h.0, to_stamps P turns h.1)

-- a packet that was sent bears its envelope, where that is in range and about no transaction of the site's own
pub sent_bears : (programs : OwnPrograms) (saids : List (Said ToSite)) (packet : Packet) (w : WasSent to_site_bytes saids packet) → w.index < 2 ^ 32 → w.stamp < 2 ^ 62 → IsToSite w.message → programs (about w.message).tx ≡ None
    → Bears programs packet (record { index = w.index; stamp = w.stamp; message = w.message })
sent_bears programs saids packet w index stamp message foreign =
    record {
      in_range = record { index = index; stamp = omega (arith, stamp); message = message };
      spelled = subst (λ (p : Packet). Spells p (envelope_bytes to_site_bytes sent)) (sym w.is) (spells_text (envelope_bytes to_site_bytes sent));
      small = stamp;
      foreign = foreign;
    }
  where
    sent : Envelope ToSite
    sent = record { index = w.index; stamp = w.stamp; message = w.message }

-- a message about a global transaction is about none of the site's own
module _ (site : SiteId) where
  not_at : (tx : Tx) (home : Option SiteId) (program : List _) → IsSome (map_some (λ (line : TxLine). line.program) (global_line (Some (record { tx = tx; home = home; program = program })))) → program_at site (Some (record { tx = tx; home = home; program = program })) ≡ None
  not_at tx None program h = refl
  not_at tx (Some home) program h = cc

  not_own : (o : Option TxLine) → IsSome (map_some (λ (line : TxLine). line.program) (global_line o)) → program_at site o ≡ None
  not_own None h = refl
  not_own (Some line) h = not_at line.tx line.home line.program h

  pub foreign_global : (scenario : Scenario) (tx : Tx) → IsSome (global_program scenario tx) → own_programs site scenario.transactions tx ≡ None
  foreign_global scenario tx h = not_own (first_where (λ (line : TxLine). same_tx line.tx tx) scenario.transactions) h

-- What the site's host takes.

borne_to : (programs : OwnPrograms) (packet : Packet) (envelope : Envelope ToSite) → Bears programs packet envelope → IsBorne to_site_bytes packet envelope
borne_to programs packet envelope b = record { index = b.in_range.index; spelled = b.spelled; small = b.small }

pub may_bear_to : (programs : OwnPrograms) (packet : Packet) (o : Option (Envelope ToSite)) → IsRead programs packet o → MayBear to_site_bytes packet o
may_bear_to programs packet None h = tt
may_bear_to programs packet (Some envelope) h = borne_to programs packet envelope h

pub does_bear_to : (programs : OwnPrograms) (packet : Packet) (envelope : Envelope ToSite) (o : Option (Envelope ToSite)) → Bears programs packet envelope → IsRead programs packet o → DoesBear to_site_bytes packet o
does_bear_to programs packet envelope None b h = h envelope b
does_bear_to programs packet envelope (Some other) b h = borne_to programs packet other h

-- The lines of the site's host.

-- the place that a line of the host gives of the messages to its site is the number of the envelope that it takes
module _ (site : SiteId) (plan : SitePlan) (turns : List SiteTurn) (own : plan.home.site ≡ site) where
  no_place : (took : Option (Envelope ToSite)) → took ≡ None → None ≡ map_some (λ (envelope : Envelope ToSite). envelope.index) took
  no_place took none = sym (ap (map_some (λ (envelope : Envelope ToSite). envelope.index)) none)

  place_given : (answer : Answer) (sends : List Place) (command : Command) (took : Option (Envelope ToSite)) → IsCommand plan turns command took
      → given_place site (record { command = command; answer = answer; sends = sends }) ≡ map_some (λ (envelope : Envelope ToSite). envelope.index) took
  place_given answer sends (Cmd.Begin tx) took h = no_place took h.1
  place_given answer sends (Cmd.Step tx) took h = no_place took h.1
  place_given answer sends (Cmd.Commit tx) took h = no_place took h.1
  place_given answer sends (Cmd.Abort tx) took h = no_place took h.1
  place_given answer sends (Cmd.Fate tx) took h = no_place took h.1
  place_given answer sends (Cmd.Give at place) took h =
      ap (λ (b : Bool). cond b (Some place) None) (ap (λ (s : SiteId). same_site s site) (h.0 ∙ own) ∙ same_site-refl site)
      ∙ ap (λ (n : ℕ). Some n) h.1.place_is
      ∙ sym (ap (map_some (λ (envelope : Envelope ToSite). envelope.index)) h.1.is)
  place_given answer sends (Cmd.Ask at tid) took h = no_place took h.1
  place_given answer sends (Cmd.Trip actor calls cut) took h = no_place took h.1
  place_given answer sends (Cmd.Back actor) took h = no_place took h.1
  place_given answer sends (Cmd.Go tx) took h = absurd h
  place_given answer sends (Cmd.Again tid) took h = absurd h
  place_given answer sends (Cmd.Late tid) took h = absurd h
  place_given answer sends (Cmd.Take at place) took h = absurd h
  place_given answer sends (Cmd.Drop at tid) took h = absurd h
  place_given answer sends (Cmd.Halt actor cut) took h = absurd h
  place_given answer sends (Cmd.Check actor) took h = absurd h

pub places_given : (site : SiteId) (plan : SitePlan) (turns : List SiteTurn) → plan.home.site ≡ site → IsHistory plan turns
    → Each (λ turn. given_place site turn.line.line ≡ map_some (λ (envelope : Envelope ToSite). envelope.index) turn.took) turns
places_given site plan [] own h = tt
places_given site plan (turn ∷ turns) own h = (place_given site plan turns own turn.line.line.answer turn.line.line.sends turn.line.line.command turn.took h.0.command, places_given site plan turns own h.1)

-- a line of another site's host gives none
module _ (site : SiteId) (plan : SitePlan) (turns : List SiteTurn) (other : same_site plan.home.site site ≡ false) where
  none_given : (answer : Answer) (sends : List Place) (command : Command) (took : Option (Envelope ToSite)) → IsCommand plan turns command took
      → given_place site (record { command = command; answer = answer; sends = sends }) ≡ None
  none_given answer sends (Cmd.Give at place) took h = ap (λ (b : Bool). cond b (Some place) None) (ap (λ (s : SiteId). same_site s site) h.0 ∙ other)
  none_given answer sends command took h = refl

pub nothing_given : (site : SiteId) (plan : SitePlan) (turns : List SiteTurn) → same_site plan.home.site site ≡ false → IsHistory plan turns → Each (λ turn. given_place site turn.line.line ≡ None) turns
nothing_given site plan [] other h = tt
nothing_given site plan (turn ∷ turns) other h = (none_given site plan turns other turn.line.line.answer turn.line.line.sends turn.line.line.command turn.took h.0.command, nothing_given site plan turns other h.1)

-- and a line of the coordinator's host gives none
module _ (site : SiteId) (plan : CoordPlan) (turns : List CoordTurn) where
  gives_none : (answer : Answer) (sends : List Place) (command : Command) (took : Option (Envelope FromSite)) → IsCoordCommand plan turns command took
      → given_place site (record { command = command; answer = answer; sends = sends }) ≡ None
  gives_none answer sends (Cmd.Give at place) took h = absurd h
  gives_none answer sends command took h = refl

pub coordinator_gives_none : (site : SiteId) (plan : CoordPlan) (turns : List CoordTurn) → IsCoordHistory plan turns → Each (λ turn. given_place site turn.line.line ≡ None) turns
coordinator_gives_none site plan [] h = tt
coordinator_gives_none site plan (turn ∷ turns) h = (gives_none site plan turns turn.line.line.answer turn.line.line.sends turn.line.line.command turn.took h.0.command, coordinator_gives_none site plan turns h.1)
