-- No packet is left aside, and over each ring come the first messages that its script lets through.
use Rattle.std.proofs.Common.{◌≡◌, ℕ, ◌*◌, ◌<◌, ◌≤◌, ◌^◌, ◌⊎◌, true, false, Option, Some, None, List, length, map, reverse, slice_get, refl, sym, ap, ◌∙◌, subst, inl, inr, arith}
use Rattle.std.proofs.lemmas.Bool.Decides.{eqb_tells}
use Rattle.std.proofs.lemmas.List.{length-map, length-reverse}
use mathlib.Core.List.{IsPrefix}
use Rattle.mdb_base.specs.declared.acts.Step.{Step}
use Rattle.mdb_base.specs.declared.names.SiteId.{SiteId}
use Rattle.mdb_base.specs.declared.names.Tx.{Tx}
use Rattle.mdb_base.specs.Names.{same_site}
use Rattle.mdb_base.specs.Words.{Each, found, some_of}
use Rattle.mdb_base.proofs.ForCallers.{each_all, each_map, each_of_map, each_of_mapped}
use Rattle.order_laws.specs.Chains.{In}
use Rattle.order_laws.proofs.ForCallers.{each_at, each_reverse as reverse_each, map_reverse}
use Rattle.presumptions.specs.declared.Participant.{Participant}
use Rattle.fed_rules.proofs.ForCallers.{home-again, its-site}
use Rattle.fed_rules.specs.declared.commands.Line.{Line}
use Rattle.fed_rules.specs.declared.commands.Stamped.{Stamped}
use Rattle.fed_rules.specs.declared.messages.FromSite.{FromSite}
use Rattle.fed_rules.specs.declared.messages.ToSite.{ToSite}
use Rattle.fed_rules.specs.declared.scenario.Scenario.{Scenario}
use Rattle.fed_rules.specs.Scenarios.{home_of, protocols, sites}
use Rattle.fed_rules.specs.CoordPast.{CoordPast, begun_tids}
use Rattle.fed_rules.specs.Story as Told
use Rattle.fed_rules.specs.Story.{coord_past}
use Rattle.fed_rules.specs.Terms.{Terms, IsAmong}
use Rattle.coord_tables.specs.Terms.{Terms}
use Rattle.field_bytes.specs.Fields.{IsTid}
use Rattle.fed_messages.specs.declared.Envelope.{Envelope}
use Rattle.fed_messages.specs.declared.Packet.{Packet}
use Rattle.fed_messages.specs.Spelling.{IsFromSite, from_site_bytes, to_site_bytes}
use Rattle.scripted_link.specs.Script.{let_through}
use Rattle.fed_rules.specs.Site_of.{about}
use Rattle.trace_merge.specs.Traces.{Entry, IsTrace, list_of, lines_of}
use Rattle.world_laws.proofs.ForCallers.{messages_of_begun}
use Rattle.world_laws.specs.Messages.{IsBegunGlobal}
use Rattle.host_laws.specs.CoordHearing.{HasHeardFrom, TakingFrom, IsReadFrom}
use Rattle.host_laws.specs.CoordPlans.{CoordPlan}
use Rattle.host_laws.specs.CoordTurns.{CoordTurn, coord_last_stamp, from_site, took_from}
use Rattle.host_laws.specs.Hearing.{HasHeard, IsRead, Taking}
use Rattle.host_laws.specs.Lines.{stamp_of}
use Rattle.host_laws.specs.Logs.{AreLists, AreLogs, CoordLog, Scripts, SiteLog}
use Rattle.host_laws.specs.Merged.{AreShort, IsCarried, MergedLinesAreRight, MessagesAreCarried, TellsLogs, commands_of, given_place, lines_in, story_in, taken_place}
use Rattle.host_laws.specs.Turns.{SiteTurn, last_stamp}
use Rattle.host_laws.specs.Written.{FitsToSite}
use Rattle.host_laws.proofs.CarriedChannels.{DoesBear, MayBear, WasSent, carried, few_messages, offered_in, offered_sent, said_stamp, sent_in, taken_each, taken_places, taken_stamps, takings_each}
use Rattle.host_laws.proofs.CarriedClocks.{Follows, stamps_follow}
use Rattle.host_laws.proofs.CarriedFrom.{does_bear_from, from_length, from_offered, from_sent, from_stamps, may_bear_from, places_taken, said_from, sent_bears_from, site_takes_none, stamps_found, stamps_taken}
use Rattle.host_laws.proofs.CarriedHosts.{by_list, host_at, site_low}
use Rattle.host_laws.proofs.CarriedLists.{each_both, each_reverse, found_map, found_reverse, found_some}
use Rattle.host_laws.proofs.CarriedPackets.{index_in}
use Rattle.host_laws.proofs.CarriedTo.{coordinator_gives_none, does_bear_to, foreign_global, may_bear_to, nothing_given, places_given, said_to, sent_bears, to_length, to_offered, to_sent, to_stamps}
use Rattle.host_laws.proofs.CoordRanges.{begun_in_range, global_named, to_in_range}
use Rattle.host_laws.proofs.DeclaredSites.{beside}
use Rattle.host_laws.proofs.Stamps.{among_in, coord_paced, coord_stamp, coord_stamps, site_paced, site_stamp, site_stamps}
use Rattle.host_laws.proofs.SiteRanges.{AreNamed, own_named, site_in_range}
use Rattle.host_laws.proofs.CarriedTrace.{HasStamp, each_entry, each_line, entries_low, few_entries, found_entries, lines_had}

module _ (scripts : Scripts) (scenario : Scenario) (coordinator : CoordLog) (logs : List SiteLog) (lists : List (List Stamped)) (merged : List Stamped) (are : AreLogs scripts scenario coordinator logs)
    (has : AreLists scenario coordinator logs lists) (trace : IsTrace lists merged) (short : AreShort coordinator logs) where
  abbrev es : List Entry
  es = trace.entries

  abbrev plan : CoordPlan
  plan = coordinator.plan

  -- What each host heard.

  site_heard : (place : ℕ) (site : SiteId) (log : SiteLog) → slice_get (sites scenario) place ≡ Some site → slice_get logs place ≡ Some log
      → HasHeard log.plan.programs log.took (found (λ (turn : SiteTurn). turn.took) log.turns)
  site_heard place site log at there = (are.site_is place site log at there).heard

  site_reads : (place : ℕ) (site : SiteId) (log : SiteLog) (at : slice_get (sites scenario) place ≡ Some site) (there : slice_get logs place ≡ Some log)
      → Each (λ (taking : Taking). MayBear to_site_bytes taking.packet taking.bears) (site_heard place site log at there).takings
  site_reads place site log at there =
      let heard = site_heard place site log at there in
      each_map (λ (taking : Taking). IsRead log.plan.programs taking.packet taking.bears) (λ (taking : Taking). MayBear to_site_bytes taking.packet taking.bears) (λ taking read. may_bear_to log.plan.programs taking.packet taking.bears read)
      heard.takings heard.read

  coord_heard : (place : ℕ) (site : SiteId) (took : List Packet) → slice_get (sites scenario) place ≡ Some site → slice_get coordinator.tooks place ≡ Some took → HasHeardFrom took (took_from site coordinator.turns)
  coord_heard place site took at packets = are.coordinator_is.heard place site took at packets

  coord_reads : (place : ℕ) (site : SiteId) (took : List Packet) (at : slice_get (sites scenario) place ≡ Some site) (packets : slice_get coordinator.tooks place ≡ Some took)
      → Each (λ (taking : TakingFrom). MayBear from_site_bytes taking.packet taking.bears) (coord_heard place site took at packets).takings
  coord_reads place site took at packets =
      let heard = coord_heard place site took at packets in
      each_map (λ (taking : TakingFrom). IsReadFrom taking.packet taking.bears) (λ (taking : TakingFrom). MayBear from_site_bytes taking.packet taking.bears) (λ taking read. may_bear_from taking.packet taking.bears read)
      heard.takings heard.read

  -- What holds of the stamp of each message that is taken.

  site_after : (P : ℕ → Type 0) (place : ℕ) (site : SiteId) (log : SiteLog) (at : slice_get (sites scenario) place ≡ Some site) (there : slice_get logs place ≡ Some log)
      → Each (λ (envelope : Envelope ToSite). P envelope.stamp) (found (λ (taking : Taking). taking.bears) (site_heard place site log at there).takings)
      → Each (λ (turn : SiteTurn). (stamp_of turn.took ≡ 0) ⊎ P (stamp_of turn.took)) log.turns
  site_after P place site log at there h =
      let heard = site_heard place site log at there in
      stamps_found (λ (turn : SiteTurn). turn.took) P log.turns (subst (Each (λ (envelope : Envelope ToSite). P envelope.stamp)) (sym heard.envelopes_are) h)

  -- a site that is among the coordinator's is declared
  among_place : (site : SiteId) → IsAmong site plan.terms.protocols → In site (sites scenario)
  among_place site among = among_in (protocols scenario) site (subst (λ (t : Terms). some_of (λ (member : Participant). same_site member.site site) t.protocols ≡ true) are.coordinator_is.terms among)

  coord_after : (P : ℕ → Type 0)
      → ((place : ℕ) (site : SiteId) (log : SiteLog) (took : List Packet) → slice_get (sites scenario) place ≡ Some site → slice_get logs place ≡ Some log → (packets : slice_get coordinator.tooks place ≡ Some took) (at : slice_get (sites scenario) place ≡ Some site)
      → Each (λ (envelope : Envelope FromSite). P envelope.stamp) (found (λ (taking : TakingFrom). taking.bears) (coord_heard place site took at packets).takings))
      → Each (λ (turn : CoordTurn). (stamp_of turn.took ≡ 0) ⊎ P (stamp_of turn.took)) coordinator.turns
  coord_after P h =
      stamps_taken plan P coordinator.turns are.coordinator_is.right
      (λ site among.
      let host = host_at are site (among_place site among) in
      subst (Each (λ (envelope : Envelope FromSite). P envelope.stamp)) (sym (coord_heard host.place site host.took host.at host.packets).envelopes_are) (h host.place site host.log host.took host.at host.there host.packets host.at))

  -- Each packet that was taken was sent by a line.

  to_prefix : (place : ℕ) (site : SiteId) (log : SiteLog) (took : List Packet) → slice_get (sites scenario) place ≡ Some site → slice_get logs place ≡ Some log → slice_get coordinator.tooks place ≡ Some took
      → IsPrefix log.took (let_through (scripts true site) (offered_in to_site_bytes (said_to plan site coordinator.turns)))
  to_prefix place site log took at there packets =
      subst (λ (offered : List Packet). IsPrefix log.took (let_through (scripts true site) offered)) (to_offered plan site coordinator.turns) (are.linked place site log took at there packets).to

  from_prefix : (place : ℕ) (site : SiteId) (log : SiteLog) (took : List Packet) → slice_get (sites scenario) place ≡ Some site → slice_get logs place ≡ Some log → slice_get coordinator.tooks place ≡ Some took
      → IsPrefix took (let_through (scripts false site) (offered_in from_site_bytes (said_from log.plan log.turns)))
  from_prefix place site log took at there packets =
      subst (λ (offered : List Packet). IsPrefix took (let_through (scripts false site) offered)) (from_offered log.plan log.turns) (are.linked place site log took at there packets).from

  to_was : (place : ℕ) (site : SiteId) (log : SiteLog) (took : List Packet) (at : slice_get (sites scenario) place ≡ Some site) (there : slice_get logs place ≡ Some log) → slice_get coordinator.tooks place ≡ Some took
      → Each (λ (taking : Taking). WasSent to_site_bytes (said_to plan site coordinator.turns) taking.packet) (site_heard place site log at there).takings
  to_was place site log took at there packets =
      let heard = site_heard place site log at there in
      takings_each (λ (taking : Taking). taking.packet) (WasSent to_site_bytes (said_to plan site coordinator.turns)) log.took heard.takings heard.packets_are
      (taken_each (WasSent to_site_bytes (said_to plan site coordinator.turns)) (scripts true site) (offered_in to_site_bytes (said_to plan site coordinator.turns)) log.took (offered_sent to_site_bytes (said_to plan site coordinator.turns))
      (to_prefix place site log took at there packets))

  from_was : (place : ℕ) (site : SiteId) (log : SiteLog) (took : List Packet) (at : slice_get (sites scenario) place ≡ Some site) → slice_get logs place ≡ Some log → (packets : slice_get coordinator.tooks place ≡ Some took)
      → Each (λ (taking : TakingFrom). WasSent from_site_bytes (said_from log.plan log.turns) taking.packet) (coord_heard place site took at packets).takings
  from_was place site log took at there packets =
      let heard = coord_heard place site took at packets in
      takings_each (λ (taking : TakingFrom). taking.packet) (WasSent from_site_bytes (said_from log.plan log.turns)) took heard.takings heard.packets_are
      (taken_each (WasSent from_site_bytes (said_from log.plan log.turns)) (scripts false site) (offered_in from_site_bytes (said_from log.plan log.turns)) took (offered_sent from_site_bytes (said_from log.plan log.turns))
      (from_prefix place site log took at there packets))

  -- A fact of the lines of each actor's list holds of the lines of each host.

  coord_lines : (P : Stamped → Type 0) → ((actor : ℕ) → Each P (lines_of actor es)) → Each (λ (turn : CoordTurn). P turn.line) coordinator.turns
  coord_lines P h =
      each_of_map P (λ (turn : CoordTurn). turn.line) coordinator.turns (each_reverse P (map (λ (turn : CoordTurn). turn.line) coordinator.turns) (subst (Each P) (trace.each_list 0 ∙ has.coordinator_is) (h 0)))

  site_lines : (P : Stamped → Type 0) → ((actor : ℕ) → Each P (lines_of actor es)) → (place : ℕ) (site : SiteId) (log : SiteLog) → slice_get (sites scenario) place ≡ Some site → slice_get logs place ≡ Some log
      → Each (λ (turn : SiteTurn). P turn.line) log.turns
  site_lines P h place site log at there =
      each_of_map P (λ (turn : SiteTurn). turn.line) log.turns (each_reverse P (map (λ (turn : SiteTurn). turn.line) log.turns) (subst (Each P) (trace.each_list site.0 ∙ has.site_is place site log at there) (h site.0)))

  -- And a fact of the lines of each host holds of the entries.
  entries_each : (P : ℕ → Stamped → Type 0) → Each (λ (turn : CoordTurn). P 0 turn.line) coordinator.turns
      → ((place : ℕ) (site : SiteId) (log : SiteLog) → slice_get (sites scenario) place ≡ Some site → slice_get logs place ≡ Some log → Each (λ (turn : SiteTurn). P site.0 turn.line) log.turns) → Each (λ (e : Entry). P e.actor e.line) es
  entries_each P first each =
      each_entry P es
      (λ actor.
      subst (Each (P actor)) (sym (trace.each_list actor))
      (by_list are has (λ n lines. Each (P n) lines) (reverse_each (P 0) (map (λ (turn : CoordTurn). turn.line) coordinator.turns) (each_of_mapped (P 0) (λ (turn : CoordTurn). turn.line) coordinator.turns first))
      (λ place site log at there. reverse_each (P site.0) (map (λ (turn : SiteTurn). turn.line) log.turns) (each_of_mapped (P site.0) (λ (turn : SiteTurn). turn.line) log.turns (each place site log at there)))
      (λ n. tt) actor))

  -- The stamps of all lines follow each other.

  coord_had : Each (λ (turn : CoordTurn). HasStamp es turn.line.stamp) coordinator.turns
  coord_had = coord_lines (λ line. HasStamp es line.stamp) (λ actor. lines_had actor es)

  site_had : (place : ℕ) (site : SiteId) (log : SiteLog) → slice_get (sites scenario) place ≡ Some site → slice_get logs place ≡ Some log → Each (λ (turn : SiteTurn). HasStamp es turn.line.stamp) log.turns
  site_had = site_lines (λ line. HasStamp es line.stamp) (λ actor. lines_had actor es)

  site_follows : (place : ℕ) (site : SiteId) (log : SiteLog) → slice_get (sites scenario) place ≡ Some site → slice_get logs place ≡ Some log → Each (λ (turn : SiteTurn). Follows (HasStamp es) turn.line.stamp) log.turns
  site_follows place site log at there =
      let heard = site_heard place site log at there in
      let took = beside (sites scenario) coordinator.tooks place site are.coordinator_is.count at in
      let saids = said_to plan site coordinator.turns in
      let stamps = taken_stamps to_site_bytes (λ (taking : Taking). taking.packet) (λ (taking : Taking). taking.bears) saids heard.takings (to_stamps plan site (λ n. n < 2 ^ 64) coordinator.turns (coord_stamps scripts scenario coordinator logs are short))
      (site_reads place site log at there) (to_was place site log took.0 at there took.1) in
      let had_all = to_stamps plan site (HasStamp es) coordinator.turns coord_had in
      stamps_follow site_stamp (λ (turn : SiteTurn). turn.took) last_stamp refl (λ t ts. refl) (HasStamp es) log.turns (site_paced log.plan log.turns (are.site_is place site log at there).right) (site_had place site log at there)
      (site_after (HasStamp es) place site log at there (each_map _ (λ (envelope : Envelope ToSite). HasStamp es envelope.stamp) (λ envelope i. said_stamp (HasStamp es) envelope.stamp saids had_all i) (found (λ (taking : Taking). taking.bears) heard.takings) stamps))

  coord_follows : Each (λ (turn : CoordTurn). Follows (HasStamp es) turn.line.stamp) coordinator.turns
  coord_follows =
      stamps_follow coord_stamp (λ (turn : CoordTurn). turn.took) coord_last_stamp refl (λ t ts. refl) (HasStamp es) coordinator.turns (coord_paced plan coordinator.turns are.coordinator_is.right) coord_had
      (coord_after (HasStamp es)
      (λ place site log took at there packets same.
      let heard = coord_heard place site took same packets in
      let saids = said_from log.plan log.turns in
      let stamps = taken_stamps from_site_bytes (λ (taking : TakingFrom). taking.packet) (λ (taking : TakingFrom). taking.bears) saids heard.takings (from_stamps log.plan (λ n. n < 2 ^ 64) log.turns (site_stamps scripts scenario coordinator logs are short place site log at there))
      (coord_reads place site took same packets) (from_was place site log took same there packets) in
      let had_all = from_stamps log.plan (HasStamp es) log.turns (site_had place site log at there) in
      each_map _ (λ (envelope : Envelope FromSite). HasStamp es envelope.stamp) (λ envelope i. said_stamp (HasStamp es) envelope.stamp saids had_all i) (found (λ (taking : TakingFrom). taking.bears) heard.takings) stamps))

  -- So none is great.

  few_lines : length es ≤ 9 * 16777216
  few_lines =
      few_entries 9 es
      (entries_each (λ actor line. actor < 9) (each_all _ (λ turn. omega arith) coordinator.turns)
      (λ place site log at there.
      let low = site_low scenario site log.plan.home are.whole (are.site_is place site log at there).home in
      each_all _ (λ turn. omega (arith, low)) log.turns))
      (λ actor.
      subst (λ (lines : List Stamped). length lines ≤ 16777216) (sym (trace.each_list actor))
      (by_list are has (λ n lines. length lines ≤ 16777216)
      (let few = short.0 in let turned = length-reverse (map (λ (turn : CoordTurn). turn.line) coordinator.turns) in let mapped = length-map coordinator.turns (λ (turn : CoordTurn). turn.line) in omega (arith, few, turned, mapped))
      (λ place site log at there.
      let few = short.1 place log there in let turned = length-reverse (map (λ (turn : SiteTurn). turn.line) log.turns) in let mapped = length-map log.turns (λ (turn : SiteTurn). turn.line) in omega (arith, few, turned, mapped))
      (λ n. omega arith) actor))

  lines_low : (actor : ℕ) → Each (λ (line : Stamped). line.stamp < 2 ^ 62) (lines_of actor es)
  lines_low actor =
      let low = entries_low es trace.ordered (entries_each (λ n line. Follows (HasStamp es) line.stamp) coord_follows site_follows) in
      let few = few_lines in
      each_line (λ line. line.stamp < 2 ^ 62) actor es (each_map _ (λ (e : Entry). e.line.stamp < 2 ^ 62) (λ e small. omega (arith, small, few)) es low)

  -- What is found in the merged lines, where only this actor's lines have something.
  found_merged : (look : Line → Option ℕ) (actor : ℕ) {T : Type 0} (line : T → Stamped) (turns : List T) → Each (λ (e : Entry). (e.actor ≡ actor) ⊎ (look e.line.line ≡ None)) es → list_of lists actor ≡ reverse (map line turns)
      → found look (lines_in merged) ≡ reverse (found (λ turn. look (line turn).line) turns)
  found_merged look actor line turns only own =
      ap (λ (lines : List Stamped). found look (lines_in lines)) trace.lines
      ∙ found_map look (λ (stamped : Stamped). stamped.line) (map (λ (e : Entry). e.line) es)
      ∙ found_map (λ (stamped : Stamped). look stamped.line) (λ (e : Entry). e.line) es
      ∙ found_entries look actor es only
      ∙ ap (found (λ (stamped : Stamped). look stamped.line)) (trace.each_list actor ∙ own)
      ∙ found_reverse (λ (stamped : Stamped). look stamped.line) (map line turns)
      ∙ ap reverse (found_map (λ (stamped : Stamped). look stamped.line) line turns)

  -- the numbers in the packets are the places that the lines name
  places_are : {M T : Type 0} (packet : T → Packet) (bears : T → Option (Envelope M)) (took : List Packet) (takings : List T) (envelopes : List (Envelope M)) (places : List ℕ) → took ≡ reverse (map packet takings)
      → envelopes ≡ found bears takings → map index_in (map packet takings) ≡ map (λ (envelope : Envelope M). envelope.index) (found bears takings)
      → places ≡ reverse (map (λ (envelope : Envelope M). envelope.index) envelopes) → map index_in took ≡ places
  places_are {M} packet bears took takings envelopes places packets borne same named =
      ap (map index_in) packets
      ∙ map_reverse index_in (map packet takings)
      ∙ ap reverse (same ∙ ap (map (λ (envelope : Envelope M). envelope.index)) (sym borne))
      ∙ sym named

  module _ (right : TellsLogs scenario coordinator logs (lines_in merged)) (place : ℕ) (site : SiteId) (log : SiteLog) (took : List Packet) (at : slice_get (sites scenario) place ≡ Some site) (there : slice_get logs place ≡ Some log)
      (packets : slice_get coordinator.tooks place ≡ Some took) where
    -- To the site.

    to_few : length (sent_in (said_to plan site coordinator.turns)) ≤ 16777216
    to_few =
        let few = few_messages to_site_bytes (said_to plan site coordinator.turns) in
        let same = to_length plan site coordinator.turns in
        let most = short.0 in
        omega (arith, few, same, most)

    its_home : home_of scenario log.plan.home.site ≡ Some log.plan.home
    its_home = home-again scenario site log.plan.home (are.site_is place site log at there).home

    own_site : log.plan.home.site ≡ site
    own_site = its-site scenario site log.plan.home (are.site_is place site log at there).home

    -- a message to the site is about an attempt that was begun, of a global transaction
    begun_global : (message : ToSite) → In message (sent_in (said_to plan site coordinator.turns)) → IsBegunGlobal scenario (commands_of (lines_in merged)) (about message)
    begun_global message i =
        let story = story_in scenario (lines_in merged) in
        messages_of_begun scenario (commands_of (lines_in merged)) log.plan.home message its_home
        (subst (λ (s : SiteId). In message (Told.sent_to s story)) (sym own_site)
        (subst (In message) (sym ((right.each place site log at there).to ∙ to_sent plan site coordinator.turns)) i))

    tid_in_range : (message : ToSite) → In message (sent_in (said_to plan site coordinator.turns)) → IsTid (about message)
    tid_in_range message i =
        let named : AreNamed plan.programs = subst AreNamed (sym are.coordinator_is.programs) (global_named scenario are.whole) in
        each_at IsTid (about message) (begun_tids (coord_past (story_in scenario (lines_in merged))))
        (subst (λ (past : CoordPast). Each IsTid (begun_tids past)) (sym right.coordinator_is) (begun_in_range plan named coordinator.turns)) (begun_global message i).begun

    foreign : (message : ToSite) → In message (sent_in (said_to plan site coordinator.turns)) → log.plan.programs (about message).tx ≡ None
    foreign message i =
        let global = (begun_global message i).global in
        ap (λ (programs : Tx → Option (List Step)). programs (about message).tx) (are.site_is place site log at there).programs
        ∙ foreign_global site scenario (about message).tx global

    to_borne : (taking : Taking) → IsRead log.plan.programs taking.packet taking.bears → WasSent to_site_bytes (said_to plan site coordinator.turns) taking.packet → DoesBear to_site_bytes taking.packet taking.bears
    to_borne taking read w =
        let few = to_few in
        let within = w.within in
        let small = said_stamp (λ n. n < 2 ^ 62) w.stamp (said_to plan site coordinator.turns) (to_stamps plan site (λ n. n < 2 ^ 62) coordinator.turns (coord_lines (λ line. line.stamp < 2 ^ 62) lines_low)) w.line in
        let fits = each_at FitsToSite w.message (sent_in (said_to plan site coordinator.turns)) (subst (Each FitsToSite) (to_sent plan site coordinator.turns) (are.coordinator_is.fit place site at)) w.among in
        let in_range = to_in_range w.message (tid_in_range w.message w.among) fits in
        does_bear_to log.plan.programs taking.packet (record { index = w.index; stamp = w.stamp; message = w.message }) taking.bears
        (sent_bears log.plan.programs (said_to plan site coordinator.turns) taking.packet w (omega (arith, few, within)) small in_range (foreign w.message w.among)) read

    to_only : Each (λ (e : Entry). (e.actor ≡ site.0) ⊎ (given_place site e.line.line ≡ None)) es
    to_only =
        entries_each (λ n line. (n ≡ site.0) ⊎ (given_place site line.line ≡ None))
        (each_map _ _ (λ turn none. inr none) coordinator.turns (coordinator_gives_none site plan coordinator.turns are.coordinator_is.right))
        (λ other_place other other_log other_at other_there.
        let is = are.site_is other_place other other_log other_at other_there in
        elim (eqb_tells other.0 site.0) [
          | inl (is_own, same) ↦ each_all _ (λ turn. inl same) other_log.turns
          | inr (is_other, apart) ↦ each_map _ _ (λ turn none. inr none) other_log.turns
              (nothing_given site other_log.plan other_log.turns (ap (λ (s : SiteId). same_site s site) (its-site scenario other other_log.plan.home is.home) ∙ is_other) is.right)
        ])

    to_carried : IsCarried (found (given_place site) (lines_in merged)) (scripts true site) (length (Told.sent_to site (story_in scenario (lines_in merged)))) log.took
    to_carried =
        let heard = site_heard place site log at there in
        let borne = each_map _ _ (λ taking both. to_borne taking both.0 both.1) heard.takings (each_both _ _ heard.takings heard.read (to_was place site log took at there packets)) in
        let named : found (given_place site) (lines_in merged) ≡ reverse (map (λ (envelope : Envelope ToSite). envelope.index) (found (λ (turn : SiteTurn). turn.took) log.turns)) =
        found_merged (given_place site) site.0 (λ (turn : SiteTurn). turn.line) log.turns to_only (has.site_is place site log at there)
        ∙ ap reverse (found_some (λ (envelope : Envelope ToSite). envelope.index) (λ (turn : SiteTurn). given_place site turn.line.line) (λ (turn : SiteTurn). turn.took) log.turns
        (places_given site log.plan log.turns own_site (are.site_is place site log at there).right)) in
        let few = to_few in
        carried to_site_bytes (scripts true site) (said_to plan site coordinator.turns) log.took (found (given_place site) (lines_in merged)) (length (Told.sent_to site (story_in scenario (lines_in merged)))) (omega (arith, few))
        (ap length ((right.each place site log at there).to ∙ to_sent plan site coordinator.turns)) (to_prefix place site log took at there packets)
        (places_are (λ (taking : Taking). taking.packet) (λ (taking : Taking). taking.bears) log.took heard.takings (found (λ (turn : SiteTurn). turn.took) log.turns) (found (given_place site) (lines_in merged)) heard.packets_are
        heard.envelopes_are (taken_places to_site_bytes (λ (taking : Taking). taking.packet) (λ (taking : Taking). taking.bears) heard.takings borne) named)

    -- From the site.

    from_few : length (sent_in (said_from log.plan log.turns)) ≤ 16777216
    from_few =
        let few = few_messages from_site_bytes (said_from log.plan log.turns) in
        let same = from_length log.plan log.turns in
        let most = short.1 place log there in
        omega (arith, few, same, most)

    from_borne : (taking : TakingFrom) → IsReadFrom taking.packet taking.bears → WasSent from_site_bytes (said_from log.plan log.turns) taking.packet → DoesBear from_site_bytes taking.packet taking.bears
    from_borne taking read w =
        let few = from_few in
        let within = w.within in
        let saids = said_from log.plan log.turns in
        let small = said_stamp (λ n. n < 2 ^ 62) w.stamp saids (from_stamps log.plan (λ n. n < 2 ^ 62) log.turns (site_lines (λ line. line.stamp < 2 ^ 62) lines_low place site log at there)) w.line in
        let is = are.site_is place site log at there in
        let named : AreNamed log.plan.programs = subst AreNamed (sym is.programs) (own_named scenario site are.whole) in
        let sent = site_in_range log.plan log.turns log.took named is.right is.heard is.fit in
        let in_range = each_at IsFromSite w.message (sent_in saids) (subst (Each IsFromSite) (from_sent log.plan log.turns) sent) w.among in
        does_bear_from taking.packet (record { index = w.index; stamp = w.stamp; message = w.message }) taking.bears
        (sent_bears_from saids taking.packet w (omega (arith, few, within)) small in_range) read

    from_only : Each (λ (e : Entry). (e.actor ≡ 0) ⊎ (taken_place site e.line.line ≡ None)) es
    from_only =
        entries_each (λ n line. (n ≡ 0) ⊎ (taken_place site line.line ≡ None)) (each_all _ (λ turn. inl refl) coordinator.turns)
        (λ other_place other other_log other_at other_there. each_map _ _ (λ turn none. inr none) other_log.turns
        (site_takes_none site other_log.plan other_log.turns (are.site_is other_place other other_log other_at other_there).right))

    from_carried : IsCarried (found (taken_place site) (lines_in merged)) (scripts false site) (length (Told.sent_from site (story_in scenario (lines_in merged)))) took
    from_carried =
        let heard = coord_heard place site took at packets in
        let borne = each_map _ _ (λ taking both. from_borne taking both.0 both.1) heard.takings (each_both _ _ heard.takings heard.read (from_was place site log took at there packets)) in
        let named : found (taken_place site) (lines_in merged) ≡ reverse (map (λ (envelope : Envelope FromSite). envelope.index) (took_from site coordinator.turns)) =
        found_merged (taken_place site) 0 (λ (turn : CoordTurn). turn.line) coordinator.turns from_only has.coordinator_is
        ∙ ap reverse (found_some (λ (envelope : Envelope FromSite). envelope.index) (λ (turn : CoordTurn). taken_place site turn.line.line) (λ (turn : CoordTurn). from_site site turn.line.line.command turn.took) coordinator.turns
        (places_taken site plan coordinator.turns are.coordinator_is.right)) in
        let few = from_few in
        carried from_site_bytes (scripts false site) (said_from log.plan log.turns) took (found (taken_place site) (lines_in merged)) (length (Told.sent_from site (story_in scenario (lines_in merged)))) (omega (arith, few))
        (ap length ((right.each place site log at there).from ∙ from_sent log.plan log.turns)) (from_prefix place site log took at there packets)
        (places_are (λ (taking : TakingFrom). taking.packet) (λ (taking : TakingFrom). taking.bears) took heard.takings (took_from site coordinator.turns) (found (taken_place site) (lines_in merged)) heard.packets_are
        heard.envelopes_are (taken_places from_site_bytes (λ (taking : TakingFrom). taking.packet) (λ (taking : TakingFrom). taking.bears) heard.takings borne) named)

-- where the merged lines tell what the hosts did
pub messages_carried : MergedLinesAreRight → MessagesAreCarried
messages_carried right scripts scenario coordinator logs lists merged are has trace short place site log took at there packets =
    let tells = right scripts scenario coordinator logs lists merged are has trace short in
    record {
      to = to_carried scripts scenario coordinator logs lists merged are has trace short tells place site log took at there packets;
      from = from_carried scripts scenario coordinator logs lists merged are has trace short tells place site log took at there packets;
    }
