-- The stamps of a host's lines stay within their bytes, since each message that is taken has a small one.
use Rattle.std.proofs.Common.{◌≡◌, inl, inr, ℕ, suc, ◌+◌, ◌<◌, ◌≤◌, ◌^◌, Option, Some, None, List, [], ◌∷◌, length, map, slice_get, refl, sym, ap, ◌∙◌, subst, arith}
use Rattle.mdb_base.specs.declared.names.SiteId.{SiteId}
use Rattle.mdb_base.specs.Names.{same_site}
use Rattle.mdb_base.specs.Words.{Each, found, some_of}
use Rattle.mdb_base.proofs.ForCallers.{cond-true, each_map, same_site-equal, same_site-refl}
use Rattle.order_laws.specs.Chains.{In}
use Rattle.order_laws.proofs.ForCallers.{each_from, found_there, in_map, some_of_is}
use Rattle.presumptions.specs.declared.Participant.{Participant}
use Rattle.fed_rules.specs.declared.commands.Command.{Command}
use Rattle.fed_rules.specs.declared.commands.Command.TheVariants as Cmd
use Rattle.fed_rules.specs.declared.messages.FromSite.{FromSite}
use Rattle.fed_rules.specs.declared.scenario.Scenario.{Scenario}
use Rattle.fed_rules.specs.Scenarios.{protocols, sites}
use Rattle.fed_rules.specs.Terms.{IsAmong}
use Rattle.fed_messages.specs.declared.Envelope.{Envelope}
use Rattle.host_laws.specs.CoordHearing.{BearsFrom, IsReadFrom, TakingFrom}
use Rattle.host_laws.specs.CoordHistory.{IsCoordCommand, IsCoordHistory}
use Rattle.host_laws.specs.CoordPlans.{CoordPlan}
use Rattle.host_laws.specs.CoordTurns.{CoordTurn, coord_last_stamp, from_site, took_from}
use Rattle.host_laws.specs.Hearing.{Bears, IsRead, Taking}
use Rattle.host_laws.specs.History.{IsHistory}
use Rattle.host_laws.specs.Lines.{next_stamp, stamp_of}
use Rattle.host_laws.specs.Logs.{AreLogs, CoordLog, Scripts, SiteLog}
use Rattle.host_laws.specs.Merged.{AreShort}
use Rattle.host_laws.specs.Plans.{SitePlan}
use Rattle.host_laws.specs.Turns.{SiteTurn, last_stamp}
use Rattle.host_laws.proofs.DeclaredSites.{beside, place_of}
use Rattle.host_laws.proofs.Rings.{heard}

-- one of the coordinator's sites is declared
pub among_in : (members : List Participant) (site : SiteId) → IsAmong site members → In site (map (λ (m : Participant). m.site) members)
among_in members site among =
    let m = some_of_is (λ (member : Participant). same_site member.site site) members among in
    subst (λ (s : SiteId). In s (map (λ (p : Participant). p.site) members)) (same_site-equal m.0.site site m.2) (in_map (λ (p : Participant). p.site) m.0 members m.1)

-- ---- any host's

module _ {T M : Type 0} (stamp : T → ℕ) (took : T → Option (Envelope M)) (last : List T → ℕ) (first : last [] ≡ 0) (newest : (t : T) (ts : List T) → last (t ∷ ts) ≡ stamp t) where
  -- each line's stamp is one more than the last one and than that of the message that it takes
  abbrev pub Paced : List T → Type 0
  Paced [] = Unit {0}
  Paced (t ∷ ts) = (stamp t ≡ next_stamp (last ts) (stamp_of (took t))) × Paced ts

  last_low : (turns : List T) → Paced turns → Each (λ t. stamp_of (took t) < 2 ^ 62) turns → last turns ≤ 2 ^ 62 + length turns
  last_low [] paced small = omega (arith, first)
  last_low (t ∷ ts) paced small =
      let before = last_low ts paced.1 small.1 in
      let pace = paced.0 in
      let taken = small.0 in
      let own = newest t ts in
      omega (arith, before, pace, taken, own)

  -- where those messages' are small no stamp grows by more than one a line
  each_low : (turns : List T) → Paced turns → Each (λ t. stamp_of (took t) < 2 ^ 62) turns → Each (λ t. stamp t ≤ 2 ^ 62 + length turns) turns
  each_low [] paced small = tt
  each_low (t ∷ ts) paced small =
      let own = newest t ts in
      let low = last_low (t ∷ ts) paced small in
      (omega (arith, own, low), each_map (λ t. stamp t ≤ 2 ^ 62 + length ts) (λ t. stamp t ≤ 2 ^ 62 + suc (length ts)) (λ t h. omega (arith, h)) ts (each_low ts paced.1 small.1))

  pub stamps_fit : (turns : List T) → Paced turns → ((t : T) (envelope : Envelope M) → In t turns → took t ≡ Some envelope → envelope.stamp < 2 ^ 62) → length turns ≤ 16777216 → Each (λ t. stamp t < 2 ^ 64) turns
  stamps_fit turns paced small short =
      each_map (λ t. stamp t ≤ 2 ^ 62 + length turns) (λ t. stamp t < 2 ^ 64) (λ t h. omega (arith, h, short)) turns
      (each_low turns paced (each_from (λ t. stamp_of (took t) < 2 ^ 62) turns (λ t i. by_took (took t) (λ envelope e. small t envelope i e))))
    where
      by_took : (o : Option (Envelope M)) → ((envelope : Envelope M) → o ≡ Some envelope → envelope.stamp < 2 ^ 62) → stamp_of o < 2 ^ 62
      by_took None h = omega arith
      by_took (Some envelope) h = h envelope refl

-- ---- a site's

abbrev pub site_stamp : SiteTurn → ℕ
site_stamp turn = turn.line.stamp

pub site_paced : (plan : SitePlan) (turns : List SiteTurn) → IsHistory plan turns → Paced site_stamp (λ (t : SiteTurn). t.took) last_stamp refl (λ t ts. refl) turns
site_paced plan [] h = tt
site_paced plan (t ∷ ts) h = (h.0.stamp, site_paced plan ts h.1)

abbrev pub coord_stamp : CoordTurn → ℕ
coord_stamp turn = turn.line.stamp

pub coord_paced : (plan : CoordPlan) (turns : List CoordTurn) → IsCoordHistory plan turns → Paced coord_stamp (λ (t : CoordTurn). t.took) coord_last_stamp refl (λ t ts. refl) turns
coord_paced plan [] h = tt
coord_paced plan (t ∷ ts) h = (h.0.stamp, coord_paced plan ts h.1)

-- what the coordinator takes comes from one of its sites
pub record TakesFrom (plan : CoordPlan) (command : Command) : Type 0 where
  pub site : SiteId
  pub place : ℕ
  pub command_is : command ≡ Cmd.Take site place
  pub among : IsAmong site plan.terms.protocols

takes_from : (plan : CoordPlan) (turns : List CoordTurn) (command : Command) (took : Option (Envelope FromSite)) (envelope : Envelope FromSite) → IsCoordCommand plan turns command took → took ≡ Some envelope → TakesFrom plan command
takes_from plan turns (Cmd.Take site place) took envelope is e = record { site = site; place = place; command_is = refl; among = is.0 }
takes_from plan turns (Cmd.Go tx) took envelope is e = (let none = is.1 in cc)
takes_from plan turns (Cmd.Fate tx) took envelope is e = (let none = is.1 in cc)
takes_from plan turns (Cmd.Again tid) took envelope is e = cc
takes_from plan turns (Cmd.Late tid) took envelope is e = cc
takes_from plan turns (Cmd.Trip actor calls cut) took envelope is e = (let none = is.1 in cc)
takes_from plan turns (Cmd.Back actor) took envelope is e = (let none = is.1 in cc)
takes_from plan turns (Cmd.Begin tx) took envelope is e = absurd is
takes_from plan turns (Cmd.Step tx) took envelope is e = absurd is
takes_from plan turns (Cmd.Commit tx) took envelope is e = absurd is
takes_from plan turns (Cmd.Abort tx) took envelope is e = absurd is
takes_from plan turns (Cmd.Give site place) took envelope is e = absurd is
takes_from plan turns (Cmd.Ask site tid) took envelope is e = absurd is
takes_from plan turns (Cmd.Drop site tid) took envelope is e = absurd is
takes_from plan turns (Cmd.Halt actor cut) took envelope is e = absurd is
takes_from plan turns (Cmd.Check actor) took envelope is e = absurd is

turn_takes : (plan : CoordPlan) (turns : List CoordTurn) (turn : CoordTurn) (envelope : Envelope FromSite) → IsCoordHistory plan turns → In turn turns → turn.took ≡ Some envelope → TakesFrom plan turn.line.line.command
turn_takes plan [] turn envelope h i e = absurd i
turn_takes plan (t ∷ ts) turn envelope h (inl same) e =
    subst (λ (x : CoordTurn). TakesFrom plan x.line.line.command) same (takes_from plan ts t.line.line.command t.took envelope h.0.command (ap (λ (x : CoordTurn). x.took) same ∙ e))
turn_takes plan (t ∷ ts) turn envelope h (inr i) e = turn_takes plan ts turn envelope h.1 i e

module _ (scripts : Scripts) (scenario : Scenario) (coordinator : CoordLog) (logs : List SiteLog) (are : AreLogs scripts scenario coordinator logs) (short : AreShort coordinator logs) where
  pub site_stamps : (place : ℕ) (site : SiteId) (log : SiteLog) → slice_get (sites scenario) place ≡ Some site → slice_get logs place ≡ Some log → Each (λ (t : SiteTurn). t.line.stamp < 2 ^ 64) log.turns
  site_stamps place site log at log_at =
      stamps_fit site_stamp (λ (t : SiteTurn). t.took) last_stamp refl (λ t ts. refl) log.turns (site_paced log.plan log.turns (are.site_is place site log at log_at).right)
      (λ t envelope i e.
      let hears = (are.site_is place site log at log_at).heard in
      let there = found_there (λ (x : SiteTurn). x.took) t envelope log.turns i e in
      let h =
      heard (λ (taking : Taking). taking.packet) (λ (taking : Taking). taking.bears) (IsRead log.plan.programs) hears.takings log.took (found (λ (x : SiteTurn). x.took) log.turns) envelope hears.packets_are hears.read
      hears.envelopes_are there in
      let read : Bears log.plan.programs h.packet envelope = h.read in
      read.small) (short.1 place log log_at)

  pub coord_stamps : Each (λ (t : CoordTurn). t.line.stamp < 2 ^ 64) coordinator.turns
  coord_stamps =
      stamps_fit coord_stamp (λ (t : CoordTurn). t.took) coord_last_stamp refl (λ t ts. refl) coordinator.turns (coord_paced coordinator.plan coordinator.turns are.coordinator_is.right)
      (λ t envelope i e.
      let takes = turn_takes coordinator.plan coordinator.turns t envelope are.coordinator_is.right i e in
      let site : SiteId = takes.site in
      let declared : In site (sites scenario) =
      among_in (protocols scenario) site (ap (λ terms. some_of (λ (member : Participant). same_site member.site site) terms.protocols) (sym are.coordinator_is.terms) ∙ takes.among) in
      let p = place_of site (sites scenario) declared in
      let took = beside (sites scenario) coordinator.tooks p.0 site are.coordinator_is.count p.1 in
      let hears = are.coordinator_is.heard p.0 site took.0 p.1 took.1 in
      let bears : from_site site t.line.line.command t.took ≡ Some envelope =
      ap (λ (c : Command). from_site site c t.took) takes.command_is ∙ cond-true (same_site site site) t.took None (same_site-refl site) ∙ e in
      let there = found_there (λ (x : CoordTurn). from_site site x.line.line.command x.took) t envelope coordinator.turns i bears in
      let h =
      heard (λ (taking : TakingFrom). taking.packet) (λ (taking : TakingFrom). taking.bears) IsReadFrom hears.takings took.0 (took_from site coordinator.turns) envelope hears.packets_are hears.read hears.envelopes_are there in
      let read : BearsFrom h.packet envelope = h.read in
      read.small) short.0
