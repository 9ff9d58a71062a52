-- How far each host has come when the lines of all are told one after another.
use Rattle.std.proofs.Common.{◌≡◌, ℕ, ◌≤◌, inl, inr, Bool, true, false, cond, Some, List, [], ◌∷◌, ◌++◌, length, map, reverse, slice_get, refl, sym, subst, nat_eq, eqb-true, eq-eqb, arith}
use Rattle.std.specs.Prelude.{option_to_list}
use Rattle.mdb_base.specs.declared.names.SiteId.{SiteId}
use Rattle.mdb_base.specs.Words.{Each, those}
use Rattle.mdb_base.proofs.ForCallers.{cond-false, cond-true, each_map, length-option, those_pass}
use Rattle.std.proofs.lemmas.Bool.{ne_eqb}
use Rattle.order_laws.specs.Chains.{In}
use Rattle.order_laws.proofs.ForCallers.{in_map}
use Rattle.fed_rules.specs.declared.commands.Line.{Line}
use Rattle.fed_rules.specs.declared.commands.Stamped.{Stamped}
use Rattle.fed_rules.specs.declared.events.SiteEvent.{SiteEvent}
use Rattle.fed_rules.specs.declared.messages.ToSite.{ToSite}
use Rattle.fed_rules.specs.declared.scenario.Scenario.{Scenario}
use Rattle.fed_rules.specs.declared.scenario.StopLine.{StopLine}
use Rattle.fed_rules.specs.Plans.{stops_actor}
use Rattle.fed_rules.specs.Requests.{Request, Submits, Declines}
use Rattle.fed_rules.specs.Right.{story_told}
use Rattle.fed_rules.specs.Scenarios.{sites}
use Rattle.fed_rules.specs.SitePast.{SitePast}
use Rattle.fed_rules.specs.SiteRecords.{Home}
use Rattle.fed_rules.specs.Story as Told
use Rattle.fed_rules.specs.Story.{Story, coord_past}
use Rattle.world_laws.proofs.ForCallers.{sites_few}
use Rattle.fed_rules.specs.Site_of.{message_to}
use Rattle.trace_merge.specs.Traces.{ComesBefore, Entry, IsOrdered, lines_of}
use Rattle.host_laws.specs.CoordHistory.{IsCoordHistory}
use Rattle.host_laws.specs.CoordLines.{packet_to}
use Rattle.host_laws.specs.CoordPlans.{CoordPlan}
use Rattle.host_laws.specs.CoordTurns.{CoordTurn, coord_past_of, coord_sends_at, offered_to, sent_to}
use Rattle.host_laws.specs.History.{IsHistory}
use Rattle.host_laws.specs.Lines.{packet_from}
use Rattle.host_laws.specs.Logs.{CoordLog, SiteLog}
use Rattle.host_laws.specs.Plans.{SitePlan}
use Rattle.host_laws.specs.Turns.{SiteTurn, packets_by, past_of, request_at, sends_at, sends_of, sent_by}
use Rattle.host_laws.proofs.Channels.{IsChannel}

-- the coordinator's turns: those that are ahead, oldest first, whose lines stand behind, and those that are done, of which the story tells
pub record CoordSide (plan : CoordPlan) (turns : List CoordTurn) (story : Story) (behind : List Entry) : Type 0 where
  pub ahead : List CoordTurn
  pub done : List CoordTurn
  pub split : reverse ahead ++ done ≡ turns
  pub lines : map (λ (turn : CoordTurn). turn.line) ahead ≡ lines_of 0 behind
  pub past : coord_past story ≡ coord_past_of plan done

-- so a site's, with the messages both ways
pub record SiteSide (plan : CoordPlan) (coord_done : List CoordTurn) (site : SiteId) (log : SiteLog) (story : Story) (behind : List Entry) : Type 0 where
  pub ahead : List SiteTurn
  pub done : List SiteTurn
  pub split : reverse ahead ++ done ≡ log.turns
  pub lines : map (λ (turn : SiteTurn). turn.line) ahead ≡ lines_of site.0 behind
  pub past : Told.past_of site story ≡ past_of log.plan done
  pub to : Told.sent_to site story ≡ sent_to plan site coord_done
  pub from : Told.sent_from site story ≡ sent_by log.plan done

-- all of them
pub record Sides (scenario : Scenario) (coordinator : CoordLog) (logs : List SiteLog) (told : List Line) (behind : List Entry) : Type 0 where
  pub own : CoordSide coordinator.plan coordinator.turns (story_told scenario told) behind
  pub each : (place : ℕ) (site : SiteId) (log : SiteLog) → slice_get (sites scenario) place ≡ Some site → slice_get logs place ≡ Some log
      → SiteSide coordinator.plan own.done site log (story_told scenario told) behind

-- ---- the rings

-- what a site sends, one message in a line at most
pub few_sent : (home : Home) (past : SitePast) (r : Request SiteEvent) → length (sends_of home past r) ≤ 1
few_sent home past (Submits event) = sites_few home past event
few_sent home past (Declines answer) = omega arith

pub from_channel : (plan : SitePlan) → IsChannel (λ (turn : SiteTurn). turn.line.stamp) packet_from (sends_at plan) (sent_by plan) (packets_by plan)
from_channel plan = record { few = λ ts t. few_sent plan.home (past_of plan ts) (request_at plan ts t); sent_more = λ t ts. refl; none_sent = refl; none = refl; offered_more = λ t ts. refl }

-- what the coordinator sends to a site
abbrev pub sends_to_site : CoordPlan → SiteId → List CoordTurn → CoordTurn → List ToSite
sends_to_site plan site turns turn = option_to_list (message_to site (coord_sends_at plan turns turn))

pub to_channel : (plan : CoordPlan) (site : SiteId) → IsChannel (λ (turn : CoordTurn). turn.line.stamp) packet_to (sends_to_site plan site) (sent_to plan site) (offered_to plan site)
to_channel plan site = record { few = λ ts t. length-option (message_to site (coord_sends_at plan ts t)); sent_more = λ t ts. refl; none_sent = refl; none = refl; offered_more = λ t ts. refl }

-- ---- histories, stops and entries

-- the turns behind others are a history of their own
pub coord_behind : (plan : CoordPlan) (up down : List CoordTurn) → IsCoordHistory plan (up ++ down) → IsCoordHistory plan down
coord_behind plan [] down h = h
coord_behind plan (t ∷ up) down h = coord_behind plan up down h.1

pub site_behind : (plan : SitePlan) (up down : List SiteTurn) → IsHistory plan (up ++ down) → IsHistory plan down
site_behind plan [] down h = h
site_behind plan (t ∷ up) down h = site_behind plan up down h.1

-- the stop lines of an actor are of this actor
pub own_stops : (actor : ℕ) (stops lines : List StopLine) → stops ≡ those (stops_actor actor) lines → Each (λ (stop : StopLine). stop.actor ≡ actor) stops
own_stops actor stops lines e =
    subst (Each (λ (stop : StopLine). stop.actor ≡ actor)) (sym e)
    (each_map (λ (stop : StopLine). stops_actor actor stop ≡ true) (λ (stop : StopLine). stop.actor ≡ actor) (λ stop is. eqb-true stop.actor actor is) (those (stops_actor actor) lines) (those_pass (stops_actor actor) lines))

not_before : (e d : Entry) → ComesBefore e d → e.line.stamp ≤ d.line.stamp
not_before e d (inl less) = omega (arith, less)
not_before e d (inr same) = let is = same.0 in omega (arith, is)

late : (actor : ℕ) (e : Entry) (es : List Entry) (line : Stamped) → Each (λ (d : Entry). e.line.stamp ≤ d.line.stamp) es → In line (lines_of actor es) → e.line.stamp ≤ line.stamp
late actor e [] line h i = absurd i
late actor e (d ∷ es) line h i = by_test (nat_eq d.actor actor) i (late actor e es line h.1)
  where
    by_test : (b : Bool) → In line (cond b (d.line ∷ lines_of actor es) (lines_of actor es)) → (In line (lines_of actor es) → e.line.stamp ≤ line.stamp) → e.line.stamp ≤ line.stamp
    by_test true (inl same) others = subst (λ (x : Stamped). e.line.stamp ≤ x.stamp) same h.0
    by_test true (inr j) others = others j
    by_test false j others = others j

-- no turn ahead has a lesser stamp than the next line
pub not_earlier : {T : Type 0} (line_of : T → Stamped) (actor : ℕ) (e : Entry) (rest : List Entry) (ahead : List T) → IsOrdered (e ∷ rest) → map line_of ahead ≡ lines_of actor (e ∷ rest)
    → (turn : T) → In turn ahead → e.line.stamp ≤ (line_of turn).stamp
not_earlier line_of actor e rest ahead ordered lines turn i =
    let same : e.line.stamp ≤ e.line.stamp = omega arith in
    late actor e (e ∷ rest) (line_of turn) (same, each_map (ComesBefore e) (λ (d : Entry). e.line.stamp ≤ d.line.stamp) (λ d before. not_before e d before) rest ordered.0) (subst (In (line_of turn)) lines (in_map line_of turn ahead i))

-- the line of another actor
pub of_other : (actor : ℕ) (e : Entry) (rest : List Entry) → (e.actor ≡ actor → ⊥) → lines_of actor (e ∷ rest) ≡ lines_of actor rest
of_other actor e rest apart = cond-false (nat_eq e.actor actor) (e.line ∷ lines_of actor rest) (lines_of actor rest) (ne_eqb e.actor actor apart)

pub of_own : (actor : ℕ) (e : Entry) (rest : List Entry) → e.actor ≡ actor → lines_of actor (e ∷ rest) ≡ e.line ∷ lines_of actor rest
of_own actor e rest same = cond-true (nat_eq e.actor actor) (e.line ∷ lines_of actor rest) (lines_of actor rest) (eq-eqb e.actor actor same)
