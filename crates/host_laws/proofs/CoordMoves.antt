-- The next line of the coordinator's host is the next one of the story, which goes on as the host's own past and messages do.
use Rattle.std.proofs.Common.{◌≡◌, ℕ, List, ◌∷◌, ◌++◌, length, map, sym, ◌∙◌, ap, ap₂, subst}
use Rattle.std.proofs.lemmas.List.{append-nil}
use Rattle.mdb_base.specs.declared.names.SiteId.{SiteId}
use Rattle.std.specs.Prelude.{option_to_list}
use Rattle.fed_rules.specs.declared.messages.Sent.{Sent}
use Rattle.fed_rules.specs.Site_of.{message_to}
use Rattle.mdb_base.specs.Words.{Each}
use Rattle.order_laws.specs.Chains.{In}
use Rattle.fed_rules.specs.declared.commands.Command.{Command}
use Rattle.fed_rules.specs.declared.commands.Line.{Line}
use Rattle.fed_rules.specs.declared.events.CoordEvent.{CoordEvent}
use Rattle.fed_rules.specs.declared.messages.FromSite.{FromSite}
use Rattle.fed_rules.specs.declared.messages.ToSite.{ToSite}
use Rattle.fed_rules.specs.declared.scenario.Scenario.{Scenario}
use Rattle.fed_rules.specs.declared.scenario.StopLine.{StopLine}
use Rattle.fed_rules.specs.CoordPast.{CoordPast}
use Rattle.fed_rules.specs.Plans.{IsScenario}
use Rattle.fed_rules.specs.Requests.{Request}
use Rattle.fed_rules.specs.Right.{IsAnswer, IsNext, story_told}
use Rattle.fed_rules.specs.Scenarios.{protocols, sites}
use Rattle.fed_rules.specs.Story as Told
use Rattle.fed_rules.specs.Story.{Story, Happened, coord_past, coord_requested, happens, past_of, places_of, sends_from, sends_to, sent_from, story_of, with_coordinator, with_site}
use Rattle.host_laws.specs.CoordHistory.{IsCoordNext}
use Rattle.host_laws.specs.CoordPlans.{CoordPlan}
use Rattle.host_laws.specs.CoordTurns.{CoordTurn, MayAnswer, coord_behind, coord_past_of, coord_request, coord_sends, coord_sends_at, places_sent, sent_to}
use Rattle.host_laws.proofs.AtCoordinator.{WasTaken, command_happens, coord_answers, coord_goes_on, coord_places, none_from_sites, plan_in, requests_declared, requests_rise, sends_to_site, sites_stay, terms_in}
use Rattle.host_laws.proofs.SendsRise.{BySite}

-- the story with this line behind the others
pub record CoordMoves (scenario : Scenario) (plan : CoordPlan) (lines : List Line) (done : List CoordTurn) (turn : CoordTurn) (line : Line) : Type 0 where
  pub next : IsNext scenario (story_told scenario lines) line
  pub past : coord_past (story_told scenario (line ∷ lines)) ≡ coord_past_of plan (turn ∷ done)
  pub to : (site : SiteId) → Told.sent_to site (story_told scenario lines) ≡ sent_to plan site done → Told.sent_to site (story_told scenario (line ∷ lines)) ≡ sent_to plan site (turn ∷ done)
  pub from : (site : SiteId) → sent_from site (story_told scenario (line ∷ lines)) ≡ sent_from site (story_told scenario lines)
  pub stays : (site : SiteId) → past_of site (story_told scenario (line ∷ lines)) ≡ past_of site (story_told scenario lines)

module _ (scenario : Scenario) (whole : IsScenario scenario) (stops : List StopLine) (own : Each (λ (stop : StopLine). stop.actor ≡ 0) stops) (faults : ℕ)
    (lines : List Line) (done : List CoordTurn) (turn : CoordTurn) where
  abbrev plan : CoordPlan
  plan = plan_in scenario stops faults

  abbrev commands : List Command
  commands = map (λ (line : Line). line.command) lines

  abbrev story : Story
  story = story_told scenario lines

  -- what the line comes to behind this past
  abbrev request : CoordPast → Request CoordEvent
  request past = coord_request plan past turn.line.line.command turn.took

  pub coord_moves : coord_past story ≡ coord_past_of plan done → IsCoordNext plan done turn → WasTaken story turn.line.line.command turn.took
      → ((site : SiteId) → In site (sites scenario) → Told.sent_to site story ≡ sent_to plan site done) → CoordMoves scenario plan lines done turn turn.line.line
  coord_moves past next taken sent = record {
    next = record {
      answer = subst (λ (h : Happened). IsAnswer (protocols scenario) story h turn.line.line.answer) (sym is)
          (coord_answers scenario story (request (coord_past story)) turn.line.line.answer
          (subst (λ (p : CoordPast). MayAnswer (terms_in scenario) p (request p) turn.line.line.answer) (sym past) next.answer));
      sends = next.sends ∙ ap (places_sent plan done) (sym sends)
          ∙ (coord_places scenario story stops faults done (request (coord_past story)) whole rises (requests_declared scenario commands turn.line.line.command (request (coord_past story)) is)
          (λ site i. sym (ap (λ (ms : List ToSite). length ms) (sent site i)))
          ∙ ap (λ (h : Happened). places_of story h) (sym is));
    };
    past = ap (λ (h : Happened). with_coordinator h (coord_past story)) is ∙ coord_goes_on scenario story (request (coord_past story))
        ∙ ap (λ (p : CoordPast). coord_behind (terms_in scenario) p (request p)) past;
    to = λ site e. ap₂ (λ (xs ys : List ToSite). xs ++ ys) e
        (ap (λ (h : Happened). sends_to site h) is ∙ sends_to_site scenario story site (request (coord_past story)) rises ∙ ap (messages site) sends);
    from = λ site. ap (λ (h : Happened). sent_from site story ++ sends_from site h) is ∙ ap (λ (ms : List FromSite). sent_from site story ++ ms) (none_from_sites scenario story site (request (coord_past story))) ∙ append-nil (sent_from site story);
    stays = λ site. ap (λ (h : Happened). with_site site h (past_of site story)) is ∙ sites_stay scenario story site (request (coord_past story)) (past_of site story);
  }
    where
      is : happens scenario story turn.line.line.command ≡ coord_requested scenario story (request (coord_past story))
      is = command_happens scenario story stops faults done turn.line.line.command turn.took own next.command taken

      rises : BySite (coord_sends (terms_in scenario) (coord_past story) (request (coord_past story)))
      rises = requests_rise scenario commands (request (coord_past story)) whole

      sends : coord_sends (terms_in scenario) (coord_past story) (request (coord_past story)) ≡ coord_sends_at plan done turn
      sends = ap (λ (p : CoordPast). coord_sends (terms_in scenario) p (request p)) past

      messages : SiteId → List Sent → List ToSite
      messages site xs = option_to_list (message_to site xs)
