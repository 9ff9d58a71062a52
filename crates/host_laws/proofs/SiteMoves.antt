-- The next line of a site's host is the next one of the story, which goes on as the host's own past and messages do.
use Rattle.std.proofs.Common.{◌≡◌, ◌≤◌, false, Some, List, ◌∷◌, ◌++◌, length, sym, ◌∙◌, ap, ap₂, subst}
use Rattle.std.proofs.lemmas.List.{append-nil}
use Rattle.mdb_base.specs.declared.names.SiteId.{SiteId}
use Rattle.mdb_base.specs.Names.{same_site}
use Rattle.mdb_base.specs.Words.{Each}
use Rattle.fed_rules.specs.declared.answers.Answer.{Answer}
use Rattle.fed_rules.specs.declared.commands.Line.{Line}
use Rattle.fed_rules.specs.declared.events.SiteEvent.{SiteEvent}
use Rattle.fed_rules.specs.declared.messages.FromSite.{FromSite}
use Rattle.fed_rules.specs.declared.messages.ToSite.{ToSite}
use Rattle.fed_rules.specs.declared.scenario.Scenario.{Scenario}
use Rattle.fed_rules.specs.declared.scenario.StopLine.{StopLine}
use Rattle.fed_rules.specs.Requests.{Request}
use Rattle.fed_rules.specs.Right.{IsAnswer, IsNext, story_told}
use Rattle.fed_rules.specs.Scenarios.{home_of, protocols}
use Rattle.fed_rules.specs.SiteCommands.{answer_to, past_behind}
use Rattle.fed_rules.specs.SitePast.{SitePast}
use Rattle.fed_rules.specs.Story as Told
use Rattle.fed_rules.specs.Story.{Story, Happened, coord_past, happens, place_from, places_of, requested, sends_from, sends_to, sent_from, sent_to, with_coordinator, with_site}
use Rattle.fed_rules.specs.OwnPrograms.{own_programs}
use Rattle.host_laws.specs.History as Right
use Rattle.host_laws.specs.Plans.{SitePlan}
use Rattle.host_laws.specs.Turns.{SiteTurn, past_of, request_of, sends_at, sends_of, sent_by}
use Rattle.host_laws.proofs.AtSite.{WasGiven, command_happens, coordinator_behind, none_from_others, none_to_sites, others_behind, site_answers, site_behind, site_places, site_sends}

-- the story with this line of the site behind the others
pub record SiteMoves (scenario : Scenario) (plan : SitePlan) (site : SiteId) (lines : List Line) (done : List SiteTurn) (turn : SiteTurn) (line : Line) : Type 0 where
  pub next : IsNext scenario (story_told scenario lines) line
  pub past : Told.past_of site (story_told scenario (line ∷ lines)) ≡ past_of plan (turn ∷ done)
  pub from : sent_from site (story_told scenario (line ∷ lines)) ≡ sent_by plan (turn ∷ done)
  pub coordinator : coord_past (story_told scenario (line ∷ lines)) ≡ coord_past (story_told scenario lines)
  pub to : (other : SiteId) → sent_to other (story_told scenario (line ∷ lines)) ≡ sent_to other (story_told scenario lines)
  pub others_past : (other : SiteId) → same_site site other ≡ false → Told.past_of other (story_told scenario (line ∷ lines)) ≡ Told.past_of other (story_told scenario lines)
  pub others_from : (other : SiteId) → same_site site other ≡ false → sent_from other (story_told scenario (line ∷ lines)) ≡ sent_from other (story_told scenario lines)

module _ (scenario : Scenario) (plan : SitePlan) (declared : home_of scenario plan.home.site ≡ Some plan.home) (least : 1 ≤ plan.home.site.0)
    (own : plan.programs ≡ own_programs plan.home.site scenario.transactions) (stops : Each (λ (stop : StopLine). stop.actor ≡ plan.home.site.0) plan.stops)
    (lines : List Line) (done : List SiteTurn) (turn : SiteTurn) where
  abbrev story : Story
  story = story_told scenario lines

  abbrev told : SitePast
  told = Told.past_of plan.home.site story

  -- what the line comes to behind this past
  abbrev request : SitePast → Request SiteEvent
  request past = request_of plan past turn.line.line.command turn.took

  pub site_moves : told ≡ past_of plan done → sent_from plan.home.site story ≡ sent_by plan done → Right.IsNext plan done turn → WasGiven story plan.home.site turn.line.line.command turn.took
      → SiteMoves scenario plan plan.home.site lines done turn turn.line.line
  site_moves past sent next given = record {
    next = record {
      answer = subst (λ (h : Happened). IsAnswer (protocols scenario) story h turn.line.line.answer) (sym is)
          (subst (λ (a : Answer). IsAnswer (protocols scenario) story (requested plan.home story (request told)) a)
          (ap (λ (p : SitePast). answer_to plan.home p (request p)) past ∙ sym next.answer) (site_answers story plan.home (protocols scenario) (request told)));
      sends = next.sends ∙ ap₂ (λ (ms : List FromSite) (xs : List FromSite). place_from plan.home.site (length ms) xs) (sym sent) (sym sends)
          ∙ sym (site_places story plan.home (request told)) ∙ ap (λ (h : Happened). places_of story h) (sym is);
    };
    past = ap (λ (h : Happened). with_site plan.home.site h told) is ∙ site_behind story plan.home (request told) ∙ ap (λ (p : SitePast). past_behind plan.home p (request p)) past;
    from = ap₂ (λ (xs ys : List FromSite). xs ++ ys) sent (ap (λ (h : Happened). sends_from plan.home.site h) is ∙ site_sends story plan.home (request told) ∙ sends);
    coordinator = ap (λ (h : Happened). with_coordinator h (coord_past story)) is ∙ coordinator_behind story plan.home (request told) (coord_past story);
    to = λ other. ap (λ (h : Happened). sent_to other story ++ sends_to other h) is ∙ ap (λ (ms : List ToSite). sent_to other story ++ ms) (none_to_sites story plan.home other (request told)) ∙ append-nil (sent_to other story);
    others_past = λ other apart. ap (λ (h : Happened). with_site other h (Told.past_of other story)) is ∙ others_behind story plan.home other (request told) (Told.past_of other story) apart;
    others_from = λ other apart.
        ap (λ (h : Happened). sent_from other story ++ sends_from other h) is ∙ ap (λ (ms : List FromSite). sent_from other story ++ ms) (none_from_others story plan.home other (request told) apart) ∙ append-nil (sent_from other story);
  }
    where
      is : happens scenario story turn.line.line.command ≡ requested plan.home story (request told)
      is = command_happens scenario story plan declared least own stops done turn.line.line.command turn.took next.command given

      sends : sends_of plan.home told (request told) ≡ sends_at plan done turn
      sends = ap (λ (p : SitePast). sends_of plan.home p (request p)) past
