-- The past of a declared site in a story is made by sorted events, whose Prepares of an attempt name one epoch.
use Rattle.std.proofs.Common.{◌≡◌, Bool, true, false, cond, Some, List, [], ◌∷◌, ◌++◌, refl, sym, ◌∙◌, ap, subst, inl}
use Rattle.mdb_base.specs.Names.{same_site}
use Rattle.mdb_base.specs.Words.{Each}
use Rattle.mdb_base.proofs.ForCallers.{each_among, each_map, same_site-equal, some_parts}
use Rattle.order_laws.proofs.ForCallers.{append_in}
use Rattle.fed_rules.specs.declared.commands.Command.{Command}
use Rattle.fed_rules.specs.declared.events.SiteEvent.{SiteEvent}
use Rattle.fed_rules.specs.declared.events.SiteEvent.TheVariants as Site_event
use Rattle.fed_rules.specs.declared.messages.ToSite.{ToSite}
use Rattle.fed_rules.specs.declared.messages.ToSite.TheVariants as To
use Rattle.fed_rules.specs.declared.scenario.Scenario.{Scenario}
use Rattle.fed_rules.specs.Scenarios.{home_of}
use Rattle.fed_rules.specs.Site.{site_line, site_past}
use Rattle.fed_rules.specs.SitePast.{SitePast}
use Rattle.fed_rules.specs.SiteRecords.{Home}
use Rattle.fed_rules.specs.Story.{Story, Happened, AtSite, AtCoordinator, Nowhere, coord_past, happens, past_of, sends_to, sent_to, story_of, with_site}
use Rattle.site_history.specs.Events.{AreSorted}
use Rattle.site_history.specs.Stories.{EventsAreSorted, IsGiven, is_local}
use Rattle.fed_rules.proofs.ForCallers.{home-again}
use Rattle.site_history.proofs.SortedStories.{IsGood, IsVoteAsked, good_happens, sorted_story}

-- the events that make the past of a site so far
record IsMade (scenario : Scenario) (sent : List ToSite) (home : Home) (past : SitePast) : Type 0 where
  events : List SiteEvent
  sorted : AreSorted (is_local scenario) events
  given : Each (IsGiven sent) events
  made : past ≡ site_past home events

given_more : (sent more : List ToSite) (event : SiteEvent) → IsGiven sent event → IsGiven (sent ++ more) event
given_more sent more (Site_event.Give message) i = append_in message sent more (inl i)
given_more sent more (Site_event.Begin tid) i = tt
given_more sent more (Site_event.Act tid act) i = tt
given_more sent more (Site_event.Commit tid) i = tt
given_more sent more (Site_event.Abort tid) i = tt
given_more sent more (Site_event.Fate tx) i = tt
given_more sent more (Site_event.Ask tid) i = tt
given_more sent more (Site_event.Drop tid) i = tt
given_more sent more (Site_event.Halt cut) i = tt
given_more sent more (Site_event.Trip calls cut) i = tt
given_more sent more Site_event.Back i = tt
given_more sent more Site_event.Check i = tt

all_given : (sent more : List ToSite) (events : List SiteEvent) → Each (IsGiven sent) events → Each (IsGiven (sent ++ more)) events
all_given sent more events = each_map (IsGiven sent) (IsGiven (sent ++ more)) (given_more sent more) events

-- the past of a site with what happens next
past_more : (scenario : Scenario) (home : Home) (story : Story) (happened : Happened) → home_of scenario home.site ≡ Some home
    → IsGood scenario story happened → IsMade scenario (sent_to home.site story) home (past_of home.site story)
    → IsMade scenario (sent_to home.site story ++ sends_to home.site happened) home (with_site home.site happened (past_of home.site story))
past_more scenario home story (AtSite at x) declared g m = by_test (same_site at home.site) refl
  where
    by_test : (t : Bool) → same_site at home.site ≡ t
        → IsMade scenario (sent_to home.site story ++ []) home (cond t (x ∷ past_of home.site story) (past_of home.site story))
    by_test false q = record {
      events = m.events;
      sorted = m.sorted;
      given = all_given (sent_to home.site story) [] m.events m.given;
      made = m.made;
    }
    by_test true q =
        let (other, event, found, is, sorted, given) = g.sorted in
        let same : at ≡ home.site = same_site-equal at home.site q in
        let one : other ≡ home = some_parts (sym found ∙ ap (home_of scenario) same ∙ declared) in
        let line : x ≡ site_line home (past_of home.site story) event =
        is ∙ ap (λ h. site_line h (past_of at story) event) one ∙ ap (λ s. site_line home (past_of s story) event) same in
        record {
          events = event ∷ m.events;
          sorted = (sorted, m.sorted);
          given = (
            given_more (sent_to home.site story) [] event (subst (λ s. IsGiven (sent_to s story) event) same given),
            all_given (sent_to home.site story) [] m.events m.given,
          );
          made = ap (λ y. y ∷ past_of home.site story) line ∙ ap (λ past. site_line home past event ∷ past) m.made;
        }
past_more scenario home story (AtCoordinator x) declared g m = record {
  events = m.events;
  sorted = m.sorted;
  given = all_given (sent_to home.site story) (sends_to home.site (AtCoordinator x)) m.events m.given;
  made = m.made;
}
past_more scenario home story (Nowhere answer) declared g m = record {
  events = m.events;
  sorted = m.sorted;
  given = all_given (sent_to home.site story) [] m.events m.given;
  made = m.made;
}

made_sorted : (scenario : Scenario) (home : Home) (commands : List Command) → home_of scenario home.site ≡ Some home
    → IsMade scenario (sent_to home.site (story_of scenario commands)) home (past_of home.site (story_of scenario commands))
made_sorted scenario home [] declared = record { events = []; sorted = tt; given = tt; made = refl }
made_sorted scenario home (command ∷ commands) declared =
    past_more scenario home (story_of scenario commands) (happens scenario (story_of scenario commands) command) declared
    (good_happens scenario (story_of scenario commands) command (sorted_story scenario commands)) (made_sorted scenario home commands declared)

-- in every story the events of a declared site are sorted, and all Prepares of an attempt name one epoch
pub events_sorted : EventsAreSorted
events_sorted scenario commands site home declared =
    let story = story_of scenario commands in
    let m = made_sorted scenario home commands (home-again scenario site home declared) in
    let votes = (sorted_story scenario commands).votes home.site in
    record {
      events = m.events;
      sorted = m.sorted;
      given = m.given;
      one_epoch = λ tid d e p q i j.
          let first = each_among (IsVoteAsked (coord_past story) home.site) (To.Prepare tid d p) (sent_to home.site story) votes
          (each_among (IsGiven (sent_to home.site story)) (Site_event.Give (To.Prepare tid d p)) m.events m.given i) in
          let second = each_among (IsVoteAsked (coord_past story) home.site) (To.Prepare tid e q) (sent_to home.site story) votes
          (each_among (IsGiven (sent_to home.site story)) (Site_event.Give (To.Prepare tid e q)) m.events m.given j) in
          sym first.done.known ∙ second.done.known;
      made = m.made;
    }
