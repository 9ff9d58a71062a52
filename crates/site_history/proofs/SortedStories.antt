-- In every story the events of a declared site are sorted: its messages come from the coordinator, which begins only global transactions.
use Rattle.std.proofs.Common.{◌≡◌, Bool, true, false, cond, not, ◌&&◌, Option, Some, None, List, [], ◌∷◌, map, refl, sym, ◌∙◌, ap, subst}
use Rattle.std.specs.Prelude.{is_some, ◌++◌}
use Rattle.mdb_base.specs.declared.names.SiteId.{SiteId}
use Rattle.mdb_base.specs.declared.names.Tid.{Tid}
use Rattle.mdb_base.specs.declared.names.Tx.{Tx}
use Rattle.mdb_base.specs.Names.{same_site, same_tx}
use Rattle.mdb_base.specs.Words.{Each, first_where, map_some, those}
use Rattle.mdb_base.proofs.ForCallers.{append_each, each_item_at, same_site-equal, same_tx-equal}
use Rattle.order_laws.proofs.ForCallers.{item_at-in}
use Rattle.fed_rules.specs.CoordPast.{CoordHappening, CoordPast}
use Rattle.fed_rules.specs.declared.messages.ToSite.{ToSite}
use Rattle.fed_rules.specs.declared.messages.ToSite.TheVariants as To
use Rattle.fed_rules.specs.declared.commands.Command.{Command}
use Rattle.fed_rules.specs.declared.commands.Command.TheVariants as Cmd
use Rattle.fed_rules.specs.declared.events.CoordEvent.{CoordEvent}
use Rattle.fed_rules.specs.declared.events.SiteEvent.{SiteEvent}
use Rattle.fed_rules.specs.declared.events.SiteEvent.TheVariants as Site_event
use Rattle.fed_rules.specs.declared.messages.Sent.{Sent}
use Rattle.fed_rules.specs.declared.scenario.Scenario.{Scenario}
use Rattle.fed_rules.specs.declared.scenario.TxLine.{TxLine}
use Rattle.fed_rules.specs.Runs.{Run, is_sealed}
use Rattle.fed_rules.specs.Scenarios.{global_line, global_program, home_at, home_of, home_of_line, local_home, local_site, policy, protocols, transaction}
use Rattle.fed_rules.specs.Site.{site_line}
use Rattle.fed_rules.specs.SiteRecords.{Home}
use Rattle.fed_rules.specs.Story.{Story, Happened, AtSite, AtCoordinator, Nowhere, at_coordinator, coord_past, happens, past_of, sends_to, sent_to, story_of, with_coordinator}
use Rattle.engine_laws.proofs.ForCallers.{is_live_of}
use Rattle.fed_rules.specs.Lines.{SiteCause, CoordCause, IsLine}
use Rattle.fed_rules.proofs.ForCallers.{line_is, live_is_of}
use Rattle.site_history.specs.Events.{IsSorted}
use Rattle.site_history.specs.Stories.{IsGiven, is_local}
use Rattle.site_history.proofs.CoordAsked.{AreBegun, IsAskedVote, IsNextGo, begun_next, vote_stays}
use Rattle.site_history.proofs.CoordSteps.{IsAsked, IsAskedSend, IsCoordStep, step_line}
use Rattle.site_history.proofs.GlobalSends.{BeginsGlobal, IsSortedSend, SendsSorted, sends_line}

-- the coordinator's line at an event, which begins only a next attempt
pub record IsAskedLine (story : Story) (x : CoordHappening) : Type 0 where
  pub event : CoordEvent
  pub step : IsCoordStep (coord_past story) event x
  pub next : IsNextGo (coord_past story) event

-- the line of a site at a sorted event, or one of the coordinator that sends only what makes sorted events
abbrev pub IsSortedLine : Scenario → Story → Happened → Type 0
IsSortedLine scenario story (AtSite at x) =
    (home : Home) × (event : SiteEvent) × (home_of scenario at ≡ Some home) × (x ≡ site_line home (past_of at story) event)
    × IsSorted (is_local scenario) event × IsGiven (sent_to at story) event
IsSortedLine scenario story (AtCoordinator x) = SendsSorted (is_local scenario) x × IsAskedLine story x
IsSortedLine scenario story (Nowhere answer) = Unit {0}

pub record IsGood (scenario : Scenario) (story : Story) (happened : Happened) : Type 0 where
  pub sorted : IsSortedLine scenario story happened

-- a Prepare that was sent to the site was asked for
abbrev pub IsVoteAsked : CoordPast → SiteId → ToSite → Type 0
IsVoteAsked past site (To.Prepare tid e n) = IsAskedVote past tid site e
IsVoteAsked past site message = Unit {0}

-- what is known of a story so far
pub record IsSortedStory (scenario : Scenario) (story : Story) : Type 0 where
  pub begins : Each (λ x. BeginsGlobal (is_local scenario) x.event) (coord_past story)
  pub sent : (site : SiteId) → Each (λ message. IsSorted (is_local scenario) (Site_event.Give message)) (sent_to site story)
  pub begun : AreBegun (coord_past story)
  pub votes : (site : SiteId) → Each (IsVoteAsked (coord_past story) site) (sent_to site story)

good_coordinator : (scenario : Scenario) (story : Story) (event : CoordEvent) → IsSortedStory scenario story
    → BeginsGlobal (is_local scenario) event → IsNextGo (coord_past story) event → IsGood scenario story (at_coordinator scenario story event)
good_coordinator scenario story event s mine next = record {
  sorted = (
    sends_line (is_local scenario) (protocols scenario) (policy scenario) (coord_past story) event s.begins mine,
    record { event = event; step = step_line (protocols scenario) (policy scenario) (coord_past story) event; next = next },
  );
}

-- who has a home is local
pub local_is : (scenario : Scenario) (tx : Tx) (h : Home) → local_home scenario tx ≡ Some h → is_local scenario tx ≡ true
local_is scenario tx h e = by_site (local_site scenario tx) refl e
  where
    by_site : (o : Option SiteId) → local_site scenario tx ≡ o → home_at scenario o ≡ Some h → is_some o ≡ true
    by_site None is e = cc
    by_site (Some s) is e = refl

-- a global transaction isn't local
global_is : (scenario : Scenario) (tx : Tx) (steps : List _) → global_program scenario tx ≡ Some steps → is_local scenario tx ≡ false
global_is scenario tx steps e = by_line (transaction scenario tx) e
  where
    by_home : (line : TxLine) (o : Option SiteId)
        → map_some (λ (l : TxLine). l.program) (global_line (Some (record line { home = o }))) ≡ Some steps → is_some o ≡ false
    by_home line None e = refl
    by_home line (Some site) e = cc

    by_line : (o : Option TxLine) → map_some (λ (l : TxLine). l.program) (global_line o) ≡ Some steps → is_some (home_of_line o) ≡ false
    by_line None e = cc
    by_line (Some line) e = by_home line line.home e

first_tx : (tx : Tx) (tid : Tid) (runs : List Run) → map_some (λ (run : Run). run.tid) (first_where (is_live_of tx) runs) ≡ Some tid → tid.tx ≡ tx
first_tx tx tid [] e = cc
first_tx tx tid (run ∷ runs) e = by_test (is_live_of tx run) refl e (first_tx tx tid runs)
  where
    by_same : (t u : Bool) → same_tx run.tid.tx tx ≡ t → (t && u) ≡ true → run.tid.tx ≡ tx
    by_same true u is e = same_tx-equal run.tid.tx tx is
    by_same false u is e = cc

    by_test : (b : Bool) → is_live_of tx run ≡ b → map_some (λ (r : Run). r.tid) (cond b (Some run) (first_where (is_live_of tx) runs)) ≡ Some tid
        → (map_some (λ (r : Run). r.tid) (first_where (is_live_of tx) runs) ≡ Some tid → tid.tx ≡ tx) → tid.tx ≡ tx
    by_test true is e rest =
        let same : run.tid ≡ tid = cc in
        ap (λ t. t.tx) (sym same) ∙ by_same (same_tx run.tid.tx tx) (not (is_sealed run)) refl is
    by_test false is e rest = rest e

module _ (scenario : Scenario) (story : Story) where
  -- a command asks a site for sorted events alone, and gives only what was sent
  sorted_event : (home : Home) (command : Command) (event : SiteEvent) → IsSortedStory scenario story → SiteCause scenario home story command event
      → IsSorted (is_local scenario) event × IsGiven (sent_to home.site story) event
  sorted_event home command event s c = by_command command c
    where
      Holds : SiteEvent → Type 0
      Holds e = IsSorted (is_local scenario) e × IsGiven (sent_to home.site story) e

      by_command : (command : Command) → SiteCause scenario home story command event → Holds event
      by_command (Cmd.Begin tx) c = subst Holds (sym c.asks.is) (local_is scenario tx home c.here, tt)
      by_command (Cmd.Step tx) c = subst Holds (sym c.asks.is) (tt, tt)
      by_command (Cmd.Commit tx) c =
          subst Holds (sym c.asks.is)
          (ap (is_local scenario) (live_is_of home (past_of home.site story) tx c.asks.tid c.asks.is_live.found) ∙ local_is scenario tx home c.here, tt)
      by_command (Cmd.Abort tx) c = subst Holds (sym c.asks.is) (tt, tt)
      by_command (Cmd.Fate tx) c = subst Holds (sym c.asks) (tt, tt)
      by_command (Cmd.Give site place) c =
          subst Holds (sym c.1.is) (
            each_item_at (λ m. IsSorted (is_local scenario) (Site_event.Give m)) (sent_to home.site story) place c.1.message (s.sent home.site) c.1.at,
            item_at-in (sent_to home.site story) place c.1.message c.1.at,
          )
      by_command (Cmd.Ask site tid) c = subst Holds (sym c.1) (tt, tt)
      by_command (Cmd.Drop site tid) c = subst Holds (sym c.1) (tt, tt)
      by_command (Cmd.Halt actor cut) c = subst Holds (sym c.1) (tt, tt)
      by_command (Cmd.Trip actor calls cut) c = subst Holds (sym c.1) (tt, tt)
      by_command (Cmd.Back actor) c = subst Holds (sym c.1) (tt, tt)
      by_command (Cmd.Check actor) c = subst Holds (sym c.1) (tt, tt)
      by_command (Cmd.Go tx) c = absurd c
      by_command (Cmd.Again tid) c = absurd c
      by_command (Cmd.Late tid) c = absurd c
      by_command (Cmd.Take site place) c = absurd c

  -- and the coordinator only to begin a next attempt of a global transaction
  global_event : (command : Command) (event : CoordEvent) → CoordCause scenario story command event
      → BeginsGlobal (is_local scenario) event × IsNextGo (coord_past story) event
  global_event command event c = by_command command c
    where
      Holds : CoordEvent → Type 0
      Holds e = BeginsGlobal (is_local scenario) e × IsNextGo (coord_past story) e

      by_command : (command : Command) → CoordCause scenario story command event → Holds event
      by_command (Cmd.Go tx) c = subst Holds (sym c.is) (global_is scenario tx c.steps c.program, refl)
      by_command (Cmd.Fate tx) c = subst Holds (sym c.is) (tt, tt)
      by_command (Cmd.Again tid) c = subst Holds (sym c) (tt, tt)
      by_command (Cmd.Late tid) c = subst Holds (sym c) (tt, tt)
      by_command (Cmd.Take site place) c = subst Holds (sym c.is) (tt, tt)
      by_command (Cmd.Halt actor cut) c = subst Holds (sym c.1) (tt, tt)
      by_command (Cmd.Trip actor calls cut) c = subst Holds (sym c.1) (tt, tt)
      by_command (Cmd.Back actor) c = subst Holds (sym c.1) (tt, tt)
      by_command (Cmd.Check actor) c = subst Holds (sym c.1) (tt, tt)
      by_command (Cmd.Begin tx) c = absurd c
      by_command (Cmd.Step tx) c = absurd c
      by_command (Cmd.Commit tx) c = absurd c
      by_command (Cmd.Abort tx) c = absurd c
      by_command (Cmd.Give site place) c = absurd c
      by_command (Cmd.Ask site tid) c = absurd c
      by_command (Cmd.Drop site tid) c = absurd c

  good_line : (command : Command) (happened : Happened) → IsSortedStory scenario story → IsLine scenario story command happened
      → IsGood scenario story happened
  good_line command (AtSite at x) s line =
      let both = sorted_event line.home command line.event s line.cause in
      record {
        sorted = (
          line.home,
          line.event,
          ap (home_of scenario) line.here ∙ line.declared,
          line.is_next ∙ ap (λ site. site_line line.home (past_of site story) line.event) (sym line.here),
          both.0,
          subst (λ site. IsGiven (sent_to site story) line.event) (sym line.here) both.1,
        );
      }
  good_line command (AtCoordinator x) s line =
      let both = global_event command line.event line.cause in
      subst (λ y. IsGood scenario story (AtCoordinator y)) (sym line.is_next) (good_coordinator scenario story line.event s both.0 both.1)
  good_line command (Nowhere answer) s line = record { sorted = tt }

  pub good_happens : (command : Command) → IsSortedStory scenario story → IsGood scenario story (happens scenario story command)
  good_happens command s = good_line command (happens scenario story command) s (line_is scenario story command)

-- what is sent to a site makes sorted events
sorted_messages : (local : Tx → Bool) (site : SiteId) (sends : List Sent) → Each (IsSortedSend local) sends
    → Each (λ message. IsSorted local (Site_event.Give message)) (map (λ sent. sent.message) (those (λ sent. same_site sent.site site) sends))
sorted_messages local site [] h = tt
sorted_messages local site (sent ∷ sends) h = by_test (same_site sent.site site) (sorted_messages local site sends h.1)
  where
    by_test : (b : Bool)
        → Each (λ message. IsSorted local (Site_event.Give message)) (map (λ s. s.message) (those (λ s. same_site s.site site) sends))
        → Each (λ message. IsSorted local (Site_event.Give message))
        (map (λ s. s.message) (cond b (sent ∷ those (λ s. same_site s.site site) sends) (those (λ s. same_site s.site site) sends)))
    by_test true rest = (h.0, rest)
    by_test false rest = rest

next_sends : (scenario : Scenario) (story : Story) (happened : Happened) (site : SiteId) → IsGood scenario story happened
    → Each (λ message. IsSorted (is_local scenario) (Site_event.Give message)) (sends_to site happened)
next_sends scenario story (AtSite at x) site g = tt
next_sends scenario story (AtCoordinator x) site g = sorted_messages (is_local scenario) site x.sends g.sorted.0.sends
next_sends scenario story (Nowhere answer) site g = tt

next_begins : (scenario : Scenario) (story : Story) (happened : Happened) → IsGood scenario story happened → IsSortedStory scenario story
    → Each (λ x. BeginsGlobal (is_local scenario) x.event) (with_coordinator happened (coord_past story))
next_begins scenario story (AtSite at x) g s = s.begins
next_begins scenario story (AtCoordinator x) g s = (g.sorted.0.begins, s.begins)
next_begins scenario story (Nowhere answer) g s = s.begins

-- what was asked stays asked over a line
votes_stay : (past : CoordPast) (event : CoordEvent) (x : CoordHappening) (site : SiteId) (sent : List ToSite) → IsCoordStep past event x
    → IsNextGo past event → Each (IsVoteAsked past site) sent → Each (IsVoteAsked (x ∷ past) site) sent
votes_stay past event x site [] step next h = tt
votes_stay past event x site (message ∷ sent) step next h = (by_message message h.0, votes_stay past event x site sent step next h.1)
  where
    by_message : (m : ToSite) → IsVoteAsked past site m → IsVoteAsked (x ∷ past) site m
    by_message (To.Prepare tid e n) a = vote_stays past event x tid site e step next a
    by_message (To.Work tid e n act) a = tt
    by_message (To.Take tid e n) a = tt
    by_message (To.Decide tid decision) a = tt

-- and what a line asks of the site is asked
new_votes : (past : CoordPast) (site : SiteId) (sends : List Sent) → AreBegun past → Each (IsAskedSend past) sends
    → Each (IsVoteAsked past site) (map (λ sent. sent.message) (those (λ sent. same_site sent.site site) sends))
new_votes past site [] begun h = tt
new_votes past site (sent ∷ sends) begun h = by_test (same_site sent.site site) refl (new_votes past site sends begun h.1)
  where
    by_message : (m : ToSite) → IsAsked past site m → IsVoteAsked past site m
    by_message (To.Prepare tid e n) a = record { done = a; begun = begun tid site a.visited }
    by_message (To.Work tid e n act) a = tt
    by_message (To.Take tid e n) a = tt
    by_message (To.Decide tid decision) a = tt

    by_test : (b : Bool) → same_site sent.site site ≡ b
        → Each (IsVoteAsked past site) (map (λ s. s.message) (those (λ s. same_site s.site site) sends))
        → Each (IsVoteAsked past site)
        (map (λ s. s.message) (cond b (sent ∷ those (λ s. same_site s.site site) sends) (those (λ s. same_site s.site site) sends)))
    by_test true is rest = (by_message sent.message (subst (λ s. IsAsked past s sent.message) (same_site-equal sent.site site is) h.0), rest)
    by_test false is rest = rest

next_votes : (scenario : Scenario) (story : Story) (happened : Happened) (site : SiteId) → IsGood scenario story happened
    → IsSortedStory scenario story → AreBegun (with_coordinator happened (coord_past story))
    → Each (IsVoteAsked (with_coordinator happened (coord_past story)) site) (sent_to site story ++ sends_to site happened)
next_votes scenario story (AtSite at x) site g s begun =
    append_each (IsVoteAsked (coord_past story) site) (sent_to site story) [] (s.votes site) tt
next_votes scenario story (AtCoordinator x) site g s begun =
    append_each (IsVoteAsked (x ∷ coord_past story) site) (sent_to site story) (sends_to site (AtCoordinator x))
    (votes_stay (coord_past story) g.sorted.1.event x site (sent_to site story) g.sorted.1.step g.sorted.1.next (s.votes site))
    (new_votes (x ∷ coord_past story) site x.sends begun g.sorted.1.step.asked)
next_votes scenario story (Nowhere answer) site g s begun =
    append_each (IsVoteAsked (coord_past story) site) (sent_to site story) [] (s.votes site) tt

next_begun : (scenario : Scenario) (story : Story) (happened : Happened) → IsGood scenario story happened → IsSortedStory scenario story
    → AreBegun (with_coordinator happened (coord_past story))
next_begun scenario story (AtSite at x) g s = s.begun
next_begun scenario story (AtCoordinator x) g s =
    begun_next (coord_past story) g.sorted.1.event x g.sorted.1.step g.sorted.1.next s.begun
next_begun scenario story (Nowhere answer) g s = s.begun

pub sorted_story : (scenario : Scenario) (commands : List Command) → IsSortedStory scenario (story_of scenario commands)
sorted_story scenario [] = record { begins = tt; sent = λ site. tt; begun = λ tid site e. cc; votes = λ site. tt }
sorted_story scenario (command ∷ commands) =
    let s = sorted_story scenario commands in
    let story = story_of scenario commands in
    let g = good_happens scenario story command s in
    let begun = next_begun scenario story (happens scenario story command) g s in
    record {
      begins = next_begins scenario story (happens scenario story command) g s;
      sent = λ site. append_each (λ message. IsSorted (is_local scenario) (Site_event.Give message)) (sent_to site story)
          (sends_to site (happens scenario story command)) (s.sent site) (next_sends scenario story (happens scenario story command) site g);
      begun = begun;
      votes = λ site. next_votes scenario story (happens scenario story command) site g s begun;
    }
