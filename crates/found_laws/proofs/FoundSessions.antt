-- A session that goes on from usable disks, whoever left them, begins with the pasts that its journals stand for, and each site goes on from one of these.
use Rattle.std.proofs.Common.{◌≡◌, ℕ, suc, length, ◌≤◌, Bool, true, false, cond, Some, None, List, [], ◌∷◌, ◌++◌, refl, sym, ap, subst, ◌∙◌, inl, inr, arith}
use Rattle.mdb_base.specs.declared.names.Tx.{Tx}
use Rattle.mdb_base.specs.Rising.{IsRising}
use Rattle.order_laws.proofs.ForCallers.{each_at, item_at-in}
use Rattle.fed_rules.specs.declared.commands.Command.TheVariants as Cmd
use Rattle.fed_rules.specs.declared.events.SiteEvent.{SiteEvent}
use Rattle.fed_rules.specs.declared.events.SiteEvent.TheVariants as Ev
use Rattle.fed_rules.specs.declared.messages.ToSite.{ToSite}
use Rattle.fed_rules.specs.declared.messages.ToSite.TheVariants as To
use Rattle.fed_rules.specs.Coord.{coord_line}
use Rattle.fed_rules.specs.Scenarios.{policy}
use Rattle.fed_rules.specs.Site.{site_line, site_past_on}
use Rattle.fed_rules.specs.SitePast.{SitePast}
use Rattle.fed_rules.specs.Story.{sends_to, sent_to}
use Rattle.fed_rules.specs.Lines.{SiteCause}
use Rattle.commit_laws.proofs.ForCallers.{CoordinatorFits, IsNext, home-again, linked, protocols_rise}
use Rattle.site_history.specs.Events.{AreSorted, IsSorted}
use Rattle.site_history.proofs.ForCallers.{sites_go_on}
use Rattle.mdb_base.specs.declared.names.SiteId.{SiteId}
use Rattle.mdb_base.specs.declared.names.Tid.{Tid}
use Rattle.mdb_base.specs.Names.{same_site}
use Rattle.mdb_base.specs.Words.{Each}
use Rattle.mdb_base.proofs.ForCallers.{among_split, append_nil, same_site-equal, some_parts}
use Rattle.order_laws.specs.Chains.{In}
use Rattle.fed_rules.specs.declared.commands.Command.{Command}
use Rattle.fed_rules.specs.declared.records.SiteRecord.{SiteRecord}
use Rattle.fed_rules.specs.CoordPast.{is_open}
use Rattle.fed_rules.specs.Found.{Found, Journal}
use Rattle.fed_rules.specs.Plans.{AreSites}
use Rattle.fed_rules.specs.Reopened.{first_of, opened_coordinator, opened_site}
use Rattle.fed_rules.specs.Resumed.{going_on, homes, plan_of}
use Rattle.fed_rules.specs.Scenarios.{home_of, items_of, protocols}
use Rattle.fed_rules.specs.Sessions.{Session}
use Rattle.fed_rules.specs.SiteRecords.{Home}
use Rattle.fed_rules.specs.Story.{AtCoordinator, AtSite, Happened, Nowhere, Story, coord_past, happens, past_of, story_in, with_site}
use Rattle.fed_rules.specs.Usable.{home_of_first}
use Rattle.fed_rules.specs.Lines.{IsLine}
use Rattle.fed_rules.proofs.ForCallers.{line_is}
use Rattle.coord_laws.specs.Pasts.{IsOpened}
use Rattle.coord_laws.proofs.ForCallers.{usable_go_on}
use Rattle.site_history.specs.FoundSites.{IsFoundSite}
use Rattle.found_laws.specs.FoundSessions.{AreUsable, BeginsWith, IsOfFormat, RowsRise, UsableSessionsBegin, UsableSessionsGoOn}
use Rattle.found_laws.specs.Resuming.{IsResuming}
use Rattle.found_laws.proofs.CoordGentle.{IsDecide, NobodyIsOpen, decisions_alone, each_here}
use Rattle.found_laws.proofs.FoundJournals.{AreHomes, all_homes, first_rows_of, none_undeclared, past_declared, rows_alone, same_home}
use Rattle.found_laws.proofs.Idle.{begins_nothing, idle, local_never}
use Rattle.found_laws.proofs.Opening.{session_begins}
use Rattle.found_laws.proofs.OutcomeWalk.{outcomes_on}
use Rattle.found_laws.proofs.PlanSites.{homes_differ, homes_range, rise_all}

-- ---- the session

-- the past is what so many events make of that one, each of a session without transactions
record IsResumedOn (home : Home) (n : ℕ) (first past : SitePast) : Type 0 where
  events : List SiteEvent
  resuming : Each IsResuming events
  few : length events ≤ n
  is : past ≡ site_past_on home first events

longer : (home : Home) (n : ℕ) (first past : SitePast) → IsResumedOn home n first past → IsResumedOn home (suc n) first past
longer home n first past p = record { events = p.events; resuming = p.resuming; few = (let f = p.few in omega (arith, f)); is = p.is }

-- and that one is what a journal stands for that was found
pub record IsResumedFrom (journals : List (Journal SiteRecord)) (home : Home) (past : SitePast) : Type 0 where
  pub journal : Journal SiteRecord
  pub among : In journal journals
  pub events : List SiteEvent
  pub resuming : Each IsResuming events
  pub is : past ≡ site_past_on home (opened_site journal) events

-- which is of the format
pub record IsResumedPast (journals : List (Journal SiteRecord)) (home : Home) (n : ℕ) (past : SitePast) : Type 0 where
  pub local : Tx → Bool
  pub journal : Journal SiteRecord
  pub among : In journal journals
  pub found : IsFoundSite home local journal
  pub format : IsOfFormat journal
  pub events : List SiteEvent
  pub resuming : Each IsResuming events
  pub few : length events ≤ n
  pub is : past ≡ site_past_on home (opened_site journal) events

module _ (found : Found) (u : AreUsable found) where
  abbrev session : Session
  session = going_on found

  all : AreHomes 0 (homes found.sites)
  all = all_homes 0 found.sites u.sites

  pub plan_sites : AreSites (plan_of found).sites
  plan_sites = record { range = homes_range (homes found.sites) all.range; differ = homes_differ (homes found.sites) all.rising }

  pub opened : IsOpened (protocols (plan_of found)) (opened_coordinator (protocols (plan_of found)) u.coordinator)
  opened = usable_go_on (protocols (plan_of found)) u.coordinator (rise_all (protocols (plan_of found)) (protocols_rise (plan_of found).sites plan_sites.differ)) u.usable u.members

  pub fits : CoordinatorFits session
  fits journal e =
      subst (λ j. IsOpened (protocols (plan_of found)) (opened_coordinator (protocols (plan_of found)) j)) (some_parts (sym u.is ∙ e)) opened

  pub begins : BeginsWith found u.coordinator
  begins = record {
    at_coordinator = (session_begins session u.coordinator u.is (record { 0 = 0 })).coordinator;
    at_sites = λ site home declared.
        (let p = past_declared (plan_of found).items 0 found.sites site home u.sites declared in
        (p.journal, p.among, (session_begins session u.coordinator u.is site).here ∙ p.past));
  }

  -- a site that isn't declared does nothing
  quiet_next : (site : SiteId) (story : Story) (command : Command) (happened : Happened) → home_of (plan_of found) site ≡ None → IsLine (plan_of found) story command happened
      → past_of site story ≡ [] → with_site site happened (past_of site story) ≡ []
  quiet_next site story command (Nowhere answer) none line e = e
  quiet_next site story command (AtCoordinator x) none line e = e
  quiet_next site story command (AtSite at x) none line e = by_test (same_site at site) refl
    where
      by_test : (b : Bool) → same_site at site ≡ b → cond b (x ∷ past_of site story) (past_of site story) ≡ []
      by_test false q = e
      by_test true q =
          let clash : None ≡ Some line.home = sym none ∙ ap (home_of (plan_of found)) (sym (same_site-equal at site q) ∙ line.here) ∙ line.declared in cc

  pub quiet : (site : SiteId) (more : List Command) → home_of (plan_of found) site ≡ None → past_of site (story_in session more) ≡ []
  quiet site [] none = (session_begins session u.coordinator u.is site).here ∙ none_undeclared (plan_of found).items 0 found.sites site u.sites none
  quiet site (command ∷ more) none =
      quiet_next site (story_in session more) command (happens (plan_of found) (story_in session more) command) none
      (line_is (plan_of found) (story_in session more) command) (quiet site more none)

  pub any : Tid
  any = record { tx = record { 0 = 0 }; attempt = 0 }

  pub nobody_first : (tid : Tid) → is_open (coord_past (story_in session [])) tid ≡ false
  nobody_first tid = ap (λ p. is_open p tid) begins.at_coordinator

  -- ---- the sites go on

  pub nobody_on : (commands : List Command) → NobodyIsOpen (coord_past (story_in session commands))
  nobody_on commands = (outcomes_on session fits (idle found) any nobody_first commands).nobody

  -- all messages to a site are decisions
  decides : (site : SiteId) (commands : List Command) (m : ToSite) → In m (sent_to site (story_in session commands)) → IsDecide m
  decides site [] m i = absurd (subst (In m) (session_begins session u.coordinator u.is site).to i)
  decides site (command ∷ commands) m i =
      by_line (happens (plan_of found) (story_in session commands) command) (linked (plan_of found) (story_in session commands) command).next i (decides site commands m)
    where
      by_line : (happened : Happened) → IsNext (plan_of found) (story_in session commands) happened → In m (sent_to site (story_in session commands) ++ sends_to site happened)
          → (In m (sent_to site (story_in session commands)) → IsDecide m) → IsDecide m
      by_line (Nowhere answer) next j old = old (subst (In m) (append_nil (sent_to site (story_in session commands))) j)
      by_line (AtSite at x) next j old = old (subst (In m) (append_nil (sent_to site (story_in session commands))) j)
      by_line (AtCoordinator x) (event, is, came) j old = elim (among_split (λ y. y ≡ m) (sent_to site (story_in session commands)) (sends_to site (AtCoordinator x)) j) [
        | inl before ↦ old before
        | inr new ↦
            each_here site (coord_line (protocols (plan_of found)) (policy (plan_of found)) (coord_past (story_in session commands)) event).sends m
            (decisions_alone (protocols (plan_of found)) (policy (plan_of found)) (coord_past (story_in session commands)) (nobody_on commands) event
            (begins_nothing (plan_of found) (story_in session commands) event (idle found) came))
            (subst (λ y. In m (sends_to site (AtCoordinator y))) is new)
      ]

  -- so each of its events is one of a session without transactions
  module _ (home : Home) (declared : home_of (plan_of found) home.site ≡ Some home) where
    given_resuming : (m : ToSite) → IsDecide m → IsResuming (Ev.Give m)
    given_resuming (To.Decide tid decision) i = tt
    given_resuming (To.Work tid e n act) i = absurd i
    given_resuming (To.Take tid e n) i = absurd i
    given_resuming (To.Prepare tid e n) i = absurd i

    cause_resuming : (own : Home) (commands : List Command) (command : Command) (event : SiteEvent) → SiteCause (plan_of found) own (story_in session commands) command event
        → IsResuming event
    cause_resuming own commands (Cmd.Begin tx) event c = local_never (plan_of found) tx own (idle found) c.here
    cause_resuming own commands (Cmd.Step tx) event c = local_never (plan_of found) tx own (idle found) c.here
    cause_resuming own commands (Cmd.Commit tx) event c = local_never (plan_of found) tx own (idle found) c.here
    cause_resuming own commands (Cmd.Abort tx) event c = local_never (plan_of found) tx own (idle found) c.here
    cause_resuming own commands (Cmd.Fate tx) event c = local_never (plan_of found) tx own (idle found) c.here
    cause_resuming own commands (Cmd.Give site place) event c =
        subst IsResuming (sym c.1.is)
        (given_resuming c.1.message (decides own.site commands c.1.message (item_at-in (sent_to own.site (story_in session commands)) place c.1.message c.1.at)))
    cause_resuming own commands (Cmd.Ask site tid) event c = subst IsResuming (sym c.1) tt
    cause_resuming own commands (Cmd.Drop site tid) event c = subst IsResuming (sym c.1) tt
    cause_resuming own commands (Cmd.Halt actor cut) event c = subst IsResuming (sym c.1) tt
    cause_resuming own commands (Cmd.Trip actor calls cut) event c = subst IsResuming (sym c.1) tt
    cause_resuming own commands (Cmd.Back actor) event c = subst IsResuming (sym c.1) tt
    cause_resuming own commands (Cmd.Check actor) event c = subst IsResuming (sym c.1) tt
    cause_resuming own commands (Cmd.Go tx) event c = absurd c
    cause_resuming own commands (Cmd.Again tid) event c = absurd c
    cause_resuming own commands (Cmd.Late tid) event c = absurd c
    cause_resuming own commands (Cmd.Take site place) event c = absurd c

    next_resumed : (commands : List Command) (command : Command) (happened : Happened) (n : ℕ) (first : SitePast) → IsLine (plan_of found) (story_in session commands) command happened
        → IsResumedOn home n first (past_of home.site (story_in session commands)) → IsResumedOn home (suc n) first (with_site home.site happened (past_of home.site (story_in session commands)))
    next_resumed commands command (Nowhere answer) n first line p = longer home n first (past_of home.site (story_in session commands)) p
    next_resumed commands command (AtCoordinator x) n first line p = longer home n first (past_of home.site (story_in session commands)) p
    next_resumed commands command (AtSite at x) n first line p = by_test (same_site at home.site) refl
      where
        same_home : same_site at home.site ≡ true → line.home ≡ home
        same_home q = some_parts (sym line.declared ∙ ap (home_of (plan_of found)) (sym line.here ∙ same_site-equal at home.site q) ∙ declared)

        by_test : (b : Bool) → same_site at home.site ≡ b
            → IsResumedOn home (suc n) first (cond b (x ∷ past_of home.site (story_in session commands)) (past_of home.site (story_in session commands)))
        by_test false q = longer home n first (past_of home.site (story_in session commands)) p
        by_test true q = record {
          events = line.event ∷ p.events;
          resuming = (cause_resuming line.home commands command line.event line.cause, p.resuming);
          few = (let f = p.few in omega (arith, f));
          is = ap (λ y. y ∷ past_of home.site (story_in session commands)) (line.is_next ∙ ap (λ (h : Home). site_line h (past_of h.site (story_in session commands)) line.event) (same_home q))
              ∙ ap (λ past. site_line home past line.event ∷ past) p.is;
        }

    resumed_on : (commands : List Command) → IsResumedOn home (length commands) (past_of home.site (story_in session [])) (past_of home.site (story_in session commands))
    resumed_on [] = record { events = []; resuming = tt; few = omega arith; is = refl }
    resumed_on (command ∷ commands) =
        next_resumed commands command (happens (plan_of found) (story_in session commands) command) (length commands) (past_of home.site (story_in session []))
        (line_is (plan_of found) (story_in session commands) command) (resumed_on commands)

  -- each declared site goes on from a journal that was found
  pub resumed_from : (home : Home) → home_of (plan_of found) home.site ≡ Some home → (commands : List Command)
      → IsResumedFrom found.sites home (past_of home.site (story_in session commands))
  resumed_from home declared commands =
      let p = past_declared (plan_of found).items 0 found.sites home.site home u.sites declared in
      let s = resumed_on home declared commands in
      record {
        journal = p.journal;
        among = p.among;
        events = s.events;
        resuming = s.resuming;
        is = s.is ∙ ap (λ first. site_past_on home first s.events) ((session_begins session u.coordinator u.is home.site).here ∙ p.past);
      }

  pub resumes : Each IsOfFormat found.sites → (commands : List Command) (site : SiteId) (home : Home) → home_of (plan_of found) site ≡ Some home
      → IsResumedPast found.sites home (length commands) (past_of home.site (story_in session commands))
  resumes format commands site home declared =
      let again = home-again (plan_of found) site home declared in
      let p = past_declared (plan_of found).items 0 found.sites home.site home u.sites again in
      let form = each_at IsOfFormat p.journal found.sites format p.among in
      let begins_so : home_of_first (first_of p.journal.records) ≡ Some p.first = sym (same_home (first_of p.journal.records)) ∙ p.begins in
      let rise : IsRising (λ put. put.key.0) p.first.items = subst RowsRise begins_so form.1 in
      let rows : items_of (plan_of found).items home.site ≡ p.first.items =
      ap (items_of (plan_of found).items) (sym p.here) ∙ first_rows_of (homes found.sites) p.first all.rising p.listed ∙ rows_alone p.first.items rise in
      let same : p.first ≡ home =
      ap (λ items. let h : Home = record { site = p.first.site; engine = p.first.engine; protocol = p.first.protocol; items = items } in h) (sym rows) ∙ p.is in
      let site_found = sites_go_on home p.number p.journal p.usable (begins_so ∙ ap Some same) form.0 in
      let s = resumed_on home again commands in
      record {
        local = site_found.0;
        journal = p.journal;
        among = p.among;
        found = site_found.1;
        format = form;
        events = s.events;
        resuming = s.resuming;
        few = s.few;
        is = s.is ∙ ap (λ first. site_past_on home first s.events) ((session_begins session u.coordinator u.is home.site).here ∙ p.past);
      }

sorted_of : (local : Tx → Bool) (event : SiteEvent) → IsResuming event → IsSorted local event
sorted_of local (Ev.Give (To.Decide tid decision)) i = tt
sorted_of local (Ev.Give (To.Work tid e n act)) i = absurd i
sorted_of local (Ev.Give (To.Take tid e n)) i = absurd i
sorted_of local (Ev.Give (To.Prepare tid e n)) i = absurd i
sorted_of local (Ev.Trip calls cut) i = tt
sorted_of local (Ev.Halt cut) i = tt
sorted_of local (Ev.Ask tid) i = tt
sorted_of local (Ev.Drop tid) i = tt
sorted_of local Ev.Back i = tt
sorted_of local Ev.Check i = tt
sorted_of local (Ev.Begin tid) i = absurd i
sorted_of local (Ev.Act tid act) i = absurd i
sorted_of local (Ev.Commit tid) i = absurd i
sorted_of local (Ev.Abort tid) i = absurd i
sorted_of local (Ev.Fate tx) i = absurd i

-- so they are sorted, by whatever test
pub all_sorted : (local : Tx → Bool) (events : List SiteEvent) → Each IsResuming events → AreSorted local events
all_sorted local [] i = tt
all_sorted local (event ∷ events) i = (sorted_of local event i.0, all_sorted local events i.1)

pub sessions_go_on_so : UsableSessionsGoOn
sessions_go_on_so found usable format commands site home declared =
    let r = resumes found usable format commands site home declared in
    record { local = r.local; journal = r.journal; found = r.found; events = r.events; sorted = all_sorted r.local r.events r.resuming; is = r.is }

pub sessions_begin : UsableSessionsBegin
sessions_begin found usable = begins found usable
