-- The disks that a session leaves are readable: they are usable, and say what the records said.
use Rattle.std.proofs.Common.{◌≡◌, ◌<◌, ◌^◌, Bool, Some, List, length, sym, subst, ◌∙◌}
use Rattle.mdb_base.specs.declared.names.Tx.{Tx}
use Rattle.mdb_base.specs.Words.{Each}
use Rattle.fed_rules.specs.declared.commands.Command.{Command}
use Rattle.fed_rules.specs.declared.scenario.Scenario.{Scenario}
use Rattle.fed_rules.specs.CoordPast as Coordinator
use Rattle.fed_rules.specs.CoordSums.{coord_journal_sum}
use Rattle.fed_rules.specs.Orders.{is_committed}
use Rattle.fed_rules.specs.Plans.{IsScenario}
use Rattle.fed_rules.specs.Reopened.{first_of, opened_site}
use Rattle.fed_rules.specs.Resumed.{homes, left_at, left_by}
use Rattle.fed_rules.specs.Scenarios.{home_of, policy, protocols}
use Rattle.fed_rules.specs.SitePast.{SitePast, journal, records}
use Rattle.fed_rules.specs.SiteRecords.{Home}
use Rattle.fed_rules.specs.SiteSums.{journal_sum, site_sum}
use Rattle.fed_rules.specs.Story.{coord_past, home_found, past_of, story_of}
use Rattle.site_history.specs.SiteOrders.{OfSortedEvents}
use Rattle.site_history.proofs.ForCallers.{DoubtsFit, first_fit, journals_say_all, of_events, orders_past, reopened, sites_serial}
use Rattle.commit_laws.proofs.ForCallers.{home-again, its-site, story_goes_on}
use Rattle.coord_laws.specs.CoordRestarts.{TellsRecords}
use Rattle.site_history.specs.FoundSites.{IsFoundSite}
use Rattle.site_history.specs.Sums.{JournalSaysAll}
use Rattle.coord_laws.proofs.ForCallers.{going_tells, read_is, usable_go_on}
use Rattle.sum_laws.proofs.ForCallers.{coordinators_read, sites_read}
use Rattle.disk_laws.proofs.ForCallers.{HasFormat, TellApart, leave_members, pasts_apart, pasts_format, usable_coordinators, usable_disks, usable_sites}
use Rattle.resume_laws.specs.Premises.{CoordSaysSame, SaysSame, SiteSaysSame, coord_left, site_left}
use Rattle.resume_laws.specs.Rightly.{DisksAreReadable, IsReadable, SessionsRest}
use Rattle.resume_laws.specs.Tables.{TableFits}
use Rattle.resume_laws.proofs.DueNumbers.{dues_differ}
use Rattle.found_laws.proofs.ForCallers.{parts_are, protocols_rise, same_home, sites_of_homes}
use Rattle.resume_laws.proofs.GoesOn.{any_home, any_installs, each_found}
use Rattle.resume_laws.proofs.RestsAgain.{all_rest}

-- ---- a site

-- what is known of the journal that a site leaves
record IsLeft (home : Home) (here : SitePast) : Type 0 where
  local : Tx → Bool
  first : Home
  found : IsFoundSite first local (site_left home here)
  says : journal_sum first (journal home here) ≡ site_sum home (records home here)
  fit : DoubtsFit (records home here)

pasts_fit : OfSortedEvents (λ home past. DoubtsFit (records home past))
pasts_fit home local events sorted = first_fit _ (orders_past home local events sorted).orderly.all.fit

module _ (scenario : Scenario) (good : IsScenario scenario) (commands : List Command) (short : length commands < 2 ^ 30) where
  site_is_left : (home : Home) → home_of scenario home.site ≡ Some home → IsLeft home (past_of home.site (story_of scenario commands))
  site_is_left home declared =
      let past = past_of home.site (story_of scenario commands) in
      let form = of_events HasFormat pasts_format scenario commands home.site home declared in
      record {
        local = form.local;
        first = form.begins.first;
        found = record {
          number = home.site.0;
          usable = usable_sites scenario good commands short home.site home declared;
          is_home = form.begins.is;
          rising = form.rising;
          told = form.told;
        };
        says = form.begins.says ∙ of_events JournalSaysAll journals_say_all scenario commands home.site home declared;
        fit = of_events (λ home past. DoubtsFit (records home past)) pasts_fit scenario commands home.site home declared;
      }

  says_same : (home : Home) → home_of scenario home.site ≡ Some home → SiteSaysSame home (past_of home.site (story_of scenario commands))
  says_same home declared =
      let past = past_of home.site (story_of scenario commands) in
      let l = site_is_left home declared in
      record {
        first = l.first;
        is = same_home (first_of (journal home past)) ∙ l.found.is_home;
        sums = (sites_read l.first l.local (site_left home past) l.found).says ∙ l.says;
      }

  table_fits : (home : Home) → home_of scenario home.site ≡ Some home → TableFits (story_of scenario commands) home (past_of home.site (story_of scenario commands))
  table_fits home declared =
      let past = past_of home.site (story_of scenario commands) in
      let l = site_is_left home declared in
      let is : home_found (first_of (journal home past)) ≡ Some l.first = same_home (first_of (journal home past)) ∙ l.found.is_home in
      let now : DoubtsFit (records l.first (opened_site (site_left home past))) = first_fit _ (reopened l.first l.local (site_left home past) l.found).orders.orderly.all.fit in
      record {
        before = l.fit;
        now = λ first tid held e.
            subst (Each _) (any_installs l.first first l.first (site_left home past) is)
            (now tid held (any_home l.first first l.first (site_left home past) is tid ∙ e));
        differ = dues_differ (is_committed (story_of scenario commands)) (records home past)
            (of_events (λ home past. TellApart (records home past)) pasts_apart scenario commands home.site home declared)
            (sites_serial scenario commands home.site home declared).once;
      }

  -- ---- the coordinator

  coordinator_says_same : CoordSaysSame (protocols scenario) (coord_past (story_of scenario commands))
  coordinator_says_same =
      let past = coord_past (story_of scenario commands) in
      let members = protocols scenario in
      let rise = protocols_rise scenario good in
      let usable = usable_coordinators scenario good commands short in
      let listed = leave_members scenario commands rise in
      let r = coordinators_read members (coord_left past) rise usable listed in
      record {
        sum = coord_journal_sum members (Coordinator.journal past);
        before = going_tells members (policy scenario) past (story_goes_on scenario commands);
        now = subst (TellsRecords members (coord_journal_sum members (Coordinator.journal past)))
            (r.read ∙ sym (read_is (Coordinator.journal past) (coord_left past).torn)) r.tells;
        opened = usable_go_on members (coord_left past) rise usable listed;
      }

  says : SaysSame scenario (story_of scenario commands)
  says = record {
    coordinator = coordinator_says_same;
    sites = λ site home declared.
        subst (λ s. SiteSaysSame home (past_of s (story_of scenario commands))) (its-site scenario site home declared) (says_same home (home-again scenario site home declared));
  }

  readable : IsReadable scenario (story_of scenario commands)
  readable = record {
    usable = usable_disks scenario good commands short;
    says = says;
    plan = sites_of_homes scenario good (homes (left_by scenario (story_of scenario commands)).sites)
        (parts_are (λ site. left_at (story_of scenario commands) (home_of scenario site)) (protocols scenario) (each_found scenario good commands says));
    tables = λ site home declared.
        subst (λ s. TableFits (story_of scenario commands) home (past_of s (story_of scenario commands))) (its-site scenario site home declared) (table_fits home (home-again scenario site home declared));
  }

pub disks_readable : DisksAreReadable
disks_readable scenario good commands short = readable scenario good commands short

pub sessions_rest : SessionsRest
sessions_rest scenario good commands short = all_rest scenario good commands (says scenario good commands short) (disks_readable scenario good commands short).plan
