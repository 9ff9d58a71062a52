-- The disks that a session leaves that began with empty disks: a session goes on from them, and from what a stop leaves of that one.
use Rattle.std.proofs.Common.{◌≡◌, ℕ, ◌+◌, ◌≤◌, ◌<◌, ◌^◌, ◌⊎◌, Some, List, [], ◌∷◌, length, refl, sym, ap, subst, ◌∙◌, inl, inr, arith}
use Rattle.mdb_base.specs.declared.names.Tid.{Tid}
use Rattle.mdb_base.specs.Rising.{IsRising}
use Rattle.mdb_base.specs.Words.{Each}
use Rattle.fed_rules.specs.declared.commands.Command.{Command}
use Rattle.fed_rules.specs.declared.records.SiteRecord.{SiteRecord}
use Rattle.fed_rules.specs.declared.records.SiteRecord.TheVariants.{Checkpoint}
use Rattle.fed_rules.specs.declared.scenario.Scenario.{Scenario}
use Rattle.fed_rules.specs.declared.sums.SiteSum.{SiteSum}
use Rattle.fed_rules.specs.CoordPast as Coordinator
use Rattle.fed_rules.specs.CoordRecords.{coord_frame}
use Rattle.fed_rules.specs.Found.{Found, Journal}
use Rattle.fed_rules.specs.Plans.{IsScenario}
use Rattle.fed_rules.specs.Reopened.{first_of}
use Rattle.fed_rules.specs.Resumed.{journal_on, left_by, resumed}
use Rattle.fed_rules.specs.Scenarios.{home_of}
use Rattle.fed_rules.specs.Site.{site_past}
use Rattle.fed_rules.specs.SitePast.{SitePast, epoch, journal, records}
use Rattle.fed_rules.specs.SiteRecords.{Home, epoch_of, installs}
use Rattle.fed_rules.specs.SiteSums.{journal_sum, site_sum}
use Rattle.fed_rules.specs.Story.{coord_past, past_of, story_of}
use Rattle.fed_rules.specs.Usable.{AreUnnamed, IsUsableCoordinator, home_of_first, read}
use Rattle.commit_laws.proofs.ForCallers.{home-again}
use Rattle.site_history.proofs.ForCallers.{home_rises, journals_say_all, of_events}
use Rattle.site_history.specs.SiteOrders.{OfSortedEvents}
use Rattle.site_history.specs.Sums.{JournalSaysAll}
use Rattle.disk_laws.proofs.ForCallers.{AreBelow, Behind, Counts, HasFormat, Whole, counts, epoch_below, first_founded, first_is, leave_members, locals_not_named, pasts_below, pasts_format, usable_coordinators, usable_sites}
use Rattle.fed_rules.proofs.ForCallers.{past_short}
use Rattle.resume_laws.specs.Again.{HasRoom, IsFoundAgain, LeftDisksAreFound, StopsKeepOutcomes, left_after, lines_of}
use Rattle.found_laws.specs.FoundSessions.{AreUsable, IsOfFormat, RowsRise}
use Rattle.resume_laws.proofs.AgainSessions.{disks_of, each_journal, sessions_leave_usable, stopped_keep_outcomes}
use Rattle.resume_laws.proofs.FoundRests.{sessions_rest}
use Rattle.mdb_base.proofs.ForCallers.{each_map}
use Rattle.fed_rules.specs.Endings.{outcome_in}
use Rattle.engine_laws.proofs.ForCallers.{rising_rows_after}
use Rattle.resume_laws.proofs.GoesOn.{all_outcomes_stay, same_plan}
use Rattle.found_laws.proofs.ForCallers.{protocols_rise}
use Rattle.resume_laws.proofs.Readable.{disks_readable}
use Rattle.resume_laws.proofs.SiteGoes.{IsGoing, epoch_same}

-- how a journal begins
record BeginsSo (home : Home) (past : SitePast) : Type 0 where
  rows : IsRising (λ put. put.key.0) home.items → RowsRise (home_of_first (first_of (journal home past)))
  begins : (home_of_first (first_of (journal home past)) ≡ Some home)
      ⊎ ((sum : SiteSum) × (first_of (journal home past) ≡ Some (Checkpoint sum)) × (sum.site ≡ home.site) × (sum.engine ≡ home.engine) × (sum.protocol ≡ home.protocol))

pasts_begin : OfSortedEvents BeginsSo
pasts_begin home local events sorted = by_counts (records home (site_past home events)) (counts home local events sorted)
  where
    past : SitePast
    past = site_past home events

    by_counts : (rs : List SiteRecord) → Counts home rs (journal home (site_past home events)) → BeginsSo home (site_past home events)
    by_counts rs (Whole newer e f) =
        let is = ap home_of_first (ap first_of f ∙ first_founded home newer) in record { rows = λ r. subst RowsRise (sym is) r; begins = inl is }
    by_counts rs (Behind newer before e f) =
        let is = ap first_of f ∙ first_is (Checkpoint (site_sum home before)) newer in
        record {
          rows = λ r. subst (λ o. RowsRise (home_of_first o)) (sym is) (rising_rows_after home.items (installs before) r);
          begins = inr (site_sum home before, is, refl, refl, refl);
        }

module _ (scenario : Scenario) (good : IsScenario scenario) (commands : List Command) (short : length commands < 2 ^ 30) where
  abbrev left : Found
  left = left_by scenario (story_of scenario commands)

  site_going : (home : Home) → home_of scenario home.site ≡ Some home
      → IsGoing home (journal home (past_of home.site (story_of scenario commands))) (epoch_of (read (journal home (past_of home.site (story_of scenario commands)))))
      (journal home (past_of home.site (story_of scenario commands)))
  site_going home declared =
      let b = of_events BeginsSo pasts_begin scenario commands home.site home declared in
      record {
        usable = usable_sites scenario good commands short home.site home declared;
        rising = (of_events HasFormat pasts_format scenario commands home.site home declared).rising;
        rows = b.rows (home_rises scenario.sites scenario.items home.site home declared);
        begins = b.begins;
        locals = λ tx m. m;
        bound = omega arith;
      }

  epoch_left : (home : Home) → home_of scenario home.site ≡ Some home
      → epoch home (past_of home.site (story_of scenario commands)) ≡ epoch_of (read (journal home (past_of home.site (story_of scenario commands))))
  epoch_left home declared =
      by_journal (journal home past) (site_going home declared) (sym (of_events JournalSaysAll journals_say_all scenario commands home.site home declared))
    where
      past : SitePast
      past = past_of home.site (story_of scenario commands)

      by_journal : (js : List SiteRecord) → IsGoing home js (epoch_of (read js)) js
          → site_sum home (records home (past_of home.site (story_of scenario commands))) ≡ journal_sum home js
          → epoch home (past_of home.site (story_of scenario commands)) ≡ epoch_of (read js)
      by_journal [] u e = absurd u.usable.first
      by_journal (newest ∷ older) u e =
          epoch_same home (newest ∷ older) (epoch_of (read (newest ∷ older))) (past_of home.site (story_of scenario commands)) newest older u e

  pub left_usable : AreUsable left
  left_usable = record {
    coordinator = journal_on coord_frame (Coordinator.disk (coord_past (story_of scenario commands)));
    is = refl;
    usable = subst (λ ms. IsUsableCoordinator ms (Coordinator.journal (coord_past (story_of scenario commands))))
        (sym (same_plan scenario good commands (disks_readable scenario good commands short).says)) (usable_coordinators scenario good commands short);
    members = leave_members scenario commands (protocols_rise scenario good);
    sites = disks_of scenario (story_of scenario commands) good.sites
        (λ site home declared. usable_sites scenario good commands short home.site home (home-again scenario site home declared));
    unnamed = each_journal scenario (story_of scenario commands) (λ site. AreUnnamed (Coordinator.journal (coord_past (story_of scenario commands))) site.records)
        (λ site home declared. locals_not_named scenario commands home.site home (home-again scenario site home declared));
  }

  pub left_format : Each IsOfFormat left.sites
  left_format = each_journal scenario (story_of scenario commands) IsOfFormat
      (λ site home declared. let g = site_going home (home-again scenario site home declared) in (g.rising, g.rows))

  pub left_room : (n : ℕ) → n < 2 ^ 30 → Each (HasRoom n) left.sites
  left_room n few = each_journal scenario (story_of scenario commands) (HasRoom n)
      (λ site home declared.
      let again = home-again scenario site home declared in
      let past = past_of home.site (story_of scenario commands) in
      let e = epoch_left home again in
      let most = epoch_below (length past) (records home past) (of_events AreBelow pasts_below scenario commands home.site home again).kept in
      let lines = past_short scenario commands home.site in
      omega (arith, e, most, lines, short, few))

pub left_found : LeftDisksAreFound
left_found scenario good commands short = (
  record { usable = left_usable scenario good commands short; format = left_format scenario good commands short },
  (λ n few. left_room scenario good commands short n few),
)

-- ---- session behind session

less_room : (a b : ℕ) → b ≤ a → (journal : Journal SiteRecord) → HasRoom a journal → HasRoom b journal
less_room a b le journal room = omega (arith, le, room)

pub found_after : (found : Found) → IsFoundAgain found → (sessions : List (List Command)) (n : ℕ) → Each (HasRoom (lines_of sessions + n)) found.sites
    → IsFoundAgain (left_after found sessions) × Each (HasRoom n) (left_after found sessions).sites
found_after found f [] n room = (f, each_map (HasRoom (0 + n)) (HasRoom n) (less_room (0 + n) n (omega arith)) found.sites room)
found_after found f (commands ∷ before) n room =
    let old = found_after found f before (length commands + n)
    (each_map (HasRoom (lines_of (commands ∷ before) + n)) (HasRoom (lines_of before + (length commands + n)))
    (less_room (lines_of (commands ∷ before) + n) (lines_of before + (length commands + n)) (omega arith)) found.sites room) in
    let enough = each_map (HasRoom (length commands + n)) (HasRoom (length commands)) (less_room (length commands + n) (length commands) (omega arith)) (left_after found before).sites old.1 in
    let now = sessions_leave_usable (left_after found before) old.0.usable old.0.format commands enough in
    (now.0, now.1 n old.1)

outcomes_after : (found : Found) → IsFoundAgain found → (sessions : List (List Command)) → Each (HasRoom (lines_of sessions + 0)) found.sites → (tid : Tid)
    → outcome_in (resumed (left_after found sessions)) tid ≡ outcome_in (resumed found) tid
outcomes_after found f [] room tid = refl
outcomes_after found f (commands ∷ before) room tid =
    let old = found_after found f before (length commands)
    (each_map (HasRoom (lines_of (commands ∷ before) + 0)) (HasRoom (lines_of before + length commands))
    (less_room (lines_of (commands ∷ before) + 0) (lines_of before + length commands) (omega arith)) found.sites room) in
    stopped_keep_outcomes (left_after found before) old.0.usable old.0.format commands old.1 tid
    ∙ outcomes_after found f before
    (each_map (HasRoom (lines_of (commands ∷ before) + 0)) (HasRoom (lines_of before + 0)) (less_room (lines_of (commands ∷ before) + 0) (lines_of before + 0) (omega arith)) found.sites room)
    tid

pub stops_keep_outcomes : StopsKeepOutcomes
stops_keep_outcomes scenario good commands short sessions few =
    let left = left_by scenario (story_of scenario commands) in
    let f = (left_found scenario good commands short).0 in
    let room = left_room scenario good commands short (lines_of sessions + 0) (omega (arith, few)) in
    let now = found_after left f sessions 0 room in
    record {
      again = now.0;
      outcomes = λ tid. outcomes_after left f sessions room tid ∙ all_outcomes_stay scenario good commands (disks_readable scenario good commands short).says tid;
      rests = sessions_rest (left_after left sessions) now.0.usable;
    }
