-- The tables of a session that goes on from the disks that another one left are those that a serial run of the committed programs of that one gives.
use Rattle.std.proofs.Common.{◌≡◌, Bool, true, false, cond, Option, Some, None, List, [], ◌∷◌, ◌++◌, refl, sym, ap, subst, ◌∙◌}
use Rattle.mdb_base.specs.declared.names.Key.{Key}
use Rattle.mdb_base.specs.declared.names.Tid.{Tid}
use Rattle.mdb_base.specs.Rows.{look_up}
use Rattle.mdb_base.specs.Words.{Each}
use Rattle.mdb_base.proofs.ForCallers.{append_each}
use Rattle.order_laws.specs.Chains.{In}
use Rattle.presumptions.specs.declared.Decision.{Decision}
use Rattle.presumptions.specs.declared.Decision.TheVariants as Decided
use Rattle.fed_rules.specs.declared.commands.Command.{Command}
use Rattle.fed_rules.specs.declared.records.SiteRecord.{SiteRecord}
use Rattle.fed_rules.specs.declared.records.SiteRecord.TheVariants as Rec
use Rattle.fed_rules.specs.declared.scenario.Scenario.{Scenario}
use Rattle.fed_rules.specs.Closing.{in_doubt_at}
use Rattle.fed_rules.specs.Endings.{Settles}
use Rattle.fed_rules.specs.Found.{Found}
use Rattle.fed_rules.specs.GoingOn.{AllDown}
use Rattle.fed_rules.specs.Headline.{Headline, OfStories}
use Rattle.fed_rules.specs.Orders.{due_at, first_tables, is_committed, programs_of, table_at, table_of}
use Rattle.fed_rules.specs.Plans.{AreSites, IsScenario}
use Rattle.fed_rules.specs.Reopened.{opened_site}
use Rattle.fed_rules.specs.Reports.{printed_order}
use Rattle.fed_rules.specs.Resumed.{going_on, left_by, plan_of, resumed, resuming}
use Rattle.fed_rules.specs.Scenarios.{home_of}
use Rattle.fed_rules.specs.Serial.{serial_tables}
use Rattle.fed_rules.specs.Sessions.{Session}
use Rattle.fed_rules.specs.SitePast.{SitePast, records}
use Rattle.fed_rules.specs.SiteRecords.{Held, Home, doubt_of, due_installs, installs, rows_after}
use Rattle.fed_rules.specs.Story.{Story, coord_past, past_of, story_in, story_of}
use Rattle.site_history.specs.Records.{TellOutcomes, TellsOutcome}
use Rattle.site_history.specs.SiteOrders.{IsSerialPast}
use Rattle.site_history.specs.Stories.{OfSites}
use Rattle.commit_laws.specs.Forgetting.{PresumptionsAreRight}
use Rattle.commit_laws.proofs.ForCallers.{home-again, its-site}
use Rattle.federation_laws.proofs.ForCallers.{tells-outcomes}
use Rattle.closing_laws.specs.AtRest.{IsAtRest}
use Rattle.closing_laws.proofs.ForCallers.{doubt_listed}
use Rattle.site_history.proofs.ForCallers.{doubt_behind}
use Rattle.resume_laws.specs.Premises.{SaysSame, coord_left, site_left}
use Rattle.resume_laws.specs.Tables.{NumbersDiffer, TableFits, TablesAreSerial}
use Rattle.resume_laws.proofs.DueLists.{IsLast, all_settled_on, last_due, last_once, look_up_alone, same_installs, same_look_ups, same_site_rows}
use Rattle.resume_laws.proofs.GentleClosing.{closing_gentle}
use Rattle.resume_laws.proofs.GoesOn.{IsSiteOf, any_home, any_installs, same_doubt, settles_agree, site_of}
use Rattle.found_laws.proofs.ForCallers.{idle, session_begins}
use Rattle.resume_laws.proofs.LiveWalk.{opens_dormant}
use Rattle.resume_laws.proofs.RestsAgain.{all_rest}
use Rattle.resume_laws.proofs.Tails.{IsTail, Tail, tails_on}

are_last : (past : SitePast) (rs : List SiteRecord) → Each (IsTail past) rs → Each IsLast rs
are_last past [] h = tt
are_last past (Rec.Start e ∷ rs) h = (tt, are_last past rs h.1)
are_last past (Rec.Checkpoint sum ∷ rs) h = (tt, are_last past rs h.1)
are_last past (Rec.Ended g d ∷ rs) h = (tt, are_last past rs h.1)
are_last past (Rec.Setup site engine protocol items ∷ rs) h = absurd h.0
are_last past (Rec.Prepared tid e number ticket writes ∷ rs) h = absurd h.0
are_last past (Rec.Local tid number writes ∷ rs) h = absurd h.0

-- an Ended record with the outcome tells it
tells : (commits : Tid → Bool) (g : Tid) (d : Decision) → d ≡ cond (commits g) Decided.Commit Decided.Abort → TellsOutcome commits (Rec.Ended g d)
tells commits g Decided.Commit e = by_test (commits g) e
  where
    by_test : (b : Bool) → Decided.Commit ≡ cond b Decided.Commit Decided.Abort → b ≡ true
    by_test true e = refl
    by_test false e = cc
tells commits g Decided.Abort e = by_test (commits g) e
  where
    by_test : (b : Bool) → Decided.Abort ≡ cond b Decided.Commit Decided.Abort → b ≡ false
    by_test true e = cc
    by_test false e = refl

all_tell : (commits : Tid → Bool) (past : SitePast) → ((g : Tid) (d : Decision) → Settles past g d → d ≡ cond (commits g) Decided.Commit Decided.Abort) → (rs : List SiteRecord)
    → Each (IsTail past) rs → TellOutcomes commits rs
all_tell commits past says [] h = tt
all_tell commits past says (Rec.Start e ∷ rs) h = (tt, all_tell commits past says rs h.1)
all_tell commits past says (Rec.Checkpoint sum ∷ rs) h = (tt, all_tell commits past says rs h.1)
all_tell commits past says (Rec.Ended g d ∷ rs) h = (tells commits g d (says g d h.0), all_tell commits past says rs h.1)
all_tell commits past says (Rec.Setup site engine protocol items ∷ rs) h = absurd h.0
all_tell commits past says (Rec.Prepared tid e number ticket writes ∷ rs) h = absurd h.0
all_tell commits past says (Rec.Local tid number writes ∷ rs) h = absurd h.0

module _ (serial : OfSites IsSerialPast) (headline : OfStories Headline) (presumptions : PresumptionsAreRight) (scenario : Scenario) (whole : IsScenario scenario) (commands : List Command)
    (down : AllDown scenario (story_of scenario commands)) (says : SaysSame scenario (story_of scenario commands)) (plan_whole : AreSites (plan_of (left_by scenario (story_of scenario commands))).sites)
    (old : Home) (declared : home_of scenario old.site ≡ Some old) (fits : TableFits (story_of scenario commands) old (past_of old.site (story_of scenario commands))) where
  abbrev before : Story
  before = story_of scenario commands

  abbrev found : Found
  found = left_by scenario before

  abbrev session : Session
  session = going_on found

  abbrev after : Story
  after = resumed found

  abbrev commits : Tid → Bool
  commits = is_committed before

  s : IsSiteOf scenario whole commands says old.site old
  s = site_of scenario whole commands says old.site old declared

  tail : Tail s.home (records s.home (past_of s.home.site (story_in session []))) (past_of s.home.site after)
  tail = tails_on session (idle found) s.home s.declared
      (opens_dormant session (coord_left (coord_past before)) refl s.home (site_left old (past_of old.site before)) s.past) (resuming found) (closing_gentle session [] tt)

  abbrev was : List SiteRecord
  was = records old (past_of old.site before)

  abbrev opened : List SiteRecord
  opened = records s.home (opened_site (site_left old (past_of old.site before)))

  abbrev read : List SiteRecord
  read = records s.first (opened_site (site_left old (past_of old.site before)))

  last : Each IsLast tail.news
  last = are_last (past_of s.home.site after) tail.news tail.each

  now_is : records s.home (past_of s.home.site after) ≡ tail.news ++ opened
  now_is = tail.is ∙ ap (λ past. tail.news ++ records s.home past) ((session_begins session (coord_left (coord_past before)) refl s.home.site).here ∙ s.past)

  told : TellOutcomes commits tail.news
  told = all_tell commits (past_of s.home.site after)
      (λ g d i. settles_agree scenario whole commands says presumptions down.coordinator old.site old declared g d (subst (λ at. Settles (past_of at after) g d) s.here i)) tail.news tail.each

  -- nothing is in doubt at the end
  free : (g : Tid) → doubt_of (records s.home (past_of s.home.site after)) g ≡ None
  free g = by_doubt (doubt_of (records s.home (past_of s.home.site after)) g) refl
    where
      rest : IsAtRest (plan_of found) after
      rest = all_rest scenario whole commands says plan_whole

      by_doubt : (o : Option Held) → doubt_of (records s.home (past_of s.home.site after)) g ≡ o → doubt_of (records s.home (past_of s.home.site after)) g ≡ None
      by_doubt None e = e
      by_doubt (Some held) e =
          absurd (subst (In g) (ap (λ h. in_doubt_at h after) (sym s.declared) ∙ rest.none_in_doubt s.home.site) (doubt_listed s.home after g held e))

  undoubted : (g : Tid) → doubt_of (tail.news ++ was) g ≡ None
  undoubted g =
      sym (doubt_behind tail.news was opened (same_doubt scenario whole commands says old.site old declared s.home) g) ∙ ap (λ rs. doubt_of rs g) (sym now_is) ∙ free g

  dues : installs (tail.news ++ was) ≡ due_installs commits was
  dues =
      sym (all_settled_on commits (tail.news ++ was) (last_once tail.news was last (serial scenario commands old.site old declared).once)
      (append_each (TellsOutcome commits) tail.news was told (tells-outcomes scenario commands old declared)) (λ g c. undoubted g)
      (subst NumbersDiffer (sym (last_due commits tail.news was last)) fits.differ))
      ∙ last_due commits tail.news was last

  pub tables_agree : (key : Key) → look_up (table_of (plan_of found) after old.site) key ≡ serial_tables (programs_of scenario (printed_order scenario before)) (first_tables scenario) old.site key
  tables_agree key =
      ap (λ o. look_up (table_at o after) key) (ap (home_of (plan_of found)) (sym s.here) ∙ s.declared)
      ∙ ap (λ rs. look_up (rows_after s.home.items (installs rs)) key) now_is
      ∙ ap (λ is. look_up (rows_after s.home.items is) key)
      (same_installs tail.news opened read (any_home s.home s.first s.first (site_left old (past_of old.site before)) s.begins) (any_installs s.home s.first s.first (site_left old (past_of old.site before)) s.begins))
      ∙ same_look_ups s.home.items s.first.items (λ k. ap (λ rows. look_up rows k) s.rows ∙ look_up_alone s.first.items k) (installs (tail.news ++ read)) key
      ∙ ap (λ rows. look_up rows key) (same_site_rows s.first old tail.news read was last (fits.now s.first) fits.before s.sums)
      ∙ ap (λ is. look_up (rows_after old.items is) key) dues
      ∙ sym (ap (λ o. look_up (due_at o before) key) declared)
      ∙ sym ((headline scenario whole commands).gives_reads_and_dues.tables old.site old declared key)

pub all_tables : OfSites IsSerialPast → OfStories Headline → PresumptionsAreRight → TablesAreSerial
all_tables serial headline presumptions scenario whole commands down says plan_whole fits site home declared key =
    let its = its-site scenario site home declared in
    let again = home-again scenario site home declared in
    subst (λ at. look_up (table_of (plan_of (left_by scenario (story_of scenario commands))) (resumed (left_by scenario (story_of scenario commands))) at) key
    ≡ serial_tables (programs_of scenario (printed_order scenario (story_of scenario commands))) (first_tables scenario) at key) its
    (tables_agree serial headline presumptions scenario whole commands down says plan_whole home again (fits home.site home again) key)
