-- A session that goes on from the disks that another one left: its outcomes are the other one's, and each site that settles says them.
use Rattle.std.proofs.Common.{◌≡◌, ◌⊎◌, inl, inr, Bool, true, false, cond, Option, Some, None, List, [], ◌∷◌, ◌++◌, refl, sym, ap, ap₂, subst, ◌∙◌}
use Rattle.mdb_base.specs.declared.names.SiteId.{SiteId}
use Rattle.mdb_base.specs.declared.names.Tid.{Tid}
use Rattle.mdb_base.specs.Names.{same_site, same_tid}
use Rattle.mdb_base.specs.Rows.{with_rows}
use Rattle.mdb_base.specs.Words.{Among, Each}
use Rattle.mdb_base.proofs.ForCallers.{same_site-equal}
use Rattle.order_laws.specs.Chains.{In}
use Rattle.order_laws.proofs.ForCallers.{bool_is, each_from}
use Rattle.presumptions.specs.declared.Decision.{Decision}
use Rattle.presumptions.specs.declared.Participant.{Participant}
use Rattle.presumptions.specs.Table.{presumed}
use Rattle.fed_rules.specs.declared.commands.Command.{Command}
use Rattle.fed_rules.specs.declared.records.CoordRecord.{CoordRecord}
use Rattle.fed_rules.specs.declared.records.SiteRecord.{SiteRecord}
use Rattle.fed_rules.specs.declared.records.SiteRecord.TheVariants.{Setup, Start, Prepared, Ended, Local, Checkpoint}
use Rattle.fed_rules.specs.declared.scenario.Scenario.{Scenario}
use Rattle.fed_rules.specs.CoordPast as Coordinator
use Rattle.fed_rules.specs.CoordPast.{CoordPast}
use Rattle.fed_rules.specs.CoordRecords.{is_kept, outcome, required, required_of}
use Rattle.fed_rules.specs.Endings.{Settles}
use Rattle.fed_rules.specs.Found.{Found, Journal}
use Rattle.fed_rules.specs.Happenings.{is_down}
use Rattle.fed_rules.specs.Plans.{IsScenario}
use Rattle.fed_rules.specs.Reopened.{coord_read, first_of, opened_coordinator, opened_site, site_reads_as}
use Rattle.fed_rules.specs.Resumed.{going_on, left_at, left_by, plan_of, resumed, resuming}
use Rattle.fed_rules.specs.Scenarios.{home_of, protocols}
use Rattle.fed_rules.specs.Sessions.{Session}
use Rattle.fed_rules.specs.SitePast.{records}
use Rattle.fed_rules.specs.SiteRecords.{Held, Home, doubt_of, doubts, installs}
use Rattle.fed_rules.specs.SiteSums.{carried, site_sum}
use Rattle.fed_rules.specs.Story.{AtCoordinator, AtSite, Happened, Nowhere, Story, coord_past, found_sites, happens, home_found, past_of, story_in, story_of, with_site}
use Rattle.fed_rules.specs.Lines.{IsLine}
use Rattle.fed_rules.proofs.ForCallers.{expanded, line_is}
use Rattle.coord_laws.specs.Pasts.{IsOpened}
use Rattle.site_history.proofs.ForCallers.{carried_same, opened_is, torn_short}
use Rattle.commit_laws.specs.Forgetting.{PresumptionsAreRight}
use Rattle.commit_laws.proofs.ForCallers.{CoordinatorFits, home-again, is-declared, its-site, members_rise}
use Rattle.closing_laws.proofs.ForCallers.{member_home}
use Rattle.resume_laws.specs.Outcomes.{OutcomesStay, SettlesAgree}
use Rattle.resume_laws.specs.Premises.{SaysSame, coord_left, site_left}
use Rattle.resume_laws.proofs.DueLists.{same_installs}
use Rattle.found_laws.proofs.ForCallers.{IsFound, coord_records, each_homed, first_rows, found_past, homeless, idle, no_past, outcomes_on, same_members, session_begins}
use Rattle.resume_laws.proofs.GentleClosing.{closing_gentle}
use Rattle.resume_laws.proofs.Left.{left_right}
use Rattle.resume_laws.proofs.OpensRight.{IsFoundRight, opens_right}
use Rattle.resume_laws.proofs.Walk.{ResumesIn, resumes_on}

-- ---- who is in doubt by a journal, whatever its first rows

pub set_up_by : Home → List SiteRecord
set_up_by home = Start 1 ∷ Setup home.site home.engine home.protocol home.items ∷ []

same_tail : (a b : Home) (rs : List SiteRecord) (g : Tid) → doubt_of (rs ++ set_up_by a) g ≡ doubt_of (rs ++ set_up_by b) g
unfolding set_up_by
same_tail a b [] g = refl
same_tail a b (Prepared tid epoch number ticket writes ∷ rs) g =
    ap (cond (same_tid tid g) (Some (record { tid = tid; epoch = epoch; number = number; ticket = ticket; writes = writes }))) (same_tail a b rs g)
same_tail a b (Ended tid decision ∷ rs) g = ap (cond (same_tid tid g) None) (same_tail a b rs g)
same_tail a b (Setup site engine protocol items ∷ rs) g = same_tail a b rs g
same_tail a b (Start epoch ∷ rs) g = same_tail a b rs g
same_tail a b (Local tid number writes ∷ rs) g = same_tail a b rs g
same_tail a b (Checkpoint sum ∷ rs) g = same_tail a b rs g

pub any_home : (a b first : Home) (journal : Journal SiteRecord) → home_found (first_of journal.records) ≡ Some first → (g : Tid)
    → doubt_of (records a (opened_site journal)) g ≡ doubt_of (records b (opened_site journal)) g
unfolding set_up_by
any_home a b first journal is g = by_records journal.records is
  where
    by_records : (rs : List SiteRecord) → home_found (first_of rs) ≡ Some first
        → doubt_of (records a (opened_site (record { records = rs; torn = journal.torn }))) g ≡ doubt_of (records b (opened_site (record { records = rs; torn = journal.torn }))) g
    by_records [] e = cc
    by_records (newest ∷ older) e =
        ap (λ rs. doubt_of rs g) (opened_is a newest older journal.torn (torn_short journal.torn))
        ∙ same_tail a b (expanded site_reads_as newest older) g
        ∙ ap (λ rs. doubt_of rs g) (sym (opened_is b newest older journal.torn (torn_short journal.torn)))

-- nor who is installed
pub any_installs : (a b first : Home) (journal : Journal SiteRecord) → home_found (first_of journal.records) ≡ Some first
    → installs (records a (opened_site journal)) ≡ installs (records b (opened_site journal))
unfolding set_up_by
any_installs a b first journal is = by_records journal.records is
  where
    by_records : (rs : List SiteRecord) → home_found (first_of rs) ≡ Some first
        → installs (records a (opened_site (record { records = rs; torn = journal.torn }))) ≡ installs (records b (opened_site (record { records = rs; torn = journal.torn })))
    by_records [] e = cc
    by_records (newest ∷ older) e =
        ap installs (opened_is a newest older journal.torn (torn_short journal.torn))
        ∙ same_installs (expanded site_reads_as newest older) (set_up_by a) (set_up_by b) (λ g. refl) refl
        ∙ ap installs (sym (opened_is b newest older journal.torn (torn_short journal.torn)))

-- equal lists of doubts are equal doubts
same_doubts : (xs ys : List SiteRecord) → doubts xs ≡ doubts ys → (g : Tid) → doubt_of xs g ≡ doubt_of ys g
same_doubts xs ys e g = sym (carried_same xs g) ∙ ap (λ hs. doubt_of (carried hs) g) e ∙ carried_same ys g

-- ---- the session

member_among : (ms : List Participant) (site : SiteId) (home : Home) → Among (λ m. (m.site ≡ site) × (m.protocol ≡ home.protocol)) ms
    → (m : Participant) × In m ms × (m.site ≡ site) × (m.protocol ≡ home.protocol)
member_among [] site home i = absurd i
member_among (m ∷ ms) site home (inl e) = (m, inl refl, e.0, e.1)
member_among (m ∷ ms) site home (inr i) = let r = member_among ms site home i in (r.0, inr r.1, r.2, r.3)

module _ (scenario : Scenario) (whole : IsScenario scenario) (commands : List Command) (says : SaysSame scenario (story_of scenario commands)) where
  abbrev before : Story
  before = story_of scenario commands

  abbrev left : SiteId → Option (Journal SiteRecord)
  left site = left_at before (home_of scenario site)

  abbrev found : Found
  found = left_by scenario before

  abbrev session : Session
  session = going_on found

  abbrev members : List Participant
  members = protocols scenario

  abbrev kept : List CoordRecord
  kept = Coordinator.records (coord_past before)

  abbrev read : List CoordRecord
  read = coord_read (coord_left (coord_past before))

  pub each_found : Each (IsFound left) members
  each_found = each_from (IsFound left) members one
    where
      one : (m : Participant) → In m members → IsFound left m
      one m i =
          let h = member_home scenario m whole.sites i in
          let same = says.sites h.home.site h.home h.declared in
          record {
            journal = site_left h.home (past_of h.home.site before);
            is = ap (left_at before) (ap (home_of scenario) (sym h.here) ∙ h.declared);
            home = same.first;
            begins = same.is;
            part = ap₂ (λ s p. record { site = s; protocol = p }) (ap (λ sum. sum.site) same.sums ∙ h.here) (ap (λ sum. sum.protocol) same.sums ∙ h.protocol);
          }

  pub same_plan : protocols (plan_of found) ≡ members
  same_plan = same_members left members (members_rise scenario whole) each_found

  fits : CoordinatorFits session
  fits journal e = subst (λ j. IsOpened (protocols (plan_of found)) (opened_coordinator (protocols (plan_of found)) j)) one
      (subst (λ ms. IsOpened ms (opened_coordinator ms (coord_left (coord_past before)))) (sym same_plan) says.coordinator.opened)
    where
      one : coord_left (coord_past before) ≡ journal
      one = let both : Some (coord_left (coord_past before)) ≡ Some journal = e in cc

  same_outcomes : (g : Tid) → outcome read g ≡ outcome kept g
  same_outcomes g = sym (says.coordinator.now.outcomes g) ∙ says.coordinator.before.outcomes g

  same_kept : (g : Tid) → is_kept members read g ≡ is_kept members kept g
  same_kept g = sym (says.coordinator.now.kept g) ∙ says.coordinator.before.kept g

  same_required : (g : Tid) → is_kept members kept g ≡ true → required members read g (outcome read g) ≡ required members kept g (outcome kept g)
  same_required g k =
      ap₂ (λ o v. required_of v o) (sym (says.coordinator.now.participants g (same_kept g ∙ k)) ∙ says.coordinator.before.participants g k) (same_outcomes g)

  pub outcomes_stay : (g : Tid) → outcome (Coordinator.records (coord_past (resumed found))) g ≡ outcome kept g
  outcomes_stay g =
      let b = session_begins session (coord_left (coord_past before)) refl (record { 0 = 0 }) in
      let none : (tid : Tid) → Coordinator.is_open (coord_past (story_in session [])) tid ≡ false = λ tid. ap (λ p. Coordinator.is_open p tid) b.coordinator in
      (outcomes_on session fits (idle found) g none (resuming found)).same
      ∙ ap (λ p. outcome (Coordinator.records p) g) b.coordinator
      ∙ ap (λ rs. outcome rs g) (coord_records (protocols (plan_of found)) (coord_left (coord_past before)))
      ∙ same_outcomes g

  -- a declared site
  pub record IsSiteOf (site : SiteId) (old : Home) : Type 0 where
    pub home : Home
    pub declared : home_of (plan_of found) home.site ≡ Some home
    pub here : home.site ≡ site
    pub protocol : home.protocol ≡ old.protocol
    pub past : past_of home.site (found_sites found.sites) ≡ opened_site (site_left old (past_of site before))
    pub first : Home
    pub begins : home_found (first_of (site_left old (past_of site before)).records) ≡ Some first
    pub sums : site_sum first (records first (opened_site (site_left old (past_of site before)))) ≡ site_sum old (records old (past_of site before))
    pub rows : home.items ≡ with_rows first.items []

  pub site_of : (site : SiteId) (old : Home) → home_of scenario site ≡ Some old → IsSiteOf site old
  site_of site old declared =
      let (m, i, here, protocol) = member_among members site old (is-declared scenario site old declared).0 in
      let h = each_homed left (plan_of found).items members (members_rise scenario whole) each_found m i in
      let at : h.home.site ≡ m.site = ap (λ (p : Participant). p.site) h.part in
      let its : old.site ≡ site = its-site scenario site old declared in
      record {
        home = h.home;
        declared = ap (home_of (plan_of found)) at ∙ h.declared;
        here = at ∙ here;
        protocol = ap (λ (p : Participant). p.protocol) h.part ∙ protocol;
        past = ap (λ s. past_of s (found_sites found.sites)) at
            ∙ found_past left members (members_rise scenario whole) each_found m (site_left old (past_of site before)) i
            (ap (left_at before) (ap (home_of scenario) here ∙ declared) ∙ ap (λ s. Some (site_left old (past_of s before))) its);
        first = (says.sites site old declared).first;
        begins = (says.sites site old declared).is;
        sums = (says.sites site old declared).sums;
        rows = h.rows
            ∙ first_rows left members (members_rise scenario whole) each_found m (site_left old (past_of site before)) (says.sites site old declared).first i
            (ap (left_at before) (ap (home_of scenario) here ∙ declared) ∙ ap (λ s. Some (site_left old (past_of s before))) its) (says.sites site old declared).is;
      }

  -- who is in doubt there was so before
  pub same_doubt : (site : SiteId) (old : Home) → home_of scenario site ≡ Some old → (home : Home) (g : Tid)
      → doubt_of (records home (opened_site (site_left old (past_of site before)))) g ≡ doubt_of (records old (past_of site before)) g
  same_doubt site old declared home g =
      let same = says.sites site old declared in
      any_home home same.first same.first (site_left old (past_of site before)) same.is g
      ∙ same_doubts (records same.first (opened_site (site_left old (past_of site before)))) (records old (past_of site before)) (ap (λ sum. sum.doubtful) same.sums) g

  module _ (presumptions : PresumptionsAreRight) (down : is_down (coord_past before) ≡ true) where
    found_right : (site : SiteId) (old : Home) → home_of scenario site ≡ Some old → (home : Home) → home.site ≡ site → home.protocol ≡ old.protocol → (g : Tid)
        → IsFoundRight members read home g (opened_site (site_left old (past_of site before)))
    found_right site old declared home here protocol g = record { right = right }
      where
        its : old.site ≡ site
        its = its-site scenario site old declared

        right : (held : Held) → doubt_of (records home (opened_site (site_left old (past_of site before)))) g ≡ Some held → (presumed home.protocol ≡ outcome read g)
            ⊎ ((is_kept members read g ≡ true) × Among (λ m. (m.site ≡ home.site) × (m.protocol ≡ home.protocol)) (required members read g (outcome read g)))
        right held doubt = elim (left_right presumptions scenario commands down old (home-again scenario site old declared) g held
            (ap (λ s. doubt_of (records old (past_of s before)) g) its ∙ sym (same_doubt site old declared home g) ∙ doubt)) [
              | inl says_so ↦ inl (ap presumed protocol ∙ says_so ∙ sym (same_outcomes g))
              | inr (keeps, awaited) ↦ inr (
                same_kept g ∙ keeps,
                subst (Among (λ m. (m.site ≡ home.site) × (m.protocol ≡ home.protocol))) (sym (same_required g keeps))
                    (subst (λ p. Among (λ m. (m.site ≡ home.site) × (m.protocol ≡ p)) (required members kept g (outcome kept g))) (sym protocol)
                    (subst (λ s. Among (λ m. (m.site ≡ s) × (m.protocol ≡ old.protocol)) (required members kept g (outcome kept g))) (its ∙ sym here) awaited)),
              )
            ]

    pub resumes : (site : SiteId) (old : Home) → home_of scenario site ≡ Some old → (g : Tid) (s : IsSiteOf site old)
        → ResumesIn (plan_of found) s.home g (outcome read g) (resumed found)
    resumes site old declared g s =
        resumes_on session fits (idle found) s.home s.declared g (outcome read g)
        (opens_right session (coord_left (coord_past before)) refl s.home g (site_left old (past_of site before)) s.past
        (subst (λ ms. IsFoundRight ms read s.home g (opened_site (site_left old (past_of site before)))) (sym same_plan)
        (found_right site old declared s.home s.here s.protocol g)))
        (resuming found) (closing_gentle session [] tt)

    pub settles_agree : (site : SiteId) (old : Home) → home_of scenario site ≡ Some old → (g : Tid) (d : Decision) → Settles (past_of site (resumed found)) g d
        → d ≡ outcome kept g
    settles_agree site old declared g d i =
        let s = site_of site old declared in
        (resumes site old declared g s).settled d (subst (λ at. Settles (past_of at (resumed found)) g d) (sym s.here) i) ∙ same_outcomes g

  -- a site that isn't declared does nothing
  quiet_next : (site : SiteId) (plan : Scenario) (story : Story) (command : Command) (happened : Happened) → home_of plan site ≡ None → IsLine plan story command happened
      → past_of site story ≡ [] → with_site site happened (past_of site story) ≡ []
  quiet_next site plan story command (Nowhere answer) none line e = e
  quiet_next site plan story command (AtCoordinator x) none line e = e
  quiet_next site plan story command (AtSite at x) none line e = by_test (same_site at site) refl
    where
      by_test : (b : Bool) → same_site at site ≡ b → cond b (x ∷ past_of site story) (past_of site story) ≡ []
      by_test false q = e
      by_test true q =
          let clash : None ≡ Some line.home = sym none ∙ ap (home_of plan) (sym (same_site-equal at site q) ∙ line.here) ∙ line.declared in cc

  stays_quiet : (site : SiteId) → home_of (plan_of found) site ≡ None → past_of site (story_in session []) ≡ [] → (more : List Command) → past_of site (story_in session more) ≡ []
  stays_quiet site none first [] = first
  stays_quiet site none first (command ∷ more) =
      quiet_next site (plan_of found) (story_in session more) command (happens (plan_of found) (story_in session more) command) none
      (line_is (plan_of found) (story_in session more) command) (stays_quiet site none first more)

  apart_from : (site : SiteId) → home_of scenario site ≡ None → Each (λ (m : Participant). same_site m.site site ≡ false) members
  apart_from site none = each_from (λ (m : Participant). same_site m.site site ≡ false) members (λ m i. elim (bool_is (same_site m.site site)) [
    | inl e ↦
        let h = member_home scenario m whole.sites i in
        let clash : None ≡ Some h.home = sym none ∙ ap (home_of scenario) (sym (same_site-equal m.site site e) ∙ sym h.here) ∙ h.declared in cc
    | inr e ↦ e
  ])

  pub homeless_left : (site : SiteId) → home_of scenario site ≡ None → home_of (plan_of found) site ≡ None
  homeless_left site none = homeless left (plan_of found).items members each_found site (apart_from site none)

  pub undeclared_on : (site : SiteId) → home_of scenario site ≡ None → (more : List Command) → past_of site (story_in session more) ≡ []
  undeclared_on site none more =
      stays_quiet site (homeless_left site none)
      ((session_begins session (coord_left (coord_past before)) refl site).here ∙ no_past left members each_found site (apart_from site none)) more

-- what other laws need of the session
pub fits_left : (scenario : Scenario) → IsScenario scenario → (commands : List Command) → SaysSame scenario (story_of scenario commands)
    → CoordinatorFits (going_on (left_by scenario (story_of scenario commands)))
fits_left scenario whole commands says = fits scenario whole commands says

-- a site that isn't declared in it wasn't declared before
not_before : (scenario : Scenario) (whole : IsScenario scenario) (commands : List Command) (says : SaysSame scenario (story_of scenario commands)) (site : SiteId)
    → home_of (plan_of (left_by scenario (story_of scenario commands))) site ≡ None → home_of scenario site ≡ None
not_before scenario whole commands says site none = by_home (home_of scenario site) refl
  where
    by_home : (o : Option Home) → home_of scenario site ≡ o → home_of scenario site ≡ None
    by_home None e = e
    by_home (Some old) e =
        let s = site_of scenario whole commands says site old e in
        let clash : None ≡ Some s.home = sym none ∙ ap (home_of (plan_of (left_by scenario (story_of scenario commands)))) (sym s.here) ∙ s.declared in cc

pub never_happens : (scenario : Scenario) (whole : IsScenario scenario) (commands : List Command) (says : SaysSame scenario (story_of scenario commands)) (site : SiteId)
    → home_of (plan_of (left_by scenario (story_of scenario commands))) site ≡ None → (more : List Command)
    → past_of site (story_in (going_on (left_by scenario (story_of scenario commands))) more) ≡ []
never_happens scenario whole commands says site none more = undeclared_on scenario whole commands says site (not_before scenario whole commands says site none) more

-- and one that is declared was
pub home_before : (scenario : Scenario) (whole : IsScenario scenario) (commands : List Command) (says : SaysSame scenario (story_of scenario commands)) (site : SiteId) (home : Home)
    → home_of (plan_of (left_by scenario (story_of scenario commands))) site ≡ Some home
    → (old : Home) × (past_of site (found_sites (left_by scenario (story_of scenario commands)).sites) ≡ opened_site (site_left old (past_of site (story_of scenario commands))))
home_before scenario whole commands says site home declared = by_home (home_of scenario site) refl
  where
    by_home : (o : Option Home) → home_of scenario site ≡ o
        → (old : Home) × (past_of site (found_sites (left_by scenario (story_of scenario commands)).sites) ≡ opened_site (site_left old (past_of site (story_of scenario commands))))
    by_home None e = let clash : None ≡ Some home = sym (homeless_left scenario whole commands says site e) ∙ declared in cc
    by_home (Some old) e =
        let s = site_of scenario whole commands says site old e in
        (old, ap (λ at. past_of at (found_sites (left_by scenario (story_of scenario commands)).sites)) (sym s.here) ∙ s.past)

pub all_outcomes_stay : OutcomesStay
all_outcomes_stay scenario whole commands says tid = outcomes_stay scenario whole commands says tid

pub all_settles_agree : PresumptionsAreRight → SettlesAgree
all_settles_agree presumptions scenario whole commands down says site tid decision i = by_home (home_of scenario site) refl
  where
    by_home : (o : Option Home) → home_of scenario site ≡ o → decision ≡ outcome (Coordinator.records (coord_past (story_of scenario commands))) tid
    by_home (Some home) e = settles_agree scenario whole commands says presumptions down.coordinator site home e tid decision i
    by_home None e =
        absurd (subst (λ past. Settles past tid decision) (undeclared_on scenario whole commands says site e (resuming (left_by scenario (story_of scenario commands)))) i)
