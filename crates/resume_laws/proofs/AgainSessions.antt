-- What a session leaves that goes on from usable disks, whoever left them: usable disks, behind whatever commands.
use Rattle.std.proofs.Common.{◌&&◌, ◌≡◌, ℕ, ◌+◌, ◌≤◌, ◌<◌, ◌⊎◌, Bool, true, false, nat_le, Option, Some, None, List, [], ◌∷◌, length, map, refl, sym, ap, ap₂, subst, ◌∙◌, inl, inr, arith}
use Rattle.std.proofs.lemmas.Bool.{leb-true}
use Rattle.mdb_base.specs.declared.names.SiteId.{SiteId}
use Rattle.mdb_base.specs.declared.names.Tid.{Tid}
use Rattle.mdb_base.specs.Words.{Each, found as each_found, with_some}
use Rattle.mdb_base.proofs.ForCallers.{each_of_found, some_parts}
use Rattle.order_laws.specs.Chains.{In}
use Rattle.order_laws.proofs.ForCallers.{each_at, each_from}
use Rattle.presumptions.specs.declared.Participant.{Participant}
use Rattle.fed_rules.specs.declared.commands.Command.{Command}
use Rattle.fed_rules.specs.declared.records.CoordRecord.{CoordRecord}
use Rattle.fed_rules.specs.declared.records.SiteRecord.{SiteRecord}
use Rattle.fed_rules.specs.declared.records.SiteRecord.TheVariants.{Checkpoint}
use Rattle.fed_rules.specs.declared.scenario.Scenario.{Scenario}
use Rattle.fed_rules.specs.declared.sums.SiteSum.{SiteSum}
use Rattle.fed_rules.specs.CoordPast as Coordinator
use Rattle.fed_rules.specs.CoordRecords.{coord_frame, outcome}
use Rattle.fed_rules.specs.Found.{Found, Journal}
use Rattle.fed_rules.specs.Plans.{AreSites}
use Rattle.fed_rules.specs.Reopened.{first_of, opened_coordinator}
use Rattle.fed_rules.specs.Resumed.{going_on, journal_on, left_at, left_by, plan_of, resuming}
use Rattle.fed_rules.specs.Scenarios.{home_of, policy, protocols, sites}
use Rattle.fed_rules.specs.Sessions.{Session}
use Rattle.fed_rules.specs.SitePast as Site
use Rattle.fed_rules.specs.SiteRecords.{Home, epoch_of, site_frame}
use Rattle.fed_rules.specs.Story.{AtCoordinator, AtSite, Happened, Nowhere, Story, coord_past, happens, past_of, story_in, with_coordinator}
use Rattle.fed_rules.specs.Usable.{AreUnnamed, IsUsableCoordinator, IsUsableSite, home_of_first, read}
use Rattle.fed_rules.proofs.ForCallers.{MembersRise}
use Rattle.commit_laws.proofs.ForCallers.{IsNext, its-site, linked, member_of, protocols_rise, rising_on, rising_over, session_goes_on}
use Rattle.closing_laws.proofs.ForCallers.{member_home}
use Rattle.coord_laws.specs.FoundCoordinators.{RiseBySite}
use Rattle.coord_laws.proofs.ForCallers.{going_tells}
use Rattle.sum_laws.proofs.ForCallers.{coordinators_read, some_coord_frame}
use Rattle.resume_laws.specs.Again.{HasRoom, StoppedSessionsKeepOutcomes, StoppedSessionsRest, UsableSessionsLeaveUsable, left_again}
use Rattle.found_laws.specs.FoundSessions.{AreOfDisks, AreUsable, IsOfFormat}
use Rattle.resume_laws.proofs.CoordAgain as CoordinatorAgain
use Rattle.resume_laws.proofs.CoordMore.{IsGoingCoord}
use Rattle.found_laws.proofs.ForCallers.{IsFound, IsInRange, all_sorted, begins, begins_nothing, fits, idle, members_range, nobody_first, nobody_on, opened, outcomes_on, plan_sites, resumes, rise_all, same_home, same_members}
use Rattle.resume_laws.proofs.FoundRests.{sessions_rest}
use Rattle.resume_laws.proofs.SiteAgain.{journal_again}
use Rattle.resume_laws.proofs.SiteGoes.{IsGoing, first_home}
use Rattle.resume_laws.proofs.Stands as Disks

record InRange (n : ℕ) : Type 0 where
  least : 0 < n
  most : n ≤ 8

in_range : (m : Participant) → IsInRange m → InRange m.site.0
in_range m e = by_test (nat_le 1 m.site.0) refl e
  where
    by_most : (b : Bool) → nat_le m.site.0 8 ≡ b → b ≡ true → m.site.0 ≤ 8
    by_most true q r = leb-true m.site.0 8 q
    by_most false q r = cc

    by_test : (b : Bool) → nat_le 1 m.site.0 ≡ b → (b && nat_le m.site.0 8) ≡ true → InRange m.site.0
    by_test true q r = record { least = (let one = leb-true 1 m.site.0 q in omega (arith, one)); most = by_most (nat_le m.site.0 8) refl r }
    by_test false q r = cc

-- ---- the disks that a story leaves

module _ (plan : Scenario) (story : Story) where
  abbrev pub look_at : SiteId → Option (Journal SiteRecord)
  look_at site = left_at story (home_of plan site)

  pub each_journal : (P : Journal SiteRecord → Type 0)
      → ((site : SiteId) (home : Home) → home_of plan site ≡ Some home → P (journal_on site_frame (Site.disk home (past_of home.site story))))
      → Each P (left_by plan story).sites
  each_journal P each = each_of_found P look_at (sites plan) (λ site journal e. by_home site journal (home_of plan site) refl e)
    where
      by_home : (site : SiteId) (journal : Journal SiteRecord) (o : Option Home) → home_of plan site ≡ o → left_at story o ≡ Some journal → P journal
      by_home site journal None declared e = cc
      by_home site journal (Some home) declared e = subst P (some_parts e) (each site home declared)

  -- by rising number
  disks_from : ((site : SiteId) (home : Home) → home_of plan site ≡ Some home → IsUsableSite home.site.0 (Site.journal home (past_of home.site story)))
      → (ms : List Participant) → MembersRise ms → Each IsInRange ms → (least : ℕ) → Each (λ (m : Participant). least < m.site.0) ms
      → AreOfDisks least (each_found look_at (map (λ (m : Participant). m.site) ms))
  disks_from each [] r range least above = tt
  disks_from each (m ∷ ms) r range least above = by_home (home_of plan m.site) refl (λ more h. disks_from each ms (rising_on m ms r) range.1 more h)
    where
      by_home : (o : Option Home) → home_of plan m.site ≡ o
          → ((more : ℕ) → Each (λ (k : Participant). more < k.site.0) ms → AreOfDisks more (each_found look_at (map (λ (k : Participant). k.site) ms)))
          → AreOfDisks least (with_some (left_at story o) (each_found look_at (map (λ (k : Participant). k.site) ms)))
      by_home None declared rest = rest least above.1
      by_home (Some home) declared rest =
          let at : home.site.0 ≡ m.site.0 = ap (λ (s : SiteId). s.0) (its-site plan m.site home declared) in
          let less = above.0 in
          let most = (in_range m range.0).most in (
            home.site.0,
            omega (arith, at, less),
            omega (arith, at, most),
            each m.site home declared,
            rest home.site.0 (subst (λ n. Each (λ (k : Participant). n < k.site.0) ms) (sym at) (rising_over m ms r)),
          )

  pub disks_of : AreSites plan.sites → ((site : SiteId) (home : Home) → home_of plan site ≡ Some home → IsUsableSite home.site.0 (Site.journal home (past_of home.site story)))
      → AreOfDisks 0 (left_by plan story).sites
  disks_of good each =
      let range = members_range plan.sites good.range in
      disks_from each (protocols plan) (protocols_rise plan.sites good.differ) range 0
      (each_from (λ (m : Participant). 0 < m.site.0) (protocols plan) (λ m i. (in_range m (each_at IsInRange m (protocols plan) range i)).least))

module _ (found : Found) (u : AreUsable found) where
  abbrev session : Session
  session = going_on found

  abbrev plan : Scenario
  plan = plan_of found

  abbrev members : List Participant
  members = protocols plan

  rising : MembersRise members
  rising = protocols_rise plan.sites (plan_sites found u).differ

  rise : RiseBySite members
  rise = rise_all members rising

  -- ---- the coordinator

  abbrev first_records : List CoordRecord
  first_records = u.coordinator.records

  abbrev StandsSo : Coordinator.CoordPast → Type 0
  StandsSo past = CoordinatorAgain.StandsSo members first_records (Coordinator.disk past)

  coord_next : (more : List Command) (happened : Happened) → IsNext plan (story_in session more) happened → StandsSo (coord_past (story_in session more))
      → StandsSo (with_coordinator happened (coord_past (story_in session more)))
  coord_next more (Nowhere answer) next s = s
  coord_next more (AtSite at x) next s = s
  coord_next more (AtCoordinator x) (event, is, came) s =
      subst (λ y. StandsSo (y ∷ coord_past (story_in session more))) (sym is)
      (CoordinatorAgain.coord_next members rise first_records (policy plan) (coord_past (story_in session more)) (session_goes_on session (fits found u) more) (nobody_on found u more) s
      event (begins_nothing plan (story_in session more) event (idle found) came))

  coord_stands : (commands : List Command) → StandsSo (coord_past (story_in session commands))
  coord_stands [] =
      subst StandsSo (sym (begins found u).at_coordinator)
      (CoordinatorAgain.coord_opens members u.coordinator (record { usable = u.usable; members = u.members; names = λ tx m. m }) (opened found u)
      (coordinators_read members u.coordinator rise u.usable u.members).stands)
  coord_stands (command ∷ more) =
      coord_next more (happens plan (story_in session more) command) (linked plan (story_in session more) command).next (coord_stands more)

  pub coord_going : (commands : List Command) → IsGoingCoord members first_records (Coordinator.journal (coord_past (story_in session commands)))
  coord_going commands =
      Disks.holds_of coord_frame some_coord_frame CoordinatorAgain.IsAny (IsGoingCoord members first_records) (λ r. tt) (CoordinatorAgain.cut members first_records)
      (Coordinator.disk (coord_past (story_in session commands))) (coord_stands commands)

  -- ---- the sites

  module _ (format : Each IsOfFormat found.sites) (commands : List Command) (room : Each (HasRoom (length commands)) found.sites) where
    abbrev story : Story
    story = story_in session commands

    abbrev left : Found
    left = left_again found commands

    abbrev look : SiteId → Option (Journal SiteRecord)
    look site = left_at story (home_of plan site)

    record SiteGoes (home : Home) : Type 0 where
      journal : Journal SiteRecord
      among : In journal found.sites
      most : ℕ
      few : most ≤ epoch_of (read journal.records) + length commands
      going : IsGoing home journal.records most (Site.journal home (past_of home.site story))

    site_goes : (site : SiteId) (home : Home) → home_of plan site ≡ Some home → SiteGoes home
    site_goes site home declared =
        let r = resumes found u format commands site home declared in
        let fits_in = each_at (HasRoom (length commands)) r.journal found.sites room r.among in
        let few = r.few in
        record {
          journal = r.journal;
          among = r.among;
          most = epoch_of (read r.journal.records) + length r.events;
          few = omega (arith, few);
          going = subst (λ past. IsGoing home r.journal.records (epoch_of (read r.journal.records) + length r.events) (Site.journal home past)) (sym r.is)
              (journal_again home r.local r.journal r.found r.format.1 r.events r.resuming (all_sorted r.local r.events r.resuming) (omega (arith, fits_in, few)));
        }

    each_left : (P : Journal SiteRecord → Type 0) → ((home : Home) → SiteGoes home → P (journal_on site_frame (Site.disk home (past_of home.site story)))) → Each P left.sites
    each_left P each = each_journal plan story P (λ site home declared. each home (site_goes site home declared))

    is_found : (m : Participant) → In m members → IsFound look m
    is_found m i =
        let h = member_home plan m (plan_sites found u) i in
        let g = (site_goes h.home.site h.home h.declared).going in
        let js = Site.journal h.home (past_of h.home.site story) in
        let f = first_home h.home.site.0 (home_of_first (first_of js)) g.usable.first in
        record {
          journal = journal_on site_frame (Site.disk h.home (past_of h.home.site story));
          is = ap (left_at story) (ap (home_of plan) (sym h.here) ∙ h.declared);
          home = f.0;
          begins = same_home (first_of js) ∙ f.1;
          part = by_first h.home f.0 (first_of js) f.1 g.begins ∙ ap₂ (λ s p. let k : Participant = record { site = s; protocol = p } in k) h.here h.protocol;
        }
      where
        by_first : (home first : Home) (o : Option SiteRecord) → home_of_first o ≡ Some first
            → (home_of_first o ≡ Some home) ⊎ ((sum : SiteSum) × (o ≡ Some (Checkpoint sum)) × (sum.site ≡ home.site) × (sum.engine ≡ home.engine) × (sum.protocol ≡ home.protocol))
            → member_of first ≡ member_of home
        by_first home first o is (inl e) = ap member_of (some_parts (sym is ∙ e))
        by_first home first o is (inr (sum, e, site, engine, protocol)) =
            ap member_of (some_parts (sym is ∙ ap home_of_first e)) ∙ ap₂ (λ s p. let k : Participant = record { site = s; protocol = p } in k) site protocol

    pub same_plan : protocols (plan_of left) ≡ members
    same_plan = same_members look members rising (each_from (IsFound look) members is_found)

    pub usable_left : AreUsable left
    usable_left = record {
      coordinator = journal_on coord_frame (Coordinator.disk (coord_past story));
      is = refl;
      usable = subst (λ ms. IsUsableCoordinator ms (Coordinator.journal (coord_past story))) (sym same_plan) (coord_going commands).usable;
      members = (coord_going commands).members;
      sites = disks_of plan story (plan_sites found u) (λ site home declared. (site_goes site home declared).going.usable);
      unnamed = each_left (λ site. AreUnnamed (Coordinator.journal (coord_past story)) site.records)
          (λ home g tx m n.
          each_at (λ (site : Journal SiteRecord). AreUnnamed first_records site.records) g.journal found.sites u.unnamed g.among tx (g.going.locals tx m) ((coord_going commands).names tx n));
    }

    pub format_left : Each IsOfFormat left.sites
    format_left = each_left IsOfFormat (λ home g. (g.going.rising, g.going.rows))

    pub room_left : (n : ℕ) → Each (HasRoom (length commands + n)) found.sites → Each (HasRoom n) left.sites
    room_left n enough = each_left (HasRoom n) (λ home g.
        (let there = each_at (HasRoom (length commands + n)) g.journal found.sites enough g.among in
        let few = g.few in
        let bound = g.going.bound in omega (arith, there, few, bound)))

    -- ---- outcomes

    pub left_opens : (tid : Tid) → outcome (Coordinator.records (opened_coordinator members (journal_on coord_frame (Coordinator.disk (coord_past story))))) tid ≡ outcome (Coordinator.records (coord_past story)) tid
    left_opens tid =
        sym ((coordinators_read members (journal_on coord_frame (Coordinator.disk (coord_past story))) rise (coord_going commands).usable (coord_going commands).members).tells.outcomes tid)
        ∙ (going_tells members (policy plan) (coord_past story) (session_goes_on session (fits found u) commands)).outcomes tid

pub sessions_leave_usable : UsableSessionsLeaveUsable
sessions_leave_usable found u format commands room = (
  record { usable = usable_left found u format commands room; format = format_left found u format commands room },
  (λ n enough. room_left found u format commands room n enough),
)

first_outcomes : (found : Found) (u : AreUsable found) (commands : List Command) (tid : Tid)
    → outcome (Coordinator.records (coord_past (story_in (going_on found) commands))) tid ≡ outcome (Coordinator.records (opened_coordinator (protocols (plan_of found)) u.coordinator)) tid
first_outcomes found u commands tid =
    (outcomes_on (going_on found) (fits found u) (idle found) tid (nobody_first found u) commands).same
    ∙ ap (λ past. outcome (Coordinator.records past) tid) (begins found u).at_coordinator

pub stopped_keep_outcomes : StoppedSessionsKeepOutcomes
stopped_keep_outcomes found u format commands room tid =
    let left = left_again found commands in
    let v = usable_left found u format commands room in
    first_outcomes left v (resuming left) tid
    ∙ ap (λ j. outcome (Coordinator.records (opened_coordinator (protocols (plan_of left)) j)) tid) (sym (some_parts v.is))
    ∙ ap (λ ms. outcome (Coordinator.records (opened_coordinator ms (journal_on coord_frame (Coordinator.disk (coord_past (story_in (going_on found) commands)))))) tid) (same_plan found u format commands room)
    ∙ left_opens found u format commands room tid
    ∙ first_outcomes found u commands tid
    ∙ sym (first_outcomes found u (resuming found) tid)

pub stopped_rest : StoppedSessionsRest
stopped_rest found u format commands room = sessions_rest (left_again found commands) (usable_left found u format commands room)
