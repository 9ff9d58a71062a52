-- A story with a halt of each actor that loses nothing: all actors are down, each disk holds what it held, and each attempt keeps its outcome.
use Rattle.std.proofs.Common.{◌≡◌, ℕ, zero, suc, ◌≤◌, ◌<◌, Bool, true, false, cond, Option, Some, None, List, [], ◌∷◌, ◌++◌, length, inl, inr, refl, sym, ◌∙◌, ap, ap₂, subst, arith}
use Rattle.std.proofs.lemmas.Bool.{cases_lt}
use Rattle.mdb_base.specs.declared.names.SiteId.{SiteId}
use Rattle.mdb_base.specs.declared.names.Tid.{Tid}
use Rattle.mdb_base.specs.Names.{same_site, same_tid, tid_before}
use Rattle.mdb_base.specs.Words.{Each, given}
use Rattle.mdb_base.proofs.ForCallers.{each_map, length-append, same_site-equal, same_site-refl, some_parts}
use Rattle.order_laws.specs.Least.{least_merge}
use Rattle.order_laws.proofs.ForCallers.{among_is, each_at, map_same}
use Rattle.presumptions.specs.declared.Participant.{Participant}
use Rattle.fed_rules.specs.declared.answers.Answer.TheVariants as Say
use Rattle.fed_rules.specs.declared.commands.Command.{Command}
use Rattle.fed_rules.specs.declared.commands.Command.TheVariants as Cmd
use Rattle.fed_rules.specs.declared.events.CoordEvent.TheVariants as Coord_event
use Rattle.fed_rules.specs.declared.events.SiteEvent.TheVariants as Site_event
use Rattle.fed_rules.specs.declared.records.CoordRecord.{CoordRecord}
use Rattle.fed_rules.specs.declared.records.SiteRecord.{SiteRecord}
use Rattle.fed_rules.specs.declared.scenario.Scenario.{Scenario}
use Rattle.fed_rules.specs.Coord.{coord_line}
use Rattle.fed_rules.specs.CoordPast as Coordinator
use Rattle.fed_rules.specs.CoordPast.{CoordHappening}
use Rattle.fed_rules.specs.CoordRecords.{coord_frame, has_commit, outcome}
use Rattle.fed_rules.specs.Endings.{outcome_in}
use Rattle.fed_rules.specs.GoingOn.{AllDown}
use Rattle.fed_rules.specs.Happenings.{is_down}
use Rattle.fed_rules.specs.Orders.{order_at, records_at, records_of}
use Rattle.fed_rules.specs.Plans.{IsScenario}
use Rattle.fed_rules.specs.Reports.{printed_order}
use Rattle.fed_rules.specs.Scenarios.{home_of, policy, protocols, sites}
use Rattle.fed_rules.specs.Site.{site_line}
use Rattle.fed_rules.specs.SitePast as Site
use Rattle.fed_rules.specs.SitePast.{SiteHappening, SitePast}
use Rattle.fed_rules.specs.SiteRecords.{Home, order_of, site_frame}
use Rattle.fed_rules.specs.Story.{AtCoordinator, AtSite, Happened, Nowhere, Story, at_site, coord_past, happens, on_actor, on_site, past_of, story_of}
use Rattle.commit_laws.proofs.ForCallers.{home-again, is-declared, its-site, story_made}
use Rattle.site_history.proofs.ForCallers.{IsSummed, of_events, pasts_summed}
use Rattle.found_laws.proofs.ForCallers.{IsInRange, members_range}
use Rattle.journal_disk.specs.Disk.{Image, Seen}
use Rattle.coord_journal.specs.Spelling as Coordinators
use Rattle.site_journal.specs.Spelling as Sites
use Rattle.left_disks.specs.Ended.{IsEnded, IsHalt, IsLeftByHalts}
use Rattle.held_disks.specs.Holding.{HoldAll, HoldsAt, SiteHolds}
use Rattle.left_disks.proofs.Halts.{CoordHalted, SiteHalted, alike_holds, coord_halted, site_halted}
use Rattle.left_disks.proofs.LeftJournals.{few_sites}
use Rattle.left_disks.proofs.Trims.{fine_disk}

module _ (disks : List Seen) (scenario : Scenario) where
  -- ---- a halt

  abbrev written_at : Option Home → Story → ℕ
  written_at None story = 0
  written_at (Some home) story = (Site.disk home (past_of home.site story)).length

  -- how many bytes this actor wrote
  abbrev written : ℕ → Story → ℕ
  written zero story = (Coordinator.disk (coord_past story)).length
  written (suc n) story = written_at (home_of scenario (record { 0 = suc n })) story

  abbrev DownAt : Option Home → Story → Type 0
  DownAt None story = Unit {0}
  DownAt (Some home) story = is_down (past_of home.site story) ≡ true

  -- this actor is down, where there is one
  abbrev Down : ℕ → Story → Type 0
  Down zero story = is_down (coord_past story) ≡ true
  Down (suc n) story = DownAt (home_of scenario (record { 0 = suc n })) story

  -- each actor has the same records
  record SameRecords (old new : Story) : Type 0 where
    first : Coordinator.records (coord_past new) ≡ Coordinator.records (coord_past old)
    others : (site : SiteId) → records_of scenario new site ≡ records_of scenario old site

  -- what a halt of this actor makes of a story
  record Halted (n : ℕ) (old new : Story) : Type 0 where
    holds : HoldAll disks scenario old → HoldAll disks scenario new
    down : Down n new
    stay : (m : ℕ) → Down m old → Down m new
    same : SameRecords old new

  abbrev with_halt : ℕ → ℕ → Happened → Story → Story
  with_halt n cut happened story = record { command = Cmd.Halt n cut; happened = happened } ∷ story

  -- ---- of the coordinator

  halts_first : (story : Story) (cut : ℕ) → happens scenario story (Cmd.Halt 0 cut) ≡ AtCoordinator (coord_line (protocols scenario) (policy scenario) (coord_past story) (Coord_event.Halt cut))
  unfolding happens on_actor
  halts_first story cut = refl

  first_halted : (story : Story) (cut : ℕ) (x : CoordHappening) → CoordHalted (coord_past story) x → Halted 0 story (with_halt 0 cut (AtCoordinator x) story)
  first_halted story cut x h = record { holds = holds; down = h.down; stay = stay; same = record { first = sym h.same.records; others = λ site. others (home_of scenario site) } }
    where
      at : (image : Image) (o : Option Home) → HoldsAt image o story → HoldsAt image o (with_halt 0 cut (AtCoordinator x) story)
      at image None held = held
      at image (Some home) held = held

      holds : HoldAll disks scenario story → HoldAll disks scenario (with_halt 0 cut (AtCoordinator x) story)
      holds all zero disk own =
          alike_holds Coordinators.spelling Coordinators.IsRecord coord_frame disk.image (Coordinator.disk (coord_past story)) (Coordinator.disk (x ∷ coord_past story)) h.same (all zero disk own)
      holds all (suc m) disk own = at disk.image (home_of scenario (record { 0 = suc m })) (all (suc m) disk own)

      others : (o : Option Home) → records_at o (with_halt 0 cut (AtCoordinator x) story) ≡ records_at o story
      others None = refl
      others (Some home) = refl

      still : (o : Option Home) → DownAt o story → DownAt o (with_halt 0 cut (AtCoordinator x) story)
      still None d = d
      still (Some home) d = d

      stay : (m : ℕ) → Down m story → Down m (with_halt 0 cut (AtCoordinator x) story)
      stay zero d = h.down
      stay (suc m) d = still (home_of scenario (record { 0 = suc m })) d

  -- ---- of a site

  halts_site : (story : Story) (n cut : ℕ) (home : Home) → home_of scenario (record { 0 = suc n }) ≡ Some home
      → happens scenario story (Cmd.Halt (suc n) cut) ≡ AtSite home.site (site_line home (past_of home.site story) (Site_event.Halt cut))
  unfolding happens on_actor on_site given
  halts_site story n cut home declared = ap (λ (o : Option Home). given o (λ home. at_site home story (Site_event.Halt cut)) (Nowhere Say.None)) declared

  halts_nobody : (story : Story) (n cut : ℕ) → home_of scenario (record { 0 = suc n }) ≡ None → happens scenario story (Cmd.Halt (suc n) cut) ≡ Nowhere Say.None
  unfolding happens on_actor on_site given
  halts_nobody story n cut none = ap (λ (o : Option Home). given o (λ home. at_site home story (Site_event.Halt cut)) (Nowhere Say.None)) none

  module _ (story : Story) (n cut : ℕ) (home : Home) (declared : home_of scenario (record { 0 = suc n }) ≡ Some home) (x : SiteHappening) (h : SiteHalted home (past_of home.site story) x) where
    abbrev new : Story
    new = with_halt (suc n) cut (AtSite home.site x) story

    -- a declared site of this number is this one
    one_home : (other : Home) → home_of scenario other.site ≡ Some other → same_site home.site other.site ≡ true → home ≡ other
    one_home other there same =
        some_parts (sym (home-again scenario (record { 0 = suc n }) home declared) ∙ ap (home_of scenario) (same_site-equal home.site other.site same) ∙ there)

    site_holds : (image : Image) (other : Home) → home_of scenario other.site ≡ Some other → SiteHolds image other (past_of other.site story) → SiteHolds image other (past_of other.site new)
    site_holds image other there held = by_test (same_site home.site other.site) refl
      where
        own : SiteHolds image home (past_of home.site story) → SiteHolds image home (x ∷ past_of home.site story)
        own = alike_holds Sites.spelling Sites.IsRecord site_frame image (Site.disk home (past_of home.site story)) (Site.disk home (x ∷ past_of home.site story)) h.same

        by_test : (b : Bool) → same_site home.site other.site ≡ b → SiteHolds image other (cond b (x ∷ past_of other.site story) (past_of other.site story))
        by_test true e =
            subst (λ (k : Home). SiteHolds image k (past_of k.site story) → SiteHolds image k (x ∷ past_of k.site story)) (one_home other there e) own held
        by_test false e = held

    site_stays : (other : Home) → home_of scenario other.site ≡ Some other → is_down (past_of other.site story) ≡ true → is_down (past_of other.site new) ≡ true
    site_stays other there d = by_test (same_site home.site other.site) refl
      where
        by_test : (b : Bool) → same_site home.site other.site ≡ b → is_down (cond b (x ∷ past_of other.site story) (past_of other.site story)) ≡ true
        by_test true e = subst (λ (k : Home). is_down (x ∷ past_of k.site story) ≡ true) (one_home other there e) h.down
        by_test false e = d

    site_records : (other : Home) → home_of scenario other.site ≡ Some other → Site.records other (past_of other.site new) ≡ Site.records other (past_of other.site story)
    site_records other there = by_test (same_site home.site other.site) refl
      where
        by_test : (b : Bool) → same_site home.site other.site ≡ b → Site.records other (cond b (x ∷ past_of other.site story) (past_of other.site story)) ≡ Site.records other (past_of other.site story)
        by_test true e =
            subst (λ (k : Home). Site.records k (x ∷ past_of k.site story) ≡ Site.records k (past_of k.site story)) (one_home other there e) (sym h.same.records)
        by_test false e = refl

    site_is_halted : Halted (suc n) story new
    site_is_halted = record { holds = holds; down = down; stay = stay; same = record { first = refl; others = λ site. others site (home_of scenario site) refl } }
      where
        at : (m : ℕ) (image : Image) (o : Option Home) → home_of scenario (record { 0 = suc m }) ≡ o → HoldsAt image o story → HoldsAt image o new
        at m image None e held = held
        at m image (Some other) e held = site_holds image other (home-again scenario (record { 0 = suc m }) other e) held

        holds : HoldAll disks scenario story → HoldAll disks scenario new
        holds all zero disk own = all zero disk own
        holds all (suc m) disk own = at m disk.image (home_of scenario (record { 0 = suc m })) refl (all (suc m) disk own)

        down : Down (suc n) new
        down =
            subst (λ (o : Option Home). DownAt o new) (sym declared)
            (ap (λ b. is_down (cond b (x ∷ past_of home.site story) (past_of home.site story))) (same_site-refl home.site) ∙ h.down)

        others : (site : SiteId) (o : Option Home) → home_of scenario site ≡ o → records_at o new ≡ records_at o story
        others site None e = refl
        others site (Some other) e = site_records other (home-again scenario site other e)

        still : (m : ℕ) (o : Option Home) → home_of scenario (record { 0 = suc m }) ≡ o → DownAt o story → DownAt o new
        still m None e d = d
        still m (Some other) e d = site_stays other (home-again scenario (record { 0 = suc m }) other e) d

        stay : (m : ℕ) → Down m story → Down m new
        stay zero d = d
        stay (suc m) d = still m (home_of scenario (record { 0 = suc m })) refl d

  -- ---- of nobody

  nobody_halted : (story : Story) (n cut : ℕ) → home_of scenario (record { 0 = suc n }) ≡ None → Halted (suc n) story (with_halt (suc n) cut (Nowhere Say.None) story)
  nobody_halted story n cut none = record {
    holds = holds;
    down = subst (λ (o : Option Home). DownAt o (with_halt (suc n) cut (Nowhere Say.None) story)) (sym none) tt;
    stay = stay;
    same = record { first = refl; others = λ site. others (home_of scenario site) };
  }
    where
      at : (image : Image) (o : Option Home) → HoldsAt image o story → HoldsAt image o (with_halt (suc n) cut (Nowhere Say.None) story)
      at image None held = held
      at image (Some home) held = held

      holds : HoldAll disks scenario story → HoldAll disks scenario (with_halt (suc n) cut (Nowhere Say.None) story)
      holds all zero disk own = all zero disk own
      holds all (suc m) disk own = at disk.image (home_of scenario (record { 0 = suc m })) (all (suc m) disk own)

      others : (o : Option Home) → records_at o (with_halt (suc n) cut (Nowhere Say.None) story) ≡ records_at o story
      others None = refl
      others (Some home) = refl

      still : (o : Option Home) → DownAt o story → DownAt o (with_halt (suc n) cut (Nowhere Say.None) story)
      still None d = d
      still (Some home) d = d

      stay : (m : ℕ) → Down m story → Down m (with_halt (suc n) cut (Nowhere Say.None) story)
      stay zero d = d
      stay (suc m) d = still (home_of scenario (record { 0 = suc m })) d

  -- ---- of each actor

  abbrev halt_of : ℕ → List Command → Command
  halt_of n commands = Cmd.Halt n (written n (story_of scenario commands))

  next_halted : (n : ℕ) (commands : List Command) → Halted n (story_of scenario commands) (story_of scenario (halt_of n commands ∷ commands))
  next_halted zero commands =
      let story = story_of scenario commands in
      let sound = (fine_disk (protocols scenario) (policy scenario) (coord_past story) (story_made scenario commands)).sound in
      subst (λ (happened : Happened). Halted 0 story (with_halt 0 (written 0 story) happened story)) (sym (halts_first story (written 0 story)))
      (first_halted story (written 0 story) _ (coord_halted (protocols scenario) (policy scenario) (coord_past story) sound))
  next_halted (suc n) commands = by_home (home_of scenario (record { 0 = suc n })) refl
    where
      story : Story
      story = story_of scenario commands

      by_home : (o : Option Home) → home_of scenario (record { 0 = suc n }) ≡ o
          → Halted (suc n) (story_of scenario commands) (with_halt (suc n) (written_at o (story_of scenario commands)) (happens scenario (story_of scenario commands) (Cmd.Halt (suc n) (written_at o (story_of scenario commands)))) (story_of scenario commands))
      by_home None e =
          subst (λ (happened : Happened). Halted (suc n) (story_of scenario commands) (with_halt (suc n) 0 happened (story_of scenario commands))) (sym (halts_nobody (story_of scenario commands) n 0 e))
          (nobody_halted (story_of scenario commands) n 0 e)
      by_home (Some home) e =
          let again = home-again scenario (record { 0 = suc n }) home e in
          let past = past_of home.site (story_of scenario commands) in
          let cut = (Site.disk home past).length in
          let sound = (of_events (λ home past. IsSummed home (Site.disk home past)) pasts_summed scenario commands home.site home again).sound in
          subst (λ (happened : Happened). Halted (suc n) (story_of scenario commands) (with_halt (suc n) cut happened (story_of scenario commands))) (sym (halts_site (story_of scenario commands) n cut home e))
          (site_is_halted (story_of scenario commands) n cut home e _ (site_halted home past sound))

  -- the actors before this one are halted, the least first
  abbrev halted : ℕ → List Command → List Command
  halted zero commands = commands
  halted (suc n) commands = halt_of n (halted n commands) ∷ halted n commands

  record AllHalted (n : ℕ) (commands : List Command) : Type 0 where
    holds : HoldAll disks scenario (story_of scenario commands) → HoldAll disks scenario (story_of scenario (halted n commands))
    down : (m : ℕ) → m < n → Down m (story_of scenario (halted n commands))
    same : SameRecords (story_of scenario commands) (story_of scenario (halted n commands))
    halts : List Command
    are : Each IsHalt halts
    count : length halts ≡ n
    front : halted n commands ≡ halts ++ commands

  all_halted : (n : ℕ) (commands : List Command) → AllHalted n commands
  all_halted zero commands = record { holds = λ all. all; down = λ m less. absurd (omega (arith, less)); same = record { first = refl; others = λ site. refl }; halts = []; are = tt; count = refl; front = refl }
  all_halted (suc n) commands = behind (all_halted n commands) (next_halted n (halted n commands))
    where
      behind : AllHalted n commands → Halted n (story_of scenario (halted n commands)) (story_of scenario (halted (suc n) commands)) → AllHalted (suc n) commands
      behind before next = record {
        holds = λ all. next.holds (before.holds all);
        down = λ m less. elim (cases_lt m n) [
          | inl earlier ↦ next.stay m (before.down m earlier)
          | inr most ↦ subst (λ k. Down k (story_of scenario (halted (suc n) commands))) (omega (arith, less, most)) next.down
        ];
        same = record { first = next.same.first ∙ before.same.first; others = λ site. next.same.others site ∙ before.same.others site };
        halts = halt_of n (halted n commands) ∷ before.halts;
        are = (tt, before.are);
        count = ap suc before.count;
        front = ap (λ (cs : List Command). halt_of n (halted n commands) ∷ cs) before.front;
      }

  -- so each site has its order, and the printed one is the same
  same_order : (old new : Story) → SameRecords old new → printed_order scenario new ≡ printed_order scenario old
  same_order old new same =
      ap (λ (os : List (List Tid)). least_merge same_tid tid_before os)
      (map_same (order_at scenario new) (order_at scenario old) (sites scenario)
      (λ site i. ap₂ (λ (cs : List CoordRecord) (rs : List SiteRecord). order_of (has_commit cs) rs) same.first (same.others site)))

  -- ---- the end of a session

  is_down_at : (whole : IsScenario scenario) (story : Story) → ((m : ℕ) → m < 9 → Down m story) → (site : SiteId) (home : Home) → home_of scenario site ≡ Some home
      → is_down (past_of site story) ≡ true
  is_down_at whole story down site home declared = by_number site.0 few.0 few.1 declared
    where
      range : Each (λ (m : Participant). (1 ≤ m.site.0) × (m.site.0 < 9)) (protocols scenario)
      range = each_map IsInRange (λ m. (1 ≤ m.site.0) × (m.site.0 < 9)) few_sites (protocols scenario) (members_range scenario.sites whole.sites.range)

      few : (1 ≤ site.0) × (site.0 < 9)
      few =
          let (m, among, is) = among_is (λ (m : Participant). (m.site ≡ site) × (m.protocol ≡ home.protocol)) (protocols scenario) (is-declared scenario site home declared).0 in
          subst (λ (s : SiteId). (1 ≤ s.0) × (s.0 < 9)) is.0 (each_at (λ (m : Participant). (1 ≤ m.site.0) × (m.site.0 < 9)) m (protocols scenario) range among)

      by_number : (k : ℕ) → 1 ≤ k → k < 9 → home_of scenario (record { 0 = k }) ≡ Some home → is_down (past_of (record { 0 = k }) story) ≡ true
      by_number zero some most e = absurd (omega (arith, some))
      by_number (suc k) some most e =
          let d : is_down (past_of home.site story) ≡ true = subst (λ (o : Option Home). DownAt o story) e (down (suc k) most) in
          subst (λ (s : SiteId). is_down (past_of s story) ≡ true) (its-site scenario (record { 0 = suc k }) home e) d

  pub left_by_halts : (commands : List Command) → IsEnded disks scenario commands → IsLeftByHalts disks scenario commands
  left_by_halts commands e =
      let h = all_halted 9 commands in
      let count = h.count in
      let few = e.few in
      let story = story_of scenario (halted 9 commands) in
      record {
        halts = h.halts;
        are = h.are;
        left = record {
          whole = e.whole;
          few = (let long = length-append h.halts commands in omega (arith, few, count, long));
          down = subst (λ (cs : List Command). AllDown scenario (story_of scenario cs)) h.front
              (record { coordinator = h.down 0 (omega arith); sites = λ site home declared. is_down_at e.whole story h.down site home declared });
          nine = e.nine;
          holds = subst (λ (cs : List Command). HoldAll disks scenario (story_of scenario cs)) h.front (h.holds e.holds);
        };
        outcomes = λ tid. subst (λ (cs : List Command). outcome_in (story_of scenario cs) tid ≡ outcome_in (story_of scenario commands) tid) h.front (ap (λ (rs : List CoordRecord). outcome rs tid) h.same.first);
        order = subst (λ (cs : List Command). printed_order scenario (story_of scenario cs) ≡ printed_order scenario (story_of scenario commands)) h.front (same_order (story_of scenario commands) story h.same);
      }
