-- A commit decision finds each participant prepared.
use Rattle.std.proofs.Common.{◌≡◌, ℕ, ◌⊎◌, inl, inr, Bool, true, false, cond, Some, List, [], ◌∷◌, refl, sym, ap, subst, ◌∙◌}
use Rattle.mdb_base.specs.declared.names.Engine.TheVariants.{Locking}
use Rattle.mdb_base.specs.declared.names.SiteId.{SiteId}
use Rattle.mdb_base.specs.declared.names.Tid.{Tid}
use Rattle.mdb_base.specs.Names.{same_site}
use Rattle.mdb_base.specs.Words.{Among, inserted}
use Rattle.mdb_base.proofs.ForCallers.{same_site-refl}
use Rattle.order_laws.specs.Chains.{In}
use Rattle.order_laws.proofs.ForCallers.{among_is, those-in}
use Rattle.presumptions.specs.declared.Decision.TheVariants as Decided
use Rattle.presumptions.specs.declared.Participant.{Participant}
use Rattle.presumptions.specs.declared.Protocol.TheVariants.{Nothing}
use Rattle.fed_rules.specs.declared.answers.Answer.{Answer}
use Rattle.fed_rules.specs.declared.answers.Answer.TheVariants as Say
use Rattle.fed_rules.specs.declared.commands.Command.{Command}
use Rattle.fed_rules.specs.declared.events.CoordEvent.{CoordEvent}
use Rattle.fed_rules.specs.declared.events.CoordEvent.TheVariants as Coord_event
use Rattle.fed_rules.specs.declared.messages.FromSite.TheVariants as From
use Rattle.fed_rules.specs.declared.records.CoordRecord.{CoordRecord}
use Rattle.fed_rules.specs.declared.records.SiteRecord.{SiteRecord}
use Rattle.fed_rules.specs.declared.scenario.ItemLine.{ItemLine}
use Rattle.fed_rules.specs.declared.scenario.Scenario.{Scenario}
use Rattle.fed_rules.specs.declared.scenario.SiteLine.{SiteLine}
use Rattle.fed_rules.specs.Coord.{coord_line}
use Rattle.fed_rules.specs.CoordPast as Coordinator
use Rattle.fed_rules.specs.CoordPast.{CoordHappening, CoordPast, is_about, program, visits, participants}
use Rattle.fed_rules.specs.Disk.{Disk}
use Rattle.fed_rules.specs.Scenarios.{home_in, home_of, items_of, protocols_in, policy, protocols}
use Rattle.fed_rules.specs.SitePast.{disk, records}
use Rattle.fed_rules.specs.SiteRecords.{Home, site_frame}
use Rattle.fed_rules.specs.Story.{Happened, AtSite, AtCoordinator, Nowhere, coord_past, past_of, with_coordinator, happens, story_of}
use Rattle.fed_rules.specs.Durable.{IsSafe, IsFirm}
use Rattle.commit_laws.specs.Outcomes.{coordinator_keeps}
use Rattle.commit_laws.specs.Prepared.{IsPreparedForEver, IsCommitAnswer, DecidesCommit, CommitDecisionsFindAllPrepared, CommitRecordsFindAllPrepared}
use Rattle.commit_laws.specs.Records.{IsPrepared, IsLooseEnded}
use Rattle.commit_laws.proofs.Links.{member_of, Linked, linked, home-again, its-site}
use Rattle.coord_laws.specs.Records.{IsCommit}
use Rattle.commit_laws.proofs.Agreed.{agreed, turn, coord-sound}
use Rattle.coord_laws.proofs.ForCallers.{Committed, IsYes, Turn, end_commit, kept_stays}
use Rattle.commit_laws.proofs.Declared.{is-declared, by_site}
use Rattle.fed_rules.proofs.ForCallers.{safe_or_loose}
use Rattle.commit_laws.proofs.SiteLists.{loose-prepared}

yes-ticket : (g : Tid) (site : SiteId) (past : CoordPast) → Among (λ x. IsYes g site x.event) past
    → (ticket : ℕ) × Among (λ x. x.event ≡ Coord_event.Take site (From.Vote g (Some ticket))) past
yes-ticket g site [] m = absurd m
yes-ticket g site (x ∷ past) (inl y) = (y.0, inl y.1)
yes-ticket g site (x ∷ past) (inr m) = let r = yes-ticket g site past m in (r.0, inr r.1)

-- a Prepared record that is kept is safe
pub prepared-safe : (home : Home) (tid : Tid) (e : ℕ) (d : Disk SiteRecord) → IsFirm site_frame (IsLooseEnded home.protocol) d
    → Among (IsPrepared tid e) d.records → (kept : SiteRecord) × IsPrepared tid e kept × IsSafe site_frame d kept
prepared-safe home tid e d f m =
    let (r, i, p) = among_is (IsPrepared tid e) d.records m in
    elim (safe_or_loose site_frame (IsLooseEnded home.protocol) d.synced d.records r f.loose i) [
      | inl s ↦ (r, p, s)
      | inr l ↦ absurd (loose-prepared home.protocol tid e r l p)
    ]

-- a declared participant of an attempt with a Commit is prepared
pub committed-prepared : (scenario : Scenario) (commands : List Command) (tid : Tid) (home : Home)
    → home_of scenario home.site ≡ Some home → Among (IsCommit tid) (coordinator_keeps scenario commands)
    → visits home.site (program (coord_past (story_of scenario commands)) tid) ≡ true
    → (e : ℕ) × Among (IsPrepared tid e) (records home (past_of home.site (story_of scenario commands)))
committed-prepared scenario commands tid home declared m v =
    let a = agreed scenario home tid commands declared in
    let yes = yes-ticket tid home.site (coord_past (story_of scenario commands))
    (a.sound.voted (is-declared scenario home.site home declared).0 m v) in
    a.voted yes.0 (a.taken (From.Vote tid (Some yes.0)) yes.1)

in-inserted : (m x : Participant) (ys : List Participant) → In m (inserted by_site x ys) → (x ≡ m) ⊎ In m ys
in-inserted m x [] (inl e) = inl e
in-inserted m x [] (inr i) = absurd i
in-inserted m x (y ∷ ys) i = by_test (by_site y x) i (in-inserted m x ys) where
  by_test : (b : Bool) → In m (cond b (y ∷ inserted by_site x ys) (x ∷ y ∷ ys)) → (In m (inserted by_site x ys) → (x ≡ m) ⊎ In m ys)
      → (x ≡ m) ⊎ In m (y ∷ ys)
  by_test true (inl e) k = inr (inl e)
  by_test true (inr i) k = elim (k i) [ inl e ↦ inl e | inr j ↦ inr (inr j) ]
  by_test false (inl e) k = inl e
  by_test false (inr i) k = inr i

-- a participant that the coordinator knows is a declared site
declared-home : (lines : List SiteLine) (items : List ItemLine) (m : Participant) → In m (protocols_in lines)
    → (home : Home) × (home_in lines items m.site ≡ Some home)
declared-home [] items m i = absurd i
declared-home (line ∷ lines) items m i = by_test (same_site line.site m.site) refl (in-inserted m member (protocols_in lines) i)
    (declared-home lines items m) where
      member : Participant
      member = record { site = line.site; protocol = line.protocol }

      here : Home
      here = record { site = line.site; engine = line.engine; protocol = line.protocol; items = items_of items m.site }

      by_test : (b : Bool) → same_site line.site m.site ≡ b → (member ≡ m) ⊎ In m (protocols_in lines)
          → (In m (protocols_in lines) → (home : Home) × (home_in lines items m.site ≡ Some home))
          → (home : Home) × (cond b (Some here) (home_in lines items m.site) ≡ Some home)
      by_test true q o k = (here, refl)
      by_test false q (inl e) k = let same : same_site line.site m.site ≡ true = subst (λ n. same_site line.site n.site ≡ true) e
          (same_site-refl line.site) in cc
      by_test false q (inr i) k = k i

pub commit-records-find-all-prepared : CommitRecordsFindAllPrepared
commit-records-find-all-prepared scenario commands tid m member i =
    let visited = those-in (λ p. visits p.site (program (coord_past (story_of scenario commands)) tid)) member (protocols scenario) i in
    let (home, declared) = declared-home scenario.sites scenario.items member visited.1 in
    let site = its-site scenario member.site home declared in
    let again = home-again scenario member.site home declared in
    let (e, p) = committed-prepared scenario commands tid home again m
    (ap (λ s. visits s (program (coord_past (story_of scenario commands)) tid)) site ∙ visited.0) in
    let a = agreed scenario home tid commands again in
    let (kept, prepared, safe) = prepared-safe home tid e (disk home (past_of home.site (story_of scenario commands))) a.firm p in
    record {
      home = home;
      declared = declared;
      prepared = subst (λ s. IsPreparedForEver home (past_of s (story_of scenario commands)) tid) site
          (record { epoch = e; kept = kept; prepared = prepared; safe = safe });
    }

commit-answer : (g : Tid) (event : CoordEvent) (a : Answer) (now : List CoordRecord) → Committed g event a now → IsCommitAnswer a
    → is_about g event ≡ true → Among (IsCommit g) now
commit-answer g event (Say.Decides Decided.Commit cause forgets) now c k about = c about
commit-answer g event (Say.Decides Decided.Abort cause forgets) now c k about = absurd k
commit-answer g event a now c k about = absurd k

-- a line that decides commit leaves a Commit for ever
pub decided-commit : (scenario : Scenario) (home : Home) (commands : List Command) (tid : Tid)
    → Among (DecidesCommit tid) (coord_past (story_of scenario commands)) → Among (IsCommit tid) (coordinator_keeps scenario commands)
decided-commit scenario home [] tid m = absurd m
decided-commit scenario home (command ∷ commands) tid m =
    more (happens scenario (story_of scenario commands) command) (linked scenario (story_of scenario commands) command) m
    (decided-commit scenario home commands tid)
  where
    past : CoordPast
    past = coord_past (story_of scenario commands)

    here : (event : CoordEvent) → Turn (protocols scenario) (member_of home) tid past event (coord_line (protocols scenario) (policy scenario) past event)
        → Among (DecidesCommit tid) (coord_line (protocols scenario) (policy scenario) past event ∷ past)
        → (Among (DecidesCommit tid) past → Among (IsCommit tid) (Coordinator.records past))
        → Among (IsCommit tid) (Coordinator.records (coord_line (protocols scenario) (policy scenario) past event ∷ past))
    here event t (inl d) k = commit-answer tid event (coord_line (protocols scenario) (policy scenario) past event).answer
        (Coordinator.records (coord_line (protocols scenario) (policy scenario) past event ∷ past)) t.line.committed d.1
        (ap (is_about tid) (sym t.line.is) ∙ d.0)
    here event t (inr i) k = kept_stays (protocols scenario) tid past event
        (Coordinator.records (coord_line (protocols scenario) (policy scenario) past event ∷ past)) (IsCommit tid) (end_commit tid) t.line.kept (k i)

    more : (happened : Happened) → Linked scenario (story_of scenario commands) happened
        → Among (DecidesCommit tid) (with_coordinator happened past)
        → (Among (DecidesCommit tid) past → Among (IsCommit tid) (Coordinator.records past))
        → Among (IsCommit tid) (Coordinator.records (with_coordinator happened past))
    more (Nowhere answer) l m k = k m
    more (AtSite at x) l m k = k m
    more (AtCoordinator x) l m k =
        let (event, is, came) = l.next in
        subst (λ y. Among (IsCommit tid) (Coordinator.records (y ∷ past))) (sym is)
        (here event (turn scenario home tid (story_of scenario commands) event came (coord-sound scenario home tid commands))
        (subst (λ y. Among (DecidesCommit tid) (y ∷ past)) is m) k)

-- a home of no site
pub nowhere : Home
nowhere = record { site = record { 0 = 0 }; engine = Locking; protocol = Nothing; items = [] }

pub commit-decisions-find-all-prepared : CommitDecisionsFindAllPrepared
commit-decisions-find-all-prepared scenario commands tid m =
    commit-records-find-all-prepared scenario commands tid (decided-commit scenario nowhere commands tid m)
