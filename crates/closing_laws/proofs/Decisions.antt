-- A commit that every participant is told: each settles it, and the coordinator forgets it.
use Rattle.std.proofs.Common.{◌≡◌, ℕ, zero, suc, ◌≤◌, ◌⊎◌, Bool, true, false, cond, is_some, Option, Some, None, List, [], ◌∷◌, ◌++◌, map, length, inl, inr, refl, sym, ap, subst, ◌∙◌, arith}
use Rattle.std.proofs.lemmas.List.{append-nil}
use Rattle.mdb_base.specs.declared.names.SiteId.{SiteId}
use Rattle.mdb_base.specs.declared.names.Tid.{Tid}
use Rattle.mdb_base.specs.Names.{same_tid, same_tx}
use Rattle.mdb_base.specs.Words.{Each, Among, when, given, item_at}
use Rattle.mdb_base.proofs.ForCallers.{cond-false, same_tid-equal, same_tx-refl}
use Rattle.presumptions.specs.declared.Decision.TheVariants as Decided_as
use Rattle.presumptions.specs.declared.Participant.{Participant}
use Rattle.presumptions.specs.Table.{acks}
use Rattle.fed_rules.specs.declared.answers.Answer.TheVariants as Say
use Rattle.fed_rules.specs.declared.commands.Command.{Command}
use Rattle.fed_rules.specs.declared.commands.Command.TheVariants as Cmd
use Rattle.fed_rules.specs.declared.commands.Place.{Place}
use Rattle.fed_rules.specs.declared.events.CoordEvent.TheVariants as Ev
use Rattle.fed_rules.specs.declared.messages.FromSite.TheVariants as From
use Rattle.fed_rules.specs.declared.messages.FromSite.{FromSite}
use Rattle.fed_rules.specs.declared.messages.Sent.{Sent}
use Rattle.fed_rules.specs.declared.messages.ToSite.TheVariants as To
use Rattle.fed_rules.specs.declared.records.CoordRecord.{CoordRecord}
use Rattle.fed_rules.specs.declared.records.CoordRecord.TheVariants as Rec
use Rattle.fed_rules.specs.declared.scenario.Scenario.{Scenario}
use Rattle.fed_rules.specs.Closing.{last_sends, take_answers, deliver, sent_next, deliver_all}
use Rattle.fed_rules.specs.Coord.{coord_line, missing, is_member, ack_counts, acked_while, of_ack, of_take}
use Rattle.fed_rules.specs.CoordPast as Coordinator
use Rattle.fed_rules.specs.CoordPast.{CoordHappening, CoordPast, Standing, Undecided, Decided, Gone, standing}
use Rattle.fed_rules.specs.CoordRecords.{committed_of, is_nobody}
use Rattle.fed_rules.specs.Happenings.{quiet}
use Rattle.fed_rules.specs.Plans.{IsScenario}
use Rattle.fed_rules.specs.Scenarios.{home_of, protocols, policy}
use Rattle.fed_rules.specs.Sessions.{fresh}
use Rattle.fed_rules.specs.Site.{of_decide}
use Rattle.fed_rules.specs.SitePast.{SiteHappening, records, live}
use Rattle.fed_rules.specs.SiteRecords.{Home, doubt_of}
use Rattle.fed_rules.specs.Story.{Story, Happened, AtSite, AtCoordinator, Nowhere, past_of, coord_past, with_site, with_coordinator, sent_to, sent_from, at_coordinator, on_take, happens, place_from, places_of, story_of}
use Rattle.coord_laws.specs.Records.{IsCommit}
use Rattle.commit_laws.proofs.ForCallers.{Linked, coord-sound, fresh_fits, linked, nowhere}
use Rattle.coord_laws.proofs.ForCallers.{coord_lines, end_commit, kept_stays}
use Rattle.closing_laws.proofs.Calm.{takes}
use Rattle.closing_laws.proofs.CoordTurns.{takes_there}
use Rattle.closing_laws.proofs.Declared.{IsMemberHome}
use Rattle.closing_laws.proofs.Delivered.{give_told, decide_sends, acks_so, sent_behind, IsWaiting, delivered}
use Rattle.closing_laws.proofs.EndKnown.{missing_acks, none_missing, place_at}
use Rattle.closing_laws.proofs.Inquire.{give_settles}
use Rattle.closing_laws.proofs.Onward.{IsCalm, Onward, onward_next, gentle_give, one_home}
use Rattle.closing_laws.proofs.Quiet.{IsQuiet}
use Rattle.fed_rules.specs.Disk.{Append}

-- a Commit record stays
commit_kept : (scenario : Scenario) (commands : List Command) (command : Command) (g : Tid) → Among (IsCommit g) (Coordinator.records (coord_past (story_of scenario commands)))
    → Among (IsCommit g) (Coordinator.records (coord_past (story_of scenario (command ∷ commands))))
commit_kept scenario commands command g m = by_case (happens scenario story command) (linked scenario story command)
  where
    story : Story
    story = story_of scenario commands

    by_case : (happened : Happened) → Linked scenario story happened → Among (IsCommit g) (Coordinator.records (with_coordinator happened (coord_past story)))
    by_case (Nowhere answer) l = m
    by_case (AtSite at x) l = m
    by_case (AtCoordinator x) l =
        let (event, is, came) = l.next in
        subst (λ y. Among (IsCommit g) (Coordinator.records (y ∷ coord_past story))) (sym is)
        (kept_stays (protocols scenario) g (coord_past story) event (Coordinator.records (coord_line (protocols scenario) (policy scenario) (coord_past story) event ∷ coord_past story)) (IsCommit g) (end_commit g)
        (coord_lines (protocols scenario) (policy scenario) g (coord_past story) event (coord-sound scenario nowhere g commands).firm).kept m)

commit_takes : (scenario : Scenario) (places : List Place) (commands : List Command) (g : Tid) → Among (IsCommit g) (Coordinator.records (coord_past (story_of scenario commands)))
    → Among (IsCommit g) (Coordinator.records (coord_past (story_of scenario (take_answers places commands))))
commit_takes scenario [] commands g m = m
commit_takes scenario (place ∷ places) commands g m = commit_takes scenario places (Cmd.Take place.site place.place ∷ commands) g (commit_kept scenario commands (Cmd.Take place.site place.place) g m)

pub commit_of : (g : Tid) (rs : List CoordRecord) → Among (IsCommit g) rs → is_some (committed_of rs g.tx) ≡ true
commit_of g [] m = absurd m
commit_of g (Rec.Initiation t ms ∷ rs) (inl m) = absurd m
commit_of g (Rec.Initiation t ms ∷ rs) (inr m) = commit_of g rs m
commit_of g (Rec.End t ∷ rs) (inl m) = absurd m
commit_of g (Rec.Abort t ms ∷ rs) (inl m) = absurd m
commit_of g (Rec.Abort t ms ∷ rs) (inr m) = commit_of g rs m
commit_of g (Rec.Checkpoint sum ∷ rs) (inl m) = absurd m
commit_of g (Rec.Checkpoint sum ∷ rs) (inr m) = commit_of g rs m
commit_of g (Rec.End t ∷ rs) (inr m) = commit_of g rs m
commit_of g (Rec.Commit t ks ∷ rs) (inl m) = ap (λ b. is_some (cond b (Some t) (committed_of rs g.tx))) (ap (λ (z : Tid). same_tx z.tx g.tx) m ∙ same_tx-refl g.tx)
commit_of g (Rec.Commit t ks ∷ rs) (inr m) = by_test (same_tx t.tx g.tx) (commit_of g rs m)
  where
    by_test : (b : Bool) → is_some (committed_of rs g.tx) ≡ true → is_some (cond b (Some t) (committed_of rs g.tx)) ≡ true
    by_test true e = refl
    by_test false e = e

-- what is taken leaves the sites as they were
take_leaves : (scenario : Scenario) (commands : List Command) (from : SiteId) (n : ℕ) (site : SiteId) → past_of site (story_of scenario (Cmd.Take from n ∷ commands)) ≡ past_of site (story_of scenario commands)
unfolding happens on_take given
take_leaves scenario commands from n site = by_item (item_at (sent_from from (story_of scenario commands)) n)
  where
    by_item : (o : Option FromSite) → with_site site (given o (λ m. at_coordinator scenario (story_of scenario commands) (Ev.Take from m)) (Nowhere Say.None)) (past_of site (story_of scenario commands)) ≡ past_of site (story_of scenario commands)
    by_item None = refl
    by_item (Some m) = refl

takes_leave : (scenario : Scenario) (places : List Place) (commands : List Command) (site : SiteId) → past_of site (story_of scenario (take_answers places commands)) ≡ past_of site (story_of scenario commands)
takes_leave scenario [] commands site = refl
takes_leave scenario (place ∷ places) commands site = takes_leave scenario places (Cmd.Take place.site place.place ∷ commands) site ∙ take_leaves scenario commands place.site place.place site

-- an acknowledgement is answered by nothing
no_sends : (b : Bool) (y z : CoordHappening) → y.sends ≡ [] → z.sends ≡ [] → (when b y z).sends ≡ []
unfolding when
no_sends true y z e f = e
no_sends false y z e f = f

ack_sends : (protocols : List Participant) (past : CoordPast) (site : SiteId) (tid : Tid) → (of_ack protocols past site tid).sends ≡ []
unfolding of_ack acked_while ack_counts when
ack_sends protocols past site tid = by_standing (standing protocols past tid)
  where
    forgets : CoordHappening
    forgets = record { event = Ev.Take site (From.Ack tid); answer = Say.Forgets; sends = []; calls = Append (Rec.End tid) ∷ []; lines = [] }

    acked : CoordHappening
    acked = quiet (Ev.Take site (From.Ack tid)) Say.Acked

    ignored : CoordHappening
    ignored = quiet (Ev.Take site (From.Ack tid)) Say.Ignored

    by_standing : (s : Standing) → (acked_while protocols past site tid s).sends ≡ []
    by_standing Undecided = refl
    by_standing Gone = refl
    by_standing (Decided d) =
        no_sends (is_member site (missing protocols past tid d)) (when (is_nobody (missing protocols (acked ∷ past) tid d)) forgets acked) ignored
        (no_sends (is_nobody (missing protocols (acked ∷ past) tid d)) forgets acked refl refl) refl

-- the commit is given at one site, and acknowledged where its protocol does that
record OneSettled (scenario : Scenario) (g : Tid) (ss : List SiteId) (home : Home) (n : ℕ) (commands : List Command) : Type 0 where
  onward : Onward scenario (story_of scenario commands) (story_of scenario (deliver (fresh scenario) (record { site = home.site; place = n }) commands))
  settled : doubt_of (records home (past_of home.site (story_of scenario (deliver (fresh scenario) (record { site = home.site; place = n }) commands)))) g ≡ None
  waits : IsWaiting (protocols scenario) (coord_past (story_of scenario (deliver (fresh scenario) (record { site = home.site; place = n }) commands))) g Decided_as.Commit ss
  ends : sent_next scenario (deliver (fresh scenario) (record { site = home.site; place = n }) commands) (last_sends (fresh scenario) (Cmd.Give home.site n ∷ commands)) ≡ []

module _ (scenario : Scenario) (whole : IsScenario scenario) (g : Tid) where
  one_settled : (commands : List Command) (home : Home) (n : ℕ) (ss : List SiteId) → IsCalm (story_of scenario commands) → home_of scenario home.site ≡ Some home
      → item_at (sent_to home.site (story_of scenario commands)) n ≡ Some (To.Decide g Decided_as.Commit) → IsWaiting (protocols scenario) (coord_past (story_of scenario commands)) g Decided_as.Commit (home.site ∷ ss)
      → OneSettled scenario g ss home n commands
  unfolding of_take
  one_settled commands home n ss c d e waits = by_acks (acks home.protocol Decided_as.Commit) refl
    where
      story : Story
      story = story_of scenario commands

      given : List Command
      given = Cmd.Give home.site n ∷ commands

      x : SiteHappening
      x = of_decide home (past_of home.site story) g Decided_as.Commit

      told : happens scenario story (Cmd.Give home.site n) ≡ AtSite home.site x
      told = give_told scenario story home n g Decided_as.Commit c d e

      settled_so : doubt_of (records home (past_of home.site (story_of scenario (deliver (fresh scenario) (record { site = home.site; place = n }) commands)))) g ≡ None
      settled_so = ap (λ p. doubt_of (records home p) g) (takes_leave scenario (last_sends (fresh scenario) given) given home.site) ∙ give_settles (fresh scenario) (fresh_fits scenario) commands home n g Decided_as.Commit c d e

      first : Onward scenario story (story_of scenario given)
      first = onward_next scenario story (Cmd.Give home.site n) (happens scenario story (Cmd.Give home.site n)) c (gentle_give scenario story home.site n g Decided_as.Commit c e)

      by_acks : (b : Bool) → acks home.protocol Decided_as.Commit ≡ b → OneSettled scenario g ss home n commands
      by_acks true a =
          let del = delivered (fresh scenario) (fresh_fits scenario) commands home n g Decided_as.Commit ss c d a e waits in
          let sends : x.sends ≡ From.Ack g ∷ [] = decide_sends home (past_of home.site story) g Decided_as.Commit ∙ acks_so home g Decided_as.Commit a in
          let places : last_sends (fresh scenario) given ≡ record { site = home.site; place = length (sent_from home.site story) } ∷ [] = ap (places_of story) told ∙ ap (place_from home.site (length (sent_from home.site story))) sends in
          let there : item_at (sent_from home.site (story_of scenario given)) (length (sent_from home.site story)) ≡ Some (From.Ack g) =
          ap (λ h. item_at (sent_from home.site (record { command = Cmd.Give home.site n; happened = h } ∷ story)) (length (sent_from home.site story))) told
          ∙ sent_behind story (Cmd.Give home.site n) home.site x (From.Ack g) sends in
          let takes_so : happens scenario (story_of scenario given) (Cmd.Take home.site (length (sent_from home.site story))) ≡ AtCoordinator (of_ack (protocols scenario) (coord_past (story_of scenario given)) home.site g) =
          takes_there scenario (story_of scenario given) home.site (length (sent_from home.site story)) (From.Ack g) there
          ∙ ap (λ y. AtCoordinator y) (takes (protocols scenario) (policy scenario) (coord_past (story_of scenario given)) home.site (From.Ack g) first.calm.coordinator) in
          record {
            onward = del.onward;
            settled = settled_so;
            waits = del.waits;
            ends = ap (λ ps. sent_next scenario (take_answers ps given) ps) places
                ∙ (ap (places_of (story_of scenario given)) takes_so ∙ ap (map (λ (sent : Sent). record { site = sent.site; place = length (sent_to sent.site (story_of scenario given)) })) (ack_sends (protocols scenario) (coord_past (story_of scenario given)) home.site g));
          }
      by_acks false a =
          let sends : x.sends ≡ [] = decide_sends home (past_of home.site story) g Decided_as.Commit ∙ cond-false _ _ _ a in
          let places : last_sends (fresh scenario) given ≡ [] = ap (places_of story) told ∙ ap (place_from home.site (length (sent_from home.site story))) sends in
          record {
            onward = subst (λ ps. Onward scenario story (story_of scenario (take_answers ps given))) (sym places) first;
            settled = settled_so;
            waits = subst (λ ps. IsWaiting (protocols scenario) (coord_past (story_of scenario (take_answers ps given))) g Decided_as.Commit ss) (sym places)
                (subst (λ p. IsWaiting (protocols scenario) p g Decided_as.Commit ss) (sym (ap (λ h. with_coordinator h (coord_past story)) told)) (fewer waits));
            ends = ap (λ ps. sent_next scenario (take_answers ps given) ps) places;
          }
        where
          fewer : IsWaiting (protocols scenario) (coord_past story) g Decided_as.Commit (home.site ∷ ss) → IsWaiting (protocols scenario) (coord_past story) g Decided_as.Commit ss
          fewer (inl gone) = inl gone
          fewer (inr (known, w)) = inr (
            known,
            λ m i. elim (w m i) [
              | inl same ↦
                  let can = missing_acks (fresh scenario) (fresh_fits scenario) commands g Decided_as.Commit m whole.sites i in
                  let one : can.at.home ≡ home = one_home scenario can.at.home home can.at.declared d (can.at.here ∙ sym same) in
                  let yes : acks home.protocol Decided_as.Commit ≡ true = ap (λ (h : Home). acks h.protocol Decided_as.Commit) (sym one) ∙ (ap (λ p. acks p Decided_as.Commit) can.at.protocol ∙ can.acks) in
                  let clash = sym a ∙ yes in cc
              | inr j ↦ j
            ],
          )

  -- the commit is on its way to these participants
  pub record IsTold (first : Story) (ms : List Participant) (story : Story) : Type 0 where
    pub calm : IsCalm story
    pub clear : (home : Home) (tid : Tid) → home_of scenario home.site ≡ Some home → live home (past_of home.site story) tid ≡ None
    pub doubts : (home : Home) (tid : Tid) → home_of scenario home.site ≡ Some home → same_tid g tid ≡ false → doubt_of (records home (past_of home.site story)) tid ≡ None
    pub settled : (home : Home) → home_of scenario home.site ≡ Some home → Among (λ (m : Participant). m.site ≡ home.site) ms ⊎ (doubt_of (records home (past_of home.site story)) g ≡ None)
    pub others : (tid : Tid) → same_tid g tid ≡ false → standing (protocols scenario) (coord_past story) tid ≡ Gone
    pub waits : IsWaiting (protocols scenario) (coord_past story) g Decided_as.Commit (map (λ (m : Participant). m.site) ms)
    pub kept : Among (IsCommit g) (Coordinator.records (coord_past story))
    pub sent : Each (λ (m : Participant). item_at (sent_to m.site story) (length (sent_to m.site first)) ≡ Some (To.Decide g Decided_as.Commit)) ms
    pub homes : Each (IsMemberHome scenario) ms

  told_on : (first : Story) (m : Participant) (ms : List Participant) (commands : List Command) → IsTold first (m ∷ ms) (story_of scenario commands)
      → IsTold first ms (story_of scenario (deliver (fresh scenario) (place_at first m) commands)) × (sent_next scenario (deliver (fresh scenario) (place_at first m) commands) (last_sends (fresh scenario) (Cmd.Give m.site (length (sent_to m.site first)) ∷ commands)) ≡ [])
  told_on first m ms commands t =
      subst (λ s. IsTold first ms (story_of scenario (deliver (fresh scenario) (record { site = s; place = n }) commands)) × (sent_next scenario (deliver (fresh scenario) (record { site = s; place = n }) commands) (last_sends (fresh scenario) (Cmd.Give s n ∷ commands)) ≡ [])) here (
        record {
          calm = one.onward.calm;
          clear = λ other tid d. one.onward.quiets other tid d (t.clear other tid d);
          doubts = λ other tid d q. one.onward.settles other tid d (t.doubts other tid d q);
          settled = λ other d. settled_at other d (t.settled other d);
          others = λ tid q. one.onward.gone tid (t.others tid q);
          waits = one.waits;
          kept = commit_takes scenario (last_sends (fresh scenario) (Cmd.Give home.site n ∷ commands)) (Cmd.Give home.site n ∷ commands) g (commit_kept scenario commands (Cmd.Give home.site n) g t.kept);
          sent = still ms t.sent.1;
          homes = t.homes.1;
        },
        one.ends,
      )
    where
      home : Home
      home = t.homes.0.home

      here : home.site ≡ m.site
      here = t.homes.0.here

      n : ℕ
      n = length (sent_to m.site first)

      one : OneSettled scenario g (map (λ (k : Participant). k.site) ms) home n commands
      one = one_settled commands home n (map (λ (k : Participant). k.site) ms) t.calm t.homes.0.declared
          (subst (λ s. item_at (sent_to s (story_of scenario commands)) n ≡ Some (To.Decide g Decided_as.Commit)) (sym here) t.sent.0)
          (subst (λ s. IsWaiting (protocols scenario) (coord_past (story_of scenario commands)) g Decided_as.Commit (s ∷ map (λ (k : Participant). k.site) ms)) (sym here) t.waits)

      next : Story
      next = story_of scenario (deliver (fresh scenario) (record { site = home.site; place = n }) commands)

      still : (ks : List Participant) → Each (λ (k : Participant). item_at (sent_to k.site (story_of scenario commands)) (length (sent_to k.site first)) ≡ Some (To.Decide g Decided_as.Commit)) ks
          → Each (λ (k : Participant). item_at (sent_to k.site next) (length (sent_to k.site first)) ≡ Some (To.Decide g Decided_as.Commit)) ks
      still [] h = tt
      still (k ∷ ks) h = (one.onward.sent k.site (length (sent_to k.site first)) (To.Decide g Decided_as.Commit) h.0, still ks h.1)

      settled_at : (other : Home) → home_of scenario other.site ≡ Some other → Among (λ (k : Participant). k.site ≡ other.site) (m ∷ ms) ⊎ (doubt_of (records other (past_of other.site (story_of scenario commands))) g ≡ None)
          → Among (λ (k : Participant). k.site ≡ other.site) ms ⊎ (doubt_of (records other (past_of other.site next)) g ≡ None)
      settled_at other d (inr none) = inr (one.onward.settles other g d none)
      settled_at other d (inl (inr i)) = inl i
      settled_at other d (inl (inl same)) =
          inr (subst (λ h. doubt_of (records h (past_of h.site next)) g ≡ None) (one_home scenario home other t.homes.0.declared d (here ∙ same)) one.settled)

  -- and all of them are told
  pub all_told : (first : Story) (ms : List Participant) (fuel : ℕ) (commands : List Command) → length ms ≤ fuel → IsTold first ms (story_of scenario commands)
      → IsTold first [] (story_of scenario (deliver_all scenario fuel (map (place_at first) ms) commands))
  all_told first [] zero commands le t = t
  all_told first [] (suc fuel) commands le t = t
  all_told first (m ∷ ms) zero commands le t = absurd (omega (arith, le))
  all_told first (m ∷ ms) (suc fuel) commands le t =
      let step = told_on first m ms commands t in
      subst (λ ps. IsTold first [] (story_of scenario (deliver_all scenario fuel (map (place_at first) ms ++ ps) (deliver (fresh scenario) (place_at first m) commands)))) (sym step.1)
      (subst (λ ps. IsTold first [] (story_of scenario (deliver_all scenario fuel ps (deliver (fresh scenario) (place_at first m) commands)))) (sym (append-nil (map (place_at first) ms)))
      (all_told first ms fuel (deliver (fresh scenario) (place_at first m) commands) (omega (arith, le)) step.0))

  -- then nothing is left open
  pub told_quiet : (first : Story) (commands : List Command) → IsTold first [] (story_of scenario commands) → IsQuiet scenario (story_of scenario commands)
  told_quiet first commands t = record {
    calm = t.calm;
    clear = t.clear;
    settled = λ home tid d. by_tid home tid d (same_tid g tid) refl;
    gone = λ tid. gone_at tid (same_tid g tid) refl;
  }
    where
      own : (home : Home) → home_of scenario home.site ≡ Some home → doubt_of (records home (past_of home.site (story_of scenario commands))) g ≡ None
      own home d = elim (t.settled home d) [ inl i ↦ absurd i | inr none ↦ none ]

      by_tid : (home : Home) (tid : Tid) → home_of scenario home.site ≡ Some home → (b : Bool) → same_tid g tid ≡ b → doubt_of (records home (past_of home.site (story_of scenario commands))) tid ≡ None
      by_tid home tid d false q = t.doubts home tid d q
      by_tid home tid d true q = subst (λ z. doubt_of (records home (past_of home.site (story_of scenario commands))) z ≡ None) (same_tid-equal g tid q) (own home d)

      gone_at : (tid : Tid) (b : Bool) → same_tid g tid ≡ b → standing (protocols scenario) (coord_past (story_of scenario commands)) tid ≡ Gone
      gone_at tid false q = t.others tid q
      gone_at tid true q = subst (λ z. standing (protocols scenario) (coord_past (story_of scenario commands)) z ≡ Gone) (same_tid-equal g tid q) (none_missing (fresh scenario) (fresh_fits scenario) commands g Decided_as.Commit t.waits)
