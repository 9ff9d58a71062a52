-- An attempt that is alone is delivered to its end.
use Rattle.std.proofs.Common.{◌≡◌, ℕ, zero, suc, ◌+◌, ◌*◌, ◌≤◌, ◌⊎◌, Bool, true, false, cond, not, is_some, Option, Some, None, List, [], ◌∷◌, ◌++◌, map, length, drop, inl, inr, refl, sym, ap, ap₂, subst, ◌∙◌, arith}
use Rattle.mdb_base.specs.declared.acts.Step.{Step}
use Rattle.mdb_base.specs.declared.names.SiteId.{SiteId}
use Rattle.mdb_base.specs.declared.names.Tid.{Tid}
use Rattle.mdb_base.specs.Names.{same_site, same_tid}
use Rattle.mdb_base.specs.Programs.{IsProgram}
use Rattle.mdb_base.specs.Words.{Among, those, how_many, item_at}
use Rattle.mdb_base.proofs.ForCallers.{how_many_at_most, same_tid-refl}
use Rattle.presumptions.specs.declared.Decision.TheVariants as Decided_as
use Rattle.presumptions.specs.declared.Participant.{Participant}
use Rattle.presumptions.specs.Table.{acks}
use Rattle.order_laws.specs.Chains.{In}
use Rattle.order_laws.proofs.ForCallers.{among_is, each_from, each_of_at, is_among, those_in}
use Rattle.fed_rules.specs.declared.answers.Answer.TheVariants as Say
use Rattle.fed_rules.specs.declared.commands.Command.{Command}
use Rattle.fed_rules.specs.declared.events.CoordEvent.{CoordEvent}
use Rattle.fed_rules.specs.declared.events.CoordEvent.TheVariants as Ev
use Rattle.fed_rules.specs.declared.messages.Due.TheVariants as Due_is
use Rattle.fed_rules.specs.declared.messages.FromSite.TheVariants as From
use Rattle.fed_rules.specs.declared.messages.Sent.{Sent}
use Rattle.fed_rules.specs.declared.messages.ToSite.TheVariants as To
use Rattle.fed_rules.specs.declared.records.CoordRecord.TheVariants as Rec
use Rattle.fed_rules.specs.declared.scenario.Scenario.{Scenario}
use Rattle.fed_rules.specs.Closing.{deliver_all, is_done_at}
use Rattle.fed_rules.specs.Coord.{coord_line, message_of, missing, vote_tickets, all_voted, commits_it, forgets_at_once, decide_to}
use Rattle.fed_rules.specs.CoordPast as Coordinator
use Rattle.fed_rules.specs.CoordPast.{CoordHappening, CoordPast, is_about, Undecided, Decided, Gone, standing, program, visits, participants_of, participants, Counted, counted, vote_at, outstanding, has_acked, is_open, standing_of, known_decision}
use Rattle.fed_rules.specs.CoordRecords.{named, required_of, required}
use Rattle.fed_rules.specs.Happenings.{quiet}
use Rattle.fed_rules.specs.Plans.{IsScenario}
use Rattle.fed_rules.specs.Runs.{Run}
use Rattle.fed_rules.specs.Scenarios.{home_of, local_home, protocols, policy}
use Rattle.fed_rules.specs.Site.{of_give, votes_yes, done}
use Rattle.fed_rules.specs.SitePast.{SitePast, epoch, epoch_start, engine_lines, live}
use Rattle.fed_rules.specs.SitePast as Site_past
use Rattle.fed_rules.specs.SiteRecords.{Home, doubt_of}
use Rattle.fed_rules.specs.Story.{Story, AtCoordinator, past_of, coord_past, sent_to, sends_to, places_of, story_of}
use Rattle.coord_laws.specs.Records.{IsCommit}
use Rattle.commit_laws.proofs.ForCallers.{coord-sound, nowhere}
use Rattle.coord_laws.proofs.ForCallers.{Committed, coord_lines}
use Rattle.closing_laws.specs.Alone.{IsFinished}
use Rattle.closing_laws.specs.Given.{CommittedTicketsArePublished}
use Rattle.engine_laws.proofs.ForCallers.{IsAlone}
use Rattle.closing_laws.proofs.AloneSites.{Stage, NotYet, Running, Sealed, prepare_is}
use Rattle.closing_laws.proofs.Calm.{takes}
use Rattle.closing_laws.proofs.CoordView.{voted, vote_views}
use Rattle.closing_laws.proofs.Declared.{IsMemberHome, member_home}
use Rattle.closing_laws.proofs.Decisions.{commit_of, IsTold, all_told, told_quiet}
use Rattle.closing_laws.proofs.Delivered.{item_behind, IsWaiting}
use Rattle.closing_laws.proofs.Dues.{IsDue, AtWork, AtTake, AtPrepare, due_of, due_kind, unvoted_due, due_is}
use Rattle.federation_laws.proofs.ForCallers.{count_of, epoch_of, steps_of, ticket_of}
use Rattle.closing_laws.proofs.EndKnown.{first_sent, place_at}
use Rattle.closing_laws.proofs.Exchange.{IsExchange, sent_both, calm_both, sent_given}
use Rattle.closing_laws.proofs.Flow.{Entry, site_of, place_of, members_of, Flow, member_there}
use Rattle.closing_laws.proofs.FlowSteps.{weight_of, Advances, one_more_passes, home_here, due_at_home, work_on, take_on}
use Rattle.closing_laws.proofs.FlowVotes.{exchange, last_commits, none_queued, waits_on, coord_now, stage_at, doubt_at, away_at, delivered_on, answered, mid}
use Rattle.closing_laws.proofs.Quiet.{quiet_rests}

-- who must acknowledge a decision is a participant
missing_members : (scenario : Scenario) (commands : List Command) (tid : Tid) (m : Participant) → In m (missing (protocols scenario) (coord_past (story_of scenario commands)) tid Decided_as.Commit)
    → In m (participants (protocols scenario) (coord_past (story_of scenario commands)) tid)
missing_members scenario commands tid m i =
    by_named (named (protocols scenario) (Coordinator.records past) tid) refl (those_in (λ (k : Participant). not (has_acked past tid k.site)) m (required (protocols scenario) (Coordinator.records past) tid Decided_as.Commit) i).0
  where
    past : CoordPast
    past = coord_past (story_of scenario commands)

    by_named : (o : Option (List Participant)) → named (protocols scenario) (Coordinator.records past) tid ≡ o → In m (required_of Decided_as.Commit o) → In m (participants (protocols scenario) past tid)
    by_named None e j = absurd j
    by_named (Some members) e j =
        let same : members ≡ participants (protocols scenario) past tid = ((coord-sound scenario nowhere tid commands).names members e).1 in
        subst (λ ms. In m ms) same (those_in (λ (k : Participant). acks k.protocol Decided_as.Commit) m members j).0

-- an attempt isn't heavier than all that it has to do, while a vote is missing
not_all : (votes : SiteId → Option ℕ) (ms : List Participant) → Among (λ (m : Participant). votes m.site ≡ None) ms → how_many (λ (m : Participant). is_some (votes m.site)) ms + 1 ≤ length ms
not_all votes ms a =
    let (m, i, e) = among_is (λ (m : Participant). votes m.site ≡ None) ms a in
    let more = one_more_passes (λ (k : Participant). is_some (votes k.site)) (λ (k : Participant). true) ms m (λ k f. refl) i (ap is_some e) refl in
    let most = how_many_at_most (λ (k : Participant). true) ms in omega (arith, more, most)

module _ (published_law : CommittedTicketsArePublished) (scenario : Scenario) (whole : IsScenario scenario) (g : Tid) (global : local_home scenario g.tx ≡ None) (prog : List Step) (fits_prog : IsProgram prog)
    (all_declared : (site : SiteId) → visits site prog ≡ true → Among (λ (p : Participant). p.site ≡ site) (protocols scenario)) where
  told_finished : (first : Story) (commands : List Command) → IsTold scenario whole g first [] (story_of scenario commands) → IsFinished scenario g.tx (story_of scenario commands)
  told_finished first commands t = record {
    done = ap (λ h. is_done_at h (story_of scenario commands) g.tx) global ∙ commit_of g (Coordinator.records (coord_past (story_of scenario commands))) t.kept;
    rest = quiet_rests scenario (story_of scenario commands) (told_quiet scenario whole g first commands t);
  }

  -- the last vote: the attempt commits, and all are told
  module _ (commands : List Command) (en : Entry) (queue : List Entry) (flow : Flow scenario g prog (story_of scenario commands) (en ∷ queue)) (home : Home) (declared : home_of scenario home.site ≡ Some home) (here : home.site ≡ site_of en)
      (me : Run) (n : ℕ) (own : me.tid ≡ g) (alone : IsAlone (epoch_start home (past_of home.site (story_of scenario commands))) (engine_lines (past_of home.site (story_of scenario commands))) me)
      (gives : of_give home (past_of home.site (story_of scenario commands)) (message_of g en.due) ≡ votes_yes home (past_of home.site (story_of scenario commands)) g (epoch home (past_of home.site (story_of scenario commands))) (done me) me n)
      (ticket : me.ticket ≡ Some n) (visited : visits home.site prog ≡ true) (none_left : visits home.site (drop (steps_of (counted (coord_past (story_of scenario commands)) g)) prog) ≡ false)
      (has_ticket_here : ticket_of (counted (coord_past (story_of scenario commands)) g) home.site ≡ true) (unvoted_here : vote_at (coord_past (story_of scenario commands)) g home.site ≡ None)
      (due : en.due ≡ Due_is.Prepare home.site (epoch_of (counted (coord_past (story_of scenario commands)) g) home.site) (count_of (counted (coord_past (story_of scenario commands)) g) home.site))
      (all : all_voted (quiet (Ev.Take home.site (From.Vote g (Some n))) Say.Voted ∷ coord_past (story_of scenario commands)) g (participants (protocols scenario) (coord_past (story_of scenario commands)) g) ≡ true) where
    abbrev past : CoordPast
    past = coord_past (story_of scenario commands)

    abbrev event : CoordEvent
    event = Ev.Take home.site (From.Vote g (Some n))

    y : CoordHappening
    y = commits_it (protocols scenario) past event g (vote_tickets (quiet event Say.Voted ∷ past) g (participants (protocols scenario) past g))

    ex : IsExchange scenario commands home en.place (message_of g en.due) (votes_yes home (past_of home.site (story_of scenario commands)) g (epoch home (past_of home.site (story_of scenario commands))) (done me) me n) (From.Vote g (Some n)) y
    unfolding y commits_it
    ex = exchange published_law scenario whole g prog all_declared commands en queue flow home declared here me n own alone gives ticket visited none_left has_ticket_here unvoted_here due y
        (last_commits published_law scenario whole g prog all_declared commands en queue flow home declared here me n own alone gives ticket visited none_left has_ticket_here unvoted_here due all) refl refl

    abbrev after : List Command
    after = answered published_law scenario whole g prog all_declared commands en queue flow home declared here me n own alone gives ticket visited none_left has_ticket_here unvoted_here due y ex

    abbrev sent_in : Story
    sent_in = mid published_law scenario whole g prog all_declared commands en queue flow home declared here me n own alone gives ticket visited none_left has_ticket_here unvoted_here due y ex

    all_now : CoordPast
    all_now = y ∷ past

    now_is : coord_past (story_of scenario after) ≡ y ∷ past
    now_is = coord_now published_law scenario whole g prog all_declared commands en queue flow home declared here me n own alone gives ticket visited none_left has_ticket_here unvoted_here due y ex

    forgets : Bool
    forgets = forgets_at_once (protocols scenario) (Rec.Commit g (vote_tickets (quiet event Say.Voted ∷ past) g (participants (protocols scenario) past g)) ∷ Coordinator.records past) g Decided_as.Commit

    members_same : participants (protocols scenario) past g ≡ members_of scenario prog
    members_same = ap (participants_of (protocols scenario)) flow.program_is

    program_now : program (coord_past (story_of scenario after)) g ≡ prog
    unfolding y commits_it
    program_now = ap (λ p. program p g) now_is ∙ flow.program_is

    sends_are : y.sends ≡ decide_to g Decided_as.Commit (members_of scenario prog)
    unfolding y commits_it
    sends_are = ap (decide_to g Decided_as.Commit) members_same

    vote_there : (site : SiteId) → visits site prog ≡ true → (k : ℕ) × (voted home.site n (vote_at past g) site ≡ Some k)
    vote_there site v =
        let (m, i, at) = member_there scenario prog site (all_declared site v) v in
        let yes = each_of_at (λ (p : Participant). is_some (vote_at (quiet event Say.Voted ∷ past) g p.site)) (participants (protocols scenario) past g) m all (subst (λ ms. In m ms) (sym members_same) i) in
        some_of_it (voted home.site n (vote_at past g) site) (ap (λ s. is_some (voted home.site n (vote_at past g) s)) (sym at) ∙ (ap is_some (sym ((vote_views g past home.site n).votes_are m.site)) ∙ yes))
      where
        some_of_it : (o : Option ℕ) → is_some o ≡ true → (k : ℕ) × (o ≡ Some k)
        some_of_it None f = cc
        some_of_it (Some k) f = (k, refl)

    clear_now : (other : Home) (tid : Tid) → home_of scenario other.site ≡ Some other → live other (past_of other.site (story_of scenario after)) tid ≡ None
    clear_now other tid d = by_visit (visits other.site prog) refl
      where
        by_stage : (v : Option ℕ) → (k : ℕ) → v ≡ Some k → Stage other (past_of other.site (story_of scenario after)) g (count_of (counted past g) other.site) (epoch_of (counted past g) other.site) (ticket_of (counted past g) other.site) v → live other (past_of other.site (story_of scenario after)) tid ≡ None
        by_stage v k e (NotYet idle over c f t w) = (let clash = sym w ∙ e in cc)
        by_stage v k e (Running r named al over c f t w) = (let clash = sym w ∙ e in cc)
        by_stage v k e (Sealed none j w) = none tid

        by_visit : (b : Bool) → visits other.site prog ≡ b → live other (past_of other.site (story_of scenario after)) tid ≡ None
        by_visit false v = (away_at published_law scenario whole g prog all_declared commands en queue flow home declared here me n own alone gives ticket visited none_left has_ticket_here unvoted_here due y ex other tid d v).0
        by_visit true v = let (k, f) = vote_there other.site v in by_stage (voted home.site n (vote_at past g) other.site) k f (stage_at published_law scenario whole g prog all_declared commands en queue flow home declared here me n own alone gives ticket visited none_left has_ticket_here unvoted_here due y ex other d v)

    settled_now : (other : Home) → home_of scenario other.site ≡ Some other → Among (λ (m : Participant). m.site ≡ other.site) (members_of scenario prog) ⊎ (doubt_of (Site_past.records other (past_of other.site (story_of scenario after))) g ≡ None)
    settled_now other d = by_visit (visits other.site prog) refl
      where
        by_visit : (b : Bool) → visits other.site prog ≡ b → Among (λ (m : Participant). m.site ≡ other.site) (members_of scenario prog) ⊎ (doubt_of (Site_past.records other (past_of other.site (story_of scenario after))) g ≡ None)
        by_visit false v = inr (away_at published_law scenario whole g prog all_declared commands en queue flow home declared here me n own alone gives ticket visited none_left has_ticket_here unvoted_here due y ex other g d v).1
        by_visit true v = let (m, i, at) = member_there scenario prog other.site (all_declared other.site v) v in inl (is_among (λ (k : Participant). k.site ≡ other.site) m (members_of scenario prog) i at)

    standing_now : standing (protocols scenario) (y ∷ past) g ≡ standing_of false (cond forgets None (Some Decided_as.Commit))
    unfolding y commits_it forgets
    standing_now =
        ap (λ b. standing_of (cond b false (is_open past g)) (cond b (cond forgets None (Some Decided_as.Commit)) (known_decision (protocols scenario) past g))) (same_tid-refl g)

    other_now : (tid : Tid) → same_tid g tid ≡ false → standing (protocols scenario) (coord_past (story_of scenario after)) tid ≡ Gone
    unfolding y commits_it forgets
    other_now tid q =
        ap (λ p. standing (protocols scenario) p tid) now_is
        ∙ (ap (λ b. standing_of (cond b false (is_open past tid)) (cond b (cond forgets None (Some Decided_as.Commit)) (known_decision (protocols scenario) past tid))) q
        ∙ flow.others tid q)

    waits_now : IsWaiting (protocols scenario) (coord_past (story_of scenario after)) g Decided_as.Commit (map (λ (m : Participant). m.site) (members_of scenario prog))
    waits_now = by_test forgets refl
      where
        site_in : (ms : List Participant) (m : Participant) → In m ms → In m.site (map (λ (k : Participant). k.site) ms)
        site_in [] m i = absurd i
        site_in (k ∷ ms) m (inl same) = inl (ap (λ (p : Participant). p.site) same)
        site_in (k ∷ ms) m (inr i) = inr (site_in ms m i)

        by_test : (b : Bool) → forgets ≡ b → IsWaiting (protocols scenario) (coord_past (story_of scenario after)) g Decided_as.Commit (map (λ (m : Participant). m.site) (members_of scenario prog))
        by_test true q = inl (ap (λ p. standing (protocols scenario) p g) now_is ∙ (standing_now ∙ ap (λ b. standing_of false (cond b None (Some Decided_as.Commit))) q))
        by_test false q = inr (
          ap (λ p. standing (protocols scenario) p g) now_is ∙ (standing_now ∙ ap (λ b. standing_of false (cond b None (Some Decided_as.Commit))) q),
          λ m i. site_in (members_of scenario prog) m (subst (λ ms. In m ms) (ap (participants_of (protocols scenario)) program_now) (missing_members scenario after g m i)),
        )

    kept_now : Among (IsCommit g) (Coordinator.records (coord_past (story_of scenario after)))
    unfolding y commits_it
    kept_now =
        subst (λ p. Among (IsCommit g) (Coordinator.records p)) (sym now_is)
        (subst (λ z. Among (IsCommit g) (Coordinator.records (z ∷ past))) line
        (line_committed (same_tid-refl g)))
      where
        line : coord_line (protocols scenario) (policy scenario) past event ≡ y
        line = takes (protocols scenario) (policy scenario) past home.site (From.Vote g (Some n)) flow.calm.coordinator ∙ ex.takes

        line_committed : is_about g event ≡ true → Among (IsCommit g) (Coordinator.records (coord_line (protocols scenario) (policy scenario) past event ∷ past))
        line_committed =
            subst (λ (z : CoordHappening). Committed g event z.answer (Coordinator.records (coord_line (protocols scenario) (policy scenario) past event ∷ past))) line
            (coord_lines (protocols scenario) (policy scenario) g past event (coord-sound scenario nowhere g commands).firm).committed

    told_now : IsTold scenario whole g sent_in (members_of scenario prog) (story_of scenario after)
    told_now = record {
      calm = calm_both scenario commands home en.place (message_of g en.due) (votes_yes home (past_of home.site (story_of scenario commands)) g (epoch home (past_of home.site (story_of scenario commands))) (done me) me n) (From.Vote g (Some n)) y ex;
      clear = clear_now;
      doubts = λ other tid d q. doubt_at published_law scenario whole g prog all_declared commands en queue flow home declared here me n own alone gives ticket visited none_left has_ticket_here unvoted_here due y ex other tid d q;
      settled = settled_now;
      others = other_now;
      waits = waits_now;
      kept = kept_now;
      sent = each_from (λ (m : Participant). item_at (sent_to m.site (story_of scenario after)) (length (sent_to m.site sent_in)) ≡ Some (To.Decide g Decided_as.Commit)) (members_of scenario prog) sent_at;
      homes = each_from (IsMemberHome scenario) (members_of scenario prog) (λ m i. member_home scenario m whole.sites (those_in (λ (p : Participant). visits p.site prog) m (protocols scenario) i).0);
    }
      where
        sent_at : (m : Participant) → In m (members_of scenario prog) → item_at (sent_to m.site (story_of scenario after)) (length (sent_to m.site sent_in)) ≡ Some (To.Decide g Decided_as.Commit)
        sent_at m i =
            let f = first_sent g Decided_as.Commit (members_of scenario prog) m i in
            let x = votes_yes home (past_of home.site (story_of scenario commands)) g (epoch home (past_of home.site (story_of scenario commands))) (done me) me n in
            ap (λ ms. item_at ms (length (sent_to m.site sent_in))) (sent_both scenario commands home en.place (message_of g en.due) x (From.Vote g (Some n)) y ex m.site)
            ∙ (ap (λ ms. item_at (sent_to m.site (story_of scenario commands) ++ sends_to m.site (AtCoordinator y)) (length ms)) (sent_given scenario commands home en.place (message_of g en.due) x (From.Vote g (Some n)) y ex m.site)
            ∙ (ap (λ sends. item_at (sent_to m.site (story_of scenario commands) ++ map (λ (sent : Sent). sent.message) (those (λ (sent : Sent). same_site sent.site m.site) sends)) (length (sent_to m.site (story_of scenario commands)))) sends_are
            ∙ (ap (λ ms. item_at (sent_to m.site (story_of scenario commands) ++ ms) (length (sent_to m.site (story_of scenario commands)))) f.1
            ∙ item_behind (sent_to m.site (story_of scenario commands)) f.0 (To.Decide g Decided_as.Commit))))

    places_are : places_of sent_in (AtCoordinator y) ≡ map (place_at sent_in) (members_of scenario prog)
    places_are = ap (map (λ (sent : Sent). record { site = sent.site; place = length (sent_to sent.site sent_in) })) sends_are ∙ fuse (members_of scenario prog)
      where
        fuse : (ms : List Participant) → map (λ (sent : Sent). record { site = sent.site; place = length (sent_to sent.site sent_in) }) (decide_to g Decided_as.Commit ms) ≡ map (place_at sent_in) ms
        fuse [] = refl
        fuse (m ∷ ms) = ap (λ ps. place_at sent_in m ∷ ps) (fuse ms)

    pub last_finishes : (fuel : ℕ) → length (members_of scenario prog) ≤ fuel → IsFinished scenario g.tx (story_of scenario (deliver_all scenario (suc fuel) (map place_of (en ∷ queue)) commands))
    last_finishes fuel enough =
        subst (λ cs. IsFinished scenario g.tx (story_of scenario cs)) (sym so)
        (told_finished sent_in (deliver_all scenario fuel (map (place_at sent_in) (members_of scenario prog)) after) (all_told scenario whole g sent_in (members_of scenario prog) fuel after enough told_now))
      where
        so : deliver_all scenario (suc fuel) (map place_of (en ∷ queue)) commands ≡ deliver_all scenario fuel (map (place_at sent_in) (members_of scenario prog)) after
        so =
            delivered_on published_law scenario whole g prog all_declared commands en queue flow home declared here me n own alone gives ticket visited none_left has_ticket_here unvoted_here due y ex fuel
            ∙ (ap (λ q. deliver_all scenario fuel (map place_of q ++ places_of sent_in (AtCoordinator y)) after) (none_queued published_law scenario whole g prog all_declared commands en queue flow home declared here me n own alone gives ticket visited none_left has_ticket_here unvoted_here due all)
            ∙ ap (λ ps. deliver_all scenario fuel ps after) places_are)

  -- how much is left, at most
  enough_left : (commands : List Command) (queue : List Entry) (fuel : ℕ) → Flow scenario g prog (story_of scenario commands) queue
      → length prog + 3 * length (members_of scenario prog) ≤ suc fuel + weight_of g (story_of scenario commands) (members_of scenario prog) → length (members_of scenario prog) ≤ fuel
  enough_left commands queue fuel flow le =
      let few = flow.few in
      let votes = not_all (vote_at (coord_past (story_of scenario commands)) g) (members_of scenario prog) flow.unvoted in
      let tickets = how_many_at_most (λ (m : Participant). ticket_of (counted (coord_past (story_of scenario commands)) g) m.site) (members_of scenario prog) in
      omega (arith, few, votes, tickets, le)

  -- the next message of the queue
  head_step : (fuel : ℕ) (en : Entry) (queue : List Entry) (commands : List Command) → Flow scenario g prog (story_of scenario commands) (en ∷ queue)
      → length prog + 3 * length (members_of scenario prog) ≤ suc fuel + weight_of g (story_of scenario commands) (members_of scenario prog)
      → ((left : List Entry) (next : List Command) → Flow scenario g prog (story_of scenario next) left → length prog + 3 * length (members_of scenario prog) ≤ fuel + weight_of g (story_of scenario next) (members_of scenario prog)
      → IsFinished scenario g.tx (story_of scenario (deliver_all scenario fuel (map place_of left) next)))
      → IsFinished scenario g.tx (story_of scenario (deliver_all scenario (suc fuel) (map place_of (en ∷ queue)) commands))
  unfolding of_give
  head_step fuel en queue commands flow le go_on = by_first (due_kind prog replies votes (site_of en) en.due first_due_is)
    where
      past : CoordPast
      past = coord_past (story_of scenario commands)

      replies : List Counted
      replies = counted past g

      votes : SiteId → Option ℕ
      votes = vote_at past g

      first_due_is : due_of prog replies votes (site_of en) ≡ Some en.due
      first_due_is = ap (λ p. due_of p replies votes (site_of en)) (sym flow.program_is) ∙ (sym (due_is past g (site_of en)) ∙ flow.queued.0.is_due)

      further : Advances scenario g prog commands en queue → IsFinished scenario g.tx (story_of scenario (deliver_all scenario (suc fuel) (map place_of (en ∷ queue)) commands))
      further a = subst (λ cs. IsFinished scenario g.tx (story_of scenario cs)) (sym (a.same fuel)) (go_on a.left a.next a.flow (let more = a.more in omega (arith, le, more)))

      visited : IsDue prog replies (votes (site_of en)) (site_of en) en.due → visits (site_of en) prog ≡ true
      visited (AtWork step v l i q e) = v
      visited (AtTake v l t e) = v
      visited (AtPrepare v l t k e) = v

      by_vote : (home : Home) → home_of scenario home.site ≡ Some home → home.site ≡ site_of en → visits home.site prog ≡ true → visits home.site (drop (steps_of replies) prog) ≡ false → ticket_of replies home.site ≡ true → votes home.site ≡ None
          → en.due ≡ Due_is.Prepare home.site (epoch_of replies home.site) (count_of replies home.site)
          → Stage home (past_of home.site (story_of scenario commands)) g (count_of replies home.site) (epoch_of replies home.site) (ticket_of replies home.site) (votes home.site)
          → IsFinished scenario g.tx (story_of scenario (deliver_all scenario (suc fuel) (map place_of (en ∷ queue)) commands))
      by_vote home d here v l t w due (NotYet idle over c e k z) = (let clash = sym k ∙ t in cc)
      by_vote home d here v l t w due (Sealed none n z) = (let clash = sym w ∙ z in cc)
      by_vote home d here v l t w due (Running me own alone over c e k z) = by_ticket me.ticket refl
        where
          by_ticket : (o : Option ℕ) → me.ticket ≡ o → IsFinished scenario g.tx (story_of scenario (deliver_all scenario (suc fuel) (map place_of (en ∷ queue)) commands))
          by_ticket None f = (let no = ap is_some f in let clash = sym no ∙ (k ∙ t) in cc)
          by_ticket (Some n) f = by_all (all_voted (quiet (Ev.Take home.site (From.Vote g (Some n))) Say.Voted ∷ past) g (participants (protocols scenario) past g)) refl
            where
              gives : of_give home (past_of home.site (story_of scenario commands)) (message_of g en.due) ≡ votes_yes home (past_of home.site (story_of scenario commands)) g (epoch home (past_of home.site (story_of scenario commands))) (done me) me n
              gives =
                  ap (λ o. of_give home (past_of home.site (story_of scenario commands)) (message_of g o)) due
                  ∙ (ap₂ (λ a b. of_give home (past_of home.site (story_of scenario commands)) (To.Prepare g a b)) (sym e) (sym c) ∙ prepare_is home (past_of home.site (story_of scenario commands)) g me n own alone over f)

              by_all : (b : Bool) → all_voted (quiet (Ev.Take home.site (From.Vote g (Some n))) Say.Voted ∷ past) g (participants (protocols scenario) past g) ≡ b
                  → IsFinished scenario g.tx (story_of scenario (deliver_all scenario (suc fuel) (map place_of (en ∷ queue)) commands))
              by_all false q = further (waits_on published_law scenario whole g prog all_declared commands en queue flow home d here me n own alone gives f v l t w due q)
              by_all true q = last_finishes commands en queue flow home d here me n own alone gives f v l t w due q fuel (enough_left commands (en ∷ queue) fuel flow le)

      by_kind : (home : Home) → home_of scenario home.site ≡ Some home → home.site ≡ site_of en → IsDue prog replies (votes home.site) home.site en.due
          → IsFinished scenario g.tx (story_of scenario (deliver_all scenario (suc fuel) (map place_of (en ∷ queue)) commands))
      by_kind home d here (AtWork step v l i q e) = further (work_on scenario whole g prog fits_prog all_declared commands en queue flow home step d here v l i q e)
      by_kind home d here (AtTake v l t e) = further (take_on scenario whole g prog fits_prog all_declared commands en queue flow home d here v l t e)
      by_kind home d here (AtPrepare v l t w e) = by_vote home d here v l t w e (flow.stages home d v)

      by_first : IsDue prog replies (votes (site_of en)) (site_of en) en.due → IsFinished scenario g.tx (story_of scenario (deliver_all scenario (suc fuel) (map place_of (en ∷ queue)) commands))
      by_first k =
          let h = home_here scenario whole g prog fits_prog all_declared commands en queue flow (visited k) in
          by_kind h.home h.declared h.here (due_kind prog replies votes h.home.site en.due (due_at_home scenario whole g prog fits_prog all_declared commands en queue flow h.home h.here))

  pub flows : (fuel : ℕ) (queue : List Entry) (commands : List Command) → Flow scenario g prog (story_of scenario commands) queue
      → length prog + 3 * length (members_of scenario prog) ≤ fuel + weight_of g (story_of scenario commands) (members_of scenario prog)
      → IsFinished scenario g.tx (story_of scenario (deliver_all scenario fuel (map place_of queue) commands))
  flows zero queue commands flow le =
      let few = flow.few in
      let votes = not_all (vote_at (coord_past (story_of scenario commands)) g) (members_of scenario prog) flow.unvoted in
      let tickets = how_many_at_most (λ (m : Participant). ticket_of (counted (coord_past (story_of scenario commands)) g) m.site) (members_of scenario prog) in
      absurd (omega (arith, few, votes, tickets, le))
  flows (suc fuel) [] commands flow le =
      let past = coord_past (story_of scenario commands) in
      let (m, i, e) = among_is (λ (m : Participant). vote_at (coord_past (story_of scenario commands)) g m.site ≡ None) (members_of scenario prog) flow.unvoted in
      let o = unvoted_due prog (counted (coord_past (story_of scenario commands)) g) (vote_at (coord_past (story_of scenario commands)) g) m.site (those_in (λ (p : Participant). visits p.site prog) m (protocols scenario) i).1 e in
      absurd (flow.whole o.site o.due (due_is (coord_past (story_of scenario commands)) g o.site
      ∙ (ap (λ p. due_of p (counted (coord_past (story_of scenario commands)) g) (vote_at (coord_past (story_of scenario commands)) g) o.site) flow.program_is ∙ o.is_due)))
  flows (suc fuel) (en ∷ queue) commands flow le = head_step fuel en queue commands flow le (λ left next f l. flows fuel left next f l)
