-- The Prepare of an attempt that is alone is answered yes; the last vote commits, since no ticket is greater.
use Rattle.std.proofs.Common.{◌≡◌, ℕ, suc, ◌+◌, ◌<◌, ◌≤◌, Bool, true, false, cond, ◌&&◌, is_some, Option, Some, None, List, [], ◌∷◌, ◌++◌, map, length, drop, inl, inr, refl, sym, ap, ap₂, subst, ◌∙◌, arith}
use Rattle.std.proofs.lemmas.List.{append-nil}
use Rattle.mdb_base.specs.declared.acts.Step.{Step}
use Rattle.mdb_base.specs.declared.names.SiteId.{SiteId}
use Rattle.mdb_base.specs.declared.names.SiteTicket.{SiteTicket}
use Rattle.mdb_base.specs.declared.names.Tid.{Tid}
use Rattle.mdb_base.specs.declared.replies.Edge.{Edge}
use Rattle.mdb_base.specs.Names.{same_site, same_tid}
use Rattle.mdb_base.specs.Words.{Among, given, item_at}
use Rattle.mdb_base.proofs.ForCallers.{cond-false, item_at-front, same_site-equal, same_site-refl, when-false, when-true}
use Rattle.presumptions.specs.declared.Participant.{Participant}
use Rattle.order_laws.specs.Chains.{In}
use Rattle.order_laws.specs.Search.{cycle_through}
use Rattle.order_laws.specs.Tickets.{Ticketed, IsCycle, IsEdge, Precedes, edge_between}
use Rattle.order_laws.proofs.ForCallers.{among_weaker, cycle_found, each_at, each_from, each_of_at, each_of_false}
use Rattle.fed_rules.specs.declared.answers.Answer.TheVariants as Say
use Rattle.fed_rules.specs.declared.answers.Cause.TheVariants as For
use Rattle.fed_rules.specs.declared.commands.Command.{Command}
use Rattle.fed_rules.specs.declared.events.CoordEvent.{CoordEvent}
use Rattle.fed_rules.specs.declared.events.CoordEvent.TheVariants as Ev
use Rattle.fed_rules.specs.declared.messages.Due.{Due}
use Rattle.fed_rules.specs.declared.messages.Due.TheVariants as Due_is
use Rattle.fed_rules.specs.declared.messages.FromSite.TheVariants as From
use Rattle.fed_rules.specs.declared.records.CoordRecord.{CoordRecord}
use Rattle.fed_rules.specs.declared.records.CoordRecord.TheVariants as Rec
use Rattle.fed_rules.specs.declared.scenario.Scenario.{Scenario}
use Rattle.fed_rules.specs.Closing.{deliver_all}
use Rattle.fed_rules.specs.Coord.{message_of, aborts, vote_ticket, vote_tickets, all_voted, commits_it, last_vote, yes_vote, is_due_vote, vote_counted, of_vote, of_take}
use Rattle.fed_rules.specs.CoordPast as Coordinator
use Rattle.fed_rules.specs.CoordPast.{CoordHappening, CoordPast, standing, program, visits, participants_of, participants, Counted, counted, or_vote, vote_at, outstanding, is_open}
use Rattle.fed_rules.specs.CoordRecords.{commits}
use Rattle.fed_rules.specs.Happenings.{quiet, stops}
use Rattle.fed_rules.specs.Plans.{IsScenario}
use Rattle.fed_rules.specs.Runs.{Run}
use Rattle.fed_rules.specs.Scenarios.{home_of, protocols, policy}
use Rattle.fed_rules.specs.Site.{of_give, votes_yes, done}
use Rattle.fed_rules.specs.SitePast.{SiteHappening, SitePast, records, epoch, epoch_start, engine_lines, live}
use Rattle.fed_rules.specs.SiteRecords.{Home, doubt_of}
use Rattle.fed_rules.specs.Story.{Story, AtCoordinator, past_of, coord_past, sent_to, places_of, story_of}
use Rattle.commit_laws.proofs.ForCallers.{coord-sound, nowhere}
use Rattle.coord_laws.proofs.ForCallers.{commit_mark, open_undecided}
use Rattle.coord_laws.specs.Records.{IsCommit}
use Rattle.closing_laws.specs.Given.{CommittedTicketsArePublished}
use Rattle.engine_laws.proofs.ForCallers.{IsAlone}
use Rattle.closing_laws.proofs.AloneSites.{Stage, prepare_stage}
use Rattle.closing_laws.proofs.CoordView.{Views, voted, vote_views, due_now, found_where}
use Rattle.closing_laws.proofs.Dues.{due_of, due_by, due_is, IsDue, AtWork, AtTake, AtPrepare, due_kind}
use Rattle.federation_laws.proofs.ForCallers.{count_of, epoch_of, steps_of, ticket-vote, ticket_of}
use Rattle.closing_laws.proofs.Exchange.{IsExchange, with_give, both, past_given, other_given, coord_both, past_both, sent_both, calm_both, goes_on}
use Rattle.closing_laws.proofs.Flow.{Entry, site_of, place_of, IsQueued, members_of, Flow, member_there}
use Rattle.closing_laws.proofs.FlowSteps.{weight, weight_of, Advances, one_more_passes}
use Rattle.closing_laws.proofs.Onward.{one_home}

-- a commit of an attempt is its record
pub commit_in : (g : Tid) (rs : List CoordRecord) (c : Ticketed) → In c (commits rs) → c.tid ≡ g → Among (IsCommit g) rs
commit_in g [] c i e = absurd i
commit_in g (Rec.Initiation t ms ∷ rs) c i e = inr (commit_in g rs c i e)
commit_in g (Rec.End t ∷ rs) c i e = inr (commit_in g rs c i e)
commit_in g (Rec.Abort t ms ∷ rs) c i e = inr (commit_in g rs c i e)
commit_in g (Rec.Checkpoint sum ∷ rs) c i e = inr (commit_in g rs c i e)
commit_in g (Rec.Commit t ks ∷ rs) c (inl same) e = inl (ap (λ (z : Ticketed). z.tid) same ∙ e)
commit_in g (Rec.Commit t ks ∷ rs) c (inr i) e = inr (commit_in g rs c i e)

pub named_votes : (past : CoordPast) (g : Tid) (members : List Participant) (k : SiteTicket) → In k (vote_tickets past g members) → vote_at past g k.site ≡ Some k.ticket
named_votes past g members k i =
    let (m, j, e) = found_where' in
    let n = ticket-vote m.site (vote_at past g m.site) k e in ap (vote_at past g) (sym n.1) ∙ n.0
  where
    found_where' : (m : Participant) × In m members × (vote_ticket m.site (vote_at past g m.site) ≡ Some k)
    found_where' = found_where (λ (m : Participant). vote_ticket m.site (vote_at past g m.site)) members k i

-- no cycle leads through an attempt whose tickets are greater than all others
pub no_cycle_above : (g : Tid) (tickets : List SiteTicket) (others : List Ticketed) (vote : SiteId → Option ℕ) → ((k : SiteTicket) → In k tickets → vote k.site ≡ Some k.ticket)
    → ((c : Ticketed) → In c others → c.tid ≡ g → ⊥) → ((site : SiteId) (n : ℕ) (c : Ticketed) (k : SiteTicket) → vote site ≡ Some n → In c others → In k c.tickets → k.site ≡ site → k.ticket < n)
    → cycle_through edge_between (record { tid = g; tickets = tickets }) others ≡ None
no_cycle_above g tickets others vote named new above = by_cycle (cycle_through edge_between me others) refl
  where
    me : Ticketed
    me = record { tid = g; tickets = tickets }

    same_some : {x y : ℕ} → Some x ≡ Some y → x ≡ y
    same_some e = cc

    no_edge : (e : Edge) → IsEdge (me ∷ others) e → e.from ≡ g → ⊥
    no_edge e h f = by_from h.has_from
      where
        p : Precedes h.from h.to e.site
        p = h.precedes

        by_to : vote e.site ≡ Some p.smaller.ticket → In h.to (me ∷ others) → ⊥
        by_to v (inl same) =
            let mine : vote e.site ≡ Some p.greater.ticket = ap vote (sym p.here) ∙ named p.greater (subst (λ (z : Ticketed). In p.greater z.tickets) (sym same) p.second) in
            let equal = same_some (sym v ∙ mine) in
            let less = p.less in omega (arith, less, equal)
        by_to v (inr i) =
            let below = above e.site p.smaller.ticket h.to p.greater v i p.second p.here in
            let less = p.less in omega (arith, less, below)

        by_from : In h.from (me ∷ others) → ⊥
        by_from (inr i) = new h.from i (h.leaves ∙ f)
        by_from (inl same) = by_to (ap vote (sym p.there) ∙ named p.smaller (subst (λ (z : Ticketed). In p.smaller z.tickets) (sym same) p.first)) h.has_to

    no_edges : (es : List Edge) → IsCycle (me ∷ others) g es → ⊥
    no_edges [] h = h.some refl
    no_edges (e ∷ es) h = no_edge e h.edges.0 h.round.0

    by_cycle : (o : Option (List Edge)) → cycle_through edge_between me others ≡ o → cycle_through edge_between me others ≡ None
    by_cycle None e = e
    by_cycle (Some es) e = absurd (no_edges es (cycle_found me others es e))

module _ (published_law : CommittedTicketsArePublished) (scenario : Scenario) (whole : IsScenario scenario) (g : Tid) (prog : List Step) (all_declared : (site : SiteId) → visits site prog ≡ true → Among (λ (p : Participant). p.site ≡ site) (protocols scenario))
    (commands : List Command) (en : Entry) (queue : List Entry) (flow : Flow scenario g prog (story_of scenario commands) (en ∷ queue)) (home : Home) (declared : home_of scenario home.site ≡ Some home) (here : home.site ≡ site_of en)
    (me : Run) (n : ℕ) (own : me.tid ≡ g) (alone : IsAlone (epoch_start home (past_of home.site (story_of scenario commands))) (engine_lines (past_of home.site (story_of scenario commands))) me)
    (gives : of_give home (past_of home.site (story_of scenario commands)) (message_of g en.due) ≡ votes_yes home (past_of home.site (story_of scenario commands)) g (epoch home (past_of home.site (story_of scenario commands))) (done me) me n)
    (ticket : me.ticket ≡ Some n) (visited : visits home.site prog ≡ true) (none_left : visits home.site (drop (steps_of (counted (coord_past (story_of scenario commands)) g)) prog) ≡ false)
    (has_ticket_here : ticket_of (counted (coord_past (story_of scenario commands)) g) home.site ≡ true) (unvoted_here : vote_at (coord_past (story_of scenario commands)) g home.site ≡ None)
    (due : en.due ≡ Due_is.Prepare home.site (epoch_of (counted (coord_past (story_of scenario commands)) g) home.site) (count_of (counted (coord_past (story_of scenario commands)) g) home.site)) where
  abbrev story : Story
  story = story_of scenario commands

  abbrev past : CoordPast
  past = coord_past (story_of scenario commands)

  abbrev replies : List Counted
  replies = counted (coord_past (story_of scenario commands)) g

  abbrev votes : SiteId → Option ℕ
  votes = vote_at (coord_past (story_of scenario commands)) g

  abbrev here_past : SitePast
  here_past = past_of home.site (story_of scenario commands)

  abbrev event : CoordEvent
  event = Ev.Take home.site (From.Vote g (Some n))

  abbrev x : SiteHappening
  x = votes_yes home (past_of home.site (story_of scenario commands)) g (epoch home (past_of home.site (story_of scenario commands))) (done me) me n

  abbrev pub members : List Participant
  members = members_of scenario prog

  abbrev now_votes : SiteId → Option ℕ
  now_votes = voted home.site n (vote_at (coord_past (story_of scenario commands)) g)

  -- the vote counts
  pub vote_counts_it : of_take (protocols scenario) (policy scenario) past home.site (From.Vote g (Some n)) ≡ yes_vote (protocols scenario) past event g
  unfolding of_take of_vote vote_counted
  vote_counts_it = when-true _ _ _ (ap₂ (λ (a b : Bool). a && b) flow.undecided (ap is_due_vote (ap (outstanding past g) here ∙ flow.queued.0.is_due) ∙ ap (λ o. is_due_vote (Some o)) due))

  -- the exchange, whatever the coordinator makes of the vote
  pub exchange : (y : CoordHappening) → yes_vote (protocols scenario) past event g ≡ y → stops y.answer ≡ false → Coordinator.trip_of y.event ≡ None
      → IsExchange scenario commands home en.place (message_of g en.due) x (From.Vote g (Some n)) y
  unfolding votes_yes
  exchange y e s u = record {
    calm = flow.calm;
    declared = declared;
    there = subst (λ z. item_at (sent_to z story) en.place ≡ Some (message_of g en.due)) (sym here) flow.queued.0.there;
    gives = gives;
    sends = refl;
    stays = refl;
    unarmed = refl;
    takes = vote_counts_it ∙ e;
    goes = s;
    unset = u;
  }

  vote_own : now_votes home.site ≡ Some n
  vote_own = ap (λ b. or_vote (cond b (Some n) None) (votes home.site)) (same_site-refl home.site)

  vote_other : (site : SiteId) → same_site home.site site ≡ false → now_votes site ≡ votes site
  vote_other site q = ap (λ b. or_vote (cond b (Some n) None) (votes site)) q

  same_home : (other : Home) → home_of scenario other.site ≡ Some other → same_site home.site other.site ≡ true → home ≡ other
  same_home other d q = one_home scenario home other declared d (same_site-equal home.site other.site q)

  not_away : visits home.site prog ≡ false → ⊥
  not_away v = (let clash = sym visited ∙ v in cc)

  -- its vote is above all committed tickets of the site
  own_above : (commit : Ticketed) (k : SiteTicket) → In commit (commits (Coordinator.records past)) → In k commit.tickets → k.site ≡ home.site → k.ticket < n
  own_above commit k i j f =
      let most = published_law scenario commands home commit k whole declared i j f in
      let next = alone.ticket n ticket in omega (arith, most, next)

  all_above : (site : SiteId) (m : ℕ) (commit : Ticketed) (k : SiteTicket) → now_votes site ≡ Some m → In commit (commits (Coordinator.records past)) → In k commit.tickets → k.site ≡ site → k.ticket < m
  all_above site m commit k v i j f = by_test (same_site home.site site) refl
    where
      some_same : {a b : ℕ} → Some a ≡ Some b → a ≡ b
      some_same e = cc

      by_test : (b : Bool) → same_site home.site site ≡ b → k.ticket < m
      by_test false q = flow.above site m commit k (sym (vote_other site q) ∙ v) i j f
      by_test true q =
          let at = same_site-equal home.site site q in
          let same : n ≡ m = some_same (sym vote_own ∙ (ap now_votes at ∙ v)) in
          subst (λ z. k.ticket < z) same (own_above commit k i j (f ∙ sym at))

  -- who has voted is done
  all_finished : (site : SiteId) (m : ℕ) → now_votes site ≡ Some m → (visits site (drop (steps_of replies) prog) ≡ false) × (ticket_of replies site ≡ true)
  all_finished site m v = by_test (same_site home.site site) refl
    where
      by_test : (b : Bool) → same_site home.site site ≡ b → (visits site (drop (steps_of replies) prog) ≡ false) × (ticket_of replies site ≡ true)
      by_test false q = flow.finished site m (sym (vote_other site q) ∙ v)
      by_test true q = subst (λ s. (visits s (drop (steps_of replies) prog) ≡ false) × (ticket_of replies s ≡ true)) (same_site-equal home.site site q) (none_left, has_ticket_here)

  not_due : (site : SiteId) (m : ℕ) (o : Due) → now_votes site ≡ Some m → due_of prog replies now_votes site ≡ Some o → ⊥
  not_due site m o v f = by_kind (due_kind prog replies now_votes site o f)
    where
      done_there : (visits site (drop (steps_of replies) prog) ≡ false) × (ticket_of replies site ≡ true)
      done_there = all_finished site m v

      by_kind : IsDue prog replies (now_votes site) site o → ⊥
      by_kind (AtWork step w l i q e) = (let none = done_there.0 in let clash = sym none ∙ l in cc)
      by_kind (AtTake w l t e) = (let has = done_there.1 in let clash = sym t ∙ has in cc)
      by_kind (AtPrepare w l t k e) = (let clash = sym k ∙ v in cc)

  -- behind the exchange
  module _ (y : CoordHappening) (ex : IsExchange scenario commands home en.place (message_of g en.due) x (From.Vote g (Some n)) y) where
    abbrev pub answered : List Command
    answered = both scenario commands home en.place (message_of g en.due) x (From.Vote g (Some n)) y ex

    abbrev pub mid : Story
    mid = story_of scenario (with_give scenario commands home en.place (message_of g en.due) x (From.Vote g (Some n)) y ex)

    pub coord_now : coord_past (story_of scenario answered) ≡ y ∷ past
    coord_now = coord_both scenario commands home en.place (message_of g en.due) x (From.Vote g (Some n)) y ex

    pub past_here : past_of home.site (story_of scenario answered) ≡ x ∷ here_past
    past_here = past_both scenario commands home en.place (message_of g en.due) x (From.Vote g (Some n)) y ex home.site ∙ past_given scenario commands home en.place (message_of g en.due) x (From.Vote g (Some n)) y ex

    pub past_there : (site : SiteId) → same_site home.site site ≡ false → past_of site (story_of scenario answered) ≡ past_of site story
    past_there site q = past_both scenario commands home en.place (message_of g en.due) x (From.Vote g (Some n)) y ex site ∙ other_given scenario commands home en.place (message_of g en.due) x (From.Vote g (Some n)) y ex site q

    pub stage_at : (other : Home) → home_of scenario other.site ≡ Some other → visits other.site prog ≡ true → Stage other (past_of other.site (story_of scenario answered)) g (count_of replies other.site) (epoch_of replies other.site) (ticket_of replies other.site) (now_votes other.site)
    stage_at other d v = by_test (same_site home.site other.site) refl
      where
        by_test : (b : Bool) → same_site home.site other.site ≡ b → Stage other (past_of other.site (story_of scenario answered)) g (count_of replies other.site) (epoch_of replies other.site) (ticket_of replies other.site) (now_votes other.site)
        by_test true q =
            subst (λ h. Stage h (past_of h.site (story_of scenario answered)) g (count_of replies h.site) (epoch_of replies h.site) (ticket_of replies h.site) (now_votes h.site)) (same_home other d q)
            (subst (λ p. Stage home p g (count_of replies home.site) (epoch_of replies home.site) (ticket_of replies home.site) (now_votes home.site)) (sym past_here)
            (subst (λ z. Stage home (x ∷ here_past) g (count_of replies home.site) (epoch_of replies home.site) (ticket_of replies home.site) z) (sym vote_own)
            (prepare_stage home here_past g me n (count_of replies home.site) (epoch_of replies home.site) (ticket_of replies home.site) own alone)))
        by_test false q =
            subst (λ p. Stage other p g (count_of replies other.site) (epoch_of replies other.site) (ticket_of replies other.site) (now_votes other.site)) (sym (past_there other.site q))
            (subst (λ z. Stage other (past_of other.site story) g (count_of replies other.site) (epoch_of replies other.site) (ticket_of replies other.site) z) (sym (vote_other other.site q)) (flow.stages other d v))

    pub doubt_at : (other : Home) (tid : Tid) → home_of scenario other.site ≡ Some other → same_tid g tid ≡ false → doubt_of (records other (past_of other.site (story_of scenario answered))) tid ≡ None
    unfolding votes_yes
    doubt_at other tid d apart = by_test (same_site home.site other.site) refl
      where
        by_test : (b : Bool) → same_site home.site other.site ≡ b → doubt_of (records other (past_of other.site (story_of scenario answered))) tid ≡ None
        by_test false q = ap (λ p. doubt_of (records other p) tid) (past_there other.site q) ∙ flow.doubts other tid d apart
        by_test true q =
            subst (λ h. doubt_of (records h (past_of h.site (story_of scenario answered))) tid ≡ None) (same_home other d q)
            (ap (λ p. doubt_of (records home p) tid) past_here ∙ (cond-false _ _ _ apart ∙ flow.doubts home tid declared apart))

    pub away_at : (other : Home) (tid : Tid) → home_of scenario other.site ≡ Some other → visits other.site prog ≡ false
        → (live other (past_of other.site (story_of scenario answered)) tid ≡ None) × (doubt_of (records other (past_of other.site (story_of scenario answered))) tid ≡ None)
    away_at other tid d v = by_test (same_site home.site other.site) refl
      where
        by_test : (b : Bool) → same_site home.site other.site ≡ b → (live other (past_of other.site (story_of scenario answered)) tid ≡ None) × (doubt_of (records other (past_of other.site (story_of scenario answered))) tid ≡ None)
        by_test false q = let f = flow.away other tid d v in (ap (λ p. live other p tid) (past_there other.site q) ∙ f.0, ap (λ p. doubt_of (records other p) tid) (past_there other.site q) ∙ f.1)
        by_test true q = absurd (not_away (ap (λ s. visits s prog) (same_site-equal home.site other.site q) ∙ v))

    pub delivered_on : (m : ℕ) → deliver_all scenario (suc m) (map place_of (en ∷ queue)) commands ≡ deliver_all scenario m (map place_of queue ++ places_of mid (AtCoordinator y)) answered
    delivered_on m =
        ap (λ s. deliver_all scenario (suc m) (record { site = s; place = en.place } ∷ map place_of queue) commands) (sym here)
        ∙ goes_on scenario commands home en.place (message_of g en.due) x (From.Vote g (Some n)) y ex m (map place_of queue)

  -- a vote that isn't the last one
  pub waits_on : all_voted (quiet event Say.Voted ∷ past) g (participants (protocols scenario) past g) ≡ false → Advances scenario g prog commands en queue
  unfolding yes_vote
  waits_on missing = record {
    next = answered y ex;
    left = queue;
    flow = record {
      calm = calm_both scenario commands home en.place (message_of g en.due) x (From.Vote g (Some n)) y ex;
      undecided = ap (λ p. is_open p g) (coord_now y ex) ∙ views.undecided flow.undecided;
      program_is = ap (λ p. program p g) (coord_now y ex) ∙ flow.program_is;
      others = λ tid q. ap (λ p. standing (protocols scenario) p tid) (coord_now y ex) ∙ views.others (protocols scenario) tid (flow.others tid q);
      stages = λ other d v.
          subst (λ rs. Stage other (past_of other.site (story_of scenario (answered y ex))) g (count_of rs other.site) (epoch_of rs other.site) (ticket_of rs other.site) (vote_at (coord_past (story_of scenario (answered y ex))) g other.site)) (sym counted_now)
          (subst (λ z. Stage other (past_of other.site (story_of scenario (answered y ex))) g (count_of replies other.site) (epoch_of replies other.site) (ticket_of replies other.site) z) (sym (vote_now other.site)) (stage_at y ex other d v));
      doubts = doubt_at y ex;
      away = away_at y ex;
      above = λ site m commit k v i j f. all_above site m commit k (sym (vote_now site) ∙ v) (subst (λ cs. In commit cs) (ap (λ p. commits (Coordinator.records p)) (coord_now y ex) ∙ views.commits_are) i) j f;
      finished = λ site m v. subst (λ rs. (visits site (drop (steps_of rs) prog) ≡ false) × (ticket_of rs site ≡ true)) (sym counted_now) (all_finished site m (sym (vote_now site) ∙ v));
      tickets_last = λ site t. subst (λ rs. visits site (drop (steps_of rs) prog) ≡ false) (sym counted_now) (flow.tickets_last site (sym (ap (λ rs. ticket_of rs site) counted_now) ∙ t));
      worked = λ site v l. subst (λ rs. 1 ≤ count_of rs site) (sym counted_now) (flow.worked site v (sym (ap (λ rs. visits site (drop (steps_of rs) prog)) counted_now) ∙ l));
      queued = each_from (IsQueued g (story_of scenario (answered y ex))) queue queued_now;
      apart = flow.apart.1;
      whole = whole_now;
      unvoted = among_weaker (λ (m : Participant). is_some (vote_at (quiet event Say.Voted ∷ past) g m.site) ≡ false) (λ (m : Participant). vote_at (coord_past (story_of scenario (answered y ex))) g m.site ≡ None)
          (λ m f. none_of _ (ap (λ p. is_some (vote_at p g m.site)) (coord_now y ex) ∙ f)) members
          (subst (λ p. Among (λ (m : Participant). is_some (vote_at (quiet event Say.Voted ∷ past) g m.site) ≡ false) (participants_of (protocols scenario) p)) flow.program_is
          (each_of_false (λ (m : Participant). is_some (vote_at (quiet event Say.Voted ∷ past) g m.site)) (participants (protocols scenario) past g) missing));
      few = subst (λ rs. steps_of rs ≤ length prog) (sym counted_now) flow.few;
    };
    same = λ m. delivered_on y ex m ∙ ap (λ ps. deliver_all scenario m ps (answered y ex)) (append-nil (map place_of queue));
    more = more_now;
  }
    where
      y : CoordHappening
      y = quiet event Say.Voted

      ex : IsExchange scenario commands home en.place (message_of g en.due) x (From.Vote g (Some n)) y
      ex = exchange y (when-false _ _ _ missing) refl refl

      views : Views g past y replies now_votes
      views = vote_views g past home.site n

      none_of : (o : Option ℕ) → is_some o ≡ false → o ≡ None
      none_of None f = refl
      none_of (Some k) f = cc

      counted_now : counted (coord_past (story_of scenario (answered y ex))) g ≡ replies
      counted_now = ap (λ p. counted p g) (coord_now y ex)

      vote_now : (site : SiteId) → vote_at (coord_past (story_of scenario (answered y ex))) g site ≡ now_votes site
      vote_now site = ap (λ p. vote_at p g site) (coord_now y ex) ∙ views.votes_are site

      due_after : (site : SiteId) → outstanding (coord_past (story_of scenario (answered y ex))) g site ≡ due_of prog replies now_votes site
      due_after site = ap (λ p. outstanding p g site) (coord_now y ex) ∙ (due_now g past y replies now_votes site views ∙ ap (λ p. due_of p replies now_votes site) flow.program_is)

      due_before : (site : SiteId) → outstanding past g site ≡ due_of prog replies votes site
      due_before site = due_is past g site ∙ ap (λ p. due_of p replies votes site) flow.program_is

      same_due : (site : SiteId) → same_site home.site site ≡ false → outstanding (coord_past (story_of scenario (answered y ex))) g site ≡ outstanding past g site
      same_due site q = due_after site ∙ (ap (λ z. due_by prog replies z site) (vote_other site q) ∙ sym (due_before site))

      elsewhere : (entry : Entry) → In entry queue → same_site home.site (site_of entry) ≡ false
      elsewhere entry i = ap (λ s. same_site s (site_of entry)) here ∙ each_at (λ (z : Entry). same_site (site_of en) (site_of z) ≡ false) entry queue flow.apart.0 i

      queued_now : (entry : Entry) → In entry queue → IsQueued g (story_of scenario (answered y ex)) entry
      queued_now entry i =
          let was = each_at (IsQueued g story) entry queue flow.queued.1 i in
          record {
            is_due = same_due (site_of entry) (elsewhere entry i) ∙ was.is_due;
            there = ap (λ ms. item_at ms entry.place) (sent_both scenario commands home en.place (message_of g en.due) x (From.Vote g (Some n)) y ex (site_of entry))
                ∙ item_at-front (sent_to (site_of entry) story) [] entry.place (message_of g entry.due) was.there;
          }

      whole_now : (site : SiteId) (o : Due) → outstanding (coord_past (story_of scenario (answered y ex))) g site ≡ Some o → Among (λ entry. site_of entry ≡ site) queue
      whole_now site o f = by_test (same_site home.site site) refl
        where
          by_test : (b : Bool) → same_site home.site site ≡ b → Among (λ entry. site_of entry ≡ site) queue
          by_test true q = absurd (not_due site n o (ap now_votes (sym (same_site-equal home.site site q)) ∙ vote_own) (sym (due_after site) ∙ f))
          by_test false q = elim (flow.whole site o (sym (same_due site q) ∙ f)) [
            | inl at ↦
                let t : same_site site site ≡ false = ap (λ s. same_site s site) (sym (here ∙ at)) ∙ q in
                let yes = same_site-refl site in
                let clash = sym t ∙ yes in cc
            | inr i ↦ i
          ]

      more_now : weight_of g story members + 1 ≤ weight_of g (story_of scenario (answered y ex)) members
      more_now =
          let (m, i, at) = member_there scenario prog home.site (all_declared home.site visited) visited in
          let votes_more = one_more_passes (λ (p : Participant). is_some (votes p.site)) (λ (p : Participant). is_some (vote_at (coord_past (story_of scenario (answered y ex))) g p.site)) members m
          (λ p f. ap is_some (vote_now p.site) ∙ still_some (same_site home.site p.site) (votes p.site) f) i
          (ap (λ s. is_some (votes s)) at ∙ ap is_some unvoted_here) (ap (λ s. is_some (vote_at (coord_past (story_of scenario (answered y ex))) g s)) at ∙ (ap is_some (vote_now home.site) ∙ ap is_some vote_own)) in
          subst (λ rs. weight_of g story members + 1 ≤ weight rs (vote_at (coord_past (story_of scenario (answered y ex))) g) members) (sym counted_now) (omega (arith, votes_more))
        where
          still_some : (b : Bool) (o : Option ℕ) → is_some o ≡ true → is_some (or_vote (cond b (Some n) None) o) ≡ true
          still_some true o f = refl
          still_some false o f = f

  -- the last vote finds no cycle
  pub last_commits : all_voted (quiet event Say.Voted ∷ past) g (participants (protocols scenario) past g) ≡ true
      → yes_vote (protocols scenario) past event g ≡ commits_it (protocols scenario) past event g (vote_tickets (quiet event Say.Voted ∷ past) g (participants (protocols scenario) past g))
  unfolding yes_vote last_vote given
  last_commits all =
      when-true _ _ _ all
      ∙ ap (λ o. given o (λ edges. aborts (protocols scenario) past event g (For.Cycle edges)) (commits_it (protocols scenario) past event g tickets)) none
    where
      tickets : List SiteTicket
      tickets = vote_tickets (quiet event Say.Voted ∷ past) g (participants (protocols scenario) past g)

      none : cycle_through edge_between (record { tid = g; tickets = tickets }) (commits (Coordinator.records past)) ≡ None
      none = no_cycle_above g tickets (commits (Coordinator.records past)) (vote_at (quiet event Say.Voted ∷ past) g)
          (named_votes (quiet event Say.Voted ∷ past) g (participants (protocols scenario) past g))
          (λ c i e. ((coord-sound scenario nowhere g commands).marked (commit_mark g (Coordinator.records past) (commit_in g (Coordinator.records past) c i e))).1 (open_undecided (protocols scenario) past g flow.undecided))
          (λ site m c k v i j f. all_above site m c k (sym ((vote_views g past home.site n).votes_are site) ∙ v) i j f)

  -- nothing is left in the queue then
  pub none_queued : all_voted (quiet event Say.Voted ∷ past) g (participants (protocols scenario) past g) ≡ true → queue ≡ []
  none_queued all = by_queue queue refl
    where
      some_of_it : (o : Option ℕ) → is_some o ≡ true → (m : ℕ) × (o ≡ Some m)
      some_of_it None f = cc
      some_of_it (Some m) f = (m, refl)

      by_queue : (q : List Entry) → queue ≡ q → queue ≡ []
      by_queue [] e = e
      by_queue (entry ∷ rest) e = absurd (by_due (due_kind prog replies votes (site_of entry) entry.due out))
        where
          i : In entry queue
          i = subst (λ es. In entry es) (sym e) (inl refl)

          out : due_of prog replies votes (site_of entry) ≡ Some entry.due
          out = ap (λ p. due_of p replies votes (site_of entry)) (sym flow.program_is) ∙ (sym (due_is past g (site_of entry)) ∙ (each_at (IsQueued g story) entry queue flow.queued.1 i).is_due)

          other : same_site home.site (site_of entry) ≡ false
          other = ap (λ s. same_site s (site_of entry)) here ∙ each_at (λ (z : Entry). same_site (site_of en) (site_of z) ≡ false) entry queue flow.apart.0 i

          voted_there : visits (site_of entry) prog ≡ true → (m : ℕ) × (now_votes (site_of entry) ≡ Some m)
          voted_there v =
              let (p, j, at) = member_there scenario prog (site_of entry) (all_declared (site_of entry) v) v in
              let yes = each_of_at (λ (m : Participant). is_some (vote_at (quiet event Say.Voted ∷ past) g m.site)) (participants (protocols scenario) past g) p all (subst (λ z. In p (participants_of (protocols scenario) z)) (sym flow.program_is) j) in
              some_of_it (now_votes (site_of entry)) (ap (λ s. is_some (now_votes s)) (sym at) ∙ (ap is_some (sym ((vote_views g past home.site n).votes_are p.site)) ∙ yes))

          over : visits (site_of entry) prog ≡ true → ⊥
          over v =
              let (m, f) = voted_there v in
              not_due (site_of entry) m entry.due f (ap (λ z. due_by prog replies z (site_of entry)) (vote_other (site_of entry) other) ∙ out)

          by_due : IsDue prog replies (votes (site_of entry)) (site_of entry) entry.due → ⊥
          by_due (AtWork step v l k q f) = over v
          by_due (AtTake v l t f) = over v
          by_due (AtPrepare v l t k f) = over v
