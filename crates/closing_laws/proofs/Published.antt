-- At each site the published ticket is the greatest of all that are kept, and so not less than those of the Commit records.
use Rattle.std.proofs.Common.{◌≡◌, ℕ, ◌≤◌, ◌⊎◌, Bool, true, false, cond, ◌||◌, ◌==◌, Option, Some, None, List, [], ◌∷◌, ◌++◌, inl, inr, refl, sym, ap, subst, ◌∙◌, arith}
use Rattle.mdb_base.specs.declared.acts.PlainAct.{PlainAct}
use Rattle.mdb_base.specs.declared.rows.Put.{Put}
use Rattle.mdb_base.specs.declared.names.SiteTicket.{SiteTicket}
use Rattle.mdb_base.specs.declared.names.Tid.{Tid}
use Rattle.mdb_base.specs.Names.{same_site}
use Rattle.mdb_base.specs.Words.{Each, Among, when, given, or_else}
use Rattle.mdb_base.proofs.ForCallers.{among_append, same_site-equal}
use Rattle.presumptions.specs.declared.Decision.{Decision}
use Rattle.order_laws.specs.Chains.{In}
use Rattle.order_laws.specs.Tickets.{Ticketed}
use Rattle.order_laws.proofs.ForCallers.{each_at}
use Rattle.fed_rules.specs.declared.answers.Answer.TheVariants as Say
use Rattle.fed_rules.specs.declared.commands.Command.{Command}
use Rattle.fed_rules.specs.declared.events.SiteEvent.{SiteEvent}
use Rattle.fed_rules.specs.declared.events.SiteEvent.TheVariants as Ev
use Rattle.fed_rules.specs.declared.events.CoordEvent.{CoordEvent}
use Rattle.fed_rules.specs.declared.events.CoordEvent.TheVariants as Ev_coord
use Rattle.fed_rules.specs.declared.messages.FromSite.TheVariants as From
use Rattle.fed_rules.specs.declared.messages.ToSite.TheVariants as To
use Rattle.fed_rules.specs.declared.records.CoordRecord.{CoordRecord}
use Rattle.fed_rules.specs.declared.records.CoordRecord.TheVariants as Commit_rec
use Rattle.fed_rules.specs.declared.records.SiteRecord.{SiteRecord}
use Rattle.fed_rules.specs.declared.records.SiteRecord.TheVariants as Rec
use Rattle.fed_rules.specs.declared.scenario.Scenario.{Scenario}
use Rattle.fed_rules.specs.Coord.{vote_tickets}
use Rattle.fed_rules.specs.CoordPast as Coordinator
use Rattle.fed_rules.specs.CoordPast.{CoordPast, participants, vote_at, or_vote}
use Rattle.fed_rules.specs.CoordRecords.{coord_frame, commits}
use Rattle.fed_rules.specs.Disk.{Call, Append, Sync, CutBack, Stops, Disk, after_calls, TrimFront}
use Rattle.fed_rules.specs.Happenings.{Trip, quiet, stops, comes_up, is_down, stopped, tripped}
use Rattle.fed_rules.specs.Plans.{IsScenario}
use Rattle.fed_rules.specs.Runs.{Start, EngineLine, Run, run_at, published}
use Rattle.fed_rules.specs.Scenarios.{protocols}
use Rattle.fed_rules.specs.Site.{site_line, site_past, answered, of_begin, reply_to, of_act, stop_of, seals_local, of_commit, of_abort, of_fate, did, unknown, first_work, next_work, next_take, repeated, work_live, of_work, take_live, of_take, votes_again, votes_no, votes_yes, seals_global, prepare_live, of_prepare, settles, unheld, of_decide, of_give, of_ask, of_drop, of_back, number_of, of_check}
use Rattle.fed_rules.specs.SitePast.{SiteHappening, SitePast, disk, records, trip, epoch_start, engine_lines, live, live_of_tx, attempts_of}
use Rattle.fed_rules.specs.SiteRecords.{Home, site_frame, start_of, last_ticket, local_of, doubt_of}
use Rattle.fed_rules.specs.Story.{Story, Happened, AtSite, AtCoordinator, Nowhere, past_of, coord_past, with_coordinator, sent_from, sends_from, happens, story_of}
use Rattle.fed_rules.specs.Pasts.{PastsAreMadeByEvents}
use Rattle.site_history.specs.Records.{IsPrepared}
use Rattle.engine_laws.proofs.ForCallers.{published_at, published_grows}
use Rattle.coord_laws.proofs.ForCallers.{IsLastVote, Writes, among_commit, commits_whole}
use Rattle.federation_laws.proofs.ForCallers.{CoordCause, IsLine, IsSaid, coord-made, line_is, story-agrees, story-holds, votes-sent}
use Rattle.site_history.proofs.ForCallers.{act_plain, live_is, refusal_plain}
use Rattle.commit_laws.proofs.ForCallers.{settles-records}
use Rattle.closing_laws.specs.Given.{CommittedTicketsArePublished}
use Rattle.closing_laws.proofs.CoordView.{voted, vote_views}
use Rattle.closing_laws.proofs.FlowVotes.{commit_in, named_votes}

-- the published ticket isn't less than that of any record
record IsPublished (home : Home) (past : SitePast) : Type 0 where
  below : last_ticket (records home past) ≤ published (epoch_start home past) (engine_lines past)

grows_all : (start : Start) (older lines : List EngineLine) → published start older ≤ published start (lines ++ older)
grows_all start older [] = omega arith
grows_all start older (line ∷ lines) = let rest = grows_all start older lines in let one = published_grows start (lines ++ older) line in omega (arith, rest, one)

module _ (home : Home) (past : SitePast) (h : IsPublished home past) where
  -- a line that stops or starts the site
  renews : (x : SiteHappening) → (stops x.answer || comes_up x.answer) ≡ true → IsPublished home (x ∷ past)
  renews x e = record {
    below = subst (λ b. last_ticket (records home (x ∷ past)) ≤ published (cond b (start_of home (records home (x ∷ past))) (epoch_start home past)) (cond b [] (x.lines ++ engine_lines past))) (sym e) (omega arith);
  }

  plainly : (x : SiteHappening) → (stops x.answer || comes_up x.answer) ≡ false → last_ticket (records home (x ∷ past)) ≤ published (epoch_start home past) (x.lines ++ engine_lines past) → IsPublished home (x ∷ past)
  plainly x e le = record {
    below = subst (λ b. last_ticket (records home (x ∷ past)) ≤ published (cond b (start_of home (records home (x ∷ past))) (epoch_start home past)) (cond b [] (x.lines ++ engine_lines past))) (sym e) le;
  }

  -- one that appends no Prepared record
  unprepared : (x : SiteHappening) → (stops x.answer || comes_up x.answer) ≡ false → last_ticket (records home (x ∷ past)) ≡ last_ticket (records home past) → IsPublished home (x ∷ past)
  unprepared x e same = plainly x e (let grown = grows_all (epoch_start home past) (engine_lines past) x.lines in let old = h.below in omega (arith, grown, old, same))

  below_when : (b : Bool) (x y : SiteHappening) → IsPublished home (x ∷ past) → IsPublished home (y ∷ past) → IsPublished home (when b x y ∷ past)
  unfolding when
  below_when true x y p q = p
  below_when false x y p q = q

  below_given : {A : Type 0} (o : Option A) (x : SiteHappening) (some : A → SiteHappening) → IsPublished home (x ∷ past) → ((z : A) → o ≡ Some z → IsPublished home (some z ∷ past)) → IsPublished home (given o some x ∷ past)
  unfolding given
  below_given None x some p q = p
  below_given (Some z) x some p q = q z refl

  below_tripped : (t : Option Trip) (x : SiteHappening) → IsPublished home (x ∷ past) → IsPublished home (tripped site_frame (disk home past) t x ∷ past)
  unfolding tripped stopped
  below_tripped None x p = p
  below_tripped (Some t) x p = below_when _ _ _ (renews _ refl) p

  below_up : (event : SiteEvent) (x : SiteHappening) → IsPublished home (x ∷ past) → IsPublished home (when (is_down past) (quiet event Say.Down) (tripped site_frame (disk home past) (trip past) x) ∷ past)
  below_up event x p = below_when _ _ _ (unprepared _ refl refl) (below_tripped (trip past) x p)

  by_work : (tid : Tid) (e n : ℕ) (act : PlainAct) → IsPublished home (of_work home past tid e n act ∷ past)
  unfolding of_work work_live first_work next_work repeated unknown did
  by_work tid e n act =
      below_when _ _ _ (unprepared _ refl refl)
      (below_given (live home past tid) _ _ (below_when _ _ _ (unprepared _ refl refl) (unprepared _ refl refl))
      (λ run f. below_when _ _ _ (unprepared _ refl refl) (below_when _ _ _ (unprepared _ refl refl) (below_when _ _ _ (unprepared _ refl refl) (unprepared _ refl refl)))))

  by_take : (tid : Tid) (e n : ℕ) → IsPublished home (of_take home past tid e n ∷ past)
  unfolding of_take take_live next_take repeated unknown did
  by_take tid e n =
      below_when _ _ _ (unprepared _ refl refl)
      (below_given (live home past tid) _ _ (unprepared _ refl refl)
      (λ run f. below_when _ _ _ (unprepared _ refl refl) (below_when _ _ _ (unprepared _ refl refl) (below_when _ _ _ (unprepared _ refl refl) (unprepared _ refl refl)))))

  by_yes : (tid : Tid) (e n : ℕ) (run : Run) (ticket : ℕ) → live home past tid ≡ Some run → run.ticket ≡ Some ticket → IsPublished home (votes_yes home past tid e n run ticket ∷ past)
  unfolding votes_yes
  by_yes tid e n run ticket f t = plainly (votes_yes home past tid e n run ticket) refl
      (let at = published_at (epoch_start home past) (engine_lines past) tid (number_of home past run) run (live_is (run_at (epoch_start home past) (engine_lines past) tid) run f).0 in
      let own : or_else run.ticket 0 ≡ ticket = ap (λ o. or_else o 0) t in
      let old = h.below in omega (arith, at, own, old))

  by_prepare : (tid : Tid) (e n : ℕ) → IsPublished home (of_prepare home past tid e n ∷ past)
  unfolding of_prepare prepare_live seals_global votes_again votes_no
  by_prepare tid e n =
      below_given (doubt_of (records home past) tid) _ _
      (below_given (live home past tid) _ _ (unprepared _ refl refl)
      (λ run f. below_when _ _ _
      (below_given run.ticket _ _ (unprepared _ refl refl)
      (λ ticket t. below_given (stop_of home past run) _ _ (by_yes tid e n run ticket f t) (λ why s. unprepared _ refl refl)))
      (unprepared _ refl refl)))
      (λ held f. below_when _ _ _ (unprepared _ refl refl) (unprepared _ refl refl))

  by_settles : (tid : Tid) (decision : Decision) → IsPublished home (settles home tid decision ∷ past)
  unfolding settles
  by_settles tid decision = unprepared (settles home tid decision) refl (ap last_ticket (settles-records home past tid decision))

  by_decide : (tid : Tid) (decision : Decision) → IsPublished home (of_decide home past tid decision ∷ past)
  unfolding of_decide unheld
  by_decide tid decision =
      below_given (doubt_of (records home past) tid) _ _ (below_given (live home past tid) _ _ (unprepared _ refl refl) (λ run f. unprepared _ refl refl)) (λ held f. by_settles tid decision)

  by_line : (event : SiteEvent) → IsPublished home (site_line home past event ∷ past)
  unfolding site_line answered of_begin of_act of_commit of_abort of_fate of_give of_ask of_drop of_back of_check seals_local stopped
  by_line (Ev.Begin tid) = below_up _ _ (below_given _ _ _ (below_given _ _ _ (unprepared _ refl refl) (λ z f. unprepared _ refl refl)) (λ z f. unprepared _ refl refl))
  by_line (Ev.Act tid act) = below_up _ _ (below_given (live home past tid) _ _ (unprepared _ refl refl) (λ run f. unprepared _ (act_plain tid (reply_to home past run act) act) refl))
  by_line (Ev.Commit tid) = below_up _ _ (below_given (live home past tid) _ _ (unprepared _ refl refl) (λ run f. below_given (stop_of home past run) _ _ (unprepared _ refl refl) (λ why s. unprepared _ (refusal_plain why) refl)))
  by_line (Ev.Abort tid) = below_up _ _ (below_given (live home past tid) _ _ (unprepared _ refl refl) (λ run f. unprepared _ refl refl))
  by_line (Ev.Fate tx) = below_up _ _ (below_given (local_of (records home past) tx) _ _ (below_given (live_of_tx home past tx) _ _ (by_count (attempts_of past tx == 0)) (λ z f. unprepared _ refl refl)) (λ z f. unprepared _ refl refl))
    where
      by_count : (b : Bool) → IsPublished home (quiet (Ev.Fate tx) (cond b Say.Unbegun Say.Ended) ∷ past)
      by_count true = unprepared _ refl refl
      by_count false = unprepared _ refl refl
  by_line (Ev.Give (To.Work tid e n act)) = below_up _ _ (by_work tid e n act)
  by_line (Ev.Give (To.Take tid e n)) = below_up _ _ (by_take tid e n)
  by_line (Ev.Give (To.Prepare tid e n)) = below_up _ _ (by_prepare tid e n)
  by_line (Ev.Give (To.Decide tid decision)) = below_up _ _ (by_decide tid decision)
  by_line (Ev.Ask tid) = below_up _ _ (below_given (doubt_of (records home past) tid) _ _ (unprepared _ refl refl) (λ z f. unprepared _ refl refl))
  by_line (Ev.Drop tid) = below_up _ _ (below_when _ _ _ (unprepared _ refl refl) (below_given (live home past tid) _ _ (unprepared _ refl refl) (λ run f. unprepared _ refl refl)))
  by_line (Ev.Halt cut) = below_when _ _ _ (unprepared _ refl refl) (renews _ refl)
  by_line (Ev.Trip calls cut) = unprepared _ refl refl
  by_line Ev.Back = below_when _ _ _ (below_tripped (trip past) _ (renews _ refl)) (unprepared _ refl refl)
  by_line Ev.Check = below_up _ _ (below_when _ _ _ (unprepared _ refl refl) (unprepared _ refl refl))

pasts_published : (home : Home) (events : List SiteEvent) → IsPublished home (site_past home events)
pasts_published home [] = record { below = omega arith }
pasts_published home (event ∷ events) = by_line home (site_past home events) (pasts_published home events) event

-- a kept ticket isn't greater than the greatest
kept_ticket : (rs : List SiteRecord) (tid : Tid) (e n ticket : ℕ) (ws : List Put) → In (Rec.Prepared tid e n ticket ws) rs → ticket ≤ last_ticket rs
kept_ticket [] tid e n ticket ws i = absurd i
kept_ticket (Rec.Prepared t f m k us ∷ rs) tid e n ticket ws (inl same) = (let equal : k ≡ ticket = cc in omega (arith, equal))
kept_ticket (Rec.Prepared t f m k us ∷ rs) tid e n ticket ws (inr i) = (let le = kept_ticket rs tid e n ticket ws i in omega (arith, le))
kept_ticket (Rec.Setup a b c d ∷ rs) tid e n ticket ws (inl same) = cc
kept_ticket (Rec.Setup a b c d ∷ rs) tid e n ticket ws (inr i) = kept_ticket rs tid e n ticket ws i
kept_ticket (Rec.Checkpoint a ∷ rs) tid e n ticket ws (inl same) = cc
kept_ticket (Rec.Checkpoint a ∷ rs) tid e n ticket ws (inr i) = kept_ticket rs tid e n ticket ws i
kept_ticket (Rec.Start a ∷ rs) tid e n ticket ws (inl same) = cc
kept_ticket (Rec.Start a ∷ rs) tid e n ticket ws (inr i) = kept_ticket rs tid e n ticket ws i
kept_ticket (Rec.Ended a b ∷ rs) tid e n ticket ws (inl same) = cc
kept_ticket (Rec.Ended a b ∷ rs) tid e n ticket ws (inr i) = kept_ticket rs tid e n ticket ws i
kept_ticket (Rec.Local a b c ∷ rs) tid e n ticket ws (inl same) = cc
kept_ticket (Rec.Local a b c ∷ rs) tid e n ticket ws (inr i) = kept_ticket rs tid e n ticket ws i

-- a Commit record is an old one, or a call of the line appends it
abbrev AppendsIt : Ticketed → Call CoordRecord → Type 0
AppendsIt node call = call ≡ Append (Commit_rec.Commit node.tid node.tickets)

one_more : (node : Ticketed) (r : CoordRecord) (rs : List CoordRecord) → In node (commits (r ∷ rs)) → In node (commits rs) ⊎ (r ≡ Commit_rec.Commit node.tid node.tickets)
one_more node (Commit_rec.Commit tid tickets) rs (inl e) = inr (ap (λ (n : Ticketed). Commit_rec.Commit n.tid n.tickets) e)
one_more node (Commit_rec.Commit tid tickets) rs (inr i) = inl i
one_more node (Commit_rec.Initiation tid members) rs i = inl i
one_more node (Commit_rec.End tid) rs i = inl i
one_more node (Commit_rec.Abort tid members) rs i = inl i
one_more node (Commit_rec.Checkpoint sum) rs i = inl i

commit_from : (calls : List (Call CoordRecord)) (d : Disk CoordRecord) (node : Ticketed) → In node (commits (after_calls coord_frame d calls).records) → In node (commits d.records) ⊎ Among (AppendsIt node) calls
commit_from [] d node i = inl i
commit_from (Append r ∷ calls) d node i = elim (commit_from calls _ node i) [
  | inl k ↦ elim (one_more node r d.records k) [ inl old ↦ inl old | inr new ↦ inr (inl (ap (λ q. Append q) new)) ]
  | inr k ↦ inr (inr k)
]
commit_from (Sync ∷ calls) d node i = elim (commit_from calls _ node i) [ inl k ↦ inl k | inr k ↦ inr (inr k) ]
commit_from (TrimFront ∷ calls) d node i = elim (commit_from calls _ node i) [ inl k ↦ inl k | inr k ↦ inr (inr k) ]
commit_from (CutBack ∷ calls) d node i = elim (commit_from calls _ node i) [ inl k ↦ inl k | inr k ↦ inr (inr k) ]
commit_from (Stops cut ∷ calls) d node i = elim (commit_from calls _ node i) [ inl k ↦ inl (commits_whole _ d.records node k) | inr k ↦ inr (inr k) ]

last_vote_of : (scenario : Scenario) (past : CoordPast) (event : CoordEvent) (node : Ticketed) (calls : List (Call CoordRecord)) → Each (Writes (protocols scenario) past event) calls → Among (AppendsIt node) calls
    → IsLastVote (protocols scenario) past event node.tid node.tickets
last_vote_of scenario past event node [] w i = absurd i
last_vote_of scenario past event node (call ∷ calls) w (inl e) = subst (Writes (protocols scenario) past event) e w.0
last_vote_of scenario past event node (call ∷ calls) w (inr i) = last_vote_of scenario past event node calls w.1 i

-- each ticket of a Commit record was a vote that its site sent
ticket_sent : (scenario : Scenario) → IsScenario scenario → (commands : List Command) (node : Ticketed) (k : SiteTicket) → In node (commits (Coordinator.records (coord_past (story_of scenario commands)))) → In k node.tickets
    → In (From.Vote node.tid (Some k.ticket)) (sent_from k.site (story_of scenario commands))
ticket_sent scenario whole [] node k i j = absurd i
ticket_sent scenario whole (command ∷ commands) node k i j =
    by_case (happens scenario story command) (line_is scenario story command) i (λ old. ticket_sent scenario whole commands node k old j)
  where
    story : Story
    story = story_of scenario commands

    past : CoordPast
    past = coord_past story

    some_same : {a b : ℕ} → Some a ≡ Some b → a ≡ b
    some_same e = cc

    vote_sent : (event : CoordEvent) → CoordCause scenario story event → IsLastVote (protocols scenario) past event node.tid node.tickets → In (From.Vote node.tid (Some k.ticket)) (sent_from k.site story)
    vote_sent event c l = by_site (same_site l.site k.site) refl
      where
        now : CoordPast
        now = quiet (Ev_coord.Take l.site (From.Vote node.tid (Some l.ticket))) Say.Voted ∷ past

        theirs : In k (vote_tickets now node.tid (participants (protocols scenario) past node.tid))
        theirs = subst (λ ev. In k (vote_tickets (quiet ev Say.Voted ∷ past) node.tid (participants (protocols scenario) past node.tid))) l.is_vote (subst (λ ts. In k ts) l.theirs j)

        is_vote_of : voted l.site l.ticket (vote_at past node.tid) k.site ≡ Some k.ticket
        is_vote_of = sym ((vote_views node.tid past l.site l.ticket).votes_are k.site) ∙ named_votes now node.tid (participants (protocols scenario) past node.tid) k theirs

        by_site : (b : Bool) → same_site l.site k.site ≡ b → In (From.Vote node.tid (Some k.ticket)) (sent_from k.site story)
        by_site true q =
            let same : l.ticket ≡ k.ticket = some_same (sym (ap (λ b. or_vote (cond b (Some l.ticket) None) (vote_at past node.tid k.site)) q) ∙ is_vote_of) in
            subst (λ s. In (From.Vote node.tid (Some k.ticket)) (sent_from s story)) (same_site-equal l.site k.site q)
            (subst (λ t. In (From.Vote node.tid (Some t)) (sent_from l.site story)) same (subst (CoordCause scenario story) l.is_vote c))
        by_site false q =
            (votes-sent scenario whole commands).votes node.tid k.site k.ticket (sym (ap (λ b. or_vote (cond b (Some l.ticket) None) (vote_at past node.tid k.site)) q) ∙ is_vote_of)

    by_case : (happened : Happened) → IsLine scenario story happened → In node (commits (Coordinator.records (with_coordinator happened past)))
        → (In node (commits (Coordinator.records past)) → In (From.Vote node.tid (Some k.ticket)) (sent_from k.site story)) → In (From.Vote node.tid (Some k.ticket)) (sent_from k.site story ++ sends_from k.site happened)
    by_case (Nowhere answer) line i old = among_append (λ m. m ≡ From.Vote node.tid (Some k.ticket)) (sent_from k.site story) [] (old i)
    by_case (AtSite at x) line i old = among_append (λ m. m ≡ From.Vote node.tid (Some k.ticket)) (sent_from k.site story) (sends_from k.site (AtSite at x)) (old i)
    by_case (AtCoordinator x) line i old = among_append (λ m. m ≡ From.Vote node.tid (Some k.ticket)) (sent_from k.site story) []
        (elim (commit_from x.calls (Coordinator.disk past) node i) [
          | inl before ↦ old before
          | inr new ↦ vote_sent line.event line.cause (last_vote_of scenario past line.event node x.calls (coord-made scenario story x line).writes new)
        ])

pub tickets_published : PastsAreMadeByEvents → CommittedTicketsArePublished
tickets_published pasts scenario commands home commit k whole d i j here =
    let story = story_of scenario commands in
    let sent = subst (λ s. In (From.Vote commit.tid (Some k.ticket)) (sent_from s (story_of scenario commands))) here (ticket_sent scenario whole commands commit k i j) in
    let held = story-holds scenario whole commands commit.tid in
    let known = (held.holds.committed (among_commit commit.tid (Coordinator.records (coord_past (story_of scenario commands))) (commit_in commit.tid (Coordinator.records (coord_past (story_of scenario commands))) commit i refl))).known in
    let agrees = story-agrees scenario whole commands home commit.tid d (held.programmed known).1 in
    let prepared : IsPrepared (records home (past_of home.site (story_of scenario commands))) commit.tid k.ticket =
    each_at (IsSaid home (past_of home.site (story_of scenario commands)) commit.tid) (From.Vote commit.tid (Some k.ticket)) (sent_from home.site (story_of scenario commands)) agrees.said sent refl in
    let most = kept_ticket (records home (past_of home.site (story_of scenario commands))) commit.tid prepared.epoch prepared.number k.ticket prepared.writes prepared.kept in
    let (events, made) = pasts scenario commands home.site home d in
    let all = (subst (IsPublished home) (sym made) (pasts_published home events)).below in
    omega (arith, most, all)
