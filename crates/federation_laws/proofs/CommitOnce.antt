-- No attempt has two Commit records, and each Commit record names the tickets of the votes.
use Rattle.std.proofs.Common.{◌≡◌, ◌⊎◌, ℕ, Bool, true, false, cond, ◌&&◌, is_some, Option, Some, None, List, [], ◌∷◌, map, inl, inr, refl, sym, ap, subst, ◌∙◌}
use Rattle.std.proofs.lemmas.Bool.{and_parts}
use Rattle.mdb_base.specs.declared.names.SiteId.{SiteId}
use Rattle.mdb_base.specs.declared.names.SiteTicket.{SiteTicket}
use Rattle.mdb_base.specs.declared.names.Tid.{Tid}
use Rattle.mdb_base.specs.Names.{same_site, same_tid}
use Rattle.mdb_base.specs.Words.{Each, Among, found, with_some}
use Rattle.mdb_base.proofs.ForCallers.{same_site-equal, same_tid-equal, some_number, some_parts}
use Rattle.presumptions.specs.declared.Participant.{Participant}
use Rattle.order_laws.specs.Chains.{In}
use Rattle.order_laws.specs.Tickets.{Ticketed, OneEach}
use Rattle.order_laws.proofs.ForCallers.{acyclic_no_cycle, among_is, each_of_at, found_there, in_more, in_those, one_image, those_in}
use Rattle.fed_rules.specs.declared.answers.Answer.TheVariants as Say
use Rattle.fed_rules.specs.declared.commands.Command.{Command}
use Rattle.fed_rules.specs.declared.events.CoordEvent.{CoordEvent}
use Rattle.fed_rules.specs.declared.events.CoordEvent.TheVariants as Ev
use Rattle.fed_rules.specs.declared.messages.FromSite.TheVariants as From
use Rattle.fed_rules.specs.declared.records.CoordRecord.{CoordRecord}
use Rattle.fed_rules.specs.declared.records.CoordRecord.TheVariants as Rec
use Rattle.fed_rules.specs.declared.scenario.Scenario.{Scenario}
use Rattle.fed_rules.specs.Coord.{vote_ticket, vote_tickets}
use Rattle.fed_rules.specs.CoordPast.{CoordHappening, CoordPast, disk, records, begins, counts, program, visits, participants, or_vote, vote_in, vote_at}
use Rattle.fed_rules.specs.CoordRecords.{coord_frame, commits}
use Rattle.fed_rules.specs.Disk.{Disk, Call, Append, Sync, CutBack, TrimFront, Stops, after_calls}
use Rattle.fed_rules.specs.Happenings.{quiet}
use Rattle.fed_rules.specs.Plans.{IsScenario}
use Rattle.fed_rules.specs.Scenarios.{protocols}
use Rattle.fed_rules.specs.Story.{Story, Happened, AtSite, AtCoordinator, Nowhere, coord_past, sent_from, story_of}
use Rattle.federation_laws.specs.Edges.{committed, TicketGraphsAreCycleFree}
use Rattle.federation_laws.proofs.CoordEffects.{program-stays}
use Rattle.federation_laws.proofs.CoordHolds.{starts-novote, fresh-begun}
use Rattle.coord_laws.proofs.ForCallers.{IsLastVote, Writes, commits_once, commits_whole, committed_tid, tids_of}
use Rattle.commit_laws.proofs.ForCallers.{story_goes_on}
use Rattle.federation_laws.proofs.StoryGlobals.{StoryHolds, story-holds, coord-made, fresh-line, declared-program}
use Rattle.federation_laws.proofs.Told.{IsCoordLine, IsLine, CoordCause, line_is}
use Rattle.federation_laws.proofs.TicketCycles.{free-story}

-- no attempt has two Commit records
pub commits-once : (scenario : Scenario) (commands : List Command) → OneEach (committed (story_of scenario commands))
commits-once scenario commands = commits_once _ _ (coord_past (story_of scenario commands)) (story_goes_on scenario commands)

pub one-commit : (scenario : Scenario) → IsScenario scenario → (commands : List Command) → (a b : Ticketed) → In a (committed (story_of scenario commands)) → In b (committed (story_of scenario commands)) → a.tid ≡ b.tid → a ≡ b
one-commit scenario good commands a b i j e = one_image (λ (node : Ticketed). node.tid) (committed (story_of scenario commands)) (commits-once scenario commands) a b i j e

-- a Commit record that is kept after some calls was kept before, or one of them appended it
AppendsNode : Ticketed → Call CoordRecord → Type 0
AppendsNode node call = call ≡ Append (Rec.Commit node.tid node.tickets)

node-more : (node : Ticketed) (r : CoordRecord) (rs : List CoordRecord) → In node (commits (r ∷ rs)) → In node (commits rs) ⊎ (r ≡ Rec.Commit node.tid node.tickets)
node-more node (Rec.Commit tid tickets) rs (inl e) = inr (ap (λ (n : Ticketed). Rec.Commit n.tid n.tickets) e)
node-more node (Rec.Commit tid tickets) rs (inr i) = inl i
node-more node (Rec.Initiation tid members) rs i = inl i
node-more node (Rec.Abort tid members) rs i = inl i
node-more node (Rec.End tid) rs i = inl i
node-more node (Rec.Checkpoint sum) rs i = inl i

node-from : (calls : List (Call CoordRecord)) (d : Disk CoordRecord) (node : Ticketed) → In node (commits (after_calls coord_frame d calls).records) → In node (commits d.records) ⊎ Among (AppendsNode node) calls
unfolding AppendsNode
node-from [] d node i = inl i
node-from (Append r ∷ calls) d node i = elim (node-from calls _ node i) [
  | inl k ↦ elim (node-more node r d.records k) [ inl old ↦ inl old | inr new ↦ inr (inl (ap (λ q. Append q) new)) ]
  | inr k ↦ inr (inr k)
]
node-from (Sync ∷ calls) d node i = elim (node-from calls _ node i) [ inl k ↦ inl k | inr k ↦ inr (inr k) ]
node-from (CutBack ∷ calls) d node i = elim (node-from calls _ node i) [ inl k ↦ inl k | inr k ↦ inr (inr k) ]
node-from (TrimFront ∷ calls) d node i = elim (node-from calls _ node i) [ inl k ↦ inl k | inr k ↦ inr (inr k) ]
node-from (Stops cut ∷ calls) d node i = elim (node-from calls _ node i) [ inl k ↦ inl (commits_whole _ d.records node k) | inr k ↦ inr (inr k) ]

-- the vote that it comes from
node-vote : (protocols : List Participant) (past : CoordPast) (event : CoordEvent) (node : Ticketed) (calls : List (Call CoordRecord)) → Each (Writes protocols past event) calls → Among (AppendsNode node) calls → IsLastVote protocols past event node.tid node.tickets
unfolding AppendsNode
node-vote protocols past event node [] w i = absurd i
node-vote protocols past event node (call ∷ calls) w (inl e) = subst (Writes protocols past event) e w.0
node-vote protocols past event node (call ∷ calls) w (inr i) = node-vote protocols past event node calls w.1 i

-- a Commit record has the ticket of a yes vote of each site of its program
abbrev pub IsVoted : Story → Ticketed → Type 0
IsVoted story node =
    (s : SiteId) → visits s (program (coord_past story) node.tid) ≡ true
    → (ticket : ℕ) × In (record { site = s; ticket = ticket }) node.tickets × In (From.Vote node.tid (Some ticket)) (sent_from s story)

-- the ticket is that of a yes vote from a site of the program
pub record IsVote (story : Story) (g : Tid) (k : SiteTicket) : Type 0 where
  pub sent : In (From.Vote g (Some k.ticket)) (sent_from k.site story)
  pub visited : visits k.site (program (coord_past story) g) ≡ true

-- the votes that counted were sent, and so were those of the Commit records
pub record VotesSent (story : Story) : Type 0 where
  pub votes : (g : Tid) (s : SiteId) (ticket : ℕ) → vote_at (coord_past story) g s ≡ Some ticket → In (From.Vote g (Some ticket)) (sent_from s story)
  pub nodes : (node : Ticketed) → In node (commits (records (coord_past story))) → IsVoted story node
  pub tickets : (node : Ticketed) → In node (commits (records (coord_past story))) → (k : SiteTicket) → In k node.tickets → IsVote story node.tid k

found-from : {A B : Type 0} (look : A → Option B) (y : B) (xs : List A) → In y (found look xs) → (x : A) × In x xs × (look x ≡ Some y)
found-from look y [] i = absurd i
found-from {A} {B} look y (x ∷ xs) i = first (look x) refl i (found-from look y xs)
  where
    first : (o : Option B) → look x ≡ o → In y (with_some o (found look xs)) → (In y (found look xs) → (z : A) × In z xs × (look z ≡ Some y)) → (z : A) × In z (x ∷ xs) × (look z ≡ Some y)
    first None q i k = let r = k i in (r.0, inr r.1, r.2)
    first (Some w) q (inl p) k = (x, inl refl, q ∙ ap Some p)
    first (Some w) q (inr j) k = let r = k j in (r.0, inr r.1, r.2)

pub ticket-vote : (site : SiteId) (o : Option ℕ) (k : SiteTicket) → vote_ticket site o ≡ Some k → (o ≡ Some k.ticket) × (site ≡ k.site)
ticket-vote site None k e = cc
ticket-vote site (Some ticket) k e =
    let same : record { site = site; ticket = ticket } ≡ k = some_parts e in
    (ap (λ (z : SiteTicket). Some z.ticket) same, ap (λ (z : SiteTicket). z.site) same)

-- the vote that a line counts was sent
vote-sent : (scenario : Scenario) (story : Story) (g : Tid) (s : SiteId) (event : CoordEvent) (ticket : ℕ) → CoordCause scenario story event → VotesSent story → or_vote (vote_in g s event) (vote_at (coord_past story) g s) ≡ Some ticket → In (From.Vote g (Some ticket)) (sent_from s story)
vote-sent scenario story g s (Ev.Take site (From.Vote tid None)) ticket c v e = none (same_tid tid g && same_site site s) e
  where
    none : (t : Bool) → or_vote (cond t None None) (vote_at (coord_past story) g s) ≡ Some ticket → In (From.Vote g (Some ticket)) (sent_from s story)
    none true e = v.votes g s ticket e
    none false e = v.votes g s ticket e
vote-sent scenario story g s (Ev.Take site (From.Vote tid (Some vote))) ticket c v e = by_test (same_tid tid g && same_site site s) refl e
  where
    by_test : (t : Bool) → (same_tid tid g && same_site site s) ≡ t → or_vote (cond t (Some vote) None) (vote_at (coord_past story) g s) ≡ Some ticket → In (From.Vote g (Some ticket)) (sent_from s story)
    by_test true q e =
        let parts = and_parts (same_tid tid g) (same_site site s) q in
        let value : vote ≡ ticket = cc in
        subst (λ z. In (From.Vote g (Some ticket)) (sent_from z story)) (same_site-equal site s parts.1)
        (subst (λ t. In (From.Vote t (Some ticket)) (sent_from site story)) (same_tid-equal tid g parts.0)
        (subst (λ k. In (From.Vote tid (Some k)) (sent_from site story)) value c))
    by_test false q e = v.votes g s ticket e
vote-sent scenario story g s (Ev.Take site (From.Did tid epoch n reply)) ticket c v e = v.votes g s ticket e
vote-sent scenario story g s (Ev.Take site (From.Ack tid)) ticket c v e = v.votes g s ticket e
vote-sent scenario story g s (Ev.Take site (From.Inquiry tid)) ticket c v e = v.votes g s ticket e
vote-sent scenario story g s (Ev.Go tid steps) ticket c v e = v.votes g s ticket e
vote-sent scenario story g s (Ev.Again tid) ticket c v e = v.votes g s ticket e
vote-sent scenario story g s (Ev.Late tid) ticket c v e = v.votes g s ticket e
vote-sent scenario story g s (Ev.Fate tx) ticket c v e = v.votes g s ticket e
vote-sent scenario story g s (Ev.Halt cut) ticket c v e = v.votes g s ticket e
vote-sent scenario story g s (Ev.Trip calls cut) ticket c v e = v.votes g s ticket e
vote-sent scenario story g s Ev.Back ticket c v e = v.votes g s ticket e
vote-sent scenario story g s Ev.Check ticket c v e = v.votes g s ticket e

pub node-tid : (rs : List CoordRecord) (node : Ticketed) → In node (commits rs) → In node.tid (tids_of rs)
node-tid rs node i = image (commits rs) i
  where
    image : (nodes : List Ticketed) → In node nodes → In node.tid (map (λ n. n.tid) nodes)
    image [] i = absurd i
    image (n ∷ nodes) (inl e) = inl (ap (λ (m : Ticketed). m.tid) e)
    image (n ∷ nodes) (inr i) = inr (image nodes i)

votes-coord : (scenario : Scenario) (story : Story) (x : CoordHappening) (line : IsCoordLine scenario story x) → VotesSent story → (g : Tid) (s : SiteId) (ticket : ℕ) → vote_at (x ∷ coord_past story) g s ≡ Some ticket → In (From.Vote g (Some ticket)) (sent_from s story)
votes-coord scenario story x line v g s ticket e = by_tests (begins g x.answer) (counts x.answer) e
  where
    cause : CoordCause scenario story x.event
    cause = subst (CoordCause scenario story) (sym (coord-made scenario story x line).heard) line.cause

    by_tests : (b c : Bool) → cond b None (cond c (or_vote (vote_in g s x.event) (vote_at (coord_past story) g s)) (vote_at (coord_past story) g s)) ≡ Some ticket → In (From.Vote g (Some ticket)) (sent_from s story)
    by_tests true c e = cc
    by_tests false true e = vote-sent scenario story g s x.event ticket cause v e
    by_tests false false e = v.votes g s ticket e

-- a new Commit record
new-node : (scenario : Scenario) → IsScenario scenario → (story : Story) (x : CoordHappening) (line : IsCoordLine scenario story x) → ((g : Tid) → StoryHolds scenario story g) → VotesSent story → (node : Ticketed) → IsLastVote (protocols scenario) (coord_past story) line.event node.tid node.tickets
    → (s : SiteId) → visits s (program (x ∷ coord_past story) node.tid) ≡ true → (ticket : ℕ) × In (record { site = s; ticket = ticket }) node.tickets × In (From.Vote node.tid (Some ticket)) (sent_from s story)
new-node scenario good story x line holds votes node v s visited =
    let made = coord-made scenario story x line in
    let was : visits s (program (coord_past story) node.tid) ≡ true = by_begun (begins node.tid x.answer) refl in
    let (p, i, at) = among_is (λ (p : Participant). p.site ≡ s) (protocols scenario) (declared-program scenario good story node.tid (holds node.tid) s was) in
    let member = in_those (λ (p : Participant). visits p.site (program (coord_past story) node.tid)) p (protocols scenario) i (subst (λ z. visits z (program (coord_past story) node.tid) ≡ true) (sym at) was) in
    let vote = each_of_at (λ (m : Participant). is_some (vote_at (quiet line.event Say.Voted ∷ coord_past story) node.tid m.site)) (participants (protocols scenario) (coord_past story) node.tid) p v.all member in
    let (ticket, is) = some_number (vote_at (quiet line.event Say.Voted ∷ coord_past story) node.tid p.site) vote in
    let named = found_there (λ (m : Participant). vote_ticket m.site (vote_at (quiet line.event Say.Voted ∷ coord_past story) node.tid m.site)) p (record { site = p.site; ticket = ticket }) (participants (protocols scenario) (coord_past story) node.tid) member (ap (vote_ticket p.site) is) in
    let sent = vote-sent scenario story node.tid p.site line.event ticket line.cause votes is in (
      ticket,
      subst (λ z. In (record { site = z; ticket = ticket }) node.tickets) at (subst (In (record { site = p.site; ticket = ticket })) (sym v.theirs) named),
      subst (λ z. In (From.Vote node.tid (Some ticket)) (sent_from z story)) at sent,
    )
  where
    by_begun : (t : Bool) → begins node.tid x.answer ≡ t → visits s (program (coord_past story) node.tid) ≡ true
    by_begun true b = absurd (starts-novote node.tid x line.event v.site v.ticket (coord-made scenario story x line).begun b v.is_vote)
    by_begun false b = ap (visits s) (sym (program-stays (coord_past story) node.tid x b)) ∙ visited

old-node : (scenario : Scenario) (story : Story) (x : CoordHappening) (line : IsCoordLine scenario story x) → ((g : Tid) → StoryHolds scenario story g) → VotesSent story → (node : Ticketed) → In node (commits (records (coord_past story))) → (s : SiteId) → visits s (program (x ∷ coord_past story) node.tid) ≡ true
    → (ticket : ℕ) × In (record { site = s; ticket = ticket }) node.tickets × In (From.Vote node.tid (Some ticket)) (sent_from s story)
old-node scenario story x line holds votes node i s visited = votes.nodes node i s (by_begun (begins node.tid x.answer) refl)
  where
    by_begun : (t : Bool) → begins node.tid x.answer ≡ t → visits s (program (coord_past story) node.tid) ≡ true
    by_begun true b =
        absurd (fresh-begun (coord_past story) node.tid x (fresh-line scenario story node.tid x line (coord-made scenario story x line) (holds node.tid))
        ((holds node.tid).holds.committed (committed_tid (records (coord_past story)) node.tid (node-tid (records (coord_past story)) node i))).known b)
    by_begun false b = ap (visits s) (sym (program-stays (coord_past story) node.tid x b)) ∙ visited

-- the tickets at a last vote are of votes that were sent
pub tickets-voted : (scenario : Scenario) (story : Story) (g : Tid) (event : CoordEvent) → CoordCause scenario story event → VotesSent story → (k : SiteTicket) → In k (vote_tickets (quiet event Say.Voted ∷ coord_past story) g (participants (protocols scenario) (coord_past story) g)) → IsVote story g k
tickets-voted scenario story g event cause votes k i =
    let (p, j, e) = found-from (λ (m : Participant). vote_ticket m.site (vote_at (quiet event Say.Voted ∷ coord_past story) g m.site)) k (participants (protocols scenario) (coord_past story) g) i in
    let (v, at) = ticket-vote p.site (vote_at (quiet event Say.Voted ∷ coord_past story) g p.site) k e in
    record {
      sent = subst (λ z. In (From.Vote g (Some k.ticket)) (sent_from z story)) at (vote-sent scenario story g p.site event k.ticket cause votes v);
      visited = subst (λ z. visits z (program (coord_past story) g) ≡ true) at (those_in (λ (m : Participant). visits m.site (program (coord_past story) g)) p (protocols scenario) j).1;
    }

new-ticket : (scenario : Scenario) (story : Story) (x : CoordHappening) (line : IsCoordLine scenario story x) → VotesSent story → (node : Ticketed) → IsLastVote (protocols scenario) (coord_past story) line.event node.tid node.tickets
    → (k : SiteTicket) → In k node.tickets → In (From.Vote node.tid (Some k.ticket)) (sent_from k.site story) × (visits k.site (program (x ∷ coord_past story) node.tid) ≡ true)
new-ticket scenario story x line votes node v k i =
    let voted = tickets-voted scenario story node.tid line.event line.cause votes k (subst (In k) v.theirs i) in
    (voted.sent, by_begun (begins node.tid x.answer) refl voted.visited)
  where
    by_begun : (t : Bool) → begins node.tid x.answer ≡ t → visits k.site (program (coord_past story) node.tid) ≡ true → visits k.site (program (x ∷ coord_past story) node.tid) ≡ true
    by_begun true b visited = absurd (starts-novote node.tid x line.event v.site v.ticket (coord-made scenario story x line).begun b v.is_vote)
    by_begun false b visited = ap (visits k.site) (program-stays (coord_past story) node.tid x b) ∙ visited

old-ticket : (scenario : Scenario) (story : Story) (x : CoordHappening) (line : IsCoordLine scenario story x) → ((g : Tid) → StoryHolds scenario story g) → VotesSent story → (node : Ticketed) → In node (commits (records (coord_past story)))
    → (k : SiteTicket) → In k node.tickets → In (From.Vote node.tid (Some k.ticket)) (sent_from k.site story) × (visits k.site (program (x ∷ coord_past story) node.tid) ≡ true)
old-ticket scenario story x line holds votes node i k j =
    let voted = votes.tickets node i k j in (voted.sent, by_begun (begins node.tid x.answer) refl voted.visited)
  where
    by_begun : (t : Bool) → begins node.tid x.answer ≡ t → visits k.site (program (coord_past story) node.tid) ≡ true → visits k.site (program (x ∷ coord_past story) node.tid) ≡ true
    by_begun true b visited =
        absurd (fresh-begun (coord_past story) node.tid x (fresh-line scenario story node.tid x line (coord-made scenario story x line) (holds node.tid))
        ((holds node.tid).holds.committed (committed_tid (records (coord_past story)) node.tid (node-tid (records (coord_past story)) node i))).known b)
    by_begun false b visited = ap (visits k.site) (program-stays (coord_past story) node.tid x b) ∙ visited

votes-happened : (scenario : Scenario) → IsScenario scenario → (story : Story) (command : Command) (happened : Happened) → ((g : Tid) → StoryHolds scenario story g) → IsLine scenario story happened → VotesSent story → VotesSent (record { command = command; happened = happened } ∷ story)
votes-happened scenario good story command (AtSite at x) holds line v =
    record {
      votes = λ g s ticket e. in_more _ (sent_from s story) _ (v.votes g s ticket e);
      nodes = λ node i s visited. let r = v.nodes node i s visited in (r.0, r.1, in_more _ (sent_from s story) _ r.2);
      tickets = λ node i k j. let r = v.tickets node i k j in record { sent = in_more _ (sent_from k.site story) _ r.sent; visited = r.visited };
    }
votes-happened scenario good story command (AtCoordinator x) holds line v =
    record {
      votes = λ g s ticket e. in_more _ (sent_from s story) [] (votes-coord scenario story x line v g s ticket e);
      nodes = λ node i s visited.
          let r = either node (node-from x.calls (disk (coord_past story)) node i) s visited in (r.0, r.1, in_more _ (sent_from s story) [] r.2);
      tickets = λ node i k j.
          let r = either-ticket node (node-from x.calls (disk (coord_past story)) node i) k j in record { sent = in_more _ (sent_from k.site story) [] r.0; visited = r.1 };
    }
  where
    either : (node : Ticketed) → In node (commits (records (coord_past story))) ⊎ Among (AppendsNode node) x.calls → (s : SiteId) → visits s (program (x ∷ coord_past story) node.tid) ≡ true
        → (ticket : ℕ) × In (record { site = s; ticket = ticket }) node.tickets × In (From.Vote node.tid (Some ticket)) (sent_from s story)
    either node (inl old) s visited = old-node scenario story x line holds v node old s visited
    either node (inr new) s visited = new-node scenario good story x line holds v node (node-vote (protocols scenario) (coord_past story) line.event node x.calls (coord-made scenario story x line).writes new) s visited

    either-ticket : (node : Ticketed) → In node (commits (records (coord_past story))) ⊎ Among (AppendsNode node) x.calls → (k : SiteTicket) → In k node.tickets
        → In (From.Vote node.tid (Some k.ticket)) (sent_from k.site story) × (visits k.site (program (x ∷ coord_past story) node.tid) ≡ true)
    either-ticket node (inl old) k j = old-ticket scenario story x line holds v node old k j
    either-ticket node (inr new) k j = new-ticket scenario story x line v node (node-vote (protocols scenario) (coord_past story) line.event node x.calls (coord-made scenario story x line).writes new) k j
votes-happened scenario good story command (Nowhere answer) holds line v =
    record {
      votes = λ g s ticket e. in_more _ (sent_from s story) [] (v.votes g s ticket e);
      nodes = λ node i s visited. let r = v.nodes node i s visited in (r.0, r.1, in_more _ (sent_from s story) [] r.2);
      tickets = λ node i k j. let r = v.tickets node i k j in record { sent = in_more _ (sent_from k.site story) [] r.sent; visited = r.visited };
    }

-- so it is in every story
pub votes-sent : (scenario : Scenario) → IsScenario scenario → (commands : List Command) → VotesSent (story_of scenario commands)
votes-sent scenario good [] = record { votes = λ g s ticket e. cc; nodes = λ node i. absurd i; tickets = λ node i. absurd i }
votes-sent scenario good (command ∷ commands) =
    votes-happened scenario good (story_of scenario commands) command _ (story-holds scenario good commands) (line_is scenario (story_of scenario commands) command) (votes-sent scenario good commands)

-- the ticket graph of the committed attempts has no cycle
pub graphs_cycle_free : TicketGraphsAreCycleFree
graphs_cycle_free scenario good commands =
    let once = commits-once scenario commands in
    (once, acyclic_no_cycle (committed (story_of scenario commands)) once (free-story scenario commands))
