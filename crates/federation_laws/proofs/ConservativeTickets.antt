-- Where tickets are taken conservatively, an attempt in its phase has at each site a greater ticket than each committed one, so that no ticket
-- edge leads from it to a committed one, and no cycle goes through it.
use Rattle.std.proofs.Common.{◌≡◌, ◌⊎◌, ℕ, ◌<◌, Bool, true, false, cond, ◌||◌, is_some, Option, Some, None, List, [], ◌∷◌, map, inl, inr, refl, sym, ap, subst, ◌∙◌, arith}
use Rattle.std.proofs.lemmas.Bool.{and_from, and_parts, or_right}
use Rattle.mdb_base.specs.declared.names.SiteId.{SiteId}
use Rattle.mdb_base.specs.declared.names.SiteTicket.{SiteTicket}
use Rattle.mdb_base.specs.declared.names.Tid.{Tid}
use Rattle.mdb_base.specs.declared.replies.Edge.{Edge}
use Rattle.mdb_base.specs.declared.rows.Put.{Put}
use Rattle.mdb_base.specs.Names.{same_site}
use Rattle.mdb_base.specs.Words.{Among, Each, some_of, those}
use Rattle.mdb_base.proofs.ForCallers.{same_tid-refl}
use Rattle.presumptions.specs.declared.Participant.{Participant}
use Rattle.order_laws.specs.Chains.{In}
use Rattle.order_laws.specs.Search.{Walk}
use Rattle.order_laws.specs.Tickets.{Precedes, Ticketed, edge_between}
use Rattle.order_laws.proofs.ForCallers.{among_is, each_at, edge_some, found, in_append, in_those, is_among, map_among}
use Rattle.fed_rules.specs.declared.answers.Answer.{Answer}
use Rattle.fed_rules.specs.declared.answers.Answer.TheVariants as Say
use Rattle.fed_rules.specs.declared.answers.Cause.TheVariants as For
use Rattle.fed_rules.specs.declared.commands.Command.{Command}
use Rattle.fed_rules.specs.declared.events.CoordEvent.{CoordEvent}
use Rattle.fed_rules.specs.declared.messages.FromSite.TheVariants as From
use Rattle.fed_rules.specs.declared.messages.Sent.{Sent}
use Rattle.fed_rules.specs.declared.messages.ToSite.{ToSite}
use Rattle.fed_rules.specs.declared.messages.ToSite.TheVariants as To
use Rattle.fed_rules.specs.declared.records.SiteRecord.{SiteRecord}
use Rattle.fed_rules.specs.declared.records.SiteRecord.TheVariants as Rec
use Rattle.fed_rules.specs.declared.scenario.Scenario.{Scenario}
use Rattle.fed_rules.specs.Coord.{is_due_vote, vote_tickets}
use Rattle.fed_rules.specs.CoordPast as Coordinator
use Rattle.fed_rules.specs.CoordPast.{CoordHappening, CoordPast, begins, has_sent, in_phase, is_open, is_take_of, outstanding, participants, program, sites_of, visits}
use Rattle.fed_rules.specs.CoordRecords.{commits, has_commit}
use Rattle.fed_rules.specs.Happenings.{quiet}
use Rattle.fed_rules.specs.Orders.{is_committed, records_at}
use Rattle.fed_rules.specs.Plans.{IsScenario}
use Rattle.fed_rules.specs.Policies.{conservatively, policy_of}
use Rattle.fed_rules.specs.Runs.{Run, has_ticket}
use Rattle.fed_rules.specs.Scenarios.{home_of, local_site, policy, protocols}
use Rattle.fed_rules.specs.SitePast.{SiteHappening, SitePast, epoch, live, live_one, records, run_of}
use Rattle.fed_rules.specs.SiteRecords.{Held, Home, doubt_of}
use Rattle.fed_rules.specs.Story.{Story, Happened, AtSite, AtCoordinator, Nowhere, coord_past, happens, past_of, sends_to, sent_from, sent_to, story_of, with_coordinator, with_site}
use Rattle.site_history.specs.Lines.{Agrees}
use Rattle.site_history.specs.Records.{BindOnce, Binds, IsBound, IsPrepared, Prepares}
use Rattle.site_history.specs.SiteOrders.{IsSerialPast}
use Rattle.site_history.specs.Stories.{OfSites, StoriesHaveRightLines}
use Rattle.site_history.specs.Tickets.{HasTicket, TicketsRise}
use Rattle.site_history.proofs.ForCallers.{once_behind}
use Rattle.federation_laws.specs.Conservative.{ConservativeTicketsCloseNoCycle, RefusesForCycle}
use Rattle.federation_laws.proofs.Agreement.{IsSaid, WereAsked}
use Rattle.federation_laws.proofs.CommitOnce.{IsVote, node-tid, tickets-voted, votes-sent}
use Rattle.coord_laws.proofs.ForCallers.{AppendsCommit, commit_from, committed_tid, last_vote_of}
use Rattle.federation_laws.proofs.CoordEffects.{program-stays}
use Rattle.federation_laws.proofs.CoordHolds.{fresh-begun, is_begun}
use Rattle.federation_laws.proofs.Declared.{undeclared}
use Rattle.federation_laws.proofs.Globals.{global-agreed}
use Rattle.federation_laws.proofs.OnceGlobal.{global-once}
use Rattle.federation_laws.proofs.Phases.{IsChecked, IsOnCycle, MayTake, Refuses, coord_checked}
use Rattle.federation_laws.proofs.PhasesApart.{phase_from, story-phased}
use Rattle.federation_laws.proofs.SiteRuns.{site_ops}
use Rattle.federation_laws.proofs.SiteSteps.{doubt-prepared}
use Rattle.federation_laws.proofs.StoryGlobals.{coord-made, declared-program, fresh-line, story-agrees, story-holds}
use Rattle.federation_laws.proofs.Told.{IsCoordLine, IsLine, home_is-site, home-again, line_is}

-- a Take that was sent to a site was sent
message_sent : (g : Tid) (epoch n : ℕ) (site : SiteId) (sends : List Sent) → In (To.Take g epoch n) (map (λ sent. sent.message) (those (λ sent. same_site sent.site site) sends)) → some_of (is_take_of g) sends ≡ true
message_sent g epoch n site [] i = absurd i
message_sent g epoch n site (sent ∷ sends) i = by_test (same_site sent.site site) i (message_sent g epoch n site sends)
  where
    by_message : (m : ToSite) → m ≡ To.Take g epoch n → is_take_of g (record { site = sent.site; message = m }) ≡ true
    by_message m e = ap (λ k. is_take_of g (record { site = sent.site; message = k })) e ∙ same_tid-refl g

    by_test : (t : Bool) → In (To.Take g epoch n) (map (λ sent. sent.message) (cond t (sent ∷ those (λ sent. same_site sent.site site) sends) (those (λ sent. same_site sent.site site) sends)))
        → (In (To.Take g epoch n) (map (λ sent. sent.message) (those (λ sent. same_site sent.site site) sends)) → some_of (is_take_of g) sends ≡ true)
        → (is_take_of g sent || some_of (is_take_of g) sends) ≡ true
    by_test true (inl e) k = ap (λ b. b || some_of (is_take_of g) sends) (by_message sent.message e)
    by_test true (inr j) k = or_right (is_take_of g sent) (some_of (is_take_of g) sends) (k j)
    by_test false j k = or_right (is_take_of g sent) (some_of (is_take_of g) sends) (k j)

later_sent : (g : Tid) (past : CoordPast) (happened : Happened) → has_sent (is_take_of g) past ≡ true → has_sent (is_take_of g) (with_coordinator happened past) ≡ true
later_sent g past (AtSite s x) e = e
later_sent g past (AtCoordinator x) e = or_right (some_of (is_take_of g) x.sends) (has_sent (is_take_of g) past) e
later_sent g past (Nowhere answer) e = e

now_sent : (g : Tid) (epoch n : ℕ) (site : SiteId) (past : CoordPast) (happened : Happened) → In (To.Take g epoch n) (sends_to site happened) → has_sent (is_take_of g) (with_coordinator happened past) ≡ true
now_sent g epoch n site past (AtSite s x) i = absurd i
now_sent g epoch n site past (AtCoordinator x) i = ap (λ b. b || has_sent (is_take_of g) past) (message_sent g epoch n site x.sends i)
now_sent g epoch n site past (Nowhere answer) i = absurd i

take_was_sent : (g : Tid) (epoch n : ℕ) (site : SiteId) (story : Story) → In (To.Take g epoch n) (sent_to site story) → has_sent (is_take_of g) (coord_past story) ≡ true
take_was_sent g epoch n site [] i = absurd i
take_was_sent g epoch n site (told ∷ story) i = elim (in_append (To.Take g epoch n) (sent_to site story) (sends_to site told.happened) i) [
  | inl before ↦ later_sent g (coord_past story) told.happened (take_was_sent g epoch n site story before)
  | inr now ↦ now_sent g epoch n site (coord_past story) told.happened now
]

-- an attempt that is bound once is prepared with one ticket
prepared_bound : (rs : List SiteRecord) (g : Tid) (epoch number ticket : ℕ) (writes : List Put) → In (Rec.Prepared g epoch number ticket writes) rs → IsBound g rs
prepared_bound rs g epoch number ticket writes i = is_among (Binds g) (Rec.Prepared g epoch number ticket writes) rs i refl

prepared_same : (rs : List SiteRecord) (g : Tid) (d e m n j k : ℕ) (v w : List Put) → BindOnce rs → In (Rec.Prepared g d m j v) rs → In (Rec.Prepared g e n k w) rs → j ≡ k
prepared_same [] g d e m n j k v w once i o = absurd i
prepared_same (r ∷ rs) g d e m n j k v w once (inl p) (inl q) = (let same = sym p ∙ q in cc)
prepared_same (r ∷ rs) g d e m n j k v w once (inl p) (inr o) = absurd ((subst (λ z. BindOnce (z ∷ rs)) p once).0 (prepared_bound rs g e n k w o))
prepared_same (r ∷ rs) g d e m n j k v w once (inr i) (inl q) = absurd ((subst (λ z. BindOnce (z ∷ rs)) q once).0 (prepared_bound rs g d m j v i))
prepared_same (r ∷ rs) g d e m n j k v w once (inr i) (inr o) = prepared_same rs g d e m n j k v w (once_behind r rs once) i o

prepared_one : (rs : List SiteRecord) (g : Tid) (j k : ℕ) → BindOnce rs → IsPrepared rs g j → IsPrepared rs g k → j ≡ k
prepared_one rs g j k once p q = prepared_same rs g p.epoch q.epoch p.number q.number j k p.writes q.writes once p.kept q.kept

module _ (scenario : Scenario) (good : IsScenario scenario) (right : StoriesHaveRightLines) (rise : OfSites TicketsRise) where
  -- where a live run has a ticket, a Take of it was sent
  live_sent : (commands : List Command) (home : Home) → home_of scenario home.site ≡ Some home → (g : Tid) → local_site scenario g.tx ≡ None → (run : Run) (ticket : ℕ) → live home (past_of home.site (story_of scenario commands)) g ≡ Some run → run.ticket ≡ Some ticket → has_sent (is_take_of g) (coord_past (story_of scenario commands)) ≡ true
  live_sent commands home declared g none run ticket alive has =
      let past = past_of home.site (story_of scenario commands) in
      let a = story-agrees scenario good commands home g declared none in
      let took : has_ticket run ≡ true = ap (λ (o : Option ℕ). is_some o) has in
      let ops : site_ops home past g (epoch home past) ≡ None ∷ map (λ access. Some access) run.acts = a.runs.now run alive ∙ ap (λ b. cond b (None ∷ map (λ access. Some access) run.acts) (map (λ access. Some access) run.acts)) took in
      let asked = (subst (WereAsked g (sent_to home.site (story_of scenario commands))) ops (a.from (epoch home past))).0 in
      take_was_sent g asked.0 _ home.site (story_of scenario commands) asked.1

  -- where an attempt is prepared, a Take of it was sent
  prepared_now : (commands : List Command) (home : Home) → home_of scenario home.site ≡ Some home → (g : Tid) → local_site scenario g.tx ≡ None → (ticket : ℕ) (x : SiteHappening) (t : Bool)
      → TicketsRise home (cond t (x ∷ past_of home.site (story_of scenario commands)) (past_of home.site (story_of scenario commands)))
      → IsPrepared (records home (cond t (x ∷ past_of home.site (story_of scenario commands)) (past_of home.site (story_of scenario commands)))) g ticket
      → (IsPrepared (records home (past_of home.site (story_of scenario commands))) g ticket → has_sent (is_take_of g) (coord_past (story_of scenario commands)) ≡ true)
      → has_sent (is_take_of g) (coord_past (story_of scenario commands)) ≡ true
  prepared_now commands home declared g none ticket x false r p before = before p
  prepared_now commands home declared g none ticket x true r p before = elim (r.0.prepared g ticket p) [
    | inl old ↦ before old
    | inr may ↦ live_sent commands home declared g none may.run ticket may.is_live may.has
  ]

  prepared_happened : (commands : List Command) (home : Home) → home_of scenario home.site ≡ Some home → (g : Tid) → local_site scenario g.tx ≡ None → (ticket : ℕ) (happened : Happened)
      → TicketsRise home (with_site home.site happened (past_of home.site (story_of scenario commands)))
      → IsPrepared (records home (with_site home.site happened (past_of home.site (story_of scenario commands)))) g ticket
      → (IsPrepared (records home (past_of home.site (story_of scenario commands))) g ticket → has_sent (is_take_of g) (coord_past (story_of scenario commands)) ≡ true)
      → has_sent (is_take_of g) (with_coordinator happened (coord_past (story_of scenario commands))) ≡ true
  prepared_happened commands home declared g none ticket (AtSite s x) r p before = prepared_now commands home declared g none ticket x (same_site s home.site) r p before
  prepared_happened commands home declared g none ticket (AtCoordinator x) r p before = or_right (some_of (is_take_of g) x.sends) (has_sent (is_take_of g) (coord_past (story_of scenario commands))) (before p)
  prepared_happened commands home declared g none ticket (Nowhere answer) r p before = before p

  prepared_sent : (commands : List Command) (home : Home) → home_of scenario home.site ≡ Some home → (g : Tid) → local_site scenario g.tx ≡ None → (ticket : ℕ) → IsPrepared (records home (past_of home.site (story_of scenario commands))) g ticket → has_sent (is_take_of g) (coord_past (story_of scenario commands)) ≡ true
  prepared_sent [] home declared g none ticket p = elim p.kept [ inl e ↦ cc | inr rest ↦ elim rest [ inl e ↦ cc | inr nothing ↦ absurd nothing ] ]
  prepared_sent (command ∷ commands) home declared g none ticket p =
      prepared_happened commands home declared g none ticket (happens scenario (story_of scenario commands) command) (rise scenario (command ∷ commands) home.site home declared) p
      (prepared_sent commands home declared g none ticket)

  -- so it was where it has a ticket
  took_sent : (commands : List Command) (home : Home) → home_of scenario home.site ≡ Some home → (g : Tid) → local_site scenario g.tx ≡ None → (ticket : ℕ) (run : Run) → run_of home (past_of home.site (story_of scenario commands)) g ≡ Some run → run.ticket ≡ Some ticket
      → (s : Option ℕ) → run.sealed ≡ s → (o : Option Held) → doubt_of (records home (past_of home.site (story_of scenario commands))) g ≡ o → Agrees o (Some run) → has_sent (is_take_of g) (coord_past (story_of scenario commands)) ≡ true
  took_sent commands home declared g none ticket run at has None unsealed o d a =
      live_sent commands home declared g none run ticket (ap live_one at ∙ ap (λ (n : Option ℕ). cond (is_some n) None (Some run)) unsealed) has
  took_sent commands home declared g none ticket run at has (Some n) is None d a = (let clash = sym is ∙ a in cc)
  took_sent commands home declared g none ticket run at has (Some n) is (Some held) d a =
      prepared_sent commands home declared g none held.ticket (doubt-prepared (records home (past_of home.site (story_of scenario commands))) g held d)

  ticket_sent : (commands : List Command) (home : Home) → home_of scenario home.site ≡ Some home → (g : Tid) → local_site scenario g.tx ≡ None → (ticket : ℕ) → HasTicket home (past_of home.site (story_of scenario commands)) g ticket → has_sent (is_take_of g) (coord_past (story_of scenario commands)) ≡ true
  ticket_sent commands home declared g none ticket (inr p) = prepared_sent commands home declared g none ticket p
  ticket_sent commands home declared g none ticket (inl t) =
      let agrees = (right scenario commands home.site home declared).sealed g in
      took_sent commands home declared g none ticket t.run t.is_run t.has t.run.sealed refl (doubt_of (records home (past_of home.site (story_of scenario commands))) g) refl
      (subst (Agrees (doubt_of (records home (past_of home.site (story_of scenario commands))) g)) t.is_run agrees)

  -- who was begun is global
  begun_global : (commands : List Command) (g : Tid) → is_begun (coord_past (story_of scenario commands)) g ≡ true → local_site scenario g.tx ≡ None
  begun_global commands g b = ((story-holds scenario good commands g).programmed b).1

  open_begun : (commands : List Command) (g : Tid) → is_open (coord_past (story_of scenario commands)) g ≡ true → is_begun (coord_past (story_of scenario commands)) g ≡ true
  open_begun commands g e = (global-once scenario commands).begun g e

  committed_begun : (commands : List Command) (b : Tid) → is_committed (story_of scenario commands) b ≡ true → is_begun (coord_past (story_of scenario commands)) b ≡ true
  committed_begun commands b c = ((story-holds scenario good commands b).holds.committed c).known

  -- a committed attempt is prepared where it has a step
  committed_prepared : (commands : List Command) (home : Home) → home_of scenario home.site ≡ Some home → (b : Tid) → is_committed (story_of scenario commands) b ≡ true → visits home.site (program (coord_past (story_of scenario commands)) b) ≡ true
      → Among (Prepares b) (records home (past_of home.site (story_of scenario commands)))
  committed_prepared commands home declared b c v =
      let story = story_of scenario commands in
      let agreed = global-agreed scenario good commands home b declared (begun_global commands b (committed_begun commands b c)) c v in
      let p = subst (λ rs. IsPrepared rs b agreed.ticket) (ap (λ o. records_at o story) declared) agreed.prepared in
      is_among (Prepares b) (Rec.Prepared b p.epoch p.number agreed.ticket p.writes) (records home (past_of home.site story)) p.kept refl

  -- an attempt in its phase has a greater ticket than each committed one
  abbrev IsLater : Home → SitePast → CoordPast → Tid → Tid → ℕ → ℕ → Type 0
  IsLater home past coordinator g b t k =
      in_phase coordinator g ≡ true → has_commit (Coordinator.records coordinator) b ≡ true → visits home.site (program coordinator g) ≡ true → visits home.site (program coordinator b) ≡ true
      → IsPrepared (records home past) b t → HasTicket home past g k → t < k

  later_here : (commands : List Command) (home : Home) → home_of scenario home.site ≡ Some home → (g b : Tid) (t k : ℕ) (x : SiteHappening) (here : Bool)
      → TicketsRise home (cond here (x ∷ past_of home.site (story_of scenario commands)) (past_of home.site (story_of scenario commands)))
      → IsLater home (past_of home.site (story_of scenario commands)) (coord_past (story_of scenario commands)) g b t k
      → IsLater home (cond here (x ∷ past_of home.site (story_of scenario commands)) (past_of home.site (story_of scenario commands))) (coord_past (story_of scenario commands)) g b t k
  later_here commands home declared g b t k x false r before phase commit v w p h = before phase commit v w p h
  later_here commands home declared g b t k x true r before phase commit v w p h = elim (r.0.prepared b t p) [
    | inl old ↦ elim (r.0.taken g k h) [
      | inl had ↦ before phase commit v w old had
      | inr above ↦ above b t old
    ]
    | inr may ↦ absurd (may.new (committed_prepared commands home declared b commit w))
  ]

  site_among : (commands : List Command) (home : Home) (g : Tid) → visits home.site (program (coord_past (story_of scenario commands)) g) ≡ true → In home.site (sites_of (protocols scenario) (coord_past (story_of scenario commands)) g)
  site_among commands home g v =
      let past = coord_past (story_of scenario commands) in
      let (p, i, at) = among_is (λ (p : Participant). p.site ≡ home.site) (protocols scenario) (declared-program scenario good (story_of scenario commands) g (story-holds scenario good commands g) home.site v) in
      let member = in_those (λ (p : Participant). visits p.site (program past g)) p (protocols scenario) i (subst (λ z. visits z (program past g) ≡ true) (sym at) v) in
      map_among (λ s. s ≡ home.site) (λ (p : Participant). p.site) (participants (protocols scenario) past g)
      (is_among (λ (q : Participant). q.site ≡ home.site) p (participants (protocols scenario) past g) member at)

  later_decided : scenario.conservative ≡ true → (commands : List Command) (home : Home) → home_of scenario home.site ≡ Some home → (g b : Tid) (t k : ℕ) (x : CoordHappening) (line : IsCoordLine scenario (story_of scenario commands) x)
      → (has_commit (Coordinator.records (x ∷ coord_past (story_of scenario commands))) b ≡ true → is_open (x ∷ coord_past (story_of scenario commands)) b ≡ false)
      → IsLater home (past_of home.site (story_of scenario commands)) (coord_past (story_of scenario commands)) g b t k
      → IsLater home (past_of home.site (story_of scenario commands)) (x ∷ coord_past (story_of scenario commands)) g b t k
  later_decided careful commands home declared g b t k x line over before phase commit v w p h =
      by_commit (commit_from x.calls (Coordinator.disk past) b commit)
    where
      past : CoordPast
      past = coord_past (story_of scenario commands)

      checked : IsChecked (protocols scenario) conservatively (coord_past (story_of scenario commands)) line.event x
      checked = subst (λ q. IsChecked (protocols scenario) q (coord_past (story_of scenario commands)) line.event x) (ap policy_of careful)
          (subst (λ (y : CoordHappening). IsChecked (protocols scenario) (policy scenario) (coord_past (story_of scenario commands)) line.event y) (sym line.is_next) (coord_checked (protocols scenario) (policy scenario) (coord_past (story_of scenario commands)) line.event))

      fresh : (u : Tid) → is_begun (coord_past (story_of scenario commands)) u ≡ true → begins u x.answer ≡ false
      fresh u known = by_begun (begins u x.answer) refl
        where
          by_begun : (c : Bool) → begins u x.answer ≡ c → c ≡ false
          by_begun true e = absurd (fresh-begun past u x (fresh-line scenario (story_of scenario commands) u x line (coord-made scenario (story_of scenario commands) x line) (story-holds scenario good commands u)) known e)
          by_begun false e = refl

      from : (begins g x.answer ≡ false) × ((in_phase (coord_past (story_of scenario commands)) g ≡ true) ⊎ MayTake (protocols scenario) conservatively (coord_past (story_of scenario commands)) line.event g)
      from =
          phase_from (protocols scenario) (coord_past (story_of scenario commands)) line.event x (coord-made scenario (story_of scenario commands) x line) checked (global-once scenario commands)
          (λ u. fresh-line scenario (story_of scenario commands) u x line (coord-made scenario (story_of scenario commands) x line) (story-holds scenario good commands u))
          (story-phased scenario good careful commands) g phase

      opened : is_open (coord_past (story_of scenario commands)) g ≡ true
      opened = elim from.1 [ inl was ↦ (and_parts (is_open past g) (has_sent (is_take_of g) past) was).0 | inr may ↦ may.opened ]

      -- it was in its phase before, as it has a ticket
      phase_before : in_phase (coord_past (story_of scenario commands)) g ≡ true
      phase_before = and_from (is_open past g) (has_sent (is_take_of g) past) opened (ticket_sent commands home declared g (begun_global commands g (open_begun commands g opened)) k h)

      visited : visits home.site (program (coord_past (story_of scenario commands)) g) ≡ true
      visited = ap (visits home.site) (sym (program-stays past g x from.0)) ∙ v

      by_commit : (has_commit (Coordinator.records (coord_past (story_of scenario commands))) b ≡ true) ⊎ Among (AppendsCommit b) x.calls → t < k
      by_commit (inl old) =
          before phase_before old visited (ap (visits home.site) (sym (program-stays past b x (fresh b (committed_begun commands b old)))) ∙ w) p h
      by_commit (inr new) =
          let vote = (last_vote_of (protocols scenario) past line.event b x.calls (coord-made scenario (story_of scenario commands) x line).writes new).1 in
          let open_b = (and_parts (is_open past b) (is_due_vote (outstanding past b vote.site)) vote.is_counted).0 in
          let known = open_begun commands b open_b in
          let phase_b = and_from (is_open past b) (has_sent (is_take_of b) past) open_b (prepared_sent commands home declared b (begun_global commands b known) t p) in
          let visited_b = ap (visits home.site) (sym (program-stays past b x (fresh b known))) ∙ w in
          let apart : g ≡ b → ⊥ = λ same. (let still = subst (λ u. is_open (x ∷ past) u ≡ true) same (and_parts (is_open (x ∷ past) g) (has_sent (is_take_of g) (x ∷ past)) phase).0 in
          let clash = sym still ∙ over commit in cc) in
          absurd ((story-phased scenario good careful commands).apart g b phase_before phase_b apart home.site (site_among commands home g visited) (site_among commands home b visited_b))

  later_happened : scenario.conservative ≡ true → (commands : List Command) (home : Home) → home_of scenario home.site ≡ Some home → (g b : Tid) (t k : ℕ) (happened : Happened) → IsLine scenario (story_of scenario commands) happened
      → TicketsRise home (with_site home.site happened (past_of home.site (story_of scenario commands)))
      → (has_commit (Coordinator.records (with_coordinator happened (coord_past (story_of scenario commands)))) b ≡ true → is_open (with_coordinator happened (coord_past (story_of scenario commands))) b ≡ false)
      → IsLater home (past_of home.site (story_of scenario commands)) (coord_past (story_of scenario commands)) g b t k
      → IsLater home (with_site home.site happened (past_of home.site (story_of scenario commands))) (with_coordinator happened (coord_past (story_of scenario commands))) g b t k
  later_happened careful commands home declared g b t k (AtSite s x) line r over before = later_here commands home declared g b t k x (same_site s home.site) r before
  later_happened careful commands home declared g b t k (AtCoordinator x) line r over before = later_decided careful commands home declared g b t k x line over before
  later_happened careful commands home declared g b t k (Nowhere answer) line r over before = before

  later : scenario.conservative ≡ true → (commands : List Command) (home : Home) → home_of scenario home.site ≡ Some home → (g b : Tid) (t k : ℕ) → IsLater home (past_of home.site (story_of scenario commands)) (coord_past (story_of scenario commands)) g b t k
  later careful [] home declared g b t k = λ phase. cc
  later careful (command ∷ commands) home declared g b t k =
      later_happened careful commands home declared g b t k (happens scenario (story_of scenario commands) command) (line_is scenario (story_of scenario commands) command)
      (rise scenario (command ∷ commands) home.site home declared) (story-holds scenario good (command ∷ commands) b).holds.over (later careful commands home declared g b t k)

  -- a ticket of a vote is that of a Prepared record
  record Voted (commands : List Command) (g : Tid) (k : SiteTicket) (home : Home) : Type 0 where
    prepared : IsPrepared (records home (past_of home.site (story_of scenario commands))) g k.ticket
    visited : visits home.site (program (coord_past (story_of scenario commands)) g) ≡ true

  voted : (commands : List Command) (g : Tid) (k : SiteTicket) (home : Home) → home_of scenario home.site ≡ Some home → k.site ≡ home.site → is_begun (coord_past (story_of scenario commands)) g ≡ true → IsVote (story_of scenario commands) g k → Voted commands g k home
  voted commands g k home declared at known v =
      let story = story_of scenario commands in
      let a = story-agrees scenario good commands home g declared (begun_global commands g known) in
      record {
        prepared = each_at (IsSaid home (past_of home.site story) g) (From.Vote g (Some k.ticket)) (sent_from home.site story) a.said (subst (λ z. In (From.Vote g (Some k.ticket)) (sent_from z story)) at v.sent) refl;
        visited = subst (λ z. visits z (program (coord_past story) g) ≡ true) at v.visited;
      }

  -- the declared site of a step
  declared_site : (commands : List Command) (g : Tid) (s : SiteId) → visits s (program (coord_past (story_of scenario commands)) g) ≡ true → (home : Home) × (home_of scenario home.site ≡ Some home) × (s ≡ home.site)
  declared_site commands g s v = by_home (home_of scenario s) refl
    where
      by_home : (o : Option Home) → home_of scenario s ≡ o → (home : Home) × (home_of scenario home.site ≡ Some home) × (s ≡ home.site)
      by_home None e = absurd (undeclared scenario.sites scenario.items s e (declared-program scenario good (story_of scenario commands) g (story-holds scenario good commands g) s v))
      by_home (Some home) e = (home, home-again scenario s home e, sym (home_is-site scenario s home e))

  -- no ticket edge leads from an undecided attempt to a committed one
  no_edge : scenario.conservative ≡ true → (commands : List Command) (g b : Ticketed) → is_open (coord_past (story_of scenario commands)) g.tid ≡ true → ((k : SiteTicket) → In k g.tickets → IsVote (story_of scenario commands) g.tid k)
      → In b (commits (Coordinator.records (coord_past (story_of scenario commands)))) → (s : SiteId) → Precedes g b s → ⊥
  no_edge careful commands g b opened votes i s p =
      let past = coord_past (story_of scenario commands) in
      let mine = votes p.smaller p.first in
      let theirs = (votes-sent scenario good commands).tickets b i p.greater p.second in
      let commit = committed_tid (Coordinator.records past) b.tid (node-tid (Coordinator.records past) b i) in
      let (home, declared, at) = declared_site commands g.tid p.smaller.site mine.visited in
      let here = voted commands g.tid p.smaller home declared at (open_begun commands g.tid opened) mine in
      let there = voted commands b.tid p.greater home declared (p.here ∙ (sym p.there ∙ at)) (committed_begun commands b.tid commit) theirs in
      let phase = and_from (is_open past g.tid) (has_sent (is_take_of g.tid) past) opened (prepared_sent commands home declared g.tid (begun_global commands g.tid (open_begun commands g.tid opened)) p.smaller.ticket here.prepared) in
      let less = later careful commands home declared g.tid b.tid p.greater.ticket p.smaller.ticket phase commit here.visited there.visited there.prepared (inr here.prepared) in
      let more = p.less in
      omega (arith, less, more)

  -- nor to itself, as it is prepared once at a site
  no_loop : OfSites IsSerialPast → (commands : List Command) (g : Ticketed) → is_open (coord_past (story_of scenario commands)) g.tid ≡ true → ((k : SiteTicket) → In k g.tickets → IsVote (story_of scenario commands) g.tid k)
      → (s : SiteId) → Precedes g g s → ⊥
  no_loop serial commands g opened votes s p =
      let mine = votes p.smaller p.first in
      let other = votes p.greater p.second in
      let known = open_begun commands g.tid opened in
      let (home, declared, at) = declared_site commands g.tid p.smaller.site mine.visited in
      let here = voted commands g.tid p.smaller home declared at known mine in
      let there = voted commands g.tid p.greater home declared (p.here ∙ (sym p.there ∙ at)) known other in
      let same = prepared_one (records home (past_of home.site (story_of scenario commands))) g.tid p.smaller.ticket p.greater.ticket (serial scenario commands home.site home declared).once here.prepared there.prepared in
      let less = p.less in
      omega (arith, same, less)

  -- so no cycle goes through it
  no_cycle : OfSites IsSerialPast → scenario.conservative ≡ true → (commands : List Command) (g : Ticketed) → is_open (coord_past (story_of scenario commands)) g.tid ≡ true → ((k : SiteTicket) → In k g.tickets → IsVote (story_of scenario commands) g.tid k)
      → (middle : List Ticketed) (edges : List Edge) → Each (λ b. In b (commits (Coordinator.records (coord_past (story_of scenario commands))))) middle → Walk edge_between g middle g edges → ⊥
  no_cycle serial careful commands g opened votes [] [] among w = w
  no_cycle serial careful commands g opened votes [] (e ∷ []) among w = no_loop serial commands g opened votes e.site (edge_some g g e w).precedes
  no_cycle serial careful commands g opened votes [] (e ∷ f ∷ edges) among w = w
  no_cycle serial careful commands g opened votes (b ∷ middle) [] among w = w
  no_cycle serial careful commands g opened votes (b ∷ middle) (e ∷ edges) among w = no_edge careful commands g b opened votes among.0 e.site (edge_some g b e w.0).precedes

  not_refused : OfSites IsSerialPast → scenario.conservative ≡ true → (commands : List Command) (x : CoordHappening) (line : IsCoordLine scenario (story_of scenario commands) x) (edges : List Edge) → IsOnCycle (protocols scenario) (coord_past (story_of scenario commands)) line.event edges → ⊥
  not_refused serial careful commands x line edges on =
      let story = story_of scenario commands in
      let past = coord_past story in
      let g : Ticketed = record { tid = on.tid; tickets = vote_tickets (quiet line.event Say.Voted ∷ past) on.tid (participants (protocols scenario) past on.tid) } in
      let f = found edge_between (commits (Coordinator.records past)) g g edges on.cycle in
      no_cycle serial careful commands g (and_parts (is_open past on.tid) (is_due_vote (outstanding past on.tid on.site)) on.is_counted).0
      (λ k i. tickets-voted scenario story on.tid line.event line.cause (votes-sent scenario good commands) k i) f.middle edges f.among f.walk

refusal : (protocols : List Participant) (past : CoordPast) (event : CoordEvent) (answer : Answer) → RefusesForCycle answer → Refuses protocols past event answer → (edges : List Edge) × IsOnCycle protocols past event edges
refusal protocols past event (Say.Decides decision (Some (For.Cycle edges)) forgets) r on = (edges, on)
refusal protocols past event answer r on = absurd r

-- where tickets are taken conservatively, no commit is refused for a cycle
pub conservative : StoriesHaveRightLines → OfSites TicketsRise → OfSites IsSerialPast → ConservativeTicketsCloseNoCycle
conservative right rise serial scenario good careful commands x next refuses =
    let story = story_of scenario commands in
    let line : IsCoordLine scenario story x = subst (IsLine scenario story) next.1 (line_is scenario story next.0) in
    let checked = subst (λ (y : CoordHappening). IsChecked (protocols scenario) (policy scenario) (coord_past story) line.event y) (sym line.is_next) (coord_checked (protocols scenario) (policy scenario) (coord_past story) line.event) in
    let (edges, on) = refusal (protocols scenario) (coord_past story) line.event x.answer refuses checked.refuses in
    not_refused scenario good right rise serial careful commands x line edges on
