-- The coordinator sends to the sites of its table alone.
use Rattle.std.proofs.Common.{◌≡◌, inl, inr, subst, ℕ, Bool, true, false, cond, ◌&&◌, ◌||◌, Option, Some, None, List, [], ◌∷◌, map, refl, sym, ap}
use Rattle.std.specs.Prelude.{is_none, nat_lt, not}
use Rattle.mdb_base.specs.declared.acts.Step.{Step}
use Rattle.mdb_base.specs.declared.names.SiteId.{SiteId}
use Rattle.mdb_base.specs.declared.names.SiteTicket.{SiteTicket}
use Rattle.mdb_base.specs.declared.names.Tid.{Tid}
use Rattle.mdb_base.specs.declared.names.Tx.{Tx}
use Rattle.mdb_base.specs.declared.replies.Reply.{Reply}
use Rattle.mdb_base.specs.declared.replies.Reply.TheVariants as Reply_is
use Rattle.mdb_base.specs.declared.replies.Why.TheVariants as Because
use Rattle.mdb_base.specs.Names.{same_site}
use Rattle.mdb_base.specs.Words.{Each, found, given, some_of, when}
use Rattle.mdb_base.proofs.ForCallers.{each_filtered}
use Rattle.order_laws.specs.Search.{cycle_through}
use Rattle.order_laws.specs.Tickets.{edge_between}
use Rattle.presumptions.specs.declared.Decision.{Decision}
use Rattle.presumptions.specs.declared.Decision.TheVariants as Decision_is
use Rattle.presumptions.specs.declared.Participant.{Participant}
use Rattle.fed_rules.specs.declared.answers.Answer.{Answer}
use Rattle.fed_rules.specs.declared.answers.Answer.TheVariants as Say
use Rattle.fed_rules.specs.declared.answers.Cause.{Cause}
use Rattle.fed_rules.specs.declared.answers.Cause.TheVariants as For
use Rattle.fed_rules.specs.declared.events.CoordEvent.{CoordEvent}
use Rattle.fed_rules.specs.declared.events.CoordEvent.TheVariants as Ev
use Rattle.fed_rules.specs.declared.messages.Due.{Due}
use Rattle.fed_rules.specs.declared.messages.Due.TheVariants as Due_is
use Rattle.fed_rules.specs.declared.messages.FromSite.{FromSite}
use Rattle.fed_rules.specs.declared.messages.FromSite.TheVariants as From
use Rattle.fed_rules.specs.declared.messages.Sent.{Sent}
use Rattle.fed_rules.specs.Disk.{longest}
use Rattle.fed_rules.specs.Happenings.{Trip, is_down, quiet, stopped, tripped}
use Rattle.fed_rules.specs.Coord.{aborts, ack_counts, acked_while, again_while, all_outstanding, all_voted, answered, asked_while, commits_it, coord_line, decide_to, defers_all, defers_some, did_counts, did_reply, held_back, is_member, is_prepare, is_take, lacks_initiation, last_vote, let_through, may_take, missing, news, news_at, of_ack, of_again, of_back, of_did, of_fate, of_go, of_inquiry, of_late, of_take, of_vote, send_due, sends_all, sends_dues, sends_news, unless_tripped, vote_tickets, vote_counted, vote_counts, yes_vote, of_check, checkpoint}
use Rattle.fed_rules.specs.CoordPast.{CoordHappening, CoordPast, Standing, Undecided, Decided, Gone, disk, is_open, has_acked, outstanding, participants, records, standing, trip, undecided_of}
use Rattle.fed_rules.specs.CoordRecords.{commits, committed_of, named, required_of, coord_frame, is_nobody, coord_payload}
use Rattle.fed_rules.specs.Policies.{Policy}
use Rattle.order_laws.proofs.ForCallers.{each_found_from, each_from, those_in}
use Rattle.order_laws.specs.Chains.{In}
use Rattle.presumptions.specs.Table.{acks}
use Rattle.fed_rules.specs.Site_of.{due_site}
use Rattle.coord_laws.proofs.ForCallers.{outstanding_site}

-- the sites of a table
abbrev pub sites_in : List Participant → List SiteId
sites_in members = map (λ (member : Participant). member.site) members

-- a line that sends to these sites alone
pub record SendsAmong (protocols : List Participant) (x : CoordHappening) : Type 0 where
  pub sends : Each (λ (sent : Sent). In sent.site (sites_in protocols)) x.sends

-- a message that comes is of one of these sites
abbrev pub ComesFrom : List Participant → CoordEvent → Type 0
ComesFrom protocols (Ev.Take site message) = In site (sites_in protocols)
ComesFrom protocols event = Unit {0}

-- the records name participants of the table
abbrev pub NamesAmong : List Participant → CoordPast → Type 0
NamesAmong protocols past = (tid : Tid) (ms : List Participant) → named protocols (records past) tid ≡ Some ms → Each (λ (m : Participant). In m.site (sites_in protocols)) ms

pub in_sites : (m : Participant) (ms : List Participant) → In m ms → In m.site (sites_in ms)
in_sites m [] i = absurd i
in_sites m (n ∷ ms) (inl e) = inl (ap (λ (p : Participant). p.site) e)
in_sites m (n ∷ ms) (inr i) = inr (in_sites m ms i)

module _ (protocols : List Participant) where
  Among : SiteId → Type 0
  Among site = In site (sites_in protocols)

  -- participants are of the table
  pub member_among : (past : CoordPast) (tid : Tid) (m : Participant) → In m (participants protocols past tid) → In m.site (sites_in protocols)
  member_among past tid m i = in_sites m protocols (those_in _ m protocols i).0

  members_among : (past : CoordPast) (tid : Tid) → Each (λ (m : Participant). In m.site (sites_in protocols)) (participants protocols past tid)
  members_among past tid = each_from _ (participants protocols past tid) (λ m i. member_among past tid m i)

  decides_among : (tid : Tid) (decision : Decision) (ms : List Participant) → Each (λ (m : Participant). In m.site (sites_in protocols)) ms
      → Each (λ (sent : Sent). In sent.site (sites_in protocols)) (decide_to tid decision ms)
  decides_among tid decision [] h = tt
  decides_among tid decision (m ∷ ms) h = (h.0, decides_among tid decision ms h.1)

  dues_among : (tid : Tid) (dues : List Due) → Each (λ (due : Due). In (due_site due) (sites_in protocols)) dues
      → Each (λ (sent : Sent). In sent.site (sites_in protocols)) (map (send_due tid) dues)
  dues_among tid [] h = tt
  dues_among tid (due ∷ dues) h = (h.0, dues_among tid dues h.1)

  none : (x : CoordHappening) → x.sends ≡ [] → SendsAmong protocols x
  none x e = record { sends = subst (λ xs. Each (λ (sent : Sent). In sent.site (sites_in protocols)) xs) (sym e) tt }

  still : (event : CoordEvent) (answer : Answer) → SendsAmong protocols (quiet event answer)
  still event answer = record { sends = tt }

  at_when : (b : Bool) (x y : CoordHappening) → SendsAmong protocols x → SendsAmong protocols y → SendsAmong protocols (when b x y)
  unfolding when
  at_when true x y p q = p
  at_when false x y p q = q

  at_given : {A : Type 0} (o : Option A) (x : CoordHappening) (f : A → CoordHappening) → SendsAmong protocols x → ((a : A) → SendsAmong protocols (f a))
      → SendsAmong protocols (given o f x)
  unfolding given
  at_given None x f p q = p
  at_given (Some a) x f p q = q a

  by_dues : (past : CoordPast) (event : CoordEvent) (tid : Tid) (answer : Answer) (dues : List Due)
      → Each (λ (due : Due). In (due_site due) (sites_in protocols)) dues → SendsAmong protocols (sends_dues protocols past event tid answer dues)
  unfolding sends_dues
  by_dues past event tid answer dues h =
      at_when (some_of is_prepare dues && lacks_initiation protocols past tid) _ _ (record { sends = dues_among tid dues h }) (record { sends = dues_among tid dues h })

  by_aborts : (past : CoordPast) (event : CoordEvent) (tid : Tid) (cause : Cause) → SendsAmong protocols (aborts protocols past event tid cause)
  unfolding aborts
  by_aborts past event tid cause = record { sends = decides_among tid Decision_is.Abort (participants protocols past tid) (members_among past tid) }

  by_commits : (past : CoordPast) (event : CoordEvent) (tid : Tid) (tickets : List SiteTicket) → SendsAmong protocols (commits_it protocols past event tid tickets)
  unfolding commits_it
  by_commits past event tid tickets = record { sends = decides_among tid Decision_is.Commit (participants protocols past tid) (members_among past tid) }

  due_among : (past : CoordPast) (tid : Tid) (m : Participant) (due : Due) → In m.site (sites_in protocols) → outstanding past tid m.site ≡ Some due
      → In (due_site due) (sites_in protocols)
  due_among past tid m due i e = subst (λ (s : SiteId). In s (sites_in protocols)) (sym (outstanding_site past tid m.site due e)) i

  all_among : (past now : CoordPast) (tid : Tid) → Each (λ (due : Due). In (due_site due) (sites_in protocols)) (found (λ (m : Participant). outstanding now tid m.site) (participants protocols past tid))
  all_among past now tid =
      each_found_from _ (λ (m : Participant). outstanding now tid m.site) (participants protocols past tid) (λ m due i e. due_among now tid m due (member_among past tid m i) e)

  news_among : (before now : CoordPast) (tid : Tid) (site : SiteId) → Each (λ (due : Due). In (due_site due) (sites_in protocols)) (news protocols before now tid site)
  news_among before now tid site =
      each_found_from _ (λ (m : Participant). news_at before now tid site m.site) (participants protocols before tid)
      (λ m due i e. by_test m due (member_among before tid m i) (same_site m.site site || is_none (outstanding before tid m.site)) e)
    where
      by_test : (m : Participant) (due : Due) → In m.site (sites_in protocols) → (b : Bool) → cond b (outstanding now tid m.site) None ≡ Some due → In (due_site due) (sites_in protocols)
      by_test m due i true e = due_among now tid m due i e
      by_test m due i false e = cc

  by_go : (past : CoordPast) (tid : Tid) (steps : List Step) → SendsAmong protocols (of_go protocols past tid steps)
  unfolding of_go
  by_go past tid steps =
      at_given (committed_of (records past) tid.tx) _ _
      (at_given (undecided_of past tid.tx) _ _
      (record { sends = dues_among tid _ (all_among (quiet (Ev.Go tid steps) (Say.Begun tid) ∷ past) (quiet (Ev.Go tid steps) (Say.Begun tid) ∷ past) tid) })
      (λ running. still _ _))
      (λ committed. still _ _)

  by_news : (policy : Policy) (past : CoordPast) (site : SiteId) (message : FromSite) (tid : Tid)
      → SendsAmong protocols (sends_news protocols policy past (Ev.Take site message) tid (news protocols past (quiet (Ev.Take site message) Say.Only ∷ past) tid site))
  unfolding sends_news
  by_news policy past site message tid =
      by_dues past (Ev.Take site message) tid (defers_some (held_back protocols policy past tid due)) (let_through protocols policy past tid due)
      (each_filtered _ (λ d. not (is_take d && not (may_take protocols policy past tid))) due (news_among past (quiet (Ev.Take site message) Say.Only ∷ past) tid site))
    where
      due : List Due
      due = news protocols past (quiet (Ev.Take site message) Say.Only ∷ past) tid site

  by_reply : (policy : Policy) (past : CoordPast) (site : SiteId) (message : FromSite) (tid : Tid) (reply : Reply)
      → SendsAmong protocols (did_reply protocols policy past site message tid reply)
  unfolding did_reply
  by_reply policy past site message tid (Reply_is.Wait by) = still _ _
  by_reply policy past site message tid (Reply_is.Refused (Because.Die by)) = by_aborts past _ tid _
  by_reply policy past site message tid (Reply_is.Refused (Because.Late by)) = by_aborts past _ tid _
  by_reply policy past site message tid Reply_is.Unknown = by_aborts past _ tid _
  by_reply policy past site message tid reply = by_news policy past site message tid

  by_inquiry : (past : CoordPast) (site : SiteId) (tid : Tid) (s : Standing) → In site (sites_in protocols) → SendsAmong protocols (asked_while protocols site tid s)
  unfolding asked_while
  by_inquiry past site tid Undecided i = still _ _
  by_inquiry past site tid (Decided decision) i = record { sends = (i, tt) }
  by_inquiry past site tid Gone i = record { sends = (i, tt) }

  by_acked : (past : CoordPast) (site : SiteId) (tid : Tid) (s : Standing) → SendsAmong protocols (acked_while protocols past site tid s)
  unfolding acked_while ack_counts
  by_acked past site tid Undecided = still _ _
  by_acked past site tid (Decided decision) =
      at_when (is_member site (missing protocols past tid decision)) _ _
      (at_when (is_nobody (missing protocols (quiet (Ev.Take site (From.Ack tid)) Say.Acked ∷ past) tid decision)) _ _ (none _ refl) (still _ _)) (still _ _)
  by_acked past site tid Gone = still _ _

  by_yes : (past : CoordPast) (event : CoordEvent) (tid : Tid) → SendsAmong protocols (yes_vote protocols past event tid)
  unfolding yes_vote last_vote
  by_yes past event tid =
      let now : CoordPast = quiet event Say.Voted ∷ past in
      let tickets = vote_tickets now tid (participants protocols past tid) in
      at_when (all_voted now tid (participants protocols past tid)) _ _
      (at_given (cycle_through edge_between (record { tid = tid; tickets = tickets }) (commits (records past))) _ _ (by_commits past event tid tickets)
      (λ edges. by_aborts past event tid (For.Cycle edges))) (still _ _)

  by_vote : (past : CoordPast) (site : SiteId) (tid : Tid) (vote : Option ℕ) → SendsAmong protocols (vote_counted protocols past site tid vote)
  unfolding vote_counted
  by_vote past site tid None = by_aborts past _ tid _
  by_vote past site tid (Some ticket) = by_yes past (Ev.Take site (From.Vote tid (Some ticket))) tid

  by_take : (policy : Policy) (past : CoordPast) (site : SiteId) (message : FromSite) → In site (sites_in protocols) → SendsAmong protocols (of_take protocols policy past site message)
  unfolding of_take of_did of_vote of_ack of_inquiry
  by_take policy past site (From.Did tid epoch n reply) i =
      at_when (did_counts past site tid epoch n reply) _ _ (by_reply policy past site (From.Did tid epoch n reply) tid reply) (still _ _)
  by_take policy past site (From.Vote tid vote) i = at_when (vote_counts past site tid) _ _ (by_vote past site tid vote) (still _ _)
  by_take policy past site (From.Ack tid) i = by_acked past site tid (standing protocols past tid)
  by_take policy past site (From.Inquiry tid) i = by_inquiry past site tid (standing protocols past tid) i

  -- who is missing is named by the records
  missing_among : (past : CoordPast) (tid : Tid) (decision : Decision) → NamesAmong protocols past
      → Each (λ (m : Participant). In m.site (sites_in protocols)) (missing protocols past tid decision)
  missing_among past tid decision h = each_filtered _ (λ (m : Participant). not (has_acked past tid m.site)) (required_of decision (named protocols (records past) tid)) (by_named (named protocols (records past) tid) refl)
    where
      by_named : (o : Option (List Participant)) → named protocols (records past) tid ≡ o → Each (λ (m : Participant). In m.site (sites_in protocols)) (required_of decision o)
      by_named None e = tt
      by_named (Some ms) e = each_filtered _ (λ (m : Participant). acks m.protocol decision) ms (h tid ms e)

  by_again : (policy : Policy) (past : CoordPast) (tid : Tid) (s : Standing) → NamesAmong protocols past → SendsAmong protocols (again_while protocols policy past tid s)
  unfolding again_while sends_all
  by_again policy past tid Undecided h =
      let due = all_outstanding protocols past tid in
      by_dues past (Ev.Again tid) tid (defers_all (held_back protocols policy past tid due) (let_through protocols policy past tid due)) (let_through protocols policy past tid due)
      (each_filtered _ (λ d. not (is_take d && not (may_take protocols policy past tid))) due (all_among past past tid))
  by_again policy past tid (Decided decision) h = record { sends = decides_among tid decision (missing protocols past tid decision) (missing_among past tid decision h) }
  by_again policy past tid Gone h = still _ _

  by_late : (past : CoordPast) (tid : Tid) → SendsAmong protocols (of_late protocols past tid)
  unfolding of_late
  by_late past tid = at_when (is_open past tid) _ _ (by_aborts past _ tid _) (still _ _)

  by_fate : (past : CoordPast) (tx : Tx) → SendsAmong protocols (of_fate past tx)
  unfolding of_fate
  by_fate past tx =
      at_given (committed_of (records past) tx) _ _ (at_given (undecided_of past tx) _ _ (still _ _) (λ running. still _ _)) (λ committed. still _ _)

  by_check : (past : CoordPast) → SendsAmong protocols (of_check protocols past)
  unfolding of_check
  by_check past = at_when (nat_lt longest (coord_payload (checkpoint protocols past))) _ _ (still _ _) (none _ refl)

  by_back : (past : CoordPast) → SendsAmong protocols (of_back protocols past)
  unfolding of_back
  by_back past = none _ refl

  by_answer : (policy : Policy) (past : CoordPast) (event : CoordEvent) → ComesFrom protocols event → NamesAmong protocols past
      → SendsAmong protocols (answered protocols policy past event)
  unfolding answered of_again
  by_answer policy past (Ev.Go tid steps) c h = by_go past tid steps
  by_answer policy past (Ev.Take site message) c h = by_take policy past site message c
  by_answer policy past (Ev.Again tid) c h = by_again policy past tid (standing protocols past tid) h
  by_answer policy past (Ev.Late tid) c h = by_late past tid
  by_answer policy past (Ev.Fate tx) c h = by_fate past tx
  by_answer policy past (Ev.Halt cut) c h = still _ _
  by_answer policy past (Ev.Trip calls cut) c h = still _ _
  by_answer policy past Ev.Back c h = by_back past
  by_answer policy past Ev.Check c h = by_check past

  by_trip : (past : CoordPast) (o : Option Trip) (x : CoordHappening) → SendsAmong protocols x → SendsAmong protocols (tripped coord_frame (disk past) o x)
  unfolding tripped stopped
  by_trip past None x s = s
  by_trip past (Some t) x s = at_when _ _ x (none _ refl) s

  by_up : (policy : Policy) (past : CoordPast) (event : CoordEvent) → ComesFrom protocols event → NamesAmong protocols past
      → SendsAmong protocols (when (is_down past) (quiet event Say.Down) (unless_tripped past (answered protocols policy past event)))
  by_up policy past event c h = at_when (is_down past) _ _ (still _ _) (by_trip past (trip past) (answered protocols policy past event) (by_answer policy past event c h))

  -- the next line of the coordinator
  pub line_among : (policy : Policy) (past : CoordPast) (event : CoordEvent) → ComesFrom protocols event → NamesAmong protocols past
      → SendsAmong protocols (coord_line protocols policy past event)
  unfolding coord_line stopped
  line_among policy past (Ev.Trip calls cut) c h = still _ _
  line_among policy past (Ev.Halt cut) c h = at_when (is_down past) _ _ (still _ _) (none _ refl)
  line_among policy past Ev.Back c h = at_when (is_down past) _ _ (by_trip past (trip past) (of_back protocols past) (by_back past)) (still _ _)
  line_among policy past (Ev.Go tid steps) c h = by_up policy past (Ev.Go tid steps) c h
  line_among policy past (Ev.Take site message) c h = by_up policy past (Ev.Take site message) c h
  line_among policy past (Ev.Again tid) c h = by_up policy past (Ev.Again tid) c h
  line_among policy past (Ev.Late tid) c h = by_up policy past (Ev.Late tid) c h
  line_among policy past (Ev.Fate tx) c h = by_up policy past (Ev.Fate tx) c h
  line_among policy past Ev.Check c h = by_up policy past Ev.Check c h
