-- What the coordinator sends in a line goes to rising sites.
use Rattle.std.proofs.Common.{◌≡◌, subst, ℕ, Bool, true, false, cond, ◌&&◌, ◌||◌, Option, Some, None, List, [], ◌∷◌, refl, sym, ap}
use Rattle.std.specs.Prelude.{is_none, nat_lt, not}
use Rattle.mdb_base.specs.declared.acts.Step.{Step}
use Rattle.mdb_base.specs.declared.names.SiteId.{SiteId}
use Rattle.mdb_base.specs.declared.names.SiteTicket.{SiteTicket}
use Rattle.mdb_base.specs.declared.names.Tid.{Tid}
use Rattle.mdb_base.specs.declared.names.Tx.{Tx}
use Rattle.mdb_base.specs.declared.replies.Reply.{Reply}
use Rattle.mdb_base.specs.declared.replies.Reply.TheVariants as Reply_is
use Rattle.mdb_base.specs.declared.replies.Why.TheVariants as Because
use Rattle.mdb_base.specs.Names.{same_site}
use Rattle.mdb_base.specs.Rising.{IsRising}
use Rattle.mdb_base.specs.Words.{found, given, some_of, when}
use Rattle.order_laws.specs.Search.{cycle_through}
use Rattle.order_laws.specs.Tickets.{edge_between}
use Rattle.presumptions.specs.declared.Decision.{Decision}
use Rattle.presumptions.specs.declared.Decision.TheVariants as Decision_is
use Rattle.presumptions.specs.declared.Participant.{Participant}
use Rattle.presumptions.specs.Table.{acks}
use Rattle.fed_rules.specs.declared.answers.Answer.{Answer}
use Rattle.fed_rules.specs.declared.answers.Answer.TheVariants as Say
use Rattle.fed_rules.specs.declared.answers.Cause.{Cause}
use Rattle.fed_rules.specs.declared.answers.Cause.TheVariants as For
use Rattle.fed_rules.specs.declared.events.CoordEvent.{CoordEvent}
use Rattle.fed_rules.specs.declared.events.CoordEvent.TheVariants as Ev
use Rattle.fed_rules.specs.declared.messages.Due.{Due}
use Rattle.fed_rules.specs.declared.messages.Due.TheVariants as Due_is
use Rattle.fed_rules.specs.declared.messages.FromSite.{FromSite}
use Rattle.fed_rules.specs.declared.messages.FromSite.TheVariants as From
use Rattle.fed_rules.specs.declared.messages.Sent.{Sent}
use Rattle.fed_rules.specs.Disk.{longest}
use Rattle.fed_rules.specs.Happenings.{Trip, is_down, quiet, stopped, tripped}
use Rattle.fed_rules.specs.Coord.{aborts, ack_counts, acked_while, again_while, all_outstanding, all_voted, answered, asked_while, commits_it, coord_line, defers_all, defers_some, did_counts, did_reply, held_back, is_member, is_prepare, is_take, lacks_initiation, last_vote, let_through, may_take, missing, news, news_at, of_ack, of_again, of_back, of_did, of_fate, of_go, of_inquiry, of_late, of_take, of_vote, sends_all, sends_dues, sends_news, unless_tripped, vote_tickets, vote_counted, vote_counts, yes_vote, of_check, checkpoint}
use Rattle.fed_rules.specs.CoordPast.{CoordHappening, CoordPast, Standing, Undecided, Decided, Gone, disk, is_open, has_acked, outstanding, participants, program, records, standing, trip, undecided_of, visits}
use Rattle.fed_rules.specs.CoordRecords.{commits, committed_of, named, required_of, coord_frame, is_nobody, coord_payload}
use Rattle.fed_rules.specs.Policies.{Policy}
use Rattle.fed_rules.specs.Site_of.{due_site}
use Rattle.mdb_base.proofs.ForCallers.{those_rise}
use Rattle.fed_rules.proofs.ForCallers.{MembersRise, decisions_rise, sends_rise}
use Rattle.global_exec.proofs.ForCallers.{found_rises}
use Rattle.coord_laws.proofs.ForCallers.{outstanding_site}
use Rattle.coord_tables.proofs.ForCallers.{found_rise}

-- by rising site
abbrev pub BySite : List Sent → Type 0
BySite sends = IsRising (λ (sent : Sent). sent.site.0) sends

abbrev DuesRise : List Due → Type 0
DuesRise dues = IsRising (λ (due : Due). (due_site due).0) dues

-- a line that sends by rising site
pub record SendsRise (x : CoordHappening) : Type 0 where
  pub sends : BySite x.sends

-- the records name participants by rising site
abbrev pub NamesRise : List Participant → CoordPast → Type 0
NamesRise protocols past = (tid : Tid) (members : List Participant) → named protocols (records past) tid ≡ Some members → MembersRise members

news_site : (before now : CoordPast) (tid : Tid) (site other : SiteId) (due : Due) → news_at before now tid site other ≡ Some due → due_site due ≡ other
news_site before now tid site other due e = by_test (same_site other site || is_none (outstanding before tid other)) e
  where
    by_test : (b : Bool) → cond b (outstanding now tid other) None ≡ Some due → due_site due ≡ other
    by_test true e = outstanding_site now tid other due e
    by_test false e = cc

none : (x : CoordHappening) → x.sends ≡ [] → SendsRise x
none x e = record { sends = subst BySite (sym e) tt }

still : (event : CoordEvent) (answer : Answer) → SendsRise (quiet event answer)
still event answer = record { sends = tt }

at_when : (b : Bool) (x y : CoordHappening) → SendsRise x → SendsRise y → SendsRise (when b x y)
unfolding when
at_when true x y p q = p
at_when false x y p q = q

at_given : {A : Type 0} (o : Option A) (x : CoordHappening) (f : A → CoordHappening) → SendsRise x → ((a : A) → SendsRise (f a)) → SendsRise (given o f x)
unfolding given
at_given None x f p q = p
at_given (Some a) x f p q = q a

module _ (protocols : List Participant) (rising : MembersRise protocols) where
  participants_rise : (past : CoordPast) (tid : Tid) → MembersRise (participants protocols past tid)
  participants_rise past tid = those_rise (λ (p : Participant). p.site.0) (λ (p : Participant). visits p.site (program past tid)) protocols rising

  by_dues : (past : CoordPast) (event : CoordEvent) (tid : Tid) (answer : Answer) (dues : List Due) → DuesRise dues → SendsRise (sends_dues protocols past event tid answer dues)
  unfolding sends_dues
  by_dues past event tid answer dues h =
      at_when (some_of is_prepare dues && lacks_initiation protocols past tid) _ _ (record { sends = sends_rise tid dues h }) (record { sends = sends_rise tid dues h })

  by_aborts : (past : CoordPast) (event : CoordEvent) (tid : Tid) (cause : Cause) → SendsRise (aborts protocols past event tid cause)
  unfolding aborts
  by_aborts past event tid cause = record { sends = decisions_rise tid Decision_is.Abort (participants protocols past tid) (participants_rise past tid) }

  by_commits : (past : CoordPast) (event : CoordEvent) (tid : Tid) (tickets : List SiteTicket) → SendsRise (commits_it protocols past event tid tickets)
  unfolding commits_it
  by_commits past event tid tickets = record { sends = decisions_rise tid Decision_is.Commit (participants protocols past tid) (participants_rise past tid) }

  all_rise : (past now : CoordPast) (tid : Tid) → DuesRise (found (λ (m : Participant). outstanding now tid m.site) (participants protocols past tid))
  all_rise past now tid =
      found_rises (λ (m : Participant). m.site.0) (λ (due : Due). (due_site due).0) (λ (m : Participant). outstanding now tid m.site)
      (λ m due e. ap (λ (s : SiteId). s.0) (outstanding_site now tid m.site due e)) (participants protocols past tid) (participants_rise past tid)

  news_rise : (before now : CoordPast) (tid : Tid) (site : SiteId) → DuesRise (news protocols before now tid site)
  news_rise before now tid site =
      found_rises (λ (m : Participant). m.site.0) (λ (due : Due). (due_site due).0) (λ (m : Participant). news_at before now tid site m.site)
      (λ m due e. ap (λ (s : SiteId). s.0) (news_site before now tid site m.site due e)) (participants protocols before tid) (participants_rise before tid)

  through_rise : (policy : Policy) (past : CoordPast) (tid : Tid) (dues : List Due) → DuesRise dues → DuesRise (let_through protocols policy past tid dues)
  through_rise policy past tid dues h = those_rise (λ (due : Due). (due_site due).0) (λ d. not (is_take d && not (may_take protocols policy past tid))) dues h

  by_go : (past : CoordPast) (tid : Tid) (steps : List Step) → SendsRise (of_go protocols past tid steps)
  unfolding of_go
  by_go past tid steps =
      at_given (committed_of (records past) tid.tx) _ _
      (at_given (undecided_of past tid.tx) _ _
      (record { sends = sends_rise tid _ (all_rise (quiet (Ev.Go tid steps) (Say.Begun tid) ∷ past) (quiet (Ev.Go tid steps) (Say.Begun tid) ∷ past) tid) })
      (λ running. still _ _))
      (λ committed. still _ _)

  by_news : (policy : Policy) (past : CoordPast) (site : SiteId) (message : FromSite) (tid : Tid)
      → SendsRise (sends_news protocols policy past (Ev.Take site message) tid (news protocols past (quiet (Ev.Take site message) Say.Only ∷ past) tid site))
  unfolding sends_news
  by_news policy past site message tid =
      by_dues past (Ev.Take site message) tid (defers_some (held_back protocols policy past tid due)) (let_through protocols policy past tid due)
      (through_rise policy past tid due (news_rise past (quiet (Ev.Take site message) Say.Only ∷ past) tid site))
    where
      due : List Due
      due = news protocols past (quiet (Ev.Take site message) Say.Only ∷ past) tid site

  by_reply : (policy : Policy) (past : CoordPast) (site : SiteId) (message : FromSite) (tid : Tid) (reply : Reply) → SendsRise (did_reply protocols policy past site message tid reply)
  unfolding did_reply
  by_reply policy past site message tid (Reply_is.Wait by) = still _ _
  by_reply policy past site message tid (Reply_is.Refused (Because.Die by)) = by_aborts past _ tid _
  by_reply policy past site message tid (Reply_is.Refused (Because.Late by)) = by_aborts past _ tid _
  by_reply policy past site message tid Reply_is.Unknown = by_aborts past _ tid _
  by_reply policy past site message tid reply = by_news policy past site message tid

  by_inquiry : (past : CoordPast) (site : SiteId) (tid : Tid) (s : Standing) → SendsRise (asked_while protocols site tid s)
  unfolding asked_while
  by_inquiry past site tid Undecided = still _ _
  by_inquiry past site tid (Decided decision) = record { sends = tt }
  by_inquiry past site tid Gone = record { sends = tt }

  by_acked : (past : CoordPast) (site : SiteId) (tid : Tid) (s : Standing) → SendsRise (acked_while protocols past site tid s)
  unfolding acked_while ack_counts
  by_acked past site tid Undecided = still _ _
  by_acked past site tid (Decided decision) =
      at_when (is_member site (missing protocols past tid decision)) _ _
      (at_when (is_nobody (missing protocols (quiet (Ev.Take site (From.Ack tid)) Say.Acked ∷ past) tid decision)) _ _ (none _ refl) (still _ _)) (still _ _)
  by_acked past site tid Gone = still _ _

  by_yes : (past : CoordPast) (event : CoordEvent) (tid : Tid) → SendsRise (yes_vote protocols past event tid)
  unfolding yes_vote last_vote
  by_yes past event tid =
      let now : CoordPast = quiet event Say.Voted ∷ past in
      let tickets = vote_tickets now tid (participants protocols past tid) in
      at_when (all_voted now tid (participants protocols past tid)) _ _
      (at_given (cycle_through edge_between (record { tid = tid; tickets = tickets }) (commits (records past))) _ _ (by_commits past event tid tickets)
      (λ edges. by_aborts past event tid (For.Cycle edges))) (still _ _)

  by_vote : (past : CoordPast) (site : SiteId) (tid : Tid) (vote : Option ℕ) → SendsRise (vote_counted protocols past site tid vote)
  unfolding vote_counted
  by_vote past site tid None = by_aborts past _ tid _
  by_vote past site tid (Some ticket) = by_yes past (Ev.Take site (From.Vote tid (Some ticket))) tid

  by_take : (policy : Policy) (past : CoordPast) (site : SiteId) (message : FromSite) → SendsRise (of_take protocols policy past site message)
  unfolding of_take of_did of_vote of_ack of_inquiry
  by_take policy past site (From.Did tid epoch n reply) =
      at_when (did_counts past site tid epoch n reply) _ _ (by_reply policy past site (From.Did tid epoch n reply) tid reply) (still _ _)
  by_take policy past site (From.Vote tid vote) = at_when (vote_counts past site tid) _ _ (by_vote past site tid vote) (still _ _)
  by_take policy past site (From.Ack tid) = by_acked past site tid (standing protocols past tid)
  by_take policy past site (From.Inquiry tid) = by_inquiry past site tid (standing protocols past tid)

  -- who is missing is named by the records
  missing_rise : (past : CoordPast) (tid : Tid) (decision : Decision) → NamesRise protocols past → MembersRise (missing protocols past tid decision)
  missing_rise past tid decision h =
      those_rise (λ (m : Participant). m.site.0) (λ (m : Participant). not (has_acked past tid m.site)) (required_of decision (named protocols (records past) tid)) (by_named (named protocols (records past) tid) refl)
    where
      by_named : (o : Option (List Participant)) → named protocols (records past) tid ≡ o → MembersRise (required_of decision o)
      by_named None e = tt
      by_named (Some ms) e = those_rise (λ (m : Participant). m.site.0) (λ (m : Participant). acks m.protocol decision) ms (h tid ms e)

  by_again : (policy : Policy) (past : CoordPast) (tid : Tid) (s : Standing) → NamesRise protocols past → SendsRise (again_while protocols policy past tid s)
  unfolding again_while sends_all
  by_again policy past tid Undecided h =
      let due = all_outstanding protocols past tid in
      by_dues past (Ev.Again tid) tid (defers_all (held_back protocols policy past tid due) (let_through protocols policy past tid due)) (let_through protocols policy past tid due)
      (through_rise policy past tid due (all_rise past past tid))
  by_again policy past tid (Decided decision) h = record { sends = decisions_rise tid decision (missing protocols past tid decision) (missing_rise past tid decision h) }
  by_again policy past tid Gone h = still _ _

  by_late : (past : CoordPast) (tid : Tid) → SendsRise (of_late protocols past tid)
  unfolding of_late
  by_late past tid = at_when (is_open past tid) _ _ (by_aborts past _ tid _) (still _ _)

  by_fate : (past : CoordPast) (tx : Tx) → SendsRise (of_fate past tx)
  unfolding of_fate
  by_fate past tx =
      at_given (committed_of (records past) tx) _ _ (at_given (undecided_of past tx) _ _ (still _ _) (λ running. still _ _)) (λ committed. still _ _)

  by_check : (past : CoordPast) → SendsRise (of_check protocols past)
  unfolding of_check
  by_check past = at_when (nat_lt longest (coord_payload (checkpoint protocols past))) _ _ (still _ _) (none _ refl)

  by_back : (past : CoordPast) → SendsRise (of_back protocols past)
  unfolding of_back
  by_back past = none _ refl

  by_answer : (policy : Policy) (past : CoordPast) (event : CoordEvent) → NamesRise protocols past → SendsRise (answered protocols policy past event)
  unfolding answered of_again
  by_answer policy past (Ev.Go tid steps) h = by_go past tid steps
  by_answer policy past (Ev.Take site message) h = by_take policy past site message
  by_answer policy past (Ev.Again tid) h = by_again policy past tid (standing protocols past tid) h
  by_answer policy past (Ev.Late tid) h = by_late past tid
  by_answer policy past (Ev.Fate tx) h = by_fate past tx
  by_answer policy past (Ev.Halt cut) h = still _ _
  by_answer policy past (Ev.Trip calls cut) h = still _ _
  by_answer policy past Ev.Back h = by_back past
  by_answer policy past Ev.Check h = by_check past

  by_trip : (past : CoordPast) (o : Option Trip) (x : CoordHappening) → SendsRise x → SendsRise (tripped coord_frame (disk past) o x)
  unfolding tripped stopped
  by_trip past None x s = s
  by_trip past (Some t) x s = at_when _ _ x (none _ refl) s

  by_up : (policy : Policy) (past : CoordPast) (event : CoordEvent) → NamesRise protocols past
      → SendsRise (when (is_down past) (quiet event Say.Down) (unless_tripped past (answered protocols policy past event)))
  by_up policy past event h = at_when (is_down past) _ _ (still _ _) (by_trip past (trip past) (answered protocols policy past event) (by_answer policy past event h))

  -- the next line of the coordinator sends by rising site
  pub line_rises : (policy : Policy) (past : CoordPast) (event : CoordEvent) → NamesRise protocols past → SendsRise (coord_line protocols policy past event)
  unfolding coord_line stopped
  line_rises policy past (Ev.Trip calls cut) h = still _ _
  line_rises policy past (Ev.Halt cut) h = at_when (is_down past) _ _ (still _ _) (none _ refl)
  line_rises policy past Ev.Back h = at_when (is_down past) _ _ (by_trip past (trip past) (of_back protocols past) (by_back past)) (still _ _)
  line_rises policy past (Ev.Go tid steps) h = by_up policy past (Ev.Go tid steps) h
  line_rises policy past (Ev.Take site message) h = by_up policy past (Ev.Take site message) h
  line_rises policy past (Ev.Again tid) h = by_up policy past (Ev.Again tid) h
  line_rises policy past (Ev.Late tid) h = by_up policy past (Ev.Late tid) h
  line_rises policy past (Ev.Fate tx) h = by_up policy past (Ev.Fate tx) h
  line_rises policy past Ev.Check h = by_up policy past Ev.Check h
