-- Each line of the coordinator: it is at its event, begins only at a `go`, counts only what may count, and asks for a vote only where all
-- operations of a site are done.
use Rattle.fed_rules.proofs.ForCallers.{IsSending, all_sending, some_sending}
use Rattle.std.proofs.Common.{◌≡◌, ℕ, Bool, true, false, cond, ◌&&◌, ◌||◌, Option, Some, None, List, [], ◌∷◌, ◌++◌, drop, map, take, refl, sym, ◌∙◌, subst}
use Rattle.std.specs.Prelude.{is_none, not, nat_le, length, nat_lt}
use Rattle.mdb_base.specs.declared.acts.Step.{Step}
use Rattle.mdb_base.specs.declared.names.SiteId.{SiteId}
use Rattle.mdb_base.specs.declared.names.SiteTicket.{SiteTicket}
use Rattle.mdb_base.specs.declared.names.Tid.{Tid}
use Rattle.mdb_base.specs.declared.replies.Reply.{Reply}
use Rattle.mdb_base.specs.declared.replies.Reply.TheVariants as Reply_is
use Rattle.mdb_base.specs.declared.replies.Why.TheVariants as Because
use Rattle.mdb_base.specs.Names.{same_site}
use Rattle.mdb_base.specs.Programs.{plain_act}
use Rattle.mdb_base.specs.Words.{Each, found, given, how_many, some_of, those, when, with_some}
use Rattle.mdb_base.proofs.ForCallers.{each_filtered, same_tid-equal}
use Rattle.order_laws.specs.Search.{cycle_through}
use Rattle.order_laws.specs.Tickets.{edge_between}
use Rattle.presumptions.specs.declared.Decision.{Decision}
use Rattle.presumptions.specs.declared.Decision.TheVariants as Decision_is
use Rattle.presumptions.specs.declared.Participant.{Participant}
use Rattle.fed_rules.specs.declared.answers.Answer.{Answer}
use Rattle.fed_rules.specs.declared.answers.Answer.TheVariants as Say
use Rattle.fed_rules.specs.declared.answers.Cause.{Cause}
use Rattle.fed_rules.specs.declared.events.CoordEvent.{CoordEvent}
use Rattle.fed_rules.specs.declared.events.CoordEvent.TheVariants as Ev
use Rattle.fed_rules.specs.declared.messages.Due.{Due}
use Rattle.fed_rules.specs.declared.messages.Due.TheVariants as Due_is
use Rattle.fed_rules.specs.declared.messages.FromSite.{FromSite}
use Rattle.fed_rules.specs.declared.messages.FromSite.TheVariants as From
use Rattle.fed_rules.specs.declared.messages.Sent.{Sent}
use Rattle.fed_rules.specs.declared.messages.ToSite.{ToSite}
use Rattle.fed_rules.specs.declared.messages.ToSite.TheVariants as To
use Rattle.fed_rules.specs.declared.records.CoordRecord.{CoordRecord}
use Rattle.fed_rules.specs.Disk.{Call, Stops, longest}
use Rattle.fed_rules.specs.Happenings.{Trip, is_down, quiet, stopped, tripped}
use Rattle.fed_rules.specs.Coord.{aborts, ack_counts, acked_while, again_while, all_outstanding, all_voted, answered, asked_while, commits_it, coord_line, decide_to, defers_all, defers_some, did_counts, did_reply, held_back, is_member, is_prepare, is_take, lacks_initiation, last_vote, let_through, may_take, missing, news, news_at, of_ack, of_again, of_back, of_did, of_fate, of_go, of_inquiry, of_late, of_take, of_vote, send_due, sends_all, sends_dues, sends_news, unless_tripped, vote_counted, vote_counts, yes_vote, of_check, checkpoint}
use Rattle.fed_rules.specs.CoordPast.{Counted, CoordHappening, CoordPast, Standing, Undecided, Decided, Gone, begins, count_at, counted, counts, did_in, disk, epoch_at, has_step_left, has_ticket_at, is_open, is_ticket, is_wait, last_epoch, outstanding, participants, prepare_at, program, reads, records, standing, take_at, trip, undecided_of, visits, vote_at, next_step, work_at}
use Rattle.fed_rules.specs.CoordRecords.{commits, committed_of, coord_frame, is_nobody, coord_payload}
use Rattle.fed_rules.specs.Policies.{Policy}
use Rattle.order_laws.proofs.ForCallers.{each_found_from}

-- whether the reply answers a step
abbrev pub is_step : Counted → Bool
is_step reply = not (is_wait reply.reply) && not (is_ticket reply.reply)

abbrev pub is_from : SiteId → Counted → Bool
is_from site reply = same_site reply.site site

-- the program has steps at the site, and by these counted replies all of them are done, and so is its ticket; the site's epoch is this one
pub record AllDone (program : List Step) (replies : List Counted) (site : SiteId) (e : ℕ) : Type 0 where
  pub visited : visits site program ≡ true
  pub left : visits site (drop (how_many is_step replies) program) ≡ false
  pub ticket : some_of (λ reply. is_ticket reply.reply) (those (is_from site) replies) ≡ true
  pub known : last_epoch (those (is_from site) replies) ≡ e

-- a Prepare is outstanding only where all is done
abbrev pub IsDueDone : List Step → List Counted → Due → Type 0
IsDueDone program replies (Due_is.Prepare site e n) = AllDone program replies site e
IsDueDone program replies due = Unit {0}

-- and is sent only so
abbrev pub IsAsked : CoordPast → SiteId → ToSite → Type 0
IsAsked past site (To.Prepare tid e n) = AllDone (program past tid) (counted past tid) site e
IsAsked past site message = Unit {0}

abbrev pub IsAskedSend : CoordPast → Sent → Type 0
IsAskedSend past sent = IsAsked past sent.site sent.message

-- the event begins the attempt
abbrev pub IsGoOf : Tid → CoordEvent → Type 0
IsGoOf tid (Ev.Go begun steps) = begun ≡ tid
IsGoOf tid event = ⊥

-- a reply may count
abbrev pub MayCount : CoordPast → CoordEvent → Type 0
MayCount past (Ev.Take site (From.Did tid epoch n reply)) = did_counts past site tid epoch n reply ≡ true
MayCount past event = Unit {0}

pub record IsCoordStep (past : CoordPast) (event : CoordEvent) (x : CoordHappening) : Type 0 where
  pub named : x.event ≡ event
  pub begun : (tid : Tid) → begins tid x.answer ≡ true → IsGoOf tid event
  pub counts : counts x.answer ≡ true → MayCount past event
  pub asked : Each (IsAskedSend (x ∷ past)) x.sends

outstanding_done : (past : CoordPast) (tid : Tid) (site : SiteId) (due : Due) → outstanding past tid site ≡ Some due
    → IsDueDone (program past tid) (counted past tid) due
outstanding_done past tid site due e =
    by_visits (visits site (program past tid)) (has_step_left past tid site) (has_ticket_at past tid site) refl refl refl e
  where
    by_vote : (b : Bool) → visits site (program past tid) ≡ true → has_step_left past tid site ≡ false → has_ticket_at past tid site ≡ true
        → cond b (Some (Due_is.Prepare site (epoch_at past tid site) (count_at past tid site))) None ≡ Some due
        → IsDueDone (program past tid) (counted past tid) due
    by_vote true visited left ticket e =
        let same : Due_is.Prepare site (epoch_at past tid site) (count_at past tid site) ≡ due = cc in
        subst (IsDueDone (program past tid) (counted past tid)) same (record { visited = visited; left = left; ticket = ticket; known = refl })
    by_vote false visited left ticket e = cc

    by_step : (o : Option Step) → work_at past tid site o ≡ Some due → IsDueDone (program past tid) (counted past tid) due
    by_step None e = cc
    by_step (Some step) e = by_site (same_site step.site site) e
      where
        work : Due
        work = Due_is.Work site (epoch_at past tid site) (count_at past tid site) (plain_act (reads past tid) step.act)

        by_site : (b : Bool)
            → cond b (Some (Due_is.Work site (epoch_at past tid site) (count_at past tid site)
            (plain_act (reads past tid) step.act))) None ≡ Some due
            → IsDueDone (program past tid) (counted past tid) due
        by_site true e = let same : work ≡ due = cc in subst (IsDueDone (program past tid) (counted past tid)) same tt
        by_site false e = cc

    by_visits : (v l t : Bool) → visits site (program past tid) ≡ v → has_step_left past tid site ≡ l → has_ticket_at past tid site ≡ t
        → cond v (cond l (work_at past tid site (next_step past tid)) (cond t (prepare_at past tid site) (take_at past tid site))) None ≡ Some due
        → IsDueDone (program past tid) (counted past tid) due
    by_visits false l t visited left ticket e = cc
    by_visits true true t visited left ticket e = by_step (next_step past tid) e
    by_visits true false true visited left ticket e = by_vote (is_none (vote_at past tid site)) visited left ticket e
    by_visits true false false visited left ticket e =
        let same : Due_is.Take site (epoch_at past tid site) (count_at past tid site) ≡ due = cc in
        subst (IsDueDone (program past tid) (counted past tid)) same tt

asked_due : (past : CoordPast) (tid : Tid) (due : Due) → IsDueDone (program past tid) (counted past tid) due → IsAskedSend past (send_due tid due)
asked_due past tid (Due_is.Work site e n act) h = tt
asked_due past tid (Due_is.Take site e n) h = tt
asked_due past tid (Due_is.Prepare site e n) h = h

asked_dues : (past : CoordPast) (tid : Tid) (dues : List Due) → Each (IsDueDone (program past tid) (counted past tid)) dues
    → Each (IsAskedSend past) (map (send_due tid) dues)
asked_dues past tid [] h = tt
asked_dues past tid (due ∷ dues) h = (asked_due past tid due h.0, asked_dues past tid dues h.1)

asked_decides : (past : CoordPast) (tid : Tid) (decision : Decision) (members : List Participant)
    → Each (IsAskedSend past) (decide_to tid decision members)
asked_decides past tid decision [] = tt
asked_decides past tid decision (member ∷ members) = (tt, asked_decides past tid decision members)

step_when : (past : CoordPast) (event : CoordEvent) (b : Bool) (x y : CoordHappening) → (b ≡ true → IsCoordStep past event x)
    → (b ≡ false → IsCoordStep past event y) → IsCoordStep past event (when b x y)
unfolding when
step_when past event true x y p q = p refl
step_when past event false x y p q = q refl

step_given : {A : Type 0} (past : CoordPast) (event : CoordEvent) (o : Option A) (none : CoordHappening) (some : A → CoordHappening)
    → IsCoordStep past event none → ((a : A) → IsCoordStep past event (some a)) → IsCoordStep past event (given o some none)
unfolding given
step_given past event None none some p q = p
step_given past event (Some a) none some p q = q a

step_sent : (past : CoordPast) (event : CoordEvent) (tid : Tid) (answer : Answer) (dues : List Due)
    → IsSending answer → MayCount past event
    → Each (IsDueDone (program past tid) (with_some (did_in tid event) (counted past tid))) dues
    → IsCoordStep past event (record { event = event; answer = answer; sends = map (send_due tid) dues; calls = []; lines = [] })
step_sent past event tid Say.Only dues s may h = record {
  named = refl;
  begun = λ t b. cc;
  counts = λ c. may;
  asked = asked_dues (record { event = event; answer = Say.Only; sends = []; calls = []; lines = [] } ∷ past) tid dues h;
}
step_sent past event tid Say.Defers dues s may h = record {
  named = refl;
  begun = λ t b. cc;
  counts = λ c. may;
  asked = asked_dues (record { event = event; answer = Say.Defers; sends = []; calls = []; lines = [] } ∷ past) tid dues h;
}
step_sent past event tid answer dues s may h = absurd s

-- what is sent of an attempt, as it is done with the line
step_dues : (protocols : List Participant) (past : CoordPast) (event : CoordEvent) (tid : Tid) (answer : Answer) (dues : List Due)
    → IsSending answer → MayCount past event
    → Each (IsDueDone (program past tid) (with_some (did_in tid event) (counted past tid))) dues
    → IsCoordStep past event (sends_dues protocols past event tid answer dues)
unfolding sends_dues
step_dues protocols past event tid answer dues s may h =
    step_when past event (some_of is_prepare dues && lacks_initiation protocols past tid) _ _
    (λ e. record {
      named = refl;
      begun = λ t b. cc;
      counts = λ c. may;
      asked = asked_dues (record { event = event; answer = Say.Initiates; sends = []; calls = []; lines = [] } ∷ past) tid dues h;
    })
    (λ e. step_sent past event tid answer dues s may h)

step_aborts : (protocols : List Participant) (past : CoordPast) (event : CoordEvent) (tid : Tid) (cause : Cause) → MayCount past event
    → IsCoordStep past event (aborts protocols past event tid cause)
unfolding aborts
step_aborts protocols past event tid cause may = record {
  named = refl;
  begun = λ t b. cc;
  counts = λ c. may;
  asked = asked_decides (aborts protocols past event tid cause ∷ past) tid Decision_is.Abort (participants protocols past tid);
}

step_commits : (protocols : List Participant) (past : CoordPast) (event : CoordEvent) (tid : Tid) (tickets : List SiteTicket) → MayCount past event
    → IsCoordStep past event (commits_it protocols past event tid tickets)
unfolding commits_it
step_commits protocols past event tid tickets may = record {
  named = refl;
  begun = λ t b. cc;
  counts = λ c. may;
  asked = asked_decides (commits_it protocols past event tid tickets ∷ past) tid Decision_is.Commit (participants protocols past tid);
}

all_done : (past : CoordPast) (tid : Tid) (members : List Participant)
    → Each (IsDueDone (program past tid) (counted past tid)) (found (λ member. outstanding past tid member.site) members)
all_done past tid members =
    each_found_from (IsDueDone (program past tid) (counted past tid)) (λ member. outstanding past tid member.site) members
    (λ member due i e. outstanding_done past tid member.site due e)

news_done : (before now : CoordPast) (tid : Tid) (site : SiteId) (members : List Participant)
    → Each (IsDueDone (program now tid) (counted now tid)) (found (λ member. news_at before now tid site member.site) members)
news_done before now tid site members =
    each_found_from (IsDueDone (program now tid) (counted now tid)) (λ member. news_at before now tid site member.site) members
    (λ member due i e. by_test member due (same_site member.site site || is_none (outstanding before tid member.site)) e)
  where
    by_test : (member : Participant) (due : Due) (b : Bool) → cond b (outstanding now tid member.site) None ≡ Some due
        → IsDueDone (program now tid) (counted now tid) due
    by_test member due true e = outstanding_done now tid member.site due e
    by_test member due false e = cc

step_go : (protocols : List Participant) (past : CoordPast) (tid : Tid) (steps : List Step)
    → IsCoordStep past (Ev.Go tid steps) (of_go protocols past tid steps)
unfolding of_go
step_go protocols past tid steps =
    step_given past (Ev.Go tid steps) (committed_of (records past) tid.tx) _ _
    (step_given past (Ev.Go tid steps) (undecided_of past tid.tx) _ _
    (record {
      named = refl;
      begun = λ t b. same_tid-equal tid t b;
      counts = λ c. tt;
      asked = asked_dues (quiet (Ev.Go tid steps) (Say.Begun tid) ∷ past) tid
          (all_outstanding protocols (quiet (Ev.Go tid steps) (Say.Begun tid) ∷ past) tid)
          (all_done (quiet (Ev.Go tid steps) (Say.Begun tid) ∷ past) tid
          (participants protocols (quiet (Ev.Go tid steps) (Say.Begun tid) ∷ past) tid));
    })
    (λ running. record { named = refl; begun = λ t b. cc; counts = λ c. tt; asked = tt }))
    (λ committed. record { named = refl; begun = λ t b. cc; counts = λ c. tt; asked = tt })

step_news : (protocols : List Participant) (policy : Policy) (past : CoordPast) (site : SiteId) (message : FromSite) (tid : Tid)
    → MayCount past (Ev.Take site message)
    → IsCoordStep past (Ev.Take site message) (sends_news protocols policy past (Ev.Take site message) tid
    (news protocols past (quiet (Ev.Take site message) Say.Only ∷ past) tid site))
unfolding sends_news
step_news protocols policy past site message tid may =
    step_dues protocols past (Ev.Take site message) tid (defers_some (held_back protocols policy past tid due))
    (let_through protocols policy past tid due) (some_sending (held_back protocols policy past tid due)) may
    (each_filtered (IsDueDone (program now tid) (counted now tid)) (λ d. not (is_take d && not (may_take protocols policy past tid))) due
    (news_done past now tid site (participants protocols past tid)))
  where
    now : CoordPast
    now = quiet (Ev.Take site message) Say.Only ∷ past

    due : List Due
    due = news protocols past (quiet (Ev.Take site message) Say.Only ∷ past) tid site

step_reply : (protocols : List Participant) (policy : Policy) (past : CoordPast) (site : SiteId) (message : FromSite) (tid : Tid) (reply : Reply)
    → MayCount past (Ev.Take site message) → IsCoordStep past (Ev.Take site message) (did_reply protocols policy past site message tid reply)
unfolding did_reply
step_reply protocols policy past site message tid (Reply_is.Wait by) may =
    record { named = refl; begun = λ t b. cc; counts = λ c. may; asked = tt }
step_reply protocols policy past site message tid (Reply_is.Refused (Because.Die by)) may = step_aborts protocols past _ tid _ may
step_reply protocols policy past site message tid (Reply_is.Refused (Because.Late by)) may = step_aborts protocols past _ tid _ may
step_reply protocols policy past site message tid (Reply_is.Refused (Because.Invalid by key)) may = step_news protocols policy past site message tid may
step_reply protocols policy past site message tid (Reply_is.Refused (Because.TicketMoved by)) may = step_news protocols policy past site message tid may
step_reply protocols policy past site message tid Reply_is.Unknown may = step_aborts protocols past _ tid _ may
step_reply protocols policy past site message tid (Reply_is.Value value) may = step_news protocols policy past site message tid may
step_reply protocols policy past site message tid Reply_is.Done may = step_news protocols policy past site message tid may
step_reply protocols policy past site message tid (Reply_is.Ticket n) may = step_news protocols policy past site message tid may

step_did : (protocols : List Participant) (policy : Policy) (past : CoordPast) (site : SiteId) (tid : Tid) (epoch n : ℕ) (reply : Reply)
    → IsCoordStep past (Ev.Take site (From.Did tid epoch n reply)) (of_did protocols policy past site tid epoch n reply)
unfolding of_did
step_did protocols policy past site tid epoch n reply =
    step_when past (Ev.Take site (From.Did tid epoch n reply)) (did_counts past site tid epoch n reply) _ _
    (λ is. step_reply protocols policy past site (From.Did tid epoch n reply) tid reply is)
    (λ is. record { named = refl; begun = λ t b. cc; counts = λ c. cc; asked = tt })

step_last : (protocols : List Participant) (past : CoordPast) (event : CoordEvent) (tid : Tid) (tickets : List SiteTicket) → MayCount past event
    → IsCoordStep past event (last_vote protocols past event tid tickets)
unfolding last_vote
step_last protocols past event tid tickets may =
    step_given past event (cycle_through edge_between (record { tid = tid; tickets = tickets }) (commits (records past))) _ _
    (step_commits protocols past event tid tickets may) (λ edges. step_aborts protocols past event tid _ may)

step_yes : (protocols : List Participant) (past : CoordPast) (event : CoordEvent) (tid : Tid) → MayCount past event
    → IsCoordStep past event (yes_vote protocols past event tid)
unfolding yes_vote
step_yes protocols past event tid may =
    step_when past event (all_voted (quiet event Say.Voted ∷ past) tid (participants protocols past tid)) _ _
    (λ e. step_last protocols past event tid _ may)
    (λ e. record { named = refl; begun = λ t b. cc; counts = λ c. may; asked = tt })

step_vote_counted : (protocols : List Participant) (past : CoordPast) (site : SiteId) (tid : Tid) (vote : Option ℕ)
    → IsCoordStep past (Ev.Take site (From.Vote tid vote)) (vote_counted protocols past site tid vote)
unfolding vote_counted
step_vote_counted protocols past site tid None = step_aborts protocols past _ tid _ tt
step_vote_counted protocols past site tid (Some ticket) = step_yes protocols past _ tid tt

step_vote : (protocols : List Participant) (past : CoordPast) (site : SiteId) (tid : Tid) (vote : Option ℕ)
    → IsCoordStep past (Ev.Take site (From.Vote tid vote)) (of_vote protocols past site tid vote)
unfolding of_vote
step_vote protocols past site tid vote =
    step_when past (Ev.Take site (From.Vote tid vote)) (vote_counts past site tid) _ _ (λ e. step_vote_counted protocols past site tid vote)
    (λ e. record { named = refl; begun = λ t b. cc; counts = λ c. tt; asked = tt })

step_acked : (protocols : List Participant) (past : CoordPast) (site : SiteId) (tid : Tid) (s : Standing)
    → IsCoordStep past (Ev.Take site (From.Ack tid)) (acked_while protocols past site tid s)
unfolding acked_while ack_counts
step_acked protocols past site tid (Decided decision) =
    step_when past (Ev.Take site (From.Ack tid)) (is_member site (missing protocols past tid decision)) _ _
    (λ e. step_when past (Ev.Take site (From.Ack tid)) (is_nobody (missing protocols (quiet (Ev.Take site (From.Ack tid)) Say.Acked ∷ past) tid decision)) _ _
    (λ f. record { named = refl; begun = λ t b. cc; counts = λ c. tt; asked = tt })
    (λ f. record { named = refl; begun = λ t b. cc; counts = λ c. tt; asked = tt }))
    (λ e. record { named = refl; begun = λ t b. cc; counts = λ c. tt; asked = tt })
step_acked protocols past site tid Undecided = record { named = refl; begun = λ t b. cc; counts = λ c. tt; asked = tt }
step_acked protocols past site tid Gone = record { named = refl; begun = λ t b. cc; counts = λ c. tt; asked = tt }

step_asked : (protocols : List Participant) (past : CoordPast) (site : SiteId) (tid : Tid) (s : Standing)
    → IsCoordStep past (Ev.Take site (From.Inquiry tid)) (asked_while protocols site tid s)
unfolding asked_while
step_asked protocols past site tid Undecided = record { named = refl; begun = λ t b. cc; counts = λ c. tt; asked = tt }
step_asked protocols past site tid (Decided decision) = record { named = refl; begun = λ t b. cc; counts = λ c. tt; asked = (tt, tt) }
step_asked protocols past site tid Gone = record { named = refl; begun = λ t b. cc; counts = λ c. tt; asked = (tt, tt) }

step_take : (protocols : List Participant) (policy : Policy) (past : CoordPast) (site : SiteId) (message : FromSite)
    → IsCoordStep past (Ev.Take site message) (of_take protocols policy past site message)
unfolding of_take of_ack of_inquiry
step_take protocols policy past site (From.Did tid epoch n reply) = step_did protocols policy past site tid epoch n reply
step_take protocols policy past site (From.Vote tid vote) = step_vote protocols past site tid vote
step_take protocols policy past site (From.Ack tid) = step_acked protocols past site tid (standing protocols past tid)
step_take protocols policy past site (From.Inquiry tid) = step_asked protocols past site tid (standing protocols past tid)

step_again_while : (protocols : List Participant) (policy : Policy) (past : CoordPast) (tid : Tid) (s : Standing)
    → IsCoordStep past (Ev.Again tid) (again_while protocols policy past tid s)
unfolding again_while sends_all
step_again_while protocols policy past tid Undecided =
    step_dues protocols past (Ev.Again tid) tid
    (defers_all (held_back protocols policy past tid due) (let_through protocols policy past tid due))
    (let_through protocols policy past tid due)
    (all_sending (held_back protocols policy past tid due) (let_through protocols policy past tid due)) tt
    (each_filtered (IsDueDone (program past tid) (counted past tid)) (λ d. not (is_take d && not (may_take protocols policy past tid))) due
    (all_done past tid (participants protocols past tid)))
  where
    due : List Due
    due = all_outstanding protocols past tid
step_again_while protocols policy past tid (Decided decision) = record {
  named = refl;
  begun = λ t b. cc;
  counts = λ c. tt;
  asked = asked_decides (again_while protocols policy past tid (Decided decision) ∷ past) tid decision (missing protocols past tid decision);
}
step_again_while protocols policy past tid Gone = record { named = refl; begun = λ t b. cc; counts = λ c. tt; asked = tt }

fate_begins : (tid : Tid) (b : Bool) → begins tid (cond b Say.Unbegun Say.Ended) ≡ false
fate_begins tid true = refl
fate_begins tid false = refl

step_answered : (protocols : List Participant) (policy : Policy) (past : CoordPast) (event : CoordEvent) → IsCoordStep past event (answered protocols policy past event)
unfolding answered of_again of_late of_fate of_back of_check
step_answered protocols policy past (Ev.Go tid steps) = step_go protocols past tid steps
step_answered protocols policy past (Ev.Take site message) = step_take protocols policy past site message
step_answered protocols policy past (Ev.Again tid) = step_again_while protocols policy past tid (standing protocols past tid)
step_answered protocols policy past (Ev.Late tid) =
    step_when past (Ev.Late tid) (is_open past tid) _ _ (λ e. step_aborts protocols past _ tid _ tt)
    (λ e. record { named = refl; begun = λ t b. cc; counts = λ c. tt; asked = tt })
step_answered protocols policy past (Ev.Fate tx) =
    step_given past (Ev.Fate tx) (committed_of (records past) tx) _ _
    (step_given past (Ev.Fate tx) (undecided_of past tx) _ _
    (record { named = refl; begun = λ t b. (let clash = sym (fate_begins t _) ∙ b in cc); counts = λ c. tt; asked = tt })
    (λ running. record { named = refl; begun = λ t b. cc; counts = λ c. tt; asked = tt }))
    (λ committed. record { named = refl; begun = λ t b. cc; counts = λ c. tt; asked = tt })
step_answered protocols policy past (Ev.Halt cut) = record { named = refl; begun = λ t b. cc; counts = λ c. tt; asked = tt }
step_answered protocols policy past (Ev.Trip calls cut) = record { named = refl; begun = λ t b. cc; counts = λ c. tt; asked = tt }
step_answered protocols policy past Ev.Back = record { named = refl; begun = λ t b. cc; counts = λ c. tt; asked = tt }
step_answered protocols policy past Ev.Check =
    step_when past Ev.Check (nat_lt longest (coord_payload (checkpoint protocols past))) _ _
    (λ e. record { named = refl; begun = λ t b. cc; counts = λ c. tt; asked = tt })
    (λ e. record { named = refl; begun = λ t b. cc; counts = λ c. tt; asked = tt })

step_stopped : (past : CoordPast) (event named : CoordEvent) (calls : List (Call CoordRecord)) → named ≡ event
    → IsCoordStep past event (stopped coord_frame (disk past) named calls)
unfolding stopped
step_stopped past event named calls is = record { named = is; begun = λ t b. cc; counts = λ c. cc; asked = tt }

step_tripped : (past : CoordPast) (event : CoordEvent) (o : Option Trip) (x : CoordHappening) → IsCoordStep past event x
    → IsCoordStep past event (tripped coord_frame (disk past) o x)
unfolding tripped
step_tripped past event None x s = s
step_tripped past event (Some t) x s =
    step_when past event (nat_le t.calls (length x.calls)) _ x
    (λ e. step_stopped past event x.event (take t.calls x.calls ++ Stops t.cut ∷ []) s.named) (λ e. s)

step_up : (protocols : List Participant) (policy : Policy) (past : CoordPast) (event : CoordEvent)
    → IsCoordStep past event (when (is_down past) (quiet event Say.Down) (unless_tripped past (answered protocols policy past event)))
step_up protocols policy past event =
    step_when past event (is_down past) (quiet event Say.Down) (unless_tripped past (answered protocols policy past event))
    (λ e. record { named = refl; begun = λ t b. cc; counts = λ c. cc; asked = tt })
    (λ e. step_tripped past event (trip past) (answered protocols policy past event) (step_answered protocols policy past event))

-- the next line of the coordinator
pub step_line : (protocols : List Participant) (policy : Policy) (past : CoordPast) (event : CoordEvent) → IsCoordStep past event (coord_line protocols policy past event)
unfolding coord_line of_back answered
step_line protocols policy past (Ev.Trip calls cut) = record { named = refl; begun = λ t b. cc; counts = λ c. tt; asked = tt }
step_line protocols policy past (Ev.Halt cut) =
    step_when past (Ev.Halt cut) (is_down past) _ _ (λ e. record { named = refl; begun = λ t b. cc; counts = λ c. cc; asked = tt })
    (λ e. step_stopped past (Ev.Halt cut) (Ev.Halt cut) (Stops cut ∷ []) refl)
step_line protocols policy past Ev.Back =
    step_when past Ev.Back (is_down past) _ _
    (λ e. step_tripped past Ev.Back (trip past) (of_back protocols past) (step_answered protocols policy past Ev.Back))
    (λ e. record { named = refl; begun = λ t b. cc; counts = λ c. tt; asked = tt })
step_line protocols policy past (Ev.Go tid steps) = step_up protocols policy past (Ev.Go tid steps)
step_line protocols policy past (Ev.Take site message) = step_up protocols policy past (Ev.Take site message)
step_line protocols policy past (Ev.Again tid) = step_up protocols policy past (Ev.Again tid)
step_line protocols policy past (Ev.Late tid) = step_up protocols policy past (Ev.Late tid)
step_line protocols policy past (Ev.Fate tx) = step_up protocols policy past (Ev.Fate tx)
step_line protocols policy past Ev.Check = step_up protocols policy past Ev.Check
