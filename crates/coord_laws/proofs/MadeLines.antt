-- Each line of the coordinator is made so, by whichever rule it goes.
use Rattle.mdb_base.proofs.ForCallers.{each_filtered, each_of_found, some_parts}
use Rattle.fed_rules.proofs.ForCallers.{IsSending, all_sending, some_sending}
use Rattle.std.proofs.Common.{◌≡◌, ℕ, zero, suc, Bool, true, false, cond, not, ◌&&◌, ◌||◌, is_none, Option, Some, None, List, [], ◌∷◌, ◌++◌, take, map, refl, sym, ap, ◌∙◌}
use Rattle.mdb_base.specs.declared.acts.Step.{Step}
use Rattle.mdb_base.specs.declared.names.SiteId.{SiteId}
use Rattle.mdb_base.specs.declared.names.SiteTicket.{SiteTicket}
use Rattle.mdb_base.specs.declared.names.Tid.{Tid}
use Rattle.mdb_base.specs.declared.names.Tx.{Tx}
use Rattle.mdb_base.specs.declared.replies.Reply.{Reply}
use Rattle.mdb_base.specs.declared.replies.Reply.TheVariants as Reply_is
use Rattle.mdb_base.specs.declared.replies.Why.TheVariants as Because
use Rattle.mdb_base.specs.Names.{same_site}
use Rattle.mdb_base.specs.Programs.{plain_act}
use Rattle.mdb_base.specs.Words.{Each, when}
use Rattle.presumptions.specs.declared.Decision.{Decision}
use Rattle.presumptions.specs.declared.Decision.TheVariants as Decide_is
use Rattle.presumptions.specs.declared.Participant.{Participant}
use Rattle.order_laws.specs.Search.{cycle_through}
use Rattle.order_laws.specs.Tickets.{Ticketed, edge_between}
use Rattle.fed_rules.specs.declared.answers.Answer.{Answer}
use Rattle.fed_rules.specs.declared.answers.Answer.TheVariants as Say
use Rattle.fed_rules.specs.declared.answers.Cause.{Cause}
use Rattle.fed_rules.specs.declared.events.CoordEvent.{CoordEvent}
use Rattle.fed_rules.specs.declared.events.CoordEvent.TheVariants as Ev
use Rattle.fed_rules.specs.declared.messages.Due.{Due}
use Rattle.fed_rules.specs.declared.messages.Due.TheVariants as Due_is
use Rattle.fed_rules.specs.declared.messages.FromSite.{FromSite}
use Rattle.fed_rules.specs.declared.messages.FromSite.TheVariants as From
use Rattle.fed_rules.specs.declared.records.CoordRecord.{CoordRecord}
use Rattle.fed_rules.specs.declared.records.CoordRecord.TheVariants as Rec
use Rattle.fed_rules.specs.Coord.{message_of, send_due, is_take, decide_to, may_take, held_back, let_through, defers_some, defers_all, sends_dues, sends_news, sends_all, all_outstanding, news_at, news, abort_records, forced, aborts, commits_it, of_go, did_counts, did_reply, of_did, last_vote, yes_vote, vote_counts, vote_counted, of_vote, missing, ack_counts, acked_while, of_ack, asked_while, of_inquiry, of_take, again_while, of_again, of_late, of_fate, of_back, answered, unless_tripped, coord_line, of_check}
use Rattle.fed_rules.specs.CoordPast.{CoordHappening, CoordPast, disk, records, trip, Standing, Undecided, Decided, Gone, standing, program, visits, participants, reads, epoch_at, count_at, next_step, has_step_left, has_ticket_at, work_at, take_at, prepare_at, outstanding, vote_at, decides, is_prepare_of, has_sent}
use Rattle.fed_rules.specs.CoordRecords.{coord_frame, class_of, has_abort, commits}
use Rattle.fed_rules.specs.Policies.{Policy}
use Rattle.fed_rules.specs.Disk.{Call, Append, Sync, CutBack, TrimFront, Stops, is_torn}
use Rattle.fed_rules.specs.Happenings.{Trip, quiet, is_down, stopped, tripped}
use Rattle.fed_rules.specs.Site_of.{due_site}
use Rattle.coord_laws.proofs.Made.{CommitsNobody, IsAccepted, IsLastVote, Writes, IsAsked, Counts, is_refusal, DecidesOnRefusal, Begins, IsFirst, IsMade, uncounted_counts, uncounted_decides, quiet_plain, quiet_uncounted, made_when, made_given}
use Rattle.order_laws.proofs.ForCallers.{each_cut}

pub due_same : (d due : Due) → Some d ≡ Some due → due_site due ≡ due_site d
due_same d due e = let p : d ≡ due = some_parts e in sym (ap due_site p)

-- what is outstanding names its site
pub work_site : (past : CoordPast) (tid : Tid) (site : SiteId) (step : Option Step) (due : Due) → work_at past tid site step ≡ Some due → due_site due ≡ site
work_site past tid site None due e = cc
work_site past tid site (Some step) due e = by_test (same_site step.site site) e
  where
    by_test : (t : Bool) → cond t (Some (Due_is.Work site (epoch_at past tid site) (count_at past tid site) (plain_act (reads past tid) step.act))) None ≡ Some due → due_site due ≡ site
    by_test true e = due_same _ due e
    by_test false e = cc

pub prepare_site : (past : CoordPast) (tid : Tid) (site : SiteId) (due : Due) → prepare_at past tid site ≡ Some due → due_site due ≡ site
prepare_site past tid site due e = by_test (is_none (vote_at past tid site)) e
  where
    by_test : (t : Bool) → cond t (Some (Due_is.Prepare site (epoch_at past tid site) (count_at past tid site))) None ≡ Some due → due_site due ≡ site
    by_test true e = due_same _ due e
    by_test false e = cc

pub outstanding_site : (past : CoordPast) (tid : Tid) (site : SiteId) (due : Due) → outstanding past tid site ≡ Some due → due_site due ≡ site
outstanding_site past tid site due e =
    by_tests (visits site (program past tid)) (has_step_left past tid site) (has_ticket_at past tid site) e
  where
    by_tests : (v l t : Bool) → cond v (cond l (work_at past tid site (next_step past tid)) (cond t (prepare_at past tid site) (take_at past tid site))) None ≡ Some due → due_site due ≡ site
    by_tests true true t e = work_site past tid site (next_step past tid) due e
    by_tests true false true e = prepare_site past tid site due e
    by_tests true false false e = due_same _ due e
    by_tests false l t e = cc

asks_due : (past : CoordPast) (tid : Tid) (due : Due) → outstanding past tid (due_site due) ≡ Some due → IsAsked past (due_site due) (message_of tid due)
asks_due past tid (Due_is.Work site epoch n act) e = e
asks_due past tid (Due_is.Take site epoch n) e = e
asks_due past tid (Due_is.Prepare site epoch n) e = e

-- the message of what is outstanding at a site asks for it
asks : (past : CoordPast) (tid : Tid) (site : SiteId) (due : Due) → outstanding past tid site ≡ Some due → IsAsked past (due_site due) (message_of tid due)
asks past tid site due e = asks_due past tid due (ap (outstanding past tid) (outstanding_site past tid site due e) ∙ e)

-- each of these is outstanding at some site
abbrev AreDue : CoordPast → Tid → List Due → Type 0
AreDue past tid dues = Each (λ due. (site : SiteId) × (outstanding past tid site ≡ Some due)) dues

all_due : (protocols : List Participant) (past : CoordPast) (tid : Tid) → AreDue past tid (all_outstanding protocols past tid)
all_due protocols past tid =
    each_of_found (λ due. (site : SiteId) × (outstanding past tid site ≡ Some due)) (λ member. outstanding past tid member.site) (participants protocols past tid)
    (λ member due e. (member.site, e))

news_due : (protocols : List Participant) (before now : CoordPast) (tid : Tid) (site : SiteId) → AreDue now tid (news protocols before now tid site)
news_due protocols before now tid site =
    each_of_found (λ due. (s : SiteId) × (outstanding now tid s ≡ Some due)) (λ member. news_at before now tid site member.site) (participants protocols before tid)
    (λ member due e. (member.site, by_test (same_site member.site site || is_none (outstanding before tid member.site)) (outstanding now tid member.site) due e))
  where
    by_test : (t : Bool) (o : Option Due) (due : Due) → cond t o None ≡ Some due → o ≡ Some due
    by_test true o due e = e
    by_test false o due e = cc

sends_due : (past : CoordPast) (tid : Tid) (dues : List Due) → AreDue past tid dues → Each (λ sent. IsAsked past sent.site sent.message) (map (send_due tid) dues)
sends_due past tid [] h = tt
sends_due past tid (due ∷ dues) h = (asks past tid h.0.0 due h.0.1, sends_due past tid dues h.1)

-- decisions ask for nothing
decides_each : (past : CoordPast) (tid : Tid) (decision : Decision) (members : List Participant) → Each (λ sent. IsAsked past sent.site sent.message) (decide_to tid decision members)
decides_each past tid decision [] = tt
decides_each past tid decision (member ∷ members) = (tt, decides_each past tid decision members)

-- operations and Prepares are sent
sent_made : (protocols : List Participant) (past : CoordPast) (event : CoordEvent) (tid : Tid) (answer : Answer) (dues : List Due) → IsSending answer → AreDue (quiet event Say.Only ∷ past) tid dues → ((answer : Answer) → decides answer ≡ false → DecidesOnRefusal event answer) → ((answer : Answer) → Counts past event answer)
    → IsMade protocols past event (record { event = event; answer = answer; sends = map (send_due tid) dues; calls = []; lines = [] })
sent_made protocols past event tid Say.Only dues s h d k = record { heard = refl; accepted = tt; writes = tt; sends = sends_due (quiet event Say.Only ∷ past) tid dues h; counted = k _; decided = d _ refl; begun = tt; first = tt; commits_by = λ e. tt }
sent_made protocols past event tid Say.Defers dues s h d k = record { heard = refl; accepted = tt; writes = tt; sends = sends_due (quiet event Say.Only ∷ past) tid dues h; counted = k _; decided = d _ refl; begun = tt; first = tt; commits_by = λ e. tt }
sent_made protocols past event tid answer dues s h d k = absurd s

dues_made : (protocols : List Participant) (past : CoordPast) (event : CoordEvent) (tid : Tid) (answer : Answer) (dues : List Due) → IsSending answer → AreDue (quiet event Say.Only ∷ past) tid dues → ((answer : Answer) → decides answer ≡ false → DecidesOnRefusal event answer) → ((answer : Answer) → Counts past event answer) → IsMade protocols past event (sends_dues protocols past event tid answer dues)
unfolding sends_dues
dues_made protocols past event tid answer dues s h d k =
    made_when protocols past event _ _ _
    (λ t. record { heard = refl; accepted = tt; writes = (tt, (tt, tt)); sends = sends_due (quiet event Say.Only ∷ past) tid dues h; counted = k _; decided = d _ refl; begun = tt; first = tt; commits_by = λ e. (tt, (tt, tt)) })
    (λ t. sent_made protocols past event tid answer dues s h d k)

-- what holds of no call and of a forced Abort record holds of what an abort calls
abort_shape : (P : List (Call CoordRecord) → Type 0) (protocols : List Participant) (past : CoordPast) (tid : Tid) → P [] → P (Append (Rec.Abort tid (participants protocols past tid)) ∷ Sync ∷ []) → P (forced (abort_records protocols past tid))
abort_shape P protocols past tid p q = by_test (has_abort (class_of (participants protocols past tid)) && has_sent (is_prepare_of tid) past)
  where
    by_test : (t : Bool) → P (forced (cond t (Rec.Abort tid (participants protocols past tid) ∷ []) []))
    by_test true = q
    by_test false = p

aborts_made : (protocols : List Participant) (past : CoordPast) (event : CoordEvent) (tid : Tid) (cause : Cause) → ((answer : Answer) → decides answer ≡ true → DecidesOnRefusal event answer) → ((answer : Answer) → Counts past event answer) → IsMade protocols past event (aborts protocols past event tid cause)
unfolding aborts
aborts_made protocols past event tid cause d k =
    record {
      heard = refl;
      accepted = abort_shape (IsAccepted (commits (records past))) protocols past tid tt tt;
      writes = abort_shape (λ calls. Each (Writes protocols past event) calls) protocols past tid tt (tt, (tt, tt));
      sends = decides_each (aborts protocols past event tid cause ∷ past) tid Decide_is.Abort (participants protocols past tid);
      counted = k _;
      decided = d _ refl;
      begun = tt;
      first = tt;
      commits_by = λ e. cc;
    }

commits_made : (protocols : List Participant) (past : CoordPast) (event : CoordEvent) (tid : Tid) (tickets : List SiteTicket) → cycle_through edge_between (record { tid = tid; tickets = tickets }) (commits (records past)) ≡ None → IsLastVote protocols past event tid tickets → ((answer : Answer) → decides answer ≡ true → DecidesOnRefusal event answer) → ((answer : Answer) → Counts past event answer) → IsMade protocols past event (commits_it protocols past event tid tickets)
unfolding commits_it
commits_made protocols past event tid tickets none last d k =
    record {
      heard = refl;
      accepted = (none, (tt, tt));
      writes = (last, (tt, tt));
      sends = decides_each (commits_it protocols past event tid tickets ∷ past) tid Decide_is.Commit (participants protocols past tid);
      counted = k _;
      decided = d _ refl;
      begun = tt;
      first = tt;
      commits_by = λ e. cc;
    }

go_made : (protocols : List Participant) (past : CoordPast) (tid : Tid) (steps : List Step) → IsMade protocols past (Ev.Go tid steps) (of_go protocols past tid steps)
unfolding of_go
go_made protocols past tid steps =
    made_given protocols past _ _ _ _
    (λ e. made_given protocols past _ _ _ _
    (λ f. record { heard = refl; accepted = tt; writes = tt; sends = sends_due (quiet (Ev.Go tid steps) (Say.Begun tid) ∷ past) tid _ (all_due protocols (quiet (Ev.Go tid steps) (Say.Begun tid) ∷ past) tid); counted = tt; decided = tt; begun = (steps, refl); first = (e, f); commits_by = λ e. tt })
    (λ running f. quiet_plain protocols past _ _ tt tt tt))
    (λ committed e. quiet_plain protocols past _ _ tt tt tt)

-- a reply that counts and goes on
goes_made : (protocols : List Participant) (policy : Policy) (past : CoordPast) (site : SiteId) (tid : Tid) (epoch n : ℕ) (reply : Reply) → is_refusal reply ≡ false → did_counts past site tid epoch n reply ≡ true
    → IsMade protocols past (Ev.Take site (From.Did tid epoch n reply)) (sends_news protocols policy past (Ev.Take site (From.Did tid epoch n reply)) tid (news protocols past (quiet (Ev.Take site (From.Did tid epoch n reply)) Say.Only ∷ past) tid site))
unfolding sends_news
goes_made protocols policy past site tid epoch n reply r t =
    dues_made protocols past _ tid (defers_some (held_back protocols policy past tid due)) (let_through protocols policy past tid due)
    (some_sending (held_back protocols policy past tid due))
    (each_filtered (λ d. (s : SiteId) × (outstanding now tid s ≡ Some d)) (λ d. not (is_take d && not (may_take protocols policy past tid))) due (news_due protocols past now tid site))
    (λ answer no h k. cc) (λ answer h. t)
  where
    now : CoordPast
    now = quiet (Ev.Take site (From.Did tid epoch n reply)) Say.Only ∷ past

    due : List Due
    due = news protocols past (quiet (Ev.Take site (From.Did tid epoch n reply)) Say.Only ∷ past) tid site

did_reply_made : (protocols : List Participant) (policy : Policy) (past : CoordPast) (site : SiteId) (tid : Tid) (epoch n : ℕ) (reply : Reply) → did_counts past site tid epoch n reply ≡ true
    → IsMade protocols past (Ev.Take site (From.Did tid epoch n reply)) (did_reply protocols policy past site (From.Did tid epoch n reply) tid reply)
unfolding did_reply
did_reply_made protocols policy past site tid epoch n (Reply_is.Wait by) t = record { heard = refl; accepted = tt; writes = tt; sends = tt; counted = λ h. t; decided = λ h r. cc; begun = tt; first = tt; commits_by = λ e. tt }
did_reply_made protocols policy past site tid epoch n (Reply_is.Refused (Because.Die by)) t = aborts_made protocols past _ tid _ (λ answer d h r. d) (λ answer h. t)
did_reply_made protocols policy past site tid epoch n (Reply_is.Refused (Because.Late by)) t = aborts_made protocols past _ tid _ (λ answer d h r. d) (λ answer h. t)
did_reply_made protocols policy past site tid epoch n (Reply_is.Refused (Because.Invalid by key)) t = goes_made protocols policy past site tid epoch n _ refl t
did_reply_made protocols policy past site tid epoch n (Reply_is.Refused (Because.TicketMoved by)) t = goes_made protocols policy past site tid epoch n _ refl t
did_reply_made protocols policy past site tid epoch n Reply_is.Unknown t = aborts_made protocols past _ tid _ (λ answer d h r. d) (λ answer h. t)
did_reply_made protocols policy past site tid epoch n (Reply_is.Value value) t = goes_made protocols policy past site tid epoch n _ refl t
did_reply_made protocols policy past site tid epoch n Reply_is.Done t = goes_made protocols policy past site tid epoch n _ refl t
did_reply_made protocols policy past site tid epoch n (Reply_is.Ticket ticket) t = goes_made protocols policy past site tid epoch n _ refl t

did_made : (protocols : List Participant) (policy : Policy) (past : CoordPast) (site : SiteId) (tid : Tid) (epoch n : ℕ) (reply : Reply) → IsMade protocols past (Ev.Take site (From.Did tid epoch n reply)) (of_did protocols policy past site tid epoch n reply)
unfolding of_did
did_made protocols policy past site tid epoch n reply =
    made_when protocols past _ _ _ _ (λ t. did_reply_made protocols policy past site tid epoch n reply t)
    (λ t. quiet_uncounted protocols past _ _ refl tt tt)

last_made : (protocols : List Participant) (past : CoordPast) (site : SiteId) (tid : Tid) (ticket : ℕ) (tickets : List SiteTicket) → vote_counts past site tid ≡ true → IsLastVote protocols past (Ev.Take site (From.Vote tid (Some ticket))) tid tickets
    → IsMade protocols past (Ev.Take site (From.Vote tid (Some ticket))) (last_vote protocols past (Ev.Take site (From.Vote tid (Some ticket))) tid tickets)
unfolding last_vote
last_made protocols past site tid ticket tickets c last =
    made_given protocols past _ _ _ _ (λ e. commits_made protocols past _ tid tickets e last (λ answer d. tt) (λ answer h. c))
    (λ edges e. aborts_made protocols past _ tid _ (λ answer d. tt) (λ answer h. c))

vote_made : (protocols : List Participant) (past : CoordPast) (site : SiteId) (tid : Tid) (vote : Option ℕ) → IsMade protocols past (Ev.Take site (From.Vote tid vote)) (of_vote protocols past site tid vote)
unfolding of_vote vote_counted yes_vote
vote_made protocols past site tid None =
    made_when protocols past _ _ _ _ (λ t. aborts_made protocols past _ tid _ (λ answer d. tt) (λ answer. tt))
    (λ t. quiet_uncounted protocols past _ _ refl tt tt)
vote_made protocols past site tid (Some ticket) =
    made_when protocols past _ _ _ _
    (λ t. made_when protocols past _ _ _ _
    (λ all. last_made protocols past site tid ticket _ t (record { site = site; ticket = ticket; is_vote = refl; is_counted = t; all = all; theirs = refl }))
    (λ f. record { heard = refl; accepted = tt; writes = tt; sends = tt; counted = λ h. t; decided = tt; begun = tt; first = tt; commits_by = λ e. tt }))
    (λ t. quiet_uncounted protocols past _ _ refl tt tt)

ack_made : (protocols : List Participant) (past : CoordPast) (site : SiteId) (tid : Tid) (s : Standing) → IsMade protocols past (Ev.Take site (From.Ack tid)) (acked_while protocols past site tid s)
unfolding acked_while ack_counts
ack_made protocols past site tid (Decided decision) =
    made_when protocols past _ _ _ _
    (λ t. made_when protocols past _ _ _ _
    (λ u. record {
      heard = refl;
      accepted = tt;
      writes = (tt, tt);
      sends = tt;
      counted = tt;
      decided = tt;
      begun = tt;
      first = tt;
      commits_by = λ e. (tt, tt);
    })
    (λ u. quiet_plain protocols past _ _ tt tt tt))
    (λ t. quiet_plain protocols past _ _ tt tt tt)
ack_made protocols past site tid Undecided = quiet_plain protocols past _ _ tt tt tt
ack_made protocols past site tid Gone = quiet_plain protocols past _ _ tt tt tt

inquiry_made : (protocols : List Participant) (past : CoordPast) (site : SiteId) (tid : Tid) (s : Standing) → IsMade protocols past (Ev.Take site (From.Inquiry tid)) (asked_while protocols site tid s)
unfolding asked_while
inquiry_made protocols past site tid Undecided = quiet_plain protocols past _ _ tt tt tt
inquiry_made protocols past site tid (Decided decision) = record { heard = refl; accepted = tt; writes = tt; sends = (tt, tt); counted = tt; decided = tt; begun = tt; first = tt; commits_by = λ e. tt }
inquiry_made protocols past site tid Gone = record { heard = refl; accepted = tt; writes = tt; sends = (tt, tt); counted = tt; decided = tt; begun = tt; first = tt; commits_by = λ e. tt }

take_made : (protocols : List Participant) (policy : Policy) (past : CoordPast) (site : SiteId) (message : FromSite) → IsMade protocols past (Ev.Take site message) (of_take protocols policy past site message)
unfolding of_take of_ack of_inquiry
take_made protocols policy past site (From.Did tid epoch n reply) = did_made protocols policy past site tid epoch n reply
take_made protocols policy past site (From.Vote tid vote) = vote_made protocols past site tid vote
take_made protocols policy past site (From.Ack tid) = ack_made protocols past site tid (standing protocols past tid)
take_made protocols policy past site (From.Inquiry tid) = inquiry_made protocols past site tid (standing protocols past tid)

again_made : (protocols : List Participant) (policy : Policy) (past : CoordPast) (tid : Tid) (s : Standing) → IsMade protocols past (Ev.Again tid) (again_while protocols policy past tid s)
unfolding again_while sends_all
again_made protocols policy past tid Undecided =
    dues_made protocols past _ tid (defers_all (held_back protocols policy past tid due) (let_through protocols policy past tid due)) (let_through protocols policy past tid due)
    (all_sending (held_back protocols policy past tid due) (let_through protocols policy past tid due))
    (each_filtered (λ d. (s : SiteId) × (outstanding past tid s ≡ Some d)) (λ d. not (is_take d && not (may_take protocols policy past tid))) due (all_due protocols past tid))
    (λ answer d. tt) (λ answer. tt)
  where
    due : List Due
    due = all_outstanding protocols past tid
again_made protocols policy past tid (Decided decision) = record { heard = refl; accepted = tt; writes = tt; sends = decides_each (again_while protocols policy past tid (Decided decision) ∷ past) tid decision (missing protocols past tid decision); counted = tt; decided = tt; begun = tt; first = tt; commits_by = λ e. tt }
again_made protocols policy past tid Gone = quiet_plain protocols past _ _ tt tt tt

late_made : (protocols : List Participant) (past : CoordPast) (tid : Tid) → IsMade protocols past (Ev.Late tid) (of_late protocols past tid)
unfolding of_late
late_made protocols past tid =
    made_when protocols past _ _ _ _ (λ t. aborts_made protocols past _ tid _ (λ answer d. tt) (λ answer. tt))
    (λ t. quiet_plain protocols past _ _ tt tt tt)

fate_made : (protocols : List Participant) (past : CoordPast) (tx : Tx) → IsMade protocols past (Ev.Fate tx) (of_fate past tx)
unfolding of_fate
fate_made protocols past tx =
    made_given protocols past _ _ _ _
    (λ e. made_given protocols past _ _ _ _ (λ f. quiet_plain protocols past _ _ tt (by_test _) (by_first _))
    (λ running f. quiet_plain protocols past _ _ tt tt tt))
    (λ committed e. quiet_plain protocols past _ _ tt tt tt)
  where
    by_test : (t : Bool) → Begins (Ev.Fate tx) (cond t Say.Unbegun Say.Ended)
    by_test true = tt
    by_test false = tt

    by_first : (t : Bool) → IsFirst past (cond t Say.Unbegun Say.Ended)
    by_first true = tt
    by_first false = tt

back_made : (protocols : List Participant) (past : CoordPast) → IsMade protocols past Ev.Back (of_back protocols past)
unfolding of_back
back_made protocols past =
    record {
      heard = refl;
      accepted = cut_accepted (is_torn coord_frame (disk past));
      writes = cut_writes (is_torn coord_frame (disk past));
      sends = tt;
      counted = tt;
      decided = tt;
      begun = tt;
      first = tt;
      commits_by = λ e. cut_nobody (is_torn coord_frame (disk past));
    }
  where
    cut_nobody : (t : Bool) → Each CommitsNobody (cond t (CutBack ∷ []) [])
    cut_nobody true = (tt, tt)
    cut_nobody false = tt

    cut_accepted : (t : Bool) → IsAccepted (commits (records past)) (cond t (CutBack ∷ []) [])
    cut_accepted true = tt
    cut_accepted false = tt

    cut_writes : (t : Bool) → Each (Writes protocols past Ev.Back) (cond t (CutBack ∷ []) [])
    cut_writes true = (tt, tt)
    cut_writes false = tt

check_made : (protocols : List Participant) (past : CoordPast) → IsMade protocols past Ev.Check (of_check protocols past)
unfolding of_check
check_made protocols past =
    made_when protocols past _ _ _ _ (λ large. quiet_plain protocols past _ _ tt tt tt)
    (λ fits. record { heard = refl; accepted = tt; writes = (tt, (tt, (tt, tt))); sends = tt; counted = tt; decided = tt; begun = tt; first = tt; commits_by = λ e. (tt, (tt, (tt, tt))) })

-- what the coordinator answers while it is up
answered_made : (protocols : List Participant) (policy : Policy) (past : CoordPast) (event : CoordEvent) → IsMade protocols past event (answered protocols policy past event)
unfolding answered of_again
answered_made protocols policy past (Ev.Go tid steps) = go_made protocols past tid steps
answered_made protocols policy past (Ev.Take site message) = take_made protocols policy past site message
answered_made protocols policy past (Ev.Again tid) = again_made protocols policy past tid (standing protocols past tid)
answered_made protocols policy past (Ev.Late tid) = late_made protocols past tid
answered_made protocols policy past (Ev.Fate tx) = fate_made protocols past tx
answered_made protocols policy past (Ev.Halt cut) = quiet_plain protocols past _ _ tt tt tt
answered_made protocols policy past (Ev.Trip calls cut) = quiet_plain protocols past _ _ tt tt tt
answered_made protocols policy past Ev.Back = back_made protocols past
answered_made protocols policy past Ev.Check = check_made protocols past

accepted_cut : (others : List Ticketed) (k : ℕ) (calls : List (Call CoordRecord)) (cut : ℕ) → IsAccepted others calls → IsAccepted others (take k calls ++ Stops cut ∷ [])
accepted_cut others zero calls cut h = tt
accepted_cut others (suc k) [] cut h = tt
accepted_cut others (suc k) (Append (Rec.Commit tid tickets) ∷ calls) cut h = (h.0, each_cut CommitsNobody k calls (Stops cut) h.1 tt)
accepted_cut others (suc k) (Append (Rec.Initiation tid members) ∷ calls) cut h = accepted_cut others k calls cut h
accepted_cut others (suc k) (Append (Rec.Abort tid members) ∷ calls) cut h = accepted_cut others k calls cut h
accepted_cut others (suc k) (Append (Rec.End tid) ∷ calls) cut h = accepted_cut others k calls cut h
accepted_cut others (suc k) (Append (Rec.Checkpoint sum) ∷ calls) cut h = accepted_cut others k calls cut h
accepted_cut others (suc k) (Sync ∷ calls) cut h = accepted_cut others k calls cut h
accepted_cut others (suc k) (CutBack ∷ calls) cut h = accepted_cut others k calls cut h
accepted_cut others (suc k) (TrimFront ∷ calls) cut h = accepted_cut others k calls cut h
accepted_cut others (suc k) (Stops c ∷ calls) cut h = accepted_cut others k calls cut h

-- a line that a trip ends
tripped_made : (protocols : List Participant) (past : CoordPast) (event : CoordEvent) (t : Option Trip) (x : CoordHappening) → IsMade protocols past event x → IsMade protocols past event (tripped coord_frame (disk past) t x)
unfolding tripped stopped
tripped_made protocols past event None x m = m
tripped_made protocols past event (Some t) x m =
    made_when protocols past event _ _ _
    (λ c. record {
      heard = m.heard;
      accepted = accepted_cut (commits (records past)) t.calls x.calls t.cut m.accepted;
      writes = each_cut (Writes protocols past event) t.calls x.calls (Stops t.cut) m.writes tt;
      sends = tt;
      counted = uncounted_counts past event _ refl;
      decided = uncounted_decides event _ refl;
      begun = tt;
      first = tt;
      commits_by = λ e. cc;
    })
    (λ c. m)

unless_down : (protocols : List Participant) (policy : Policy) (past : CoordPast) (event : CoordEvent) → IsMade protocols past event (when (is_down past) (quiet event Say.Down) (unless_tripped past (answered protocols policy past event)))
unless_down protocols policy past event =
    made_when protocols past event _ _ _ (λ d. quiet_uncounted protocols past event _ refl tt tt)
    (λ d. tripped_made protocols past event (trip past) _ (answered_made protocols policy past event))

-- each line of the coordinator is made so
pub coord_made : (protocols : List Participant) (policy : Policy) (past : CoordPast) (event : CoordEvent) → IsMade protocols past event (coord_line protocols policy past event)
unfolding coord_line stopped
coord_made protocols policy past (Ev.Trip calls cut) = quiet_plain protocols past _ _ tt tt tt
coord_made protocols policy past (Ev.Halt cut) =
    made_when protocols past _ _ _ _ (λ d. quiet_plain protocols past _ _ tt tt tt)
    (λ d. record { heard = refl; accepted = tt; writes = (tt, tt); sends = tt; counted = tt; decided = tt; begun = tt; first = tt; commits_by = λ e. (tt, tt) })
coord_made protocols policy past Ev.Back =
    made_when protocols past _ _ _ _ (λ d. tripped_made protocols past Ev.Back (trip past) _ (back_made protocols past))
    (λ d. quiet_plain protocols past _ _ tt tt tt)
coord_made protocols policy past (Ev.Go tid steps) = unless_down protocols policy past (Ev.Go tid steps)
coord_made protocols policy past (Ev.Take site message) = unless_down protocols policy past (Ev.Take site message)
coord_made protocols policy past (Ev.Again tid) = unless_down protocols policy past (Ev.Again tid)
coord_made protocols policy past (Ev.Late tid) = unless_down protocols policy past (Ev.Late tid)
coord_made protocols policy past (Ev.Fate tx) = unless_down protocols policy past (Ev.Fate tx)
coord_made protocols policy past Ev.Check = unless_down protocols policy past Ev.Check
