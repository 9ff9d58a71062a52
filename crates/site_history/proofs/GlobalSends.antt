-- The coordinator sends operations and Prepares only for attempts that were begun, and those are of global transactions.
use Rattle.std.proofs.Common.{◌≡◌, ℕ, Bool, true, false, cond, ◌&&◌, ◌||◌, Option, Some, None, List, [], ◌∷◌, map, refl, sym, ap, ◌∙◌}
use Rattle.std.specs.Prelude.{is_none, nat_lt, not}
use Rattle.mdb_base.specs.declared.acts.Step.{Step}
use Rattle.mdb_base.specs.declared.names.SiteId.{SiteId}
use Rattle.mdb_base.specs.declared.names.SiteTicket.{SiteTicket}
use Rattle.mdb_base.specs.declared.names.Tid.{Tid}
use Rattle.mdb_base.specs.declared.names.Tx.{Tx}
use Rattle.mdb_base.specs.declared.replies.Reply.{Reply}
use Rattle.mdb_base.specs.declared.replies.Reply.TheVariants as Reply_is
use Rattle.mdb_base.specs.declared.replies.Why.TheVariants as Because
use Rattle.mdb_base.specs.Names.{same_site, same_tid}
use Rattle.mdb_base.specs.Words.{Each, found, given, some_of, when}
use Rattle.mdb_base.proofs.ForCallers.{each_filtered, same_tid-equal}
use Rattle.order_laws.specs.Search.{cycle_through}
use Rattle.order_laws.specs.Tickets.{edge_between}
use Rattle.presumptions.specs.declared.Decision.{Decision}
use Rattle.presumptions.specs.declared.Decision.TheVariants as Decision_is
use Rattle.presumptions.specs.declared.Participant.{Participant}
use Rattle.fed_rules.specs.declared.answers.Answer.{Answer}
use Rattle.fed_rules.specs.declared.answers.Answer.TheVariants as Say
use Rattle.fed_rules.specs.declared.answers.Cause.{Cause}
use Rattle.fed_rules.specs.declared.events.CoordEvent.{CoordEvent}
use Rattle.fed_rules.specs.declared.events.CoordEvent.TheVariants as Ev
use Rattle.fed_rules.specs.declared.messages.Due.{Due}
use Rattle.fed_rules.specs.declared.messages.Due.TheVariants as Due_is
use Rattle.fed_rules.specs.declared.messages.FromSite.{FromSite}
use Rattle.fed_rules.specs.declared.messages.FromSite.TheVariants as From
use Rattle.fed_rules.specs.declared.messages.Sent.{Sent}
use Rattle.fed_rules.specs.declared.events.SiteEvent.TheVariants as At_site
use Rattle.fed_rules.specs.declared.records.CoordRecord.{CoordRecord}
use Rattle.fed_rules.specs.Disk.{Call, Stops, longest}
use Rattle.fed_rules.specs.Happenings.{Trip, is_down, quiet, stopped, tripped}
use Rattle.fed_rules.specs.Coord.{aborts, ack_counts, acked_while, again_while, all_outstanding, all_voted, answered, asked_while, commits_it, coord_line, decide_to, defers_all, defers_some, did_counts, did_reply, held_back, is_member, is_prepare, is_take, lacks_initiation, last_vote, let_through, may_take, missing, news, news_at, of_ack, of_again, of_back, of_did, of_fate, of_go, of_inquiry, of_late, of_take, of_vote, send_due, sends_all, sends_dues, sends_news, unless_tripped, vote_counted, vote_counts, yes_vote, of_check, checkpoint}
use Rattle.fed_rules.specs.CoordPast.{CoordHappening, CoordPast, Standing, Undecided, Decided, Gone, begins, disk, is_open, or_steps, outstanding, outstanding_at, participants, program, program_in, records, standing, trip, undecided_of, visits}
use Rattle.fed_rules.specs.CoordRecords.{commits, committed_of, coord_frame, is_nobody, coord_payload}
use Rattle.fed_rules.specs.Policies.{Policy}
use Rattle.site_history.specs.Events.{IsSorted}
use Rattle.order_laws.proofs.ForCallers.{each_found_from}

-- what is begun at the coordinator is not of a local transaction
abbrev pub BeginsGlobal : (Tx → Bool) → CoordEvent → Type 0
BeginsGlobal local (Ev.Go tid steps) = local tid.tx ≡ false
BeginsGlobal local event = Unit {0}

-- the message makes a sorted event
abbrev pub IsSortedSend : (Tx → Bool) → Sent → Type 0
IsSortedSend local sent = IsSorted local (At_site.Give sent.message)

-- a program with a step is one of an attempt that was begun
pub program_global : (local : Tx → Bool) (past : CoordPast) (tid : Tid) (site : SiteId) → Each (λ x. BeginsGlobal local x.event) past
    → visits site (program past tid) ≡ true → local tid.tx ≡ false
program_global local [] tid site h e = cc
program_global local (x ∷ past) tid site h e = by_begins (begins tid x.answer) e (program_global local past tid site h.1)
  where
    by_go : (begun : Tid) (steps : List Step) (b : Bool) → same_tid begun tid ≡ b → local begun.tx ≡ false
        → visits site (or_steps (cond b (Some steps) None) []) ≡ true → local tid.tx ≡ false
    by_go begun steps true is mine e = ap (λ t. local t.tx) (sym (same_tid-equal begun tid is)) ∙ mine
    by_go begun steps false is mine e = cc

    by_event : (event : CoordEvent) → BeginsGlobal local event → visits site (or_steps (program_in tid event) []) ≡ true → local tid.tx ≡ false
    by_event (Ev.Go begun steps) mine e = by_go begun steps (same_tid begun tid) refl mine e
    by_event (Ev.Take from message) mine e = cc
    by_event (Ev.Again again) mine e = cc
    by_event (Ev.Late late) mine e = cc
    by_event (Ev.Fate tx) mine e = cc
    by_event (Ev.Halt cut) mine e = cc
    by_event (Ev.Trip calls cut) mine e = cc
    by_event Ev.Back mine e = cc
    by_event Ev.Check mine e = cc

    by_begins : (b : Bool) → visits site (cond b (or_steps (program_in tid x.event) []) (program past tid)) ≡ true
        → (visits site (program past tid) ≡ true → local tid.tx ≡ false) → local tid.tx ≡ false
    by_begins true e rest = by_event x.event h.0 e
    by_begins false e rest = rest e

-- so something is outstanding only for those
outstanding_global : (local : Tx → Bool) (past : CoordPast) (tid : Tid) (site : SiteId) (due : Due) → Each (λ x. BeginsGlobal local x.event) past
    → outstanding past tid site ≡ Some due → local tid.tx ≡ false
outstanding_global local past tid site due h e = by_visits (visits site (program past tid)) refl e
  where
    by_visits : (b : Bool) → visits site (program past tid) ≡ b → cond b (outstanding_at past tid site) None ≡ Some due → local tid.tx ≡ false
    by_visits true is e = program_global local past tid site h is
    by_visits false is e = cc

sorted_due : (local : Tx → Bool) (tid : Tid) (due : Due) → local tid.tx ≡ false → IsSortedSend local (send_due tid due)
sorted_due local tid (Due_is.Work site epoch n act) mine = mine
sorted_due local tid (Due_is.Take site epoch n) mine = mine
sorted_due local tid (Due_is.Prepare site epoch n) mine = mine

sorted_dues : (local : Tx → Bool) (tid : Tid) (dues : List Due) → Each (λ due. local tid.tx ≡ false) dues
    → Each (IsSortedSend local) (map (send_due tid) dues)
sorted_dues local tid [] h = tt
sorted_dues local tid (due ∷ dues) h = (sorted_due local tid due h.0, sorted_dues local tid dues h.1)

sorted_decides : (local : Tx → Bool) (tid : Tid) (decision : Decision) (members : List Participant)
    → Each (IsSortedSend local) (decide_to tid decision members)
sorted_decides local tid decision [] = tt
sorted_decides local tid decision (member ∷ members) = (tt, sorted_decides local tid decision members)

-- a line that sends only what makes sorted events, and begins only what is not of a local transaction
pub record SendsSorted (local : Tx → Bool) (x : CoordHappening) : Type 0 where
  pub sends : Each (IsSortedSend local) x.sends
  pub begins : BeginsGlobal local x.event

sends_when : (local : Tx → Bool) (b : Bool) (x y : CoordHappening) → SendsSorted local x → SendsSorted local y → SendsSorted local (when b x y)
unfolding when
sends_when local true x y p q = p
sends_when local false x y p q = q

sends_given : {A : Type 0} (local : Tx → Bool) (o : Option A) (none : CoordHappening) (some : A → CoordHappening) → SendsSorted local none
    → ((a : A) → SendsSorted local (some a)) → SendsSorted local (given o some none)
unfolding given
sends_given local None none some p q = p
sends_given local (Some a) none some p q = q a

sends_of_dues : (local : Tx → Bool) (protocols : List Participant) (past : CoordPast) (event : CoordEvent) (tid : Tid) (answer : Answer)
    (dues : List Due) → BeginsGlobal local event → Each (λ due. local tid.tx ≡ false) dues
    → SendsSorted local (sends_dues protocols past event tid answer dues)
unfolding sends_dues
sends_of_dues local protocols past event tid answer dues mine h =
    sends_when local (some_of is_prepare dues && lacks_initiation protocols past tid) _ _
    (record { sends = sorted_dues local tid dues h; begins = mine })
    (record { sends = sorted_dues local tid dues h; begins = mine })

sends_aborts : (local : Tx → Bool) (protocols : List Participant) (past : CoordPast) (event : CoordEvent) (tid : Tid) (cause : Cause)
    → BeginsGlobal local event → SendsSorted local (aborts protocols past event tid cause)
unfolding aborts
sends_aborts local protocols past event tid cause mine =
    record { sends = sorted_decides local tid Decision_is.Abort (participants protocols past tid); begins = mine }

sends_commits : (local : Tx → Bool) (protocols : List Participant) (past : CoordPast) (event : CoordEvent) (tid : Tid) (tickets : List SiteTicket)
    → BeginsGlobal local event → SendsSorted local (commits_it protocols past event tid tickets)
unfolding commits_it
sends_commits local protocols past event tid tickets mine =
    record { sends = sorted_decides local tid Decision_is.Commit (participants protocols past tid); begins = mine }

-- all that is outstanding for an attempt
all_global : (local : Tx → Bool) (protocols : List Participant) (past : CoordPast) (tid : Tid) → Each (λ x. BeginsGlobal local x.event) past
    → (members : List Participant) → Each (λ due. local tid.tx ≡ false) (found (λ member. outstanding past tid member.site) members)
all_global local protocols past tid h members =
    each_found_from (λ due. local tid.tx ≡ false) (λ member. outstanding past tid member.site) members
    (λ member due i e. outstanding_global local past tid member.site due h e)

news_global : (local : Tx → Bool) (before now : CoordPast) (tid : Tid) (site : SiteId) → Each (λ x. BeginsGlobal local x.event) now
    → (members : List Participant) → Each (λ due. local tid.tx ≡ false) (found (λ member. news_at before now tid site member.site) members)
news_global local before now tid site h members =
    each_found_from (λ due. local tid.tx ≡ false) (λ member. news_at before now tid site member.site) members
    (λ member due i e. by_test member due (same_site member.site site || is_none (outstanding before tid member.site)) e)
  where
    by_test : (member : Participant) (due : Due) (b : Bool) → cond b (outstanding now tid member.site) None ≡ Some due → local tid.tx ≡ false
    by_test member due true e = outstanding_global local now tid member.site due h e
    by_test member due false e = cc

sends_go : (local : Tx → Bool) (protocols : List Participant) (past : CoordPast) (tid : Tid) (steps : List Step)
    → Each (λ x. BeginsGlobal local x.event) past → local tid.tx ≡ false → SendsSorted local (of_go protocols past tid steps)
unfolding of_go
sends_go local protocols past tid steps h mine =
    sends_given local (committed_of (records past) tid.tx) _ _
    (sends_given local (undecided_of past tid.tx) _ _
    (record {
      sends = sorted_dues local tid (all_outstanding protocols (quiet (Ev.Go tid steps) (Say.Begun tid) ∷ past) tid)
          (all_global local protocols (quiet (Ev.Go tid steps) (Say.Begun tid) ∷ past) tid (mine, h)
          (participants protocols (quiet (Ev.Go tid steps) (Say.Begun tid) ∷ past) tid));
      begins = mine;
    })
    (λ running. record { sends = tt; begins = mine }))
    (λ committed. record { sends = tt; begins = mine })

news_sorted : (local : Tx → Bool) (protocols : List Participant) (policy : Policy) (past : CoordPast) (site : SiteId)
    (message : FromSite) (tid : Tid) → Each (λ x. BeginsGlobal local x.event) past
    → SendsSorted local (sends_news protocols policy past (Ev.Take site message) tid
    (news protocols past (quiet (Ev.Take site message) Say.Only ∷ past) tid site))
unfolding sends_news
news_sorted local protocols policy past site message tid h =
    sends_of_dues local protocols past (Ev.Take site message) tid (defers_some (held_back protocols policy past tid due))
    (let_through protocols policy past tid due) tt
    (each_filtered (λ d. local tid.tx ≡ false) (λ d. not (is_take d && not (may_take protocols policy past tid))) due
    (news_global local past (quiet (Ev.Take site message) Say.Only ∷ past) tid site (tt, h) (participants protocols past tid)))
  where
    due : List Due
    due = news protocols past (quiet (Ev.Take site message) Say.Only ∷ past) tid site

sends_reply : (local : Tx → Bool) (protocols : List Participant) (policy : Policy) (past : CoordPast) (site : SiteId) (message : FromSite) (tid : Tid) (reply : Reply)
    → Each (λ x. BeginsGlobal local x.event) past → SendsSorted local (did_reply protocols policy past site message tid reply)
unfolding did_reply
sends_reply local protocols policy past site message tid (Reply_is.Wait by) h = record { sends = tt; begins = tt }
sends_reply local protocols policy past site message tid (Reply_is.Refused (Because.Die by)) h = sends_aborts local protocols past _ tid _ tt
sends_reply local protocols policy past site message tid (Reply_is.Refused (Because.Late by)) h = sends_aborts local protocols past _ tid _ tt
sends_reply local protocols policy past site message tid (Reply_is.Refused (Because.Invalid by key)) h =
    news_sorted local protocols policy past site message tid h
sends_reply local protocols policy past site message tid (Reply_is.Refused (Because.TicketMoved by)) h =
    news_sorted local protocols policy past site message tid h
sends_reply local protocols policy past site message tid Reply_is.Unknown h = sends_aborts local protocols past _ tid _ tt
sends_reply local protocols policy past site message tid (Reply_is.Value value) h = news_sorted local protocols policy past site message tid h
sends_reply local protocols policy past site message tid Reply_is.Done h = news_sorted local protocols policy past site message tid h
sends_reply local protocols policy past site message tid (Reply_is.Ticket n) h = news_sorted local protocols policy past site message tid h

sends_did : (local : Tx → Bool) (protocols : List Participant) (policy : Policy) (past : CoordPast) (site : SiteId) (tid : Tid) (epoch n : ℕ) (reply : Reply)
    → Each (λ x. BeginsGlobal local x.event) past → SendsSorted local (of_did protocols policy past site tid epoch n reply)
unfolding of_did
sends_did local protocols policy past site tid epoch n reply h =
    sends_when local (did_counts past site tid epoch n reply) _ _
    (sends_reply local protocols policy past site (From.Did tid epoch n reply) tid reply h) (record { sends = tt; begins = tt })

sends_last : (local : Tx → Bool) (protocols : List Participant) (past : CoordPast) (event : CoordEvent) (tid : Tid) (tickets : List SiteTicket)
    → BeginsGlobal local event → SendsSorted local (last_vote protocols past event tid tickets)
unfolding last_vote
sends_last local protocols past event tid tickets mine =
    sends_given local (cycle_through edge_between (record { tid = tid; tickets = tickets }) (commits (records past))) _ _
    (sends_commits local protocols past event tid tickets mine) (λ edges. sends_aborts local protocols past event tid _ mine)

sends_yes : (local : Tx → Bool) (protocols : List Participant) (past : CoordPast) (event : CoordEvent) (tid : Tid)
    → BeginsGlobal local event → SendsSorted local (yes_vote protocols past event tid)
unfolding yes_vote
sends_yes local protocols past event tid mine =
    sends_when local (all_voted (quiet event Say.Voted ∷ past) tid (participants protocols past tid)) _ _
    (sends_last local protocols past event tid _ mine) (record { sends = tt; begins = mine })

sends_vote_counted : (local : Tx → Bool) (protocols : List Participant) (past : CoordPast) (site : SiteId) (tid : Tid) (vote : Option ℕ)
    → SendsSorted local (vote_counted protocols past site tid vote)
unfolding vote_counted
sends_vote_counted local protocols past site tid None = sends_aborts local protocols past _ tid _ tt
sends_vote_counted local protocols past site tid (Some ticket) = sends_yes local protocols past _ tid tt

sends_vote : (local : Tx → Bool) (protocols : List Participant) (past : CoordPast) (site : SiteId) (tid : Tid) (vote : Option ℕ)
    → SendsSorted local (of_vote protocols past site tid vote)
unfolding of_vote
sends_vote local protocols past site tid vote =
    sends_when local (vote_counts past site tid) _ _ (sends_vote_counted local protocols past site tid vote) (record { sends = tt; begins = tt })

sends_acked : (local : Tx → Bool) (protocols : List Participant) (past : CoordPast) (site : SiteId) (tid : Tid) (s : Standing) → SendsSorted local (acked_while protocols past site tid s)
unfolding acked_while ack_counts
sends_acked local protocols past site tid (Decided decision) =
    sends_when local (is_member site (missing protocols past tid decision)) _ _
    (sends_when local (is_nobody (missing protocols (quiet (Ev.Take site (From.Ack tid)) Say.Acked ∷ past) tid decision)) _ _ (record { sends = tt; begins = tt })
    (record { sends = tt; begins = tt }))
    (record { sends = tt; begins = tt })
sends_acked local protocols past site tid Undecided = record { sends = tt; begins = tt }
sends_acked local protocols past site tid Gone = record { sends = tt; begins = tt }

sends_ack : (local : Tx → Bool) (protocols : List Participant) (past : CoordPast) (site : SiteId) (tid : Tid) → SendsSorted local (of_ack protocols past site tid)
unfolding of_ack
sends_ack local protocols past site tid = sends_acked local protocols past site tid (standing protocols past tid)

sends_asked : (local : Tx → Bool) (protocols : List Participant) (site : SiteId) (tid : Tid) (s : Standing)
    → SendsSorted local (asked_while protocols site tid s)
unfolding asked_while
sends_asked local protocols site tid Undecided = record { sends = tt; begins = tt }
sends_asked local protocols site tid (Decided decision) = record { sends = (tt, tt); begins = tt }
sends_asked local protocols site tid Gone = record { sends = (tt, tt); begins = tt }

sends_inquiry : (local : Tx → Bool) (protocols : List Participant) (past : CoordPast) (site : SiteId) (tid : Tid)
    → SendsSorted local (of_inquiry protocols past site tid)
unfolding of_inquiry
sends_inquiry local protocols past site tid = sends_asked local protocols site tid (standing protocols past tid)

sends_take : (local : Tx → Bool) (protocols : List Participant) (policy : Policy) (past : CoordPast) (site : SiteId) (message : FromSite)
    → Each (λ x. BeginsGlobal local x.event) past → SendsSorted local (of_take protocols policy past site message)
unfolding of_take
sends_take local protocols policy past site (From.Did tid epoch n reply) h = sends_did local protocols policy past site tid epoch n reply h
sends_take local protocols policy past site (From.Vote tid vote) h = sends_vote local protocols past site tid vote
sends_take local protocols policy past site (From.Ack tid) h = sends_ack local protocols past site tid
sends_take local protocols policy past site (From.Inquiry tid) h = sends_inquiry local protocols past site tid

sends_again_while : (local : Tx → Bool) (protocols : List Participant) (policy : Policy) (past : CoordPast) (tid : Tid) (s : Standing)
    → Each (λ x. BeginsGlobal local x.event) past → SendsSorted local (again_while protocols policy past tid s)
unfolding again_while sends_all
sends_again_while local protocols policy past tid Undecided h =
    sends_of_dues local protocols past (Ev.Again tid) tid
    (defers_all (held_back protocols policy past tid due) (let_through protocols policy past tid due))
    (let_through protocols policy past tid due) tt
    (each_filtered (λ d. local tid.tx ≡ false) (λ d. not (is_take d && not (may_take protocols policy past tid))) due
    (all_global local protocols past tid h (participants protocols past tid)))
  where
    due : List Due
    due = all_outstanding protocols past tid
sends_again_while local protocols policy past tid (Decided decision) h =
    record { sends = sorted_decides local tid decision (missing protocols past tid decision); begins = tt }
sends_again_while local protocols policy past tid Gone h = record { sends = tt; begins = tt }

sends_again : (local : Tx → Bool) (protocols : List Participant) (policy : Policy) (past : CoordPast) (tid : Tid)
    → Each (λ x. BeginsGlobal local x.event) past → SendsSorted local (of_again protocols policy past tid)
unfolding of_again
sends_again local protocols policy past tid h = sends_again_while local protocols policy past tid (standing protocols past tid) h

sends_late : (local : Tx → Bool) (protocols : List Participant) (past : CoordPast) (tid : Tid) → SendsSorted local (of_late protocols past tid)
unfolding of_late
sends_late local protocols past tid =
    sends_when local (is_open past tid) _ _ (sends_aborts local protocols past _ tid _ tt) (record { sends = tt; begins = tt })

sends_fate : (local : Tx → Bool) (past : CoordPast) (tx : Tx) → SendsSorted local (of_fate past tx)
unfolding of_fate
sends_fate local past tx =
    sends_given local (committed_of (records past) tx) _ _
    (sends_given local (undecided_of past tx) _ _ (record { sends = tt; begins = tt }) (λ running. record { sends = tt; begins = tt }))
    (λ committed. record { sends = tt; begins = tt })

sends_back : (local : Tx → Bool) (protocols : List Participant) (past : CoordPast) → SendsSorted local (of_back protocols past)
unfolding of_back
sends_back local protocols past = record { sends = tt; begins = tt }

sends_check : (local : Tx → Bool) (protocols : List Participant) (past : CoordPast) → SendsSorted local (of_check protocols past)
unfolding of_check
sends_check local protocols past =
    sends_when local (nat_lt longest (coord_payload (checkpoint protocols past))) _ _ (record { sends = tt; begins = tt }) (record { sends = tt; begins = tt })

sends_answered : (local : Tx → Bool) (protocols : List Participant) (policy : Policy) (past : CoordPast) (event : CoordEvent)
    → Each (λ x. BeginsGlobal local x.event) past → BeginsGlobal local event → SendsSorted local (answered protocols policy past event)
unfolding answered
sends_answered local protocols policy past (Ev.Go tid steps) h mine = sends_go local protocols past tid steps h mine
sends_answered local protocols policy past (Ev.Take site message) h mine = sends_take local protocols policy past site message h
sends_answered local protocols policy past (Ev.Again tid) h mine = sends_again local protocols policy past tid h
sends_answered local protocols policy past (Ev.Late tid) h mine = sends_late local protocols past tid
sends_answered local protocols policy past (Ev.Fate tx) h mine = sends_fate local past tx
sends_answered local protocols policy past (Ev.Halt cut) h mine = record { sends = tt; begins = tt }
sends_answered local protocols policy past (Ev.Trip calls cut) h mine = record { sends = tt; begins = tt }
sends_answered local protocols policy past Ev.Back h mine = sends_back local protocols past
sends_answered local protocols policy past Ev.Check h mine = sends_check local protocols past

sends_stopped : (local : Tx → Bool) (past : CoordPast) (event : CoordEvent) (calls : List (Call CoordRecord))
    → BeginsGlobal local event → SendsSorted local (stopped coord_frame (disk past) event calls)
unfolding stopped
sends_stopped local past event calls mine = record { sends = tt; begins = mine }

sends_tripped : (local : Tx → Bool) (past : CoordPast) (o : Option Trip) (x : CoordHappening) → SendsSorted local x
    → SendsSorted local (tripped coord_frame (disk past) o x)
unfolding tripped
sends_tripped local past None x s = s
sends_tripped local past (Some t) x s = sends_when local _ _ x (sends_stopped local past x.event _ s.begins) s

sends_up : (local : Tx → Bool) (protocols : List Participant) (policy : Policy) (past : CoordPast) (event : CoordEvent)
    → Each (λ x. BeginsGlobal local x.event) past → BeginsGlobal local event
    → SendsSorted local (when (is_down past) (quiet event Say.Down) (unless_tripped past (answered protocols policy past event)))
sends_up local protocols policy past event h mine =
    sends_when local (is_down past) (quiet event Say.Down) (unless_tripped past (answered protocols policy past event)) (record { sends = tt; begins = mine })
    (sends_tripped local past (trip past) (answered protocols policy past event) (sends_answered local protocols policy past event h mine))

-- the next line of the coordinator
pub sends_line : (local : Tx → Bool) (protocols : List Participant) (policy : Policy) (past : CoordPast) (event : CoordEvent)
    → Each (λ x. BeginsGlobal local x.event) past → BeginsGlobal local event → SendsSorted local (coord_line protocols policy past event)
unfolding coord_line
sends_line local protocols policy past (Ev.Trip calls cut) h mine = record { sends = tt; begins = tt }
sends_line local protocols policy past (Ev.Halt cut) h mine =
    sends_when local (is_down past) _ _ (record { sends = tt; begins = tt }) (sends_stopped local past (Ev.Halt cut) (Stops cut ∷ []) tt)
sends_line local protocols policy past Ev.Back h mine =
    sends_when local (is_down past) _ _ (sends_tripped local past (trip past) (of_back protocols past) (sends_back local protocols past)) (record { sends = tt; begins = tt })
sends_line local protocols policy past (Ev.Go tid steps) h mine = sends_up local protocols policy past (Ev.Go tid steps) h mine
sends_line local protocols policy past (Ev.Take site message) h mine = sends_up local protocols policy past (Ev.Take site message) h mine
sends_line local protocols policy past (Ev.Again tid) h mine = sends_up local protocols policy past (Ev.Again tid) h mine
sends_line local protocols policy past (Ev.Late tid) h mine = sends_up local protocols policy past (Ev.Late tid) h mine
sends_line local protocols policy past (Ev.Fate tx) h mine = sends_up local protocols policy past (Ev.Fate tx) h mine
sends_line local protocols policy past Ev.Check h mine = sends_up local protocols policy past Ev.Check h mine
