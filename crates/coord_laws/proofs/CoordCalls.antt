-- The disk calls of a line of the coordinator: it appends one record at most, and it trims only behind a synced Checkpoint of its own.
use Rattle.std.proofs.Common.{◌≡◌, ℕ, Bool, true, false, cond, ◌&&◌, nat_lt, Option, Some, None, List, [], ◌∷◌, refl}
use Rattle.mdb_base.specs.declared.names.SiteId.{SiteId}
use Rattle.mdb_base.specs.declared.names.SiteTicket.{SiteTicket}
use Rattle.mdb_base.specs.declared.names.Tid.{Tid}
use Rattle.mdb_base.specs.declared.replies.Reply.{Reply}
use Rattle.mdb_base.specs.declared.replies.Reply.TheVariants as Reply_is
use Rattle.mdb_base.specs.declared.replies.Why.TheVariants as Because
use Rattle.mdb_base.specs.Words.{given, some_of, when}
use Rattle.order_laws.specs.Search.{cycle_through}
use Rattle.order_laws.specs.Tickets.{edge_between}
use Rattle.presumptions.specs.declared.Participant.{Participant}
use Rattle.fed_rules.specs.declared.answers.Answer.{Answer}
use Rattle.fed_rules.specs.declared.answers.Answer.TheVariants as Say
use Rattle.fed_rules.specs.declared.answers.Cause.{Cause}
use Rattle.fed_rules.specs.declared.answers.Cause.TheVariants as For
use Rattle.fed_rules.specs.declared.events.CoordEvent.{CoordEvent}
use Rattle.fed_rules.specs.declared.events.CoordEvent.TheVariants as Ev
use Rattle.fed_rules.specs.declared.messages.Due.{Due}
use Rattle.fed_rules.specs.declared.messages.FromSite.{FromSite}
use Rattle.fed_rules.specs.declared.messages.FromSite.TheVariants as From
use Rattle.fed_rules.specs.declared.records.CoordRecord.{CoordRecord}
use Rattle.fed_rules.specs.declared.records.CoordRecord.TheVariants as Rec
use Rattle.fed_rules.specs.declared.sums.CoordSum.{CoordSum}
use Rattle.fed_rules.specs.Coord.{aborts, ack_counts, acked_while, again_while, all_voted, answered, asked_while, checkpoint, commits_it, did_counts, did_reply, forced, is_member, is_prepare, lacks_initiation, last_vote, missing, of_ack, of_again, of_back, of_check, of_did, of_fate, of_go, of_inquiry, of_late, of_take, of_vote, sends_all, sends_dues, sends_news, vote_counted, vote_counts, vote_tickets, yes_vote}
use Rattle.fed_rules.specs.CoordPast.{CoordHappening, CoordPast, Standing, Undecided, Decided, Gone, disk, has_sent, is_open, is_prepare_of, participants, records, standing, undecided_of}
use Rattle.fed_rules.specs.CoordRecords.{class_of, committed_of, commits, coord_frame, coord_payload, has_abort, is_nobody}
use Rattle.fed_rules.specs.Disk.{Append, Call, CutBack, Sync, TrimFront, is_torn, longest}
use Rattle.fed_rules.specs.Happenings.{quiet}
use Rattle.fed_rules.specs.Policies.{Policy}

-- the calls of a line
pub data Shape (calls : List (Call CoordRecord)) : Type 0 where
  Idle : calls ≡ [] → Shape calls
  Appends : (kept : CoordRecord) → calls ≡ Append kept ∷ [] → Shape calls
  Forces : (kept : CoordRecord) → calls ≡ Append kept ∷ Sync ∷ [] → Shape calls
  Cuts : calls ≡ CutBack ∷ [] → Shape calls
  Checks : (sum : CoordSum) → calls ≡ Append (Rec.Checkpoint sum) ∷ Sync ∷ TrimFront ∷ [] → Shape calls

pub record HasShape (x : CoordHappening) : Type 0 where
  pub shape : Shape x.calls

shape_quiet : (event : CoordEvent) (answer : Answer) → HasShape (quiet event answer)
shape_quiet event answer = record { shape = Idle refl }

shape_when : (b : Bool) (x y : CoordHappening) → HasShape x → HasShape y → HasShape (when b x y)
unfolding when
shape_when true x y p q = p
shape_when false x y p q = q

shape_given : {A : Type 0} (o : Option A) (x : CoordHappening) (f : A → CoordHappening) → HasShape x → ((a : A) → HasShape (f a)) → HasShape (given o f x)
unfolding given
shape_given None x f p q = p
shape_given (Some a) x f p q = q a

shape_dues : (protocols : List Participant) (past : CoordPast) (event : CoordEvent) (tid : Tid) (answer : Answer) (dues : List Due)
    → HasShape (sends_dues protocols past event tid answer dues)
unfolding sends_dues
shape_dues protocols past event tid answer dues =
    shape_when (some_of is_prepare dues && lacks_initiation protocols past tid) _ _ (record { shape = Forces (Rec.Initiation tid (participants protocols past tid)) refl })
    (record { shape = Idle refl })

shape_aborts : (protocols : List Participant) (past : CoordPast) (event : CoordEvent) (tid : Tid) (cause : Cause) → HasShape (aborts protocols past event tid cause)
unfolding aborts
shape_aborts protocols past event tid cause = record { shape = by_test (has_abort (class_of (participants protocols past tid)) && has_sent (is_prepare_of tid) past) }
  where
    by_test : (b : Bool) → Shape (forced (cond b (Rec.Abort tid (participants protocols past tid) ∷ []) []))
    by_test true = Forces (Rec.Abort tid (participants protocols past tid)) refl
    by_test false = Idle refl

shape_commits : (protocols : List Participant) (past : CoordPast) (event : CoordEvent) (tid : Tid) (tickets : List SiteTicket) → HasShape (commits_it protocols past event tid tickets)
unfolding commits_it
shape_commits protocols past event tid tickets = record { shape = Forces (Rec.Commit tid tickets) refl }

shape_reply : (protocols : List Participant) (policy : Policy) (past : CoordPast) (site : SiteId) (message : FromSite) (tid : Tid) (reply : Reply)
    → HasShape (did_reply protocols policy past site message tid reply)
unfolding did_reply sends_news
shape_reply protocols policy past site message tid (Reply_is.Wait by) = shape_quiet _ _
shape_reply protocols policy past site message tid (Reply_is.Refused (Because.Die by)) = shape_aborts protocols past _ tid _
shape_reply protocols policy past site message tid (Reply_is.Refused (Because.Late by)) = shape_aborts protocols past _ tid _
shape_reply protocols policy past site message tid Reply_is.Unknown = shape_aborts protocols past _ tid _
shape_reply protocols policy past site message tid reply = shape_dues protocols past _ tid _ _

shape_yes : (protocols : List Participant) (past : CoordPast) (event : CoordEvent) (tid : Tid) → HasShape (yes_vote protocols past event tid)
unfolding yes_vote last_vote
shape_yes protocols past event tid =
    let now : CoordPast = quiet event Say.Voted ∷ past in
    let tickets = vote_tickets now tid (participants protocols past tid) in
    shape_when (all_voted now tid (participants protocols past tid)) _ _
    (shape_given (cycle_through edge_between (record { tid = tid; tickets = tickets }) (commits (records past))) _ _ (shape_commits protocols past event tid tickets)
    (λ edges. shape_aborts protocols past event tid (For.Cycle edges))) (shape_quiet _ _)

shape_vote : (protocols : List Participant) (past : CoordPast) (site : SiteId) (tid : Tid) (vote : Option ℕ) → HasShape (vote_counted protocols past site tid vote)
unfolding vote_counted
shape_vote protocols past site tid None = shape_aborts protocols past _ tid _
shape_vote protocols past site tid (Some ticket) = shape_yes protocols past (Ev.Take site (From.Vote tid (Some ticket))) tid

shape_acked : (protocols : List Participant) (past : CoordPast) (site : SiteId) (tid : Tid) (s : Standing) → HasShape (acked_while protocols past site tid s)
unfolding acked_while ack_counts
shape_acked protocols past site tid Undecided = shape_quiet _ _
shape_acked protocols past site tid (Decided decision) =
    shape_when (is_member site (missing protocols past tid decision)) _ _
    (shape_when (is_nobody (missing protocols (quiet (Ev.Take site (From.Ack tid)) Say.Acked ∷ past) tid decision)) _ _
    (record { shape = Appends (Rec.End tid) refl }) (shape_quiet _ _)) (shape_quiet _ _)
shape_acked protocols past site tid Gone = shape_quiet _ _

shape_inquiry : (protocols : List Participant) (site : SiteId) (tid : Tid) (s : Standing) → HasShape (asked_while protocols site tid s)
unfolding asked_while
shape_inquiry protocols site tid Undecided = shape_quiet _ _
shape_inquiry protocols site tid (Decided decision) = record { shape = Idle refl }
shape_inquiry protocols site tid Gone = record { shape = Idle refl }

shape_take : (protocols : List Participant) (policy : Policy) (past : CoordPast) (site : SiteId) (message : FromSite) → HasShape (of_take protocols policy past site message)
unfolding of_take of_did of_vote of_ack of_inquiry
shape_take protocols policy past site (From.Did tid epoch n reply) =
    shape_when (did_counts past site tid epoch n reply) _ _ (shape_reply protocols policy past site (From.Did tid epoch n reply) tid reply) (shape_quiet _ _)
shape_take protocols policy past site (From.Vote tid vote) = shape_when (vote_counts past site tid) _ _ (shape_vote protocols past site tid vote) (shape_quiet _ _)
shape_take protocols policy past site (From.Ack tid) = shape_acked protocols past site tid (standing protocols past tid)
shape_take protocols policy past site (From.Inquiry tid) = shape_inquiry protocols site tid (standing protocols past tid)

shape_again : (protocols : List Participant) (policy : Policy) (past : CoordPast) (tid : Tid) (s : Standing) → HasShape (again_while protocols policy past tid s)
unfolding again_while sends_all
shape_again protocols policy past tid Undecided = shape_dues protocols past _ tid _ _
shape_again protocols policy past tid (Decided decision) = record { shape = Idle refl }
shape_again protocols policy past tid Gone = shape_quiet _ _

pub back_shape : (protocols : List Participant) (past : CoordPast) → HasShape (of_back protocols past)
unfolding of_back
back_shape protocols past = record { shape = by_torn (is_torn coord_frame (disk past)) }
  where
    by_torn : (b : Bool) → Shape (cond b (CutBack ∷ []) [])
    by_torn true = Cuts refl
    by_torn false = Idle refl

-- the line of a coordinator that is up
pub answered_shape : (protocols : List Participant) (policy : Policy) (past : CoordPast) (event : CoordEvent) → HasShape (answered protocols policy past event)
unfolding answered of_go of_again of_late of_fate of_check
answered_shape protocols policy past (Ev.Go tid steps) =
    shape_given (committed_of (records past) tid.tx) _ _ (shape_given (undecided_of past tid.tx) _ _ (record { shape = Idle refl }) (λ running. shape_quiet _ _)) (λ committed. shape_quiet _ _)
answered_shape protocols policy past (Ev.Take site message) = shape_take protocols policy past site message
answered_shape protocols policy past (Ev.Again tid) = shape_again protocols policy past tid (standing protocols past tid)
answered_shape protocols policy past (Ev.Late tid) = shape_when (is_open past tid) _ _ (shape_aborts protocols past _ tid _) (shape_quiet _ _)
answered_shape protocols policy past (Ev.Fate tx) =
    shape_given (committed_of (records past) tx) _ _ (shape_given (undecided_of past tx) _ _ (shape_quiet _ _) (λ running. shape_quiet _ _)) (λ committed. shape_quiet _ _)
answered_shape protocols policy past (Ev.Halt cut) = shape_quiet _ _
answered_shape protocols policy past (Ev.Trip calls cut) = shape_quiet _ _
answered_shape protocols policy past Ev.Back = back_shape protocols past
answered_shape protocols policy past Ev.Check =
    shape_when (nat_lt longest (coord_payload (checkpoint protocols past))) _ _ (shape_quiet _ _)
    (record { shape = Checks _ refl })
