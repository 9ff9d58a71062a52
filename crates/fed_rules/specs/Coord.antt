-- The next line of the coordinator, from its past and an event: its answer, what it sends and its disk calls.
-- The ticket method is of Georgakopoulos, Rusinkiewicz and Sheth (1994); decisions, forgetting and answers to inquiries are of Al-Houmaily and
-- Chrysanthis (1999), with this project's profile of classes, records and acknowledgements.
use Rattle.std.specs.Prelude.{ℕ, ◌==◌, nat_lt, Bool, true, false, cond, not, ◌&&◌, ◌||◌, is_some, is_none, Option, Some, None, List, [], ◌∷◌, ◌++◌, map}
use Rattle.mdb_base.specs.declared.acts.Step.{Step}
use Rattle.mdb_base.specs.declared.acts.PlainAct.{PlainAct}
use Rattle.mdb_base.specs.declared.acts.PlainAct.TheVariants.{Read, Write}
use Rattle.mdb_base.specs.declared.names.SiteId.{SiteId}
use Rattle.mdb_base.specs.declared.names.SiteTicket.{SiteTicket}
use Rattle.mdb_base.specs.declared.names.Tid.{Tid}
use Rattle.mdb_base.specs.declared.names.Tx.{Tx}
use Rattle.mdb_base.specs.declared.replies.Reply.{Reply}
use Rattle.mdb_base.specs.declared.replies.Reply.TheVariants as Reply_is
use Rattle.mdb_base.specs.declared.replies.Why.TheVariants as Because
use Rattle.mdb_base.specs.Names.{same_site}
use Rattle.mdb_base.specs.Words.{when, given, some_of, each_of, how_many, those, found}
use Rattle.presumptions.specs.declared.Protocol.{Protocol}
use Rattle.presumptions.specs.declared.Protocol.TheVariants as By
use Rattle.presumptions.specs.declared.Decision.{Decision}
use Rattle.presumptions.specs.declared.Decision.TheVariants as Decided
use Rattle.presumptions.specs.declared.Participant.{Participant}
use Rattle.presumptions.specs.Table.{presumed}
use Rattle.order_laws.specs.Search.{cycle_through}
use Rattle.order_laws.specs.Tickets.{edge_between}
use Rattle.fed_rules.specs.Site_of.{due_site}
use Rattle.fed_rules.specs.declared.answers.Answer.{Answer}
use Rattle.fed_rules.specs.declared.answers.Answer.TheVariants as Say
use Rattle.fed_rules.specs.declared.answers.Cause.{Cause}
use Rattle.fed_rules.specs.declared.answers.Cause.TheVariants as For
use Rattle.fed_rules.specs.declared.events.CoordEvent.{CoordEvent}
use Rattle.fed_rules.specs.declared.events.CoordEvent.TheVariants as Ev
use Rattle.fed_rules.specs.declared.messages.Due.{Due}
use Rattle.fed_rules.specs.declared.messages.Due.TheVariants as Due_is
use Rattle.fed_rules.specs.declared.messages.FromSite.{FromSite}
use Rattle.fed_rules.specs.declared.messages.FromSite.TheVariants as From
use Rattle.fed_rules.specs.declared.messages.ToSite.{ToSite}
use Rattle.fed_rules.specs.declared.messages.ToSite.TheVariants as To
use Rattle.fed_rules.specs.declared.messages.Sent.{Sent}
use Rattle.fed_rules.specs.declared.records.CoordRecord.{CoordRecord}
use Rattle.fed_rules.specs.declared.records.CoordRecord.TheVariants as Rec
use Rattle.fed_rules.specs.Disk.{Call, Append, Sync, CutBack, TrimFront, Stops, is_torn, longest}
use Rattle.fed_rules.specs.Happenings.{quiet, is_down, stopped, tripped}
use Rattle.fed_rules.specs.CoordRecords.{coord_frame, coord_payload, class_of, has_initiation, has_abort, named, committed_of, commits, recorded, required, is_nobody, is_kept}
use Rattle.fed_rules.specs.CoordSums.{coord_sum}
use Rattle.fed_rules.specs.CoordPast.{CoordHappening, CoordPast, disk, records, trip, Standing, Undecided, Decided, Gone, is_open, standing, attempts_of, undecided_of, participants, sites_of, is_prepare_of, has_sent, others_in_phase, epoch_at, vote_at, outstanding, has_acked}
use Rattle.fed_rules.specs.Policies.{Policy}

-- the message of what is outstanding
abbrev pub message_of : Tid → Due → ToSite
message_of tid (Due_is.Work site epoch n act) = To.Work tid epoch n act
message_of tid (Due_is.Take site epoch n) = To.Take tid epoch n
message_of tid (Due_is.Prepare site epoch n) = To.Prepare tid epoch n

abbrev pub send_due : Tid → Due → Sent
send_due tid due = record { site = due_site due; message = message_of tid due }

abbrev pub is_prepare : Due → Bool
is_prepare (Due_is.Prepare site epoch n) = true
is_prepare due = false

abbrev pub is_take : Due → Bool
is_take (Due_is.Take site epoch n) = true
is_take due = false

-- the decision to each of these participants
abbrev pub decide_to : Tid → Decision → List Participant → List Sent
decide_to tid decision members = map (λ member. record { site = member.site; message = To.Decide tid decision }) members

-- whether the attempt may take tickets beside the others in their phases
abbrev pub may_take : List Participant → Policy → CoordPast → Tid → Bool
may_take protocols policy past tid = policy (sites_of protocols past tid) (others_in_phase protocols past tid)

-- the Takes that the policy holds back
abbrev pub held_back : List Participant → Policy → CoordPast → Tid → List Due → List Due
held_back protocols policy past tid dues = those (λ due. is_take due && not (may_take protocols policy past tid)) dues

-- all others
abbrev pub let_through : List Participant → Policy → CoordPast → Tid → List Due → List Due
let_through protocols policy past tid dues = those (λ due. not (is_take due && not (may_take protocols policy past tid))) dues

-- `take` defers where it holds a Take back
abbrev pub defers_some : List Due → Answer
defers_some [] = Say.Only
defers_some (due ∷ held) = Say.Defers

-- `again` defers where it holds back all that is outstanding
abbrev pub defers_all : List Due → List Due → Answer
defers_all held [] = defers_some held
defers_all held (due ∷ sent) = Say.Only

-- whether the attempt's Initiation has to stand on the disk before a Prepare is sent, and doesn't yet
abbrev pub lacks_initiation : List Participant → CoordPast → Tid → Bool
lacks_initiation protocols past tid =
    has_initiation (class_of (participants protocols past tid)) && is_none (named protocols (records past) tid)

-- operations and Prepares are sent; before the first Prepare of an attempt of presumed commit or mixed participants its Initiation is forced
unfoldable pub sends_dues : List Participant → CoordPast → CoordEvent → Tid → Answer → List Due → CoordHappening
sends_dues protocols past event tid answer dues =
    when (some_of is_prepare dues && lacks_initiation protocols past tid)
    (record {
      event = event;
      answer = Say.Initiates;
      sends = map (send_due tid) dues;
      calls = Append (Rec.Initiation tid (participants protocols past tid)) ∷ Sync ∷ [];
      lines = [];
    })
    (record { event = event; answer = answer; sends = map (send_due tid) dues; calls = []; lines = [] })

-- all that is outstanding for an attempt, by rising site
abbrev pub all_outstanding : List Participant → CoordPast → Tid → List Due
all_outstanding protocols past tid = found (λ member. outstanding past tid member.site) (participants protocols past tid)

-- what became outstanding: at this site what is outstanding now, elsewhere what is outstanding where nothing was
abbrev pub news_at : CoordPast → CoordPast → Tid → SiteId → SiteId → Option Due
news_at before now tid site other =
    cond (same_site other site || is_none (outstanding before tid other)) (outstanding now tid other) None

abbrev pub news : List Participant → CoordPast → CoordPast → Tid → SiteId → List Due
news protocols before now tid site =
    found (λ member. news_at before now tid site member.site) (participants protocols before tid)

-- what became outstanding is sent, but for a Take that is held back
unfoldable pub sends_news : List Participant → Policy → CoordPast → CoordEvent → Tid → List Due → CoordHappening
sends_news protocols policy past event tid dues =
    sends_dues protocols past event tid (defers_some (held_back protocols policy past tid dues)) (let_through protocols policy past tid dues)

-- all that is outstanding is sent, but for Takes that are held back
unfoldable pub sends_all : List Participant → Policy → CoordPast → CoordEvent → Tid → List Due → CoordHappening
sends_all protocols policy past event tid dues =
    sends_dues protocols past event tid
    (defers_all (held_back protocols policy past tid dues) (let_through protocols policy past tid dues))
    (let_through protocols policy past tid dues)

-- whether nothing is required of a decision, with the records of its line, so that the attempt is forgotten at once
abbrev pub forgets_at_once : List Participant → List CoordRecord → Tid → Decision → Bool
forgets_at_once protocols kept tid decision = is_nobody (required protocols kept tid decision)

-- the abort record of an attempt: where all participants presume nothing and a Prepare was sent
abbrev pub abort_records : List Participant → CoordPast → Tid → List CoordRecord
abort_records protocols past tid =
    cond (has_abort (class_of (participants protocols past tid)) && has_sent (is_prepare_of tid) past)
    (Rec.Abort tid (participants protocols past tid) ∷ []) []

-- each of these records is forced
abbrev pub forced : List CoordRecord → List (Call CoordRecord)
forced [] = []
forced (next ∷ records) = Append next ∷ Sync ∷ forced records

-- an undecided attempt is decided abort: its Abort record is forced, where it has one
unfoldable pub aborts : List Participant → CoordPast → CoordEvent → Tid → Cause → CoordHappening
aborts protocols past event tid cause =
    let kept = abort_records protocols past tid ++ records past in
    record {
      event = event;
      answer = Say.Decides Decided.Abort (Some cause) (forgets_at_once protocols kept tid Decided.Abort);
      sends = decide_to tid Decided.Abort (participants protocols past tid);
      calls = forced (abort_records protocols past tid);
      lines = [];
    }

-- an attempt is decided commit: its Commit record with the tickets is forced. Where all participants presume commit it is forgotten at once,
-- without an End
unfoldable pub commits_it : List Participant → CoordPast → CoordEvent → Tid → List SiteTicket → CoordHappening
commits_it protocols past event tid tickets =
    let kept = Rec.Commit tid tickets ∷ records past in
    record {
      event = event;
      answer = Say.Decides Decided.Commit None (forgets_at_once protocols kept tid Decided.Commit);
      sends = decide_to tid Decided.Commit (participants protocols past tid);
      calls = Append (Rec.Commit tid tickets) ∷ Sync ∷ [];
      lines = [];
    }

-- `go`: committed before, running, or begun, and the first step is sent
unfoldable pub of_go : List Participant → CoordPast → Tid → List Step → CoordHappening
of_go protocols past tid steps =
    let event = Ev.Go tid steps in
    given (committed_of (records past) tid.tx)
    (λ committed. quiet event (Say.Committed committed))
    (given (undecided_of past tid.tx)
    (λ running. quiet event (Say.Running running))
    (let begun = quiet event (Say.Begun tid) in
    record {
      event = event;
      answer = Say.Begun tid;
      sends = map (send_due tid) (all_outstanding protocols (begun ∷ past) tid);
      calls = [];
      lines = [];
    }))

-- whether a reply is one that the outstanding operation can have
abbrev pub fits_act : PlainAct → Reply → Bool
fits_act act (Reply_is.Wait by) = true
fits_act act (Reply_is.Refused (Because.Die by)) = true
fits_act act (Reply_is.Refused (Because.Late by)) = true
fits_act act Reply_is.Unknown = true
fits_act (Read key) (Reply_is.Value value) = true
fits_act (Write key value) Reply_is.Done = true
fits_act act reply = false

abbrev pub fits_take : Reply → Bool
fits_take (Reply_is.Wait by) = true
fits_take (Reply_is.Refused (Because.Die by)) = true
fits_take (Reply_is.Refused (Because.Late by)) = true
fits_take Reply_is.Unknown = true
fits_take (Reply_is.Ticket ticket) = true
fits_take reply = false

-- whether an operation with this count is outstanding, and the reply fits it
abbrev pub fits : Option Due → ℕ → Reply → Bool
fits (Some (Due_is.Work site epoch count act)) n reply = (n == count) && fits_act act reply
fits (Some (Due_is.Take site epoch count)) n reply = (n == count) && fits_take reply
fits due n reply = false

-- a reply counts where the attempt is undecided, the reply fits what is outstanding at its site, and its epoch is the known one, or none is known
abbrev pub did_counts : CoordPast → SiteId → Tid → ℕ → ℕ → Reply → Bool
did_counts past site tid epoch n reply =
    is_open past tid && fits (outstanding past tid site) n reply
    && ((epoch_at past tid site == 0) || (epoch == epoch_at past tid site))

-- what a reply that counts leads to: a refusal aborts, a wait changes nothing, and else what became outstanding is sent
unfoldable pub did_reply : List Participant → Policy → CoordPast → SiteId → FromSite → Tid → Reply → CoordHappening
did_reply protocols policy past site message tid (Reply_is.Wait by) = quiet (Ev.Take site message) Say.TookWaits
did_reply protocols policy past site message tid (Reply_is.Refused (Because.Die by)) =
    aborts protocols past (Ev.Take site message) tid (For.Dies site by)
did_reply protocols policy past site message tid (Reply_is.Refused (Because.Late by)) =
    aborts protocols past (Ev.Take site message) tid (For.TooLate site by)
did_reply protocols policy past site message tid Reply_is.Unknown = aborts protocols past (Ev.Take site message) tid (For.Unknown site)
did_reply protocols policy past site message tid reply =
    sends_news protocols policy past (Ev.Take site message) tid
    (news protocols past (quiet (Ev.Take site message) Say.Only ∷ past) tid site)

-- a reply of a site
unfoldable pub of_did : List Participant → Policy → CoordPast → SiteId → Tid → ℕ → ℕ → Reply → CoordHappening
of_did protocols policy past site tid epoch n reply =
    let message = From.Did tid epoch n reply in
    when (did_counts past site tid epoch n reply) (did_reply protocols policy past site message tid reply)
    (quiet (Ev.Take site message) Say.Ignored)

abbrev pub vote_ticket : SiteId → Option ℕ → Option SiteTicket
vote_ticket site None = None
vote_ticket site (Some ticket) = Some (record { site = site; ticket = ticket })

-- the tickets of the yes votes, by rising site
abbrev pub vote_tickets : CoordPast → Tid → List Participant → List SiteTicket
vote_tickets past tid members = found (λ member. vote_ticket member.site (vote_at past tid member.site)) members

-- whether every participant voted yes
abbrev pub all_voted : CoordPast → Tid → List Participant → Bool
all_voted past tid members = each_of (λ member. is_some (vote_at past tid member.site)) members

-- at the last yes vote: abort where a cycle of the committed attempts and this one goes through it, else commit
unfoldable pub last_vote : List Participant → CoordPast → CoordEvent → Tid → List SiteTicket → CoordHappening
last_vote protocols past event tid tickets =
    given (cycle_through edge_between (record { tid = tid; tickets = tickets }) (commits (records past)))
    (λ edges. aborts protocols past event tid (For.Cycle edges))
    (commits_it protocols past event tid tickets)

-- a yes vote that counts: the last one decides
unfoldable pub yes_vote : List Participant → CoordPast → CoordEvent → Tid → CoordHappening
yes_vote protocols past event tid =
    let now = quiet event Say.Voted ∷ past in
    let members = participants protocols past tid in
    when (all_voted now tid members) (last_vote protocols past event tid (vote_tickets now tid members)) (quiet event Say.Voted)

-- a vote counts where the attempt is undecided, and a Prepare is outstanding at its site
abbrev pub is_due_vote : Option Due → Bool
is_due_vote (Some (Due_is.Prepare site epoch n)) = true
is_due_vote due = false

abbrev pub vote_counts : CoordPast → SiteId → Tid → Bool
vote_counts past site tid = is_open past tid && is_due_vote (outstanding past tid site)

unfoldable pub vote_counted : List Participant → CoordPast → SiteId → Tid → Option ℕ → CoordHappening
vote_counted protocols past site tid None = aborts protocols past (Ev.Take site (From.Vote tid None)) tid (For.No site)
vote_counted protocols past site tid (Some ticket) = yes_vote protocols past (Ev.Take site (From.Vote tid (Some ticket))) tid

-- a vote of a site
unfoldable pub of_vote : List Participant → CoordPast → SiteId → Tid → Option ℕ → CoordHappening
of_vote protocols past site tid vote =
    when (vote_counts past site tid) (vote_counted protocols past site tid vote) (quiet (Ev.Take site (From.Vote tid vote)) Say.Ignored)

-- the participants whose required acknowledgement is missing
abbrev pub missing : List Participant → CoordPast → Tid → Decision → List Participant
missing protocols past tid decision =
    those (λ member. not (has_acked past tid member.site)) (required protocols (records past) tid decision)

abbrev pub is_member : SiteId → List Participant → Bool
is_member site members = some_of (λ member. same_site member.site site) members

-- an acknowledgement that counts: the last required one forgets, with an End record, unforced
unfoldable pub ack_counts : List Participant → CoordPast → SiteId → Tid → Decision → CoordHappening
ack_counts protocols past site tid decision =
    let event = Ev.Take site (From.Ack tid) in
    when (is_nobody (missing protocols (quiet event Say.Acked ∷ past) tid decision))
    (record { event = event; answer = Say.Forgets; sends = []; calls = Append (Rec.End tid) ∷ []; lines = [] })
    (quiet event Say.Acked)

unfoldable pub acked_while : List Participant → CoordPast → SiteId → Tid → Standing → CoordHappening
acked_while protocols past site tid (Decided decision) =
    when (is_member site (missing protocols past tid decision)) (ack_counts protocols past site tid decision)
    (quiet (Ev.Take site (From.Ack tid)) Say.Ignored)
acked_while protocols past site tid Undecided = quiet (Ev.Take site (From.Ack tid)) Say.Ignored
acked_while protocols past site tid Gone = quiet (Ev.Take site (From.Ack tid)) Say.Ignored

-- an acknowledgement counts where it is required and missing
unfoldable pub of_ack : List Participant → CoordPast → SiteId → Tid → CoordHappening
of_ack protocols past site tid = acked_while protocols past site tid (standing protocols past tid)

-- the protocol of a site
abbrev pub protocol_of : List Participant → SiteId → Protocol
protocol_of [] site = By.Nothing
protocol_of (member ∷ members) site = cond (same_site member.site site) member.protocol (protocol_of members site)

-- an answer to an inquiry
abbrev pub tells : SiteId → Tid → Answer → Decision → CoordHappening
tells site tid answer decision =
    record {
      event = Ev.Take site (From.Inquiry tid);
      answer = answer;
      sends = record { site = site; message = To.Decide tid decision } ∷ [];
      calls = [];
      lines = [];
    }

unfoldable pub asked_while : List Participant → SiteId → Tid → Standing → CoordHappening
asked_while protocols site tid Undecided = quiet (Ev.Take site (From.Inquiry tid)) Say.Undecided
asked_while protocols site tid (Decided decision) = tells site tid (Say.Answers decision) decision
asked_while protocols site tid Gone =
    tells site tid (Say.Presumes (presumed (protocol_of protocols site))) (presumed (protocol_of protocols site))

-- an inquiry: nothing while undecided, the decision while known, and else the inquirer's presumption
unfoldable pub of_inquiry : List Participant → CoordPast → SiteId → Tid → CoordHappening
of_inquiry protocols past site tid = asked_while protocols site tid (standing protocols past tid)

-- a message of a site
unfoldable pub of_take : List Participant → Policy → CoordPast → SiteId → FromSite → CoordHappening
of_take protocols policy past site (From.Did tid epoch n reply) = of_did protocols policy past site tid epoch n reply
of_take protocols policy past site (From.Vote tid vote) = of_vote protocols past site tid vote
of_take protocols policy past site (From.Ack tid) = of_ack protocols past site tid
of_take protocols policy past site (From.Inquiry tid) = of_inquiry protocols past site tid

unfoldable pub again_while : List Participant → Policy → CoordPast → Tid → Standing → CoordHappening
again_while protocols policy past tid Undecided =
    sends_all protocols policy past (Ev.Again tid) tid (all_outstanding protocols past tid)
again_while protocols policy past tid (Decided decision) =
    record {
      event = Ev.Again tid;
      answer = Say.Only;
      sends = decide_to tid decision (missing protocols past tid decision);
      calls = [];
      lines = [];
    }
again_while protocols policy past tid Gone = quiet (Ev.Again tid) Say.Idle

-- `again`: what is outstanding, or the decision to those whose required acknowledgement is missing
unfoldable pub of_again : List Participant → Policy → CoordPast → Tid → CoordHappening
of_again protocols policy past tid = again_while protocols policy past tid (standing protocols past tid)

-- `late`: an undecided attempt is given up
unfoldable pub of_late : List Participant → CoordPast → Tid → CoordHappening
of_late protocols past tid =
    when (is_open past tid) (aborts protocols past (Ev.Late tid) tid For.Late) (quiet (Ev.Late tid) Say.Idle)

-- `fate` of a global transaction
unfoldable pub of_fate : CoordPast → Tx → CoordHappening
of_fate past tx =
    given (committed_of (records past) tx)
    (λ committed. quiet (Ev.Fate tx) (Say.Committed committed))
    (given (undecided_of past tx)
    (λ running. quiet (Ev.Fate tx) (Say.Running running))
    (quiet (Ev.Fate tx) (cond (attempts_of past tx == 0) Say.Unbegun Say.Ended)))

-- a restart cuts a torn rest back, and knows the attempts of which something is required
unfoldable pub of_back : List Participant → CoordPast → CoordHappening
of_back protocols past =
    record {
      event = Ev.Back;
      answer = Say.UpCoord (how_many (is_kept protocols (records past)) (recorded (records past)));
      sends = [];
      calls = cond (is_torn coord_frame (disk past)) (CutBack ∷ []) [];
      lines = [];
    }

-- the Checkpoint that the coordinator would write
abbrev pub checkpoint : List Participant → CoordPast → CoordRecord
checkpoint protocols past = Rec.Checkpoint (coord_sum protocols (records past))

-- `check`: a Checkpoint is forced, unless it would be too long, and what stands before it is trimmed
unfoldable pub of_check : List Participant → CoordPast → CoordHappening
of_check protocols past =
    when (nat_lt longest (coord_payload (checkpoint protocols past))) (quiet Ev.Check Say.Large)
    (record { event = Ev.Check; answer = Say.Checked; sends = []; calls = Append (checkpoint protocols past) ∷ Sync ∷ TrimFront ∷ []; lines = [] })

-- what a coordinator that is up answers, before a trip may stop it
unfoldable pub answered : List Participant → Policy → CoordPast → CoordEvent → CoordHappening
answered protocols policy past (Ev.Go tid steps) = of_go protocols past tid steps
answered protocols policy past (Ev.Take site message) = of_take protocols policy past site message
answered protocols policy past (Ev.Again tid) = of_again protocols policy past tid
answered protocols policy past (Ev.Late tid) = of_late protocols past tid
answered protocols policy past (Ev.Fate tx) = of_fate past tx
answered protocols policy past (Ev.Halt cut) = quiet (Ev.Halt cut) Say.Down
answered protocols policy past (Ev.Trip calls cut) = quiet (Ev.Trip calls cut) Say.Set
answered protocols policy past Ev.Back = of_back protocols past
answered protocols policy past Ev.Check = of_check protocols past

-- the line, unless the trip in force comes within its disk calls
abbrev pub unless_tripped : CoordPast → CoordHappening → CoordHappening
unless_tripped past x = tripped coord_frame (disk past) (trip past) x

-- the next line of the coordinator
unfoldable pub coord_line : List Participant → Policy → CoordPast → CoordEvent → CoordHappening
coord_line protocols policy past (Ev.Trip calls cut) = quiet (Ev.Trip calls cut) Say.Set
coord_line protocols policy past (Ev.Halt cut) =
    when (is_down past) (quiet (Ev.Halt cut) Say.Down) (stopped coord_frame (disk past) (Ev.Halt cut) (Stops cut ∷ []))
coord_line protocols policy past Ev.Back =
    when (is_down past) (unless_tripped past (of_back protocols past)) (quiet Ev.Back Say.Awake)
coord_line protocols policy past event =
    when (is_down past) (quiet event Say.Down) (unless_tripped past (answered protocols policy past event))

-- the past of a coordinator after these events, the last one first
abbrev pub coord_past : List Participant → Policy → List CoordEvent → CoordPast
coord_past protocols policy [] = []
coord_past protocols policy (event ∷ events) =
    coord_line protocols policy (coord_past protocols policy events) event ∷ coord_past protocols policy events
