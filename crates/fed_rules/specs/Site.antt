-- The next line of a site, from its past and an event: its answer, what it sends, its disk calls and its engine lines.
-- Operations, epochs and closed attempts are this project's profile; commit and abort by presumption are of Mohan, Lindsay, Obermarck (1986).
use Rattle.std.specs.Prelude.{ℕ, ◌+◌, ◌==◌, nat_lt, Bool, cond, not, ◌&&◌, ◌||◌, is_some, Option, Some, None, List, [], ◌∷◌, ◌++◌, length}
use Rattle.mdb_base.specs.declared.names.Tid.{Tid}
use Rattle.mdb_base.specs.declared.names.Tx.{Tx}
use Rattle.mdb_base.specs.declared.acts.PlainAct.{PlainAct}
use Rattle.mdb_base.specs.declared.acts.PlainAct.TheVariants.{Read, Write}
use Rattle.mdb_base.specs.declared.replies.Reply.{Reply}
use Rattle.mdb_base.specs.declared.replies.Reply.TheVariants as Reply_is
use Rattle.mdb_base.specs.declared.replies.Why.{Why}
use Rattle.mdb_base.specs.declared.replies.Why.TheVariants as Because
use Rattle.mdb_base.specs.Words.{when, given}
use Rattle.presumptions.specs.declared.Decision.{Decision}
use Rattle.presumptions.specs.declared.Decision.TheVariants as Decided
use Rattle.presumptions.specs.Table.{forces, acks}
use Rattle.fed_rules.specs.declared.answers.Answer.{Answer}
use Rattle.fed_rules.specs.declared.answers.Answer.TheVariants as Say
use Rattle.fed_rules.specs.declared.events.SiteEvent.{SiteEvent}
use Rattle.fed_rules.specs.declared.events.SiteEvent.TheVariants as Ev
use Rattle.fed_rules.specs.declared.messages.FromSite.{FromSite}
use Rattle.fed_rules.specs.declared.messages.FromSite.TheVariants as From
use Rattle.fed_rules.specs.declared.messages.ToSite.{ToSite}
use Rattle.fed_rules.specs.declared.messages.ToSite.TheVariants as To
use Rattle.fed_rules.specs.declared.records.SiteRecord.{SiteRecord}
use Rattle.fed_rules.specs.declared.records.SiteRecord.TheVariants as Rec
use Rattle.fed_rules.specs.Disk.{Call, Append, Sync, CutBack, TrimFront, Stops, is_torn, longest}
use Rattle.fed_rules.specs.Happenings.{quiet, is_down, stopped, tripped}
use Rattle.fed_rules.specs.Runs.{EngineLine, Begins, Acts, Takes, Seals, Refuses, Commits, Aborts, Access, Got, Wrote, Run, begun, counter, has_ticket, puts_of}
use Rattle.fed_rules.specs.Replies.{access_reply, ticket_reply, seal_stop, seal_number}
use Rattle.fed_rules.specs.SiteRecords.{Home, Held, site_frame, site_payload, doubt_of, doubts, local_of}
use Rattle.fed_rules.specs.SiteSums.{site_sum}
use Rattle.fed_rules.specs.SitePast.{SiteHappening, SitePast, disk, records, epoch, trip, epoch_start, engine_lines, live, live_of_tx, attempts_of, is_local, is_closed}

-- an answer with engine lines alone
abbrev pub with_lines : SiteEvent → Answer → List EngineLine → SiteHappening
with_lines event answer lines = record { event = event; answer = answer; sends = []; calls = []; lines = lines }

-- the number that the next begin draws
abbrev pub next_number : Home → SitePast → ℕ
next_number home past = counter (epoch_start home past) (engine_lines past) + 1

-- `begin`: committed before, running, or begun with the next number
unfoldable pub of_begin : Home → SitePast → Tid → SiteHappening
of_begin home past tid =
    given (local_of (records home past) tid.tx)
    (λ committed. quiet (Ev.Begin tid) (Say.Committed committed))
    (given (live_of_tx home past tid.tx)
    (λ running. quiet (Ev.Begin tid) (Say.Running running))
    (with_lines (Ev.Begin tid) (Say.Begun tid) (Begins tid (next_number home past) ∷ [])))

-- the answer to an access of a local transaction
abbrev pub act_answer : Tid → Reply → PlainAct → Answer
act_answer tid (Reply_is.Wait by) act = Say.Waits by
act_answer tid (Reply_is.Refused (Because.Die by)) act = Say.Dies by
act_answer tid (Reply_is.Refused (Because.Late by)) act = Say.Late by
act_answer tid (Reply_is.Value value) (Read key) = Say.Read key value
act_answer tid Reply_is.Done (Write key value) = Say.Wrote key value
act_answer tid reply act = Say.Idle

-- the reply to an access of a live run
abbrev pub reply_to : Home → SitePast → Run → PlainAct → Reply
reply_to home past run act = access_reply (epoch_start home past) (engine_lines past) run act

-- `step`: the engine's reply
unfoldable pub of_act : Home → SitePast → Tid → PlainAct → SiteHappening
of_act home past tid act =
    given (live home past tid)
    (λ run. with_lines (Ev.Act tid act) (act_answer tid (reply_to home past run act) act) (Acts tid act (reply_to home past run act) ∷ []))
    (quiet (Ev.Act tid act) Say.Idle)

-- what refuses the sealing of a live run
abbrev pub stop_of : Home → SitePast → Run → Option Why
stop_of home past run = seal_stop home.engine (epoch_start home past) (engine_lines past) run

-- the serial number of its sealing
abbrev pub number_of : Home → SitePast → Run → ℕ
number_of home past run = seal_number home.engine (epoch_start home past) (engine_lines past) run

abbrev pub refusal_answer : Why → Answer
refusal_answer (Because.Invalid by key) = Say.Invalid by key
refusal_answer why = Say.Idle

-- a local commit seals, forces a Local record, also with no writes, and installs
unfoldable pub seals_local : Home → SitePast → Tid → Run → SiteHappening
seals_local home past tid run =
    record {
      event = Ev.Commit tid;
      answer = Say.Sealed tid (number_of home past run);
      sends = [];
      calls = Append (Rec.Local tid (number_of home past run) (puts_of run.acts)) ∷ Sync ∷ [];
      lines = Commits tid ∷ Seals tid (number_of home past run) ∷ [];
    }

-- `commit`: refused, or sealed and committed
unfoldable pub of_commit : Home → SitePast → Tid → SiteHappening
of_commit home past tid =
    given (live home past tid)
    (λ run. given (stop_of home past run)
    (λ why. with_lines (Ev.Commit tid) (refusal_answer why) (Refuses tid why ∷ []))
    (seals_local home past tid run))
    (quiet (Ev.Commit tid) Say.Idle)

-- `abort`
unfoldable pub of_abort : Home → SitePast → Tid → SiteHappening
of_abort home past tid =
    given (live home past tid)
    (λ run. with_lines (Ev.Abort tid) (Say.Aborted tid) (Aborts tid ∷ []))
    (quiet (Ev.Abort tid) Say.Idle)

-- `fate` of a local transaction
unfoldable pub of_fate : Home → SitePast → Tx → SiteHappening
of_fate home past tx =
    given (local_of (records home past) tx)
    (λ committed. quiet (Ev.Fate tx) (Say.Committed committed))
    (given (live_of_tx home past tx)
    (λ running. quiet (Ev.Fate tx) (Say.Running running))
    (quiet (Ev.Fate tx) (cond (attempts_of past tx == 0) Say.Unbegun Say.Ended)))

-- the finished operations of a run: its granted accesses, and its ticket
abbrev pub done : Run → ℕ
done run = length run.acts + cond (has_ticket run) 1 0

abbrev pub reply_of_access : List Access → Reply
reply_of_access [] = Reply_is.Unknown
reply_of_access (Got key value ∷ acts) = Reply_is.Value value
reply_of_access (Wrote key value ∷ acts) = Reply_is.Done

abbrev pub kept_reply_of : Option ℕ → List Access → Reply
kept_reply_of (Some ticket) acts = Reply_is.Ticket ticket
kept_reply_of None acts = reply_of_access acts

-- the reply to the last finished operation; nothing is done behind the taking of the ticket
abbrev pub kept_reply : Run → Reply
kept_reply run = kept_reply_of run.ticket run.acts

-- the answer to an operation names the site's epoch, also with the reply unknown
unfoldable pub did : Home → SitePast → ToSite → Tid → ℕ → Reply → List EngineLine → SiteHappening
did home past message tid n reply lines =
    record {
      event = Ev.Give message;
      answer = Say.Did tid reply;
      sends = From.Did tid (epoch home past) n reply ∷ [];
      calls = [];
      lines = lines;
    }

-- an operation that fits nothing
unfoldable pub unknown : Home → SitePast → ToSite → Tid → ℕ → SiteHappening
unknown home past message tid n = did home past message tid n Reply_is.Unknown []

-- the first act of a new subtransaction
unfoldable pub first_work : Home → SitePast → ToSite → Tid → ℕ → PlainAct → SiteHappening
first_work home past message tid n act =
    let number = next_number home past in
    let lines = Begins tid number ∷ engine_lines past in
    let reply = access_reply (epoch_start home past) lines (begun tid number) act in
    did home past message tid n reply (Acts tid act reply ∷ Begins tid number ∷ [])

-- the next act of a live subtransaction
unfoldable pub next_work : Home → SitePast → ToSite → Tid → ℕ → PlainAct → Run → SiteHappening
next_work home past message tid n act run =
    did home past message tid n (reply_to home past run act) (Acts tid act (reply_to home past run act) ∷ [])

abbrev pub ticket_reply_to : Home → SitePast → Run → Reply
ticket_reply_to home past run = ticket_reply (epoch_start home past) (engine_lines past) run

-- the taking of the ticket of a live subtransaction
unfoldable pub next_take : Home → SitePast → ToSite → Tid → ℕ → Run → SiteHappening
next_take home past message tid n run =
    did home past message tid n (ticket_reply_to home past run) (Takes tid (ticket_reply_to home past run) ∷ [])

-- an operation that was finished before gets its reply again, and any other one that isn't the next is unknown
unfoldable pub repeated : Home → SitePast → ToSite → Tid → ℕ → Run → SiteHappening
repeated home past message tid n run =
    when (n + 1 == done run) (did home past message tid n (kept_reply run) []) (unknown home past message tid n)

-- an operation of a live run speaks of this epoch, or it is the first one
abbrev pub is_of_epoch : Home → SitePast → ℕ → ℕ → Bool
is_of_epoch home past e n = (e == epoch home past) || ((e == 0) && (n == 0))

-- an attempt that is closed or sealed takes no operation
abbrev pub is_over : Home → SitePast → Tid → Bool
is_over home past tid = is_closed past tid || is_some (doubt_of (records home past) tid)

-- an act of a live subtransaction
unfoldable pub work_live : Home → SitePast → ToSite → Tid → ℕ → ℕ → PlainAct → Run → SiteHappening
work_live home past message tid e n act run =
    when (not (is_of_epoch home past e n) || has_ticket run || nat_lt 31 n) (unknown home past message tid n)
    (when (n == done run) (next_work home past message tid n act run) (repeated home past message tid n run))

-- an act: the first one begins the subtransaction
unfoldable pub of_work : Home → SitePast → Tid → ℕ → ℕ → PlainAct → SiteHappening
of_work home past tid e n act =
    let message = To.Work tid e n act in
    when (is_over home past tid) (unknown home past message tid n)
    (given (live home past tid)
    (work_live home past message tid e n act)
    (when ((e == 0) && (n == 0)) (first_work home past message tid n act) (unknown home past message tid n)))

-- the taking of the ticket by a live subtransaction
unfoldable pub take_live : Home → SitePast → ToSite → Tid → ℕ → ℕ → Run → SiteHappening
take_live home past message tid e n run =
    when (not (is_of_epoch home past e n) || (has_ticket run && (n == done run))) (unknown home past message tid n)
    (when (n == done run) (next_take home past message tid n run) (repeated home past message tid n run))

-- the taking of the ticket
unfoldable pub of_take : Home → SitePast → Tid → ℕ → ℕ → SiteHappening
of_take home past tid e n =
    let message = To.Take tid e n in
    when (is_over home past tid) (unknown home past message tid n)
    (given (live home past tid) (take_live home past message tid e n) (unknown home past message tid n))

-- a yes vote that was given before
unfoldable pub votes_again : Tid → ℕ → ℕ → Held → SiteHappening
votes_again tid e n held =
    record {
      event = Ev.Give (To.Prepare tid e n);
      answer = Say.VotesYes tid held.ticket;
      sends = From.Vote tid (Some held.ticket) ∷ [];
      calls = [];
      lines = [];
    }

-- a no vote
unfoldable pub votes_no : Tid → ℕ → ℕ → Option Why → List EngineLine → SiteHappening
votes_no tid e n why lines =
    record {
      event = Ev.Give (To.Prepare tid e n);
      answer = Say.VotesNo tid why;
      sends = From.Vote tid None ∷ [];
      calls = [];
      lines = lines;
    }

-- a sealing that succeeds forces the Prepared record and votes yes with the ticket
unfoldable pub votes_yes : Home → SitePast → Tid → ℕ → ℕ → Run → ℕ → SiteHappening
votes_yes home past tid e n run ticket =
    record {
      event = Ev.Give (To.Prepare tid e n);
      answer = Say.VotesYes tid ticket;
      sends = From.Vote tid (Some ticket) ∷ [];
      calls = Append (Rec.Prepared tid (epoch home past) (number_of home past run) ticket (puts_of run.acts)) ∷ Sync ∷ [];
      lines = Seals tid (number_of home past run) ∷ [];
    }

-- a live subtransaction that has its ticket is sealed, unless its rule refuses that
unfoldable pub seals_global : Home → SitePast → Tid → ℕ → ℕ → Run → ℕ → SiteHappening
seals_global home past tid e n run ticket =
    given (stop_of home past run)
    (λ why. votes_no tid e n (Some why) (Refuses tid why ∷ []))
    (votes_yes home past tid e n run ticket)

-- a Prepare of a live subtransaction names this epoch and its finished operations, the ticket among them
unfoldable pub prepare_live : Home → SitePast → Tid → ℕ → ℕ → Run → SiteHappening
prepare_live home past tid e n run =
    when ((e == epoch home past) && (n == done run))
    (given run.ticket (seals_global home past tid e n run) (votes_no tid e n None []))
    (votes_no tid e n None [])

-- a Prepare: a sealed one votes again where it was sealed in that epoch
unfoldable pub of_prepare : Home → SitePast → Tid → ℕ → ℕ → SiteHappening
of_prepare home past tid e n =
    given (doubt_of (records home past) tid)
    (λ held. when (held.epoch == e) (votes_again tid e n held) (votes_no tid e n None []))
    (given (live home past tid) (prepare_live home past tid e n) (votes_no tid e n None []))

-- an acknowledgement, where the protocol sends one
abbrev pub ack_of : Home → Tid → Decision → List FromSite
ack_of home tid decision = cond (acks home.protocol decision) (From.Ack tid ∷ []) []

-- the Ended record, forced or not
abbrev pub ended_calls : Home → Tid → Decision → List (Call SiteRecord)
ended_calls home tid decision = Append (Rec.Ended tid decision) ∷ cond (forces home.protocol decision) (Sync ∷ []) []

abbrev pub settling_line : Tid → Decision → EngineLine
settling_line tid Decided.Commit = Commits tid
settling_line tid Decided.Abort = Aborts tid

-- a sealed subtransaction settles
unfoldable pub settles : Home → Tid → Decision → SiteHappening
settles home tid decision =
    record {
      event = Ev.Give (To.Decide tid decision);
      answer = Say.Settles tid decision;
      sends = ack_of home tid decision;
      calls = ended_calls home tid decision;
      lines = settling_line tid decision ∷ [];
    }

-- a decision on what isn't sealed aborts a live run of it, and writes nothing
unfoldable pub unheld : Home → Tid → Decision → List EngineLine → SiteHappening
unheld home tid decision lines =
    record {
      event = Ev.Give (To.Decide tid decision);
      answer = Say.Unheld tid;
      sends = ack_of home tid decision;
      calls = [];
      lines = lines;
    }

-- a decision
unfoldable pub of_decide : Home → SitePast → Tid → Decision → SiteHappening
of_decide home past tid decision =
    given (doubt_of (records home past) tid)
    (λ held. settles home tid decision)
    (given (live home past tid) (λ run. unheld home tid decision (Aborts tid ∷ [])) (unheld home tid decision []))

-- a message of the coordinator
unfoldable pub of_give : Home → SitePast → ToSite → SiteHappening
of_give home past (To.Work tid e n act) = of_work home past tid e n act
of_give home past (To.Take tid e n) = of_take home past tid e n
of_give home past (To.Prepare tid e n) = of_prepare home past tid e n
of_give home past (To.Decide tid decision) = of_decide home past tid decision

-- `ask`: an inquiry about a subtransaction in doubt
unfoldable pub of_ask : Home → SitePast → Tid → SiteHappening
of_ask home past tid =
    given (doubt_of (records home past) tid)
    (λ held. record { event = Ev.Ask tid; answer = Say.Asks tid; sends = From.Inquiry tid ∷ []; calls = []; lines = [] })
    (quiet (Ev.Ask tid) Say.Idle)

-- `drop`: a site may drop a live subtransaction by itself
unfoldable pub of_drop : Home → SitePast → Tid → SiteHappening
of_drop home past tid =
    when (is_local past tid) (quiet (Ev.Drop tid) Say.Idle)
    (given (live home past tid)
    (λ run. with_lines (Ev.Drop tid) (Say.Dropped tid) (Aborts tid ∷ []))
    (quiet (Ev.Drop tid) Say.Idle))

-- a restart cuts a torn rest back and forces the next epoch's Start
unfoldable pub of_back : Home → SitePast → SiteHappening
of_back home past =
    record {
      event = Ev.Back;
      answer = Say.UpSite (epoch home past + 1) (length (doubts (records home past)));
      sends = [];
      calls = cond (is_torn site_frame (disk home past)) (CutBack ∷ []) [] ++ Append (Rec.Start (epoch home past + 1)) ∷ Sync ∷ [];
      lines = [];
    }

-- the Checkpoint that the site would write
abbrev pub checkpoint : Home → SitePast → SiteRecord
checkpoint home past = Rec.Checkpoint (site_sum home (records home past))

-- `check`: a Checkpoint is forced, unless it would be too long, and what stands before it is trimmed
unfoldable pub of_check : Home → SitePast → SiteHappening
of_check home past =
    when (nat_lt longest (site_payload (checkpoint home past))) (quiet Ev.Check Say.Large)
    (record { event = Ev.Check; answer = Say.Checked; sends = []; calls = Append (checkpoint home past) ∷ Sync ∷ TrimFront ∷ []; lines = [] })

-- what a site that is up answers, before a trip may stop it
unfoldable pub answered : Home → SitePast → SiteEvent → SiteHappening
answered home past (Ev.Begin tid) = of_begin home past tid
answered home past (Ev.Act tid act) = of_act home past tid act
answered home past (Ev.Commit tid) = of_commit home past tid
answered home past (Ev.Abort tid) = of_abort home past tid
answered home past (Ev.Fate tx) = of_fate home past tx
answered home past (Ev.Give message) = of_give home past message
answered home past (Ev.Ask tid) = of_ask home past tid
answered home past (Ev.Drop tid) = of_drop home past tid
answered home past (Ev.Halt cut) = quiet (Ev.Halt cut) Say.Down
answered home past (Ev.Trip calls cut) = quiet (Ev.Trip calls cut) Say.Set
answered home past Ev.Back = of_back home past
answered home past Ev.Check = of_check home past

-- the line, unless the trip in force comes within its disk calls
abbrev pub unless_tripped : Home → SitePast → SiteHappening → SiteHappening
unless_tripped home past x = tripped site_frame (disk home past) (trip past) x

-- the next line of a site
unfoldable pub site_line : Home → SitePast → SiteEvent → SiteHappening
site_line home past (Ev.Trip calls cut) = quiet (Ev.Trip calls cut) Say.Set
site_line home past (Ev.Halt cut) =
    when (is_down past) (quiet (Ev.Halt cut) Say.Down) (stopped site_frame (disk home past) (Ev.Halt cut) (Stops cut ∷ []))
site_line home past Ev.Back = when (is_down past) (unless_tripped home past (of_back home past)) (quiet Ev.Back Say.Awake)
site_line home past event = when (is_down past) (quiet event Say.Down) (unless_tripped home past (answered home past event))

-- a past with what these events add, the last one first
abbrev pub site_past_on : Home → SitePast → List SiteEvent → SitePast
site_past_on home past [] = past
site_past_on home past (event ∷ events) = site_line home (site_past_on home past events) event ∷ site_past_on home past events

-- the past of a site after these events, the last one first
abbrev pub site_past : Home → List SiteEvent → SitePast
site_past home events = site_past_on home [] events
