-- The replies of the engines to an access, to the taking of a ticket and to a sealing: one rule for each engine.
-- Strict two-phase locking with wait-die, strict timestamp order and multiversion timestamp order are of Bernstein, Hadzilacos and Goodman (1987),
-- backward validation of Härder (1984), tickets of Georgakopoulos, Rusinkiewicz and Sheth (1994). Prepared runs in validation, and that a ticket is published at
-- sealing, are this project's profile.
use Rattle.std.specs.Prelude.{ℕ, ◌+◌, nat_lt, Bool, true, false, cond, not, ◌&&◌, ◌==◌, Option, Some, None, List, ◌++◌, map}
use Rattle.mdb_base.specs.declared.names.Engine.{Engine}
use Rattle.mdb_base.specs.declared.names.Engine.TheVariants.{Locking, Timestamp, Validation, Multiversion}
use Rattle.mdb_base.specs.declared.names.Key.{Key}
use Rattle.mdb_base.specs.declared.names.Tid.{Tid}
use Rattle.mdb_base.specs.declared.acts.PlainAct.{PlainAct}
use Rattle.mdb_base.specs.declared.acts.PlainAct.TheVariants.{Read, Write}
use Rattle.mdb_base.specs.declared.replies.Reply.{Reply}
use Rattle.mdb_base.specs.declared.replies.Reply.TheVariants.{Done, Value, Ticket, Wait, Refused}
use Rattle.mdb_base.specs.declared.replies.Why.{Why}
use Rattle.mdb_base.specs.declared.replies.Why.TheVariants.{Die, Late, Invalid, TicketMoved}
use Rattle.mdb_base.specs.Names.{same_tid, same_key}
use Rattle.mdb_base.specs.Rows.{Table, look_up}
use Rattle.mdb_base.specs.Words.{some_of, those, least, greatest, is_empty}
use Rattle.fed_rules.specs.Runs.{Start, EngineLine, Access, Got, Wrote, Run, unended, committed, aborted, committed_since, published, owner, counter, is_sealed, has_ticket, number, after, table_of, table}

-- whether an act conflicts with an access of another run: the same key, and one of them a write
abbrev pub conflicts : PlainAct → Access → Bool
conflicts (Read key) (Got k value) = false
conflicts (Read key) (Wrote k value) = same_key k key
conflicts (Write key v) (Got k value) = same_key k key
conflicts (Write key v) (Wrote k value) = same_key k key

-- whether the access is a read that an act conflicts with
abbrev pub conflicts_with_read : PlainAct → Access → Bool
conflicts_with_read act (Got k value) = conflicts act (Got k value)
conflicts_with_read act (Wrote k value) = false

-- whether the access is a write of this key
abbrev pub writes : Key → Access → Bool
writes key (Got k value) = false
writes key (Wrote k value) = same_key k key

-- whether the access is a read of this key
abbrev pub reads : Key → Access → Bool
reads key (Got k value) = same_key k key
reads key (Wrote k value) = false

abbrev pub key_of : PlainAct → Key
key_of (Read key) = key
key_of (Write key value) = key

abbrev pub access_key : Access → Key
access_key (Got key value) = key
access_key (Wrote key value) = key

-- whether the run has a granted access that conflicts with the act
abbrev pub is_in_the_way : PlainAct → Run → Bool
is_in_the_way act run = some_of (conflicts act) run.acts

-- whether the run has a granted write of the key
abbrev pub has_written : Key → Run → Bool
has_written key run = some_of (writes key) run.acts

-- whether the run has a granted read of the key
abbrev pub has_read : Key → Run → Bool
has_read key run = some_of (reads key) run.acts

abbrev pub is_other : Run → Run → Bool
is_other me run = not (same_tid run.tid me.tid)

abbrev pub is_younger : Run → Run → Bool
is_younger me run = nat_lt me.age run.age

abbrev pub is_older : Run → Run → Bool
is_older me run = nat_lt run.age me.age

abbrev pub age_of : Run → ℕ
age_of run = run.age

-- Locking: the other unended runs with a granted conflicting access
abbrev pub holders : Start → List EngineLine → Run → PlainAct → List Run
holders start lines me act = those (λ run. is_other me run && is_in_the_way act run) (unended start lines)

-- Locking: the other live runs that have taken the ticket, which is held until they are sealed or aborted
abbrev pub ticket_holders : Start → List EngineLine → Run → List Run
ticket_holders start lines me = those (λ run. is_other me run && has_ticket run && not (is_sealed run)) (unended start lines)

-- Wait-die: who is older than all that stand in its way waits for the oldest of them, and else it dies by that one
abbrev pub wait_die : Run → Option Run → Option Reply
wait_die me None = None
wait_die me (Some oldest) = Some (cond (is_younger me oldest) (Wait oldest.tid) (Refused (Die oldest.tid)))

-- Timestamp order: the younger runs with a granted conflicting access; of aborted ones only their reads count
abbrev pub younger_in_the_way : Start → List EngineLine → Run → PlainAct → List Run
younger_in_the_way start lines me act =
    those (λ run. is_younger me run && is_in_the_way act run) (unended start lines ++ committed start lines)
    ++ those (λ run. is_younger me run && some_of (conflicts_with_read act) run.acts) (aborted start lines)

-- Timestamp order: the older unended runs with a granted write of the key
abbrev pub older_writers : Start → List EngineLine → Run → PlainAct → List Run
older_writers start lines me act = those (λ run. is_older me run && has_written (key_of act) run) (unended start lines)

-- Timestamp order: the younger runs that have taken the ticket and aren't aborted
abbrev pub younger_takers : Start → List EngineLine → Run → List Run
younger_takers start lines me = those (λ run. is_younger me run && has_ticket run) (unended start lines ++ committed start lines)

-- Timestamp order: the older runs that have taken the ticket and aren't sealed yet
abbrev pub older_takers : Start → List EngineLine → Run → List Run
older_takers start lines me = those (λ run. is_older me run && has_ticket run && not (is_sealed run)) (unended start lines)

-- Timestamp order: too late behind the youngest of the younger ones, and else waiting for the older one
abbrev pub late_or_wait : Option Run → Option Run → Option Reply
late_or_wait (Some youngest) older = Some (Refused (Late youngest.tid))
late_or_wait None (Some older) = Some (Wait older.tid)
late_or_wait None None = None

abbrev pub or_reply : Option Reply → Reply → Reply
or_reply None reply = reply
or_reply (Some stop) reply = stop

-- Validation: the runs that make a key bad, which wrote it and committed since this one began (where it was read), or are sealed and unended
abbrev pub spoilers : Start → List EngineLine → Run → Key → List Run
spoilers start lines me key =
    those (λ run. has_read key me && has_written key run) (committed_since start lines me.tid)
    ++ those (λ run. is_other me run && is_sealed run && has_written key run) (unended start lines)

-- Validation: the keys read or written that are bad
abbrev pub bad_keys : Start → List EngineLine → Run → List Key
bad_keys start lines me = those (λ key. not (is_empty (spoilers start lines me key))) (map access_key me.acts)

abbrev pub invalid_by : Key → Option Run → Option Why
invalid_by key None = None
invalid_by key (Some run) = Some (Invalid run.tid key)

abbrev pub invalid_at : Start → List EngineLine → Run → Option Key → Option Why
invalid_at start lines me None = None
invalid_at start lines me (Some key) = invalid_by key (greatest number (spoilers start lines me key))

-- Validation: the least bad key, with the run of the greatest number of those that make it bad
abbrev pub invalid : Start → List EngineLine → Run → Option Why
invalid start lines me = invalid_at start lines me (least (λ key. key.0) (bad_keys start lines me))

abbrev pub moved_by : Option Tid → Option Why
moved_by None = None
moved_by (Some tid) = Some (TicketMoved tid)

-- Validation: whose ticket was published since this run took its own
abbrev pub moved : Start → List EngineLine → Option ℕ → Option Why
moved start lines None = None
moved start lines (Some ticket) = cond (ticket == published start lines + 1) None (moved_by (owner start lines))

abbrev pub or_why : Option Why → Option Why → Option Why
or_why None other = other
or_why (Some why) other = Some why

-- Multiversion: the table as the runs with smaller numbers than this one's timestamp left it
abbrev pub table_before : Start → List EngineLine → Run → Table
table_before start lines me = table_of (look_up start.rows) (those (λ run. nat_lt (number run) me.age) (committed start lines))

-- Multiversion: a read of an own write passes, and else it waits for the older unended writer
abbrev pub wait_for_writer : Bool → Option Run → Option Reply
wait_for_writer true older = None
wait_for_writer false older = late_or_wait None older

-- Timestamp order: what stops an access, if anything
abbrev pub age_stop : Start → List EngineLine → Run → PlainAct → Option Reply
age_stop start lines me act = late_or_wait (greatest age_of (younger_in_the_way start lines me act)) (greatest age_of (older_writers start lines me act))

-- Multiversion: a read comes never too late; a write is answered as under timestamp order
abbrev pub version_stop : Start → List EngineLine → Run → PlainAct → Option Reply
version_stop start lines me (Read key) = wait_for_writer (has_written key me) (greatest age_of (older_writers start lines me (Read key)))
version_stop start lines me (Write key value) = age_stop start lines me (Write key value)

-- Timestamp order: what stops the taking of the ticket, if anything
abbrev pub age_ticket_stop : Start → List EngineLine → Run → Option Reply
age_ticket_stop start lines me = late_or_wait (greatest age_of (younger_takers start lines me)) (greatest age_of (older_takers start lines me))

-- when a run draws its serial number
pub data Drawn : Type 0 where
  AtBegin : Drawn
  AtSealing : Drawn

-- the rule of an engine
pub record Rule : Type 0 where
  pub access : Start → List EngineLine → Run → PlainAct → Option Reply  -- what stops an access, if anything
  pub reads_from : Start → List EngineLine → Run → Table  -- what a granted read of a key that the run hasn't written answers
  pub ticket : Start → List EngineLine → Run → Option Reply  -- what stops the taking of the ticket, if anything
  pub seal : Start → List EngineLine → Run → Option Why  -- what refuses a sealing, if anything
  pub drawn : Drawn  -- when the serial number is drawn

abbrev pub locking : Rule
locking =
    record {
      access = λ start lines me act. wait_die me (least age_of (holders start lines me act));
      reads_from = λ start lines me. table start lines;
      ticket = λ start lines me. wait_die me (least age_of (ticket_holders start lines me));
      seal = λ start lines me. None;
      drawn = AtSealing;
    }

abbrev pub timestamp : Rule
timestamp =
    record {
      access = age_stop;
      reads_from = λ start lines me. table start lines;
      ticket = age_ticket_stop;
      seal = λ start lines me. None;
      drawn = AtBegin;
    }

abbrev pub validation : Rule
validation =
    record {
      access = λ start lines me act. None;
      reads_from = λ start lines me. table start lines;
      ticket = λ start lines me. None;
      seal = λ start lines me. or_why (invalid start lines me) (moved start lines me.ticket);
      drawn = AtSealing;
    }

abbrev pub multiversion : Rule
multiversion =
    record {
      access = version_stop;
      reads_from = table_before;
      ticket = age_ticket_stop;
      seal = λ start lines me. None;
      drawn = AtBegin;
    }

abbrev pub rule : Engine → Rule
rule Locking = locking
rule Timestamp = timestamp
rule Validation = validation
rule Multiversion = multiversion

-- a granted read answers the run's own last write of the key, else what the rule reads from
abbrev pub granted_by : Rule → Start → List EngineLine → Run → PlainAct → Reply
granted_by by start lines me (Read key) = Value (after me.acts (by.reads_from start lines me) key)
granted_by by start lines me (Write key value) = Done

-- the reply to an access
abbrev pub access_reply_by : Rule → Start → List EngineLine → Run → PlainAct → Reply
access_reply_by by start lines me act = or_reply (by.access start lines me act) (granted_by by start lines me act)

-- the reply to the taking of the ticket, which is one more than the published one
abbrev pub ticket_reply_by : Rule → Start → List EngineLine → Run → Reply
ticket_reply_by by start lines me = or_reply (by.ticket start lines me) (Ticket (published start lines + 1))

-- the serial number of a sealing: the next one that is drawn, or the one of the begin
abbrev pub number_drawn : Drawn → Start → List EngineLine → Run → ℕ
number_drawn AtBegin start lines me = me.age
number_drawn AtSealing start lines me = counter start lines + 1

-- what stops an access, if anything
abbrev pub access_stop : Engine → Start → List EngineLine → Run → PlainAct → Option Reply
access_stop kind start lines me act = (rule kind).access start lines me act

abbrev pub granted : Start → List EngineLine → Run → PlainAct → Reply
granted start lines me act = granted_by (rule start.kind) start lines me act

abbrev pub access_reply : Start → List EngineLine → Run → PlainAct → Reply
access_reply start lines me act = access_reply_by (rule start.kind) start lines me act

-- what stops the taking of the ticket, if anything
abbrev pub ticket_stop : Engine → Start → List EngineLine → Run → Option Reply
ticket_stop kind start lines me = (rule kind).ticket start lines me

abbrev pub ticket_reply : Start → List EngineLine → Run → Reply
ticket_reply start lines me = ticket_reply_by (rule start.kind) start lines me

-- what refuses a sealing, if anything
abbrev pub seal_stop : Engine → Start → List EngineLine → Run → Option Why
seal_stop kind start lines me = (rule kind).seal start lines me

abbrev pub seal_number : Engine → Start → List EngineLine → Run → ℕ
seal_number kind start lines me = number_drawn (rule kind).drawn start lines me
