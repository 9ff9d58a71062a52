-- What the coordinator's past says of an attempt: whether it is undecided, decided or not known, which replies, votes and acknowledgements
-- counted, and what is outstanding at each participant.
use Rattle.std.specs.Prelude.{ℕ, Bool, true, false, cond, not, ◌&&◌, ◌||◌, is_none, Option, Some, None, List, [], ◌∷◌, ◌++◌, drop, map}
use Rattle.mdb_base.specs.declared.acts.Step.{Step}
use Rattle.mdb_base.specs.declared.names.SiteId.{SiteId}
use Rattle.mdb_base.specs.declared.names.Tid.{Tid}
use Rattle.mdb_base.specs.declared.names.Tx.{Tx}
use Rattle.mdb_base.specs.declared.replies.Reply.{Reply}
use Rattle.mdb_base.specs.declared.replies.Reply.TheVariants as Reply_is
use Rattle.mdb_base.specs.Names.{same_site, same_tid, same_tx}
use Rattle.mdb_base.specs.Programs.{plain_act}
use Rattle.mdb_base.specs.Words.{some_of, how_many, those, first_where, found, item_at, with_some}
use Rattle.presumptions.specs.declared.Decision.{Decision}
use Rattle.presumptions.specs.declared.Participant.{Participant}
use Rattle.fed_rules.specs.declared.answers.Answer.{Answer}
use Rattle.fed_rules.specs.declared.answers.Answer.TheVariants as Say
use Rattle.fed_rules.specs.declared.events.CoordEvent.{CoordEvent}
use Rattle.fed_rules.specs.declared.events.CoordEvent.TheVariants as Ev
use Rattle.fed_rules.specs.declared.messages.Due.{Due}
use Rattle.fed_rules.specs.declared.messages.Due.TheVariants as Due_is
use Rattle.fed_rules.specs.declared.messages.FromSite.{FromSite}
use Rattle.fed_rules.specs.declared.messages.FromSite.TheVariants as From
use Rattle.fed_rules.specs.declared.messages.Sent.{Sent}
use Rattle.fed_rules.specs.declared.messages.ToSite.{ToSite}
use Rattle.fed_rules.specs.declared.messages.ToSite.TheVariants as To
use Rattle.fed_rules.specs.declared.records.CoordRecord.{CoordRecord}
use Rattle.fed_rules.specs.Disk as Disk
use Rattle.fed_rules.specs.Disk.{empty_disk, after_calls}
use Rattle.fed_rules.specs.Happenings.{Happening, Trip, stops, comes_up, armed}
use Rattle.fed_rules.specs.CoordRecords.{coord_frame, outcome, is_kept}

-- one line of the coordinator
abbrev pub CoordHappening : Type 0
CoordHappening = Happening CoordEvent Sent CoordRecord

-- the lines of the coordinator, the newest first
abbrev pub CoordPast : Type 0
CoordPast = List CoordHappening

-- the coordinator's disk
abbrev pub disk : CoordPast → Disk.Disk CoordRecord
disk [] = empty_disk
disk (x ∷ past) = after_calls coord_frame (disk past) x.calls

-- all records that ever stood there and weren't lost by a stop, the newest first
abbrev pub records : CoordPast → List CoordRecord
records past = (disk past).records

-- the records that stand on the coordinator's disk, the newest first
abbrev pub journal : CoordPast → List CoordRecord
journal past = Disk.journal coord_frame (disk past)

abbrev pub trip_of : CoordEvent → Option Trip
trip_of (Ev.Trip calls cut) = Some (record { calls = calls; cut = cut })
trip_of event = None

-- the trip in force
abbrev pub trip : CoordPast → Option Trip
trip past = armed trip_of past

-- the attempt that a message is about
abbrev pub message_tid : FromSite → Tid
message_tid (From.Did tid epoch n reply) = tid
message_tid (From.Vote tid ticket) = tid
message_tid (From.Ack tid) = tid
message_tid (From.Inquiry tid) = tid

-- whether the event is about the attempt
abbrev pub is_about : Tid → CoordEvent → Bool
is_about tid (Ev.Go begun program) = same_tid begun tid
is_about tid (Ev.Take site message) = same_tid (message_tid message) tid
is_about tid (Ev.Again again) = same_tid again tid
is_about tid (Ev.Late late) = same_tid late tid
is_about tid event = false

-- whether an attempt is undecided behind a line about it with this answer
abbrev pub opened : Answer → Bool → Bool
opened (Say.Begun tid) old = true
opened (Say.Decides decision cause forgets) old = false
opened Say.Forgets old = false
opened answer old = old

-- an attempt is undecided from its `go` until a line decides it or a stop loses it
abbrev pub is_open : CoordPast → Tid → Bool
is_open [] tid = false
is_open (x ∷ past) tid =
    cond (stops x.answer || comes_up x.answer) false
    (cond (is_about tid x.event) (opened x.answer (is_open past tid)) (is_open past tid))

-- the decision that is known of an attempt behind a line about it with this answer
abbrev pub decided : Answer → Option Decision → Option Decision
decided (Say.Begun tid) old = None
decided (Say.Decides decision cause forgets) old = cond forgets None (Some decision)
decided Say.Forgets old = None
decided answer old = old

-- after a stop, and so after a restart, what the kept records say
abbrev pub kept_decision : List Participant → List CoordRecord → Tid → Option Decision
kept_decision protocols records tid = cond (is_kept protocols records tid) (Some (outcome records tid)) None

-- the decision of an attempt is known until every required acknowledgement has counted; a stop loses what isn't kept
abbrev pub known_decision : List Participant → CoordPast → Tid → Option Decision
known_decision protocols [] tid = None
known_decision protocols (x ∷ past) tid =
    cond (stops x.answer || comes_up x.answer) (kept_decision protocols (records (x ∷ past)) tid)
    (cond (is_about tid x.event) (decided x.answer (known_decision protocols past tid)) (known_decision protocols past tid))

-- how the coordinator stands to an attempt
pub data Standing : Type 0 where
  Undecided : Standing
  Decided : Decision → Standing
  Gone : Standing  -- not known: forgotten, or never begun

abbrev pub standing_of : Bool → Option Decision → Standing
standing_of true decision = Undecided
standing_of false (Some decision) = Decided decision
standing_of false None = Gone

abbrev pub standing : List Participant → CoordPast → Tid → Standing
standing protocols past tid = standing_of (is_open past tid) (known_decision protocols past tid)

abbrev pub is_known : Standing → Bool
is_known Gone = false
is_known standing = true

-- the attempt that the answer begins
abbrev pub begins : Tid → Answer → Bool
begins tid (Say.Begun begun) = same_tid begun tid
begins tid answer = false

abbrev pub begun_by : Answer → Option Tid
begun_by (Say.Begun tid) = Some tid
begun_by answer = None

-- the attempts that were begun, the last one first
abbrev pub begun_tids : CoordPast → List Tid
begun_tids past = found (λ x. begun_by x.answer) past

-- how many attempts of the transaction were begun
abbrev pub attempts_of : CoordPast → Tx → ℕ
attempts_of past tx = how_many (λ tid. same_tx tid.tx tx) (begun_tids past)

-- the attempt of the transaction that is known without a decision
abbrev pub undecided_of : CoordPast → Tx → Option Tid
undecided_of past tx = first_where (λ tid. same_tx tid.tx tx && is_open past tid) (begun_tids past)

abbrev pub program_in : Tid → CoordEvent → Option (List Step)
program_in tid (Ev.Go begun program) = cond (same_tid begun tid) (Some program) None
program_in tid event = None

abbrev pub or_steps : Option (List Step) → List Step → List Step
or_steps None steps = steps
or_steps (Some program) steps = program

-- the program of an attempt
abbrev pub program : CoordPast → Tid → List Step
program [] tid = []
program (x ∷ past) tid = cond (begins tid x.answer) (or_steps (program_in tid x.event) []) (program past tid)

-- whether the program has a step at the site
abbrev pub visits : SiteId → List Step → Bool
visits site steps = some_of (λ step. same_site step.site site) steps

-- the participants of a program, by rising site
abbrev pub participants_of : List Participant → List Step → List Participant
participants_of protocols steps = those (λ participant. visits participant.site steps) protocols

abbrev pub participants : List Participant → CoordPast → Tid → List Participant
participants protocols past tid = participants_of protocols (program past tid)

-- the sites of the participants
abbrev pub sites_of : List Participant → CoordPast → Tid → List SiteId
sites_of protocols past tid = map (λ participant. participant.site) (participants protocols past tid)

-- whether a message is a Take of the attempt
abbrev pub is_take_of : Tid → Sent → Bool
is_take_of tid sent = takes sent.message where
  takes : ToSite → Bool
  takes (To.Take taken epoch n) = same_tid taken tid
  takes message = false

-- whether a message is a Prepare of the attempt
abbrev pub is_prepare_of : Tid → Sent → Bool
is_prepare_of tid sent = prepares sent.message where
  prepares : ToSite → Bool
  prepares (To.Prepare prepared epoch n) = same_tid prepared tid
  prepares message = false

-- whether a line sent such a message
abbrev pub has_sent : (Sent → Bool) → CoordPast → Bool
has_sent test past = some_of (λ x. some_of test x.sends) past

-- an attempt is in its phase from the line that sends its first Take until it is decided; a stop loses it
abbrev pub in_phase : CoordPast → Tid → Bool
in_phase past tid = is_open past tid && has_sent (is_take_of tid) past

abbrev pub oldest_first : {A : Type 0} → List A → List A
oldest_first [] = []
oldest_first (x ∷ xs) = oldest_first xs ++ x ∷ []

-- the sites of each other attempt in its phase, in the order in which they were begun
abbrev pub others_in_phase : List Participant → CoordPast → Tid → List (List SiteId)
others_in_phase protocols past tid =
    map (sites_of protocols past)
    (those (λ other. not (same_tid other tid) && in_phase past other) (oldest_first (begun_tids past)))

-- whether a line counts the message that it takes
abbrev pub counts : Answer → Bool
counts Say.Ignored = false
counts Say.Down = false
counts (Say.Stopped kept) = false
counts answer = true

-- a reply that counted, with its epoch
pub record Counted : Type 0 where
  pub site : SiteId
  pub epoch : ℕ
  pub reply : Reply

abbrev pub did_in : Tid → CoordEvent → Option Counted
did_in tid (Ev.Take site (From.Did did epoch n reply)) =
    cond (same_tid did tid) (Some (record { site = site; epoch = epoch; reply = reply })) None
did_in tid event = None

-- the replies that counted for an attempt since its `go`, the last one first
abbrev pub counted : CoordPast → Tid → List Counted
counted [] tid = []
counted (x ∷ past) tid =
    cond (begins tid x.answer) []
    (cond (counts x.answer) (with_some (did_in tid x.event) (counted past tid)) (counted past tid))

-- those of one site
abbrev pub counted_at : CoordPast → Tid → SiteId → List Counted
counted_at past tid site = those (λ reply. same_site reply.site site) (counted past tid)

abbrev pub is_wait : Reply → Bool
is_wait (Reply_is.Wait by) = true
is_wait reply = false

abbrev pub is_ticket : Reply → Bool
is_ticket (Reply_is.Ticket n) = true
is_ticket reply = false

abbrev pub last_epoch : List Counted → ℕ
last_epoch [] = 0
last_epoch (reply ∷ replies) = reply.epoch

-- the epoch of the replies that counted from the site, 0 before the first
abbrev pub epoch_at : CoordPast → Tid → SiteId → ℕ
epoch_at past tid site = last_epoch (counted_at past tid site)

-- how many replies counted from the site, but for waits
abbrev pub count_at : CoordPast → Tid → SiteId → ℕ
count_at past tid site = how_many (λ reply. not (is_wait reply.reply)) (counted_at past tid site)

-- whether the site's ticket counted
abbrev pub has_ticket_at : CoordPast → Tid → SiteId → Bool
has_ticket_at past tid site = some_of (λ reply. is_ticket reply.reply) (counted_at past tid site)

-- how many steps of the program were answered: the replies that counted, but for waits and tickets
abbrev pub steps_done : CoordPast → Tid → ℕ
steps_done past tid = how_many (λ reply. not (is_wait reply.reply) && not (is_ticket reply.reply)) (counted past tid)

abbrev pub value_in : Counted → Option ℕ
value_in counted = value_of counted.reply where
  value_of : Reply → Option ℕ
  value_of (Reply_is.Value value) = Some value
  value_of reply = None

-- the values that the attempt read, in program order
abbrev pub reads : CoordPast → Tid → List ℕ
reads past tid = oldest_first (found value_in (counted past tid))

abbrev pub vote_in : Tid → SiteId → CoordEvent → Option ℕ
vote_in tid site (Ev.Take from (From.Vote voted ticket)) = cond (same_tid voted tid && same_site from site) ticket None
vote_in tid site event = None

abbrev pub or_vote : Option ℕ → Option ℕ → Option ℕ
or_vote None older = older
or_vote (Some ticket) older = Some ticket

-- the ticket of the site's yes vote that counted since the attempt's `go`
abbrev pub vote_at : CoordPast → Tid → SiteId → Option ℕ
vote_at [] tid site = None
vote_at (x ∷ past) tid site =
    cond (begins tid x.answer) None
    (cond (counts x.answer) (or_vote (vote_in tid site x.event) (vote_at past tid site)) (vote_at past tid site))

-- the next step of the program
abbrev pub next_step : CoordPast → Tid → Option Step
next_step past tid = item_at (program past tid) (steps_done past tid)

-- whether a step of the program at the site isn't answered yet
abbrev pub has_step_left : CoordPast → Tid → SiteId → Bool
has_step_left past tid site = visits site (drop (steps_done past tid) (program past tid))

abbrev pub work_at : CoordPast → Tid → SiteId → Option Step → Option Due
work_at past tid site None = None
work_at past tid site (Some step) =
    cond (same_site step.site site)
    (Some (Due_is.Work site (epoch_at past tid site) (count_at past tid site) (plain_act (reads past tid) step.act)))
    None

abbrev pub take_at : CoordPast → Tid → SiteId → Option Due
take_at past tid site = Some (Due_is.Take site (epoch_at past tid site) (count_at past tid site))

abbrev pub prepare_at : CoordPast → Tid → SiteId → Option Due
prepare_at past tid site =
    cond (is_none (vote_at past tid site)) (Some (Due_is.Prepare site (epoch_at past tid site) (count_at past tid site))) None

-- what is outstanding at a participant of an undecided attempt: the next step where it is there; else the ticket, once all its steps there are
-- answered; else its vote, once the ticket is there
abbrev pub outstanding_at : CoordPast → Tid → SiteId → Option Due
outstanding_at past tid site =
    cond (has_step_left past tid site) (work_at past tid site (next_step past tid))
    (cond (has_ticket_at past tid site) (prepare_at past tid site) (take_at past tid site))

-- what is outstanding at a site, which is a participant
abbrev pub outstanding : CoordPast → Tid → SiteId → Option Due
outstanding past tid site = cond (visits site (program past tid)) (outstanding_at past tid site) None

-- whether the acknowledgement of this site counted at this line
abbrev pub acks_in : Tid → SiteId → CoordHappening → Bool
acks_in tid site x = is_ack x.event && counts x.answer where
  is_ack : CoordEvent → Bool
  is_ack (Ev.Take from (From.Ack acked)) = same_tid acked tid && same_site from site
  is_ack event = false

-- whether a line decides an attempt that it is about
abbrev pub decides : Answer → Bool
decides (Say.Decides decision cause forgets) = true
decides answer = false

-- whether an acknowledgement of the site counted since the decision or the last start, whichever is later
abbrev pub has_acked : CoordPast → Tid → SiteId → Bool
has_acked [] tid site = false
has_acked (x ∷ past) tid site =
    cond (stops x.answer || comes_up x.answer || (is_about tid x.event && decides x.answer)) false
    (acks_in tid site x || has_acked past tid site)
