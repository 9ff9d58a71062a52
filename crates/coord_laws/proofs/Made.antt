-- What a line of the coordinator records, sends and counts, whatever comes.
use Rattle.std.proofs.Common.{◌||◌, ◌≡◌, ℕ, Bool, true, false, Option, Some, None, List, [], ◌∷◌, refl}
use Rattle.mdb_base.specs.declared.acts.Step.{Step}
use Rattle.mdb_base.specs.declared.names.SiteId.{SiteId}
use Rattle.mdb_base.specs.declared.names.SiteTicket.{SiteTicket}
use Rattle.mdb_base.specs.declared.names.Tid.{Tid}
use Rattle.mdb_base.specs.declared.replies.Reply.{Reply}
use Rattle.mdb_base.specs.declared.replies.Reply.TheVariants as Reply_is
use Rattle.mdb_base.specs.declared.replies.Why.TheVariants as Because
use Rattle.mdb_base.specs.Words.{Each, when, given}
use Rattle.presumptions.specs.declared.Participant.{Participant}
use Rattle.order_laws.specs.Search.{cycle_through}
use Rattle.order_laws.specs.Tickets.{Ticketed, edge_between}
use Rattle.fed_rules.specs.declared.answers.Answer.{Answer}
use Rattle.fed_rules.specs.declared.answers.Answer.TheVariants as Say
use Rattle.fed_rules.specs.declared.events.CoordEvent.{CoordEvent}
use Rattle.fed_rules.specs.declared.events.CoordEvent.TheVariants as Ev
use Rattle.fed_rules.specs.declared.messages.Due.TheVariants as Due_is
use Rattle.fed_rules.specs.declared.messages.FromSite.TheVariants as From
use Rattle.fed_rules.specs.declared.messages.ToSite.{ToSite}
use Rattle.fed_rules.specs.declared.messages.ToSite.TheVariants as To
use Rattle.fed_rules.specs.declared.records.CoordRecord.{CoordRecord}
use Rattle.fed_rules.specs.declared.records.CoordRecord.TheVariants as Rec
use Rattle.fed_rules.specs.Coord.{did_counts, vote_tickets, all_voted, vote_counts}
use Rattle.fed_rules.specs.CoordPast.{CoordHappening, CoordPast, records, participants, counts, outstanding, decides, undecided_of}
use Rattle.fed_rules.specs.CoordRecords.{commits, committed_of}
use Rattle.fed_rules.specs.Disk.{Call, Append}
use Rattle.fed_rules.specs.Happenings.{quiet, stops}

-- the call doesn't append a Commit
abbrev pub CommitsNobody : Call CoordRecord → Type 0
CommitsNobody (Append (Rec.Commit tid tickets)) = ⊥
CommitsNobody call = Unit {0}

-- at most one Commit is appended, of an attempt through which no cycle leads over these committed ones
abbrev pub IsAccepted : List Ticketed → List (Call CoordRecord) → Type 0
IsAccepted others [] = Unit {0}
IsAccepted others (Append (Rec.Commit tid tickets) ∷ calls) =
    (cycle_through edge_between (record { tid = tid; tickets = tickets }) others ≡ None) × Each CommitsNobody calls
IsAccepted others (call ∷ calls) = IsAccepted others calls

-- a Commit is appended at the last vote that counts
pub record IsLastVote (protocols : List Participant) (past : CoordPast) (event : CoordEvent) (tid : Tid) (tickets : List SiteTicket) : Type 0 where
  pub site : SiteId
  pub ticket : ℕ
  pub is_vote : event ≡ Ev.Take site (From.Vote tid (Some ticket))
  pub is_counted : vote_counts past site tid ≡ true
  pub all : all_voted (quiet event Say.Voted ∷ past) tid (participants protocols past tid) ≡ true
  pub theirs : tickets ≡ vote_tickets (quiet event Say.Voted ∷ past) tid (participants protocols past tid)

abbrev pub Writes : List Participant → CoordPast → CoordEvent → Call CoordRecord → Type 0
Writes protocols past event (Append (Rec.Commit tid tickets)) = IsLastVote protocols past event tid tickets
Writes protocols past event call = Unit {0}

-- an operation or a Prepare that is sent is what is outstanding at its site
abbrev pub IsAsked : CoordPast → SiteId → ToSite → Type 0
IsAsked past site (To.Work tid epoch n act) = outstanding past tid site ≡ Some (Due_is.Work site epoch n act)
IsAsked past site (To.Take tid epoch n) = outstanding past tid site ≡ Some (Due_is.Take site epoch n)
IsAsked past site (To.Prepare tid epoch n) = outstanding past tid site ≡ Some (Due_is.Prepare site epoch n)
IsAsked past site (To.Decide tid decision) = Unit {0}

-- a reply or a yes vote is counted where it may count
abbrev pub Counts : CoordPast → CoordEvent → Answer → Type 0
Counts past (Ev.Take site (From.Did tid epoch n reply)) answer = counts answer ≡ true → did_counts past site tid epoch n reply ≡ true
Counts past (Ev.Take site (From.Vote tid (Some ticket))) answer = counts answer ≡ true → vote_counts past site tid ≡ true
Counts past event answer = Unit {0}

-- whether the reply refuses
abbrev pub is_refusal : Reply → Bool
is_refusal (Reply_is.Refused (Because.Die by)) = true
is_refusal (Reply_is.Refused (Because.Late by)) = true
is_refusal Reply_is.Unknown = true
is_refusal reply = false

-- a refusal that counts decides
abbrev pub DecidesOnRefusal : CoordEvent → Answer → Type 0
DecidesOnRefusal (Ev.Take site (From.Did tid epoch n reply)) answer = counts answer ≡ true → is_refusal reply ≡ true → decides answer ≡ true
DecidesOnRefusal event answer = Unit {0}

-- an attempt is begun by its `go`
abbrev pub Begins : CoordEvent → Answer → Type 0
Begins event (Say.Begun tid) = (steps : List Step) × (event ≡ Ev.Go tid steps)
Begins event answer = Unit {0}

-- an attempt begins where none of its transaction is committed or undecided
abbrev pub IsFirst : CoordPast → Answer → Type 0
IsFirst past (Say.Begun tid) = (committed_of (records past) tid.tx ≡ None) × (undecided_of past tid.tx ≡ None)
IsFirst past answer = Unit {0}

-- what a line of the coordinator does
pub record IsMade (protocols : List Participant) (past : CoordPast) (event : CoordEvent) (x : CoordHappening) : Type 0 where
  pub heard : x.event ≡ event
  pub accepted : IsAccepted (commits (records past)) x.calls
  pub writes : Each (Writes protocols past event) x.calls
  pub sends : Each (λ sent. IsAsked (x ∷ past) sent.site sent.message) x.sends
  pub counted : Counts past event x.answer
  pub decided : DecidesOnRefusal event x.answer
  pub begun : Begins event x.answer
  pub first : IsFirst past x.answer
  pub commits_by : (decides x.answer || stops x.answer) ≡ false → Each CommitsNobody x.calls

-- of several events nothing is said of what they count
abbrev pub IsPlain : CoordEvent → Type 0
IsPlain (Ev.Take site (From.Did tid epoch n reply)) = ⊥
IsPlain (Ev.Take site (From.Vote tid vote)) = ⊥
IsPlain event = Unit {0}

pub plain_counts : (past : CoordPast) (event : CoordEvent) (answer : Answer) → IsPlain event → Counts past event answer
plain_counts past (Ev.Take site (From.Did tid epoch n reply)) answer p = absurd p
plain_counts past (Ev.Take site (From.Vote tid vote)) answer p = absurd p
plain_counts past (Ev.Take site (From.Ack tid)) answer p = tt
plain_counts past (Ev.Take site (From.Inquiry tid)) answer p = tt
plain_counts past (Ev.Go tid steps) answer p = tt
plain_counts past (Ev.Again tid) answer p = tt
plain_counts past (Ev.Late tid) answer p = tt
plain_counts past (Ev.Fate tx) answer p = tt
plain_counts past (Ev.Halt cut) answer p = tt
plain_counts past (Ev.Trip calls cut) answer p = tt
plain_counts past Ev.Back answer p = tt
plain_counts past Ev.Check answer p = tt

pub plain_decides : (event : CoordEvent) (answer : Answer) → IsPlain event → DecidesOnRefusal event answer
plain_decides (Ev.Take site (From.Did tid epoch n reply)) answer p = absurd p
plain_decides (Ev.Take site (From.Vote tid vote)) answer p = absurd p
plain_decides (Ev.Take site (From.Ack tid)) answer p = tt
plain_decides (Ev.Take site (From.Inquiry tid)) answer p = tt
plain_decides (Ev.Go tid steps) answer p = tt
plain_decides (Ev.Again tid) answer p = tt
plain_decides (Ev.Late tid) answer p = tt
plain_decides (Ev.Fate tx) answer p = tt
plain_decides (Ev.Halt cut) answer p = tt
plain_decides (Ev.Trip calls cut) answer p = tt
plain_decides Ev.Back answer p = tt
plain_decides Ev.Check answer p = tt

-- what isn't counted says nothing
pub uncounted_counts : (past : CoordPast) (event : CoordEvent) (answer : Answer) → counts answer ≡ false → Counts past event answer
uncounted_counts past (Ev.Take site (From.Did tid epoch n reply)) answer e = λ h. cc
uncounted_counts past (Ev.Take site (From.Vote tid None)) answer e = tt
uncounted_counts past (Ev.Take site (From.Vote tid (Some ticket))) answer e = λ h. cc
uncounted_counts past (Ev.Take site (From.Ack tid)) answer e = tt
uncounted_counts past (Ev.Take site (From.Inquiry tid)) answer e = tt
uncounted_counts past (Ev.Go tid steps) answer e = tt
uncounted_counts past (Ev.Again tid) answer e = tt
uncounted_counts past (Ev.Late tid) answer e = tt
uncounted_counts past (Ev.Fate tx) answer e = tt
uncounted_counts past (Ev.Halt cut) answer e = tt
uncounted_counts past (Ev.Trip calls cut) answer e = tt
uncounted_counts past Ev.Back answer e = tt
uncounted_counts past Ev.Check answer e = tt

pub uncounted_decides : (event : CoordEvent) (answer : Answer) → counts answer ≡ false → DecidesOnRefusal event answer
uncounted_decides (Ev.Take site (From.Did tid epoch n reply)) answer e = λ h r. cc
uncounted_decides (Ev.Take site (From.Vote tid vote)) answer e = tt
uncounted_decides (Ev.Take site (From.Ack tid)) answer e = tt
uncounted_decides (Ev.Take site (From.Inquiry tid)) answer e = tt
uncounted_decides (Ev.Go tid steps) answer e = tt
uncounted_decides (Ev.Again tid) answer e = tt
uncounted_decides (Ev.Late tid) answer e = tt
uncounted_decides (Ev.Fate tx) answer e = tt
uncounted_decides (Ev.Halt cut) answer e = tt
uncounted_decides (Ev.Trip calls cut) answer e = tt
uncounted_decides Ev.Back answer e = tt
uncounted_decides Ev.Check answer e = tt

-- a quiet line of an event that counts nothing, or that isn't counted
pub quiet_plain : (protocols : List Participant) (past : CoordPast) (event : CoordEvent) (answer : Answer) → IsPlain event → Begins event answer → IsFirst past answer → IsMade protocols past event (quiet event answer)
quiet_plain protocols past event answer p b f =
    record { heard = refl; accepted = tt; writes = tt; sends = tt; counted = plain_counts past event answer p; decided = plain_decides event answer p; begun = b; first = f; commits_by = λ e. tt }

pub quiet_uncounted : (protocols : List Participant) (past : CoordPast) (event : CoordEvent) (answer : Answer) → counts answer ≡ false → Begins event answer → IsFirst past answer → IsMade protocols past event (quiet event answer)
quiet_uncounted protocols past event answer e b f =
    record { heard = refl; accepted = tt; writes = tt; sends = tt; counted = uncounted_counts past event answer e; decided = uncounted_decides event answer e; begun = b; first = f; commits_by = λ e. tt }

pub made_when : (protocols : List Participant) (past : CoordPast) (event : CoordEvent) (t : Bool) (a b : CoordHappening) → (t ≡ true → IsMade protocols past event a) → (t ≡ false → IsMade protocols past event b) → IsMade protocols past event (when t a b)
unfolding when
made_when protocols past event true a b p q = p refl
made_when protocols past event false a b p q = q refl

pub made_given : {A : Type 0} (protocols : List Participant) (past : CoordPast) (event : CoordEvent) (o : Option A) (none : CoordHappening) (some : A → CoordHappening) → (o ≡ None → IsMade protocols past event none) → ((x : A) → o ≡ Some x → IsMade protocols past event (some x)) → IsMade protocols past event (given o some none)
unfolding given
made_given protocols past event None none some p q = p refl
made_given protocols past event (Some x) none some p q = q x refl
