-- What the computed replies say, in the words of the field.
-- Strict two-phase locking with wait-die and strict timestamp order are of Bernstein, Hadzilacos and Goodman (1987), backward validation of
-- Härder (1984), tickets of Georgakopoulos, Rusinkiewicz and Sheth (1994); prepared runs in validation are this project's profile.
use Rattle.std.specs.Prelude.{ℕ, ◌≡◌, ◌≢◌, ◌+◌, ◌<◌, ◌≤◌, ◌⊎◌, ◌↔◌, Bool, true, false, Option, Some, None, List}
use Rattle.mdb_base.specs.declared.acts.PlainAct.{PlainAct}
use Rattle.mdb_base.specs.declared.acts.PlainAct.TheVariants.{Read, Write}
use Rattle.mdb_base.specs.declared.names.Key.{Key}
use Rattle.mdb_base.specs.declared.names.Tid.{Tid}
use Rattle.mdb_base.specs.declared.replies.Reply.{Reply}
use Rattle.mdb_base.specs.declared.replies.Reply.TheVariants.{Value, Ticket, Wait, Refused}
use Rattle.mdb_base.specs.declared.replies.Why.{Why}
use Rattle.mdb_base.specs.declared.replies.Why.TheVariants.{Die, Late, Invalid, TicketMoved}
use Rattle.mdb_base.specs.Names.{same_tid}
use Rattle.mdb_base.specs.Rows.{Table, look_up}
use Rattle.mdb_base.specs.Words.{Among}
use Rattle.fed_rules.specs.Runs.{Start, EngineLine, Acts, Takes, Aborts, Run, tid_of, gives_up, run_at, committed, aborted, committed_since, published, owner, number, after}
use Rattle.fed_rules.specs.Replies.{conflicts, conflicts_with_read, reads, writes, access_key, key_of, granted, access_reply, ticket_reply, seal_stop}
use Rattle.fed_rules.specs.EngineLines.{IsLive, IsRightLine}

-- the run is one of these
abbrev pub IsAmong : Run → List Run → Type 0
IsAmong run runs = Among (λ other. other ≡ run) runs

-- an unended run
abbrev pub IsUnended : Start → List EngineLine → Run → Type 0
IsUnended start lines run = run_at start lines run.tid ≡ Some run

-- a granted access conflicts with the act
abbrev pub HasConflict : PlainAct → Run → Type 0
HasConflict act run = Among (λ access. conflicts act access ≡ true) run.acts

-- a granted read conflicts with the act
abbrev pub HasReadConflict : PlainAct → Run → Type 0
HasReadConflict act run = Among (λ access. conflicts_with_read act access ≡ true) run.acts

-- a granted write of the key
abbrev pub HasWritten : Key → Run → Type 0
HasWritten key run = Among (λ access. writes key access ≡ true) run.acts

-- a granted read of the key
abbrev pub HasRead : Key → Run → Type 0
HasRead key run = Among (λ access. reads key access ≡ true) run.acts

-- a granted access of the key
abbrev pub HasAccess : Key → Run → Type 0
HasAccess key run = Among (λ access. access_key access ≡ key) run.acts

-- the run has taken its ticket
abbrev pub HasTaken : Run → Type 0
HasTaken run = (t : ℕ) × (run.ticket ≡ Some t)

-- the oldest run of which the fact holds
pub record IsOldest (P : Run → Type 0) (run : Run) : Type 0 where
  pub holds : P run
  pub oldest : (other : Run) → P other → run.age ≤ other.age

-- the youngest run of which the fact holds
pub record IsYoungest (P : Run → Type 0) (run : Run) : Type 0 where
  pub holds : P run
  pub youngest : (other : Run) → P other → other.age ≤ run.age

-- no run has it so
abbrev pub IsNone : (Run → Type 0) → Type 0
IsNone P = (run : Run) → P run → ⊥

-- Locking: another unended run with a granted conflicting access
pub record IsHolder (start : Start) (lines : List EngineLine) (me : Run) (act : PlainAct) (run : Run) : Type 0 where
  pub unended : IsUnended start lines run
  pub other : same_tid run.tid me.tid ≡ false
  pub conflict : HasConflict act run

-- Locking: another live run that has taken the ticket
pub record IsTicketHolder (start : Start) (lines : List EngineLine) (me run : Run) : Type 0 where
  pub unended : IsUnended start lines run
  pub other : same_tid run.tid me.tid ≡ false
  pub taken : HasTaken run
  pub open_run : run.sealed ≡ None

-- wait-die: who finds nobody in the way is granted, who is older than all those waits for the oldest of them, and else it dies by that one
pub record IsWaitDie (P : Run → Type 0) (me : Run) (grant reply : Reply) : Type 0 where
  pub granted : (reply ≡ grant) ↔ IsNone P
  pub waits : (by : Tid) → (reply ≡ Wait by) ↔ ((run : Run) × IsOldest P run × (by ≡ run.tid)
      × ((other : Run) → P other → me.age < other.age))
  pub dies : (by : Tid) → (reply ≡ Refused (Die by)) ↔ ((run : Run) × IsOldest P run × (by ≡ run.tid) × (run.age ≤ me.age))

-- Timestamp order: a younger run with a granted conflicting access; of aborted ones only reads count
pub record IsYoungerInTheWay (start : Start) (lines : List EngineLine) (me : Run) (act : PlainAct) (run : Run) : Type 0 where
  pub younger : me.age < run.age
  pub conflict : (IsUnended start lines run × HasConflict act run) ⊎ (IsAmong run (committed start lines) × HasConflict act run)
      ⊎ (IsAmong run (aborted start lines) × HasReadConflict act run)

-- Timestamp order: an older unended run with a granted write of the key
pub record IsOlderWriter (start : Start) (lines : List EngineLine) (me : Run) (act : PlainAct) (run : Run) : Type 0 where
  pub unended : IsUnended start lines run
  pub older : run.age < me.age
  pub wrote : HasWritten (key_of act) run

-- Timestamp order: a younger run that isn't aborted and has taken the ticket
pub record IsYoungerTaker (start : Start) (lines : List EngineLine) (me run : Run) : Type 0 where
  pub younger : me.age < run.age
  pub counts : IsUnended start lines run ⊎ IsAmong run (committed start lines)
  pub taken : HasTaken run

-- Timestamp order: an older unsealed run that has taken the ticket
pub record IsOlderTaker (start : Start) (lines : List EngineLine) (me run : Run) : Type 0 where
  pub unended : IsUnended start lines run
  pub older : run.age < me.age
  pub taken : HasTaken run
  pub open_run : run.sealed ≡ None

-- timestamp order: too late behind the youngest of the younger ones, else waiting for the older one, else granted
pub record IsInTime (Younger Older : Run → Type 0) (grant reply : Reply) : Type 0 where
  pub granted : (reply ≡ grant) ↔ (IsNone Younger × IsNone Older)
  pub late : (by : Tid) → (reply ≡ Refused (Late by)) ↔ ((run : Run) × IsYoungest Younger run × (by ≡ run.tid))
  pub waits : (by : Tid) → (reply ≡ Wait by) ↔ (IsNone Younger × ((run : Run) × Older run × (by ≡ run.tid)))

-- Validation: the run makes the key bad. It committed since this one began, and wrote what was read; or it is sealed, and wrote what was accessed
pub record Spoils (start : Start) (lines : List EngineLine) (me : Run) (key : Key) (run : Run) : Type 0 where
  pub wrote : HasWritten key run
  pub way : (HasRead key me × IsAmong run (committed_since start lines me.tid))
      ⊎ (HasAccess key me × IsUnended start lines run × (same_tid run.tid me.tid ≡ false) × ((n : ℕ) × (run.sealed ≡ Some n)))

-- Validation: a key that some run makes bad
abbrev pub IsBad : Start → List EngineLine → Run → Key → Type 0
IsBad start lines me key = (run : Run) × Spoils start lines me key run

-- the least bad key
pub record IsLeastBad (start : Start) (lines : List EngineLine) (me : Run) (key : Key) : Type 0 where
  pub bad : IsBad start lines me key
  pub least : (other : Key) → IsBad start lines me other → key.0 ≤ other.0

-- of the runs that make a key bad the one with the greatest serial number
pub record IsLastSpoiler (start : Start) (lines : List EngineLine) (me : Run) (key : Key) (run : Run) : Type 0 where
  pub spoils : Spoils start lines me key run
  pub last : (other : Run) → Spoils start lines me key other → number other ≤ number run

-- Validation: a sealing passes where no key is bad and no other ticket was published since this one was taken; with a bad key it is
-- invalid, and else the ticket has moved
pub record IsValidated (start : Start) (lines : List EngineLine) (me : Run) (refusal : Option Why) : Type 0 where
  pub passes : (refusal ≡ None) ↔ (((key : Key) → IsBad start lines me key → ⊥)
      × ((t : ℕ) → me.ticket ≡ Some t → t ≡ published start lines + 1))
  pub invalid : (by : Tid) (key : Key) → (refusal ≡ Some (Invalid by key)) ↔
      (IsLeastBad start lines me key × ((run : Run) × IsLastSpoiler start lines me key run × (by ≡ run.tid)))
  pub moved : (by : Tid) → (refusal ≡ Some (TicketMoved by)) ↔
      (((key : Key) → IsBad start lines me key → ⊥) × ((t : ℕ) × (me.ticket ≡ Some t) × (t ≢ published start lines + 1))
      × (owner start lines ≡ Some by))

-- the ticket behind the published one
abbrev pub next_ticket : Start → List EngineLine → Reply
next_ticket start lines = Ticket (published start lines + 1)

-- an access is answered by wait-die over the other unended runs with a granted conflicting access
abbrev pub AnswersByLocks : Start → List EngineLine → Type 0
AnswersByLocks start lines =
    (me : Run) (act : PlainAct) → IsWaitDie (IsHolder start lines me act) me (granted start lines me act)
    (access_reply start lines me act)

-- the taking of the ticket is answered by wait-die over the other live runs that have it
abbrev pub TakesByLocks : Start → List EngineLine → Type 0
TakesByLocks start lines = (me : Run) → IsWaitDie (IsTicketHolder start lines me) me (next_ticket start lines)
    (ticket_reply start lines me)

-- an access is answered by timestamp order over the younger runs in the way and the older writers
abbrev pub AnswersByAge : Start → List EngineLine → Type 0
AnswersByAge start lines =
    (me : Run) (act : PlainAct)
    → IsInTime (IsYoungerInTheWay start lines me act) (IsOlderWriter start lines me act) (granted start lines me act)
    (access_reply start lines me act)

-- the taking of the ticket is answered by timestamp order over those that have taken it
abbrev pub TakesByAge : Start → List EngineLine → Type 0
TakesByAge start lines = (me : Run) → IsInTime (IsYoungerTaker start lines me) (IsOlderTaker start lines me)
    (next_ticket start lines) (ticket_reply start lines me)

-- every access and every taking of the ticket is granted
abbrev pub AlwaysGrants : Start → List EngineLine → Type 0
AlwaysGrants start lines =
    (me : Run) → ((act : PlainAct) → access_reply start lines me act ≡ granted start lines me act)
    × (ticket_reply start lines me ≡ next_ticket start lines)

-- every sealing passes
abbrev pub AlwaysSeals : Start → List EngineLine → Type 0
AlwaysSeals start lines = (me : Run) → seal_stop start.kind start lines me ≡ None

-- the sealing of a live run is tested by backward validation
abbrev pub SealsByValidation : Start → List EngineLine → Type 0
SealsByValidation start lines =
    (tid : Tid) (me : Run) → IsLive start lines tid me → IsValidated start lines me (seal_stop start.kind start lines me)

-- Multiversion: a read is granted where the run wrote the key itself or no older unended run did, else it waits for that one, and it is
-- never refused
pub record IsOfItsAge (Own : Type 0) (Older : Run → Type 0) (grant reply : Reply) : Type 0 where
  pub granted : (reply ≡ grant) ↔ (Own ⊎ IsNone Older)
  pub waits : (by : Tid) → (reply ≡ Wait by) ↔ ((Own → ⊥) × ((run : Run) × Older run × (by ≡ run.tid)))
  pub passes : (why : Why) → reply ≡ Refused why → ⊥

-- of the committed runs with smaller numbers than this that wrote the key the one with the greatest number
pub record IsNewestBelow (runs : List Run) (n : ℕ) (key : Key) (run : Run) : Type 0 where
  pub among : IsAmong run runs
  pub below : number run < n
  pub wrote : HasWritten key run
  pub newest : (other : Run) → IsAmong other runs → number other < n → HasWritten key other → number other ≤ number run

-- the value is its last write of the key, or the item where there is no such run
abbrev pub IsVersionBelow : Table → List Run → ℕ → Key → ℕ → Type 0
IsVersionBelow items runs n key value =
    ((run : Run) × IsNewestBelow runs n key run × (value ≡ after run.acts items key))
    ⊎ (((run : Run) → IsAmong run runs → number run < n → HasWritten key run → ⊥) × (value ≡ items key))

-- a read is answered the run's own last write, else the committed version with the greatest number below the run's own
abbrev pub ReadsItsVersion : Start → List EngineLine → Type 0
ReadsItsVersion start lines =
    (me : Run) (key : Key) → (HasWritten key me × ((T : Table) → granted start lines me (Read key) ≡ Value (after me.acts T key)))
    ⊎ ((value : ℕ) × (granted start lines me (Read key) ≡ Value value)
    × IsVersionBelow (look_up start.rows) (committed start lines) me.age key value)

-- a read is answered by age and never too late, a write by timestamp order
pub record AnswersByVersion (start : Start) (lines : List EngineLine) : Type 0 where
  pub reads : (me : Run) (key : Key) → IsOfItsAge (HasWritten key me) (IsOlderWriter start lines me (Read key))
      (granted start lines me (Read key)) (access_reply start lines me (Read key))
  pub writes : (me : Run) (key : Key) (value : ℕ)
      → IsInTime (IsYoungerInTheWay start lines me (Write key value)) (IsOlderWriter start lines me (Write key value))
      (granted start lines me (Write key value)) (access_reply start lines me (Write key value))

-- whether a run that only reads and takes no ticket may make the line
abbrev pub is_of_reader : EngineLine → Bool
is_of_reader (Acts tid (Write key value) reply) = false
is_of_reader (Takes tid reply) = false
is_of_reader line = true

-- the engine never ends a run of reads alone otherwise than by commit: only its client does
abbrev pub ReadersPass : Start → List EngineLine → Type 0
ReadersPass start lines =
    (line : EngineLine) → IsRightLine start lines line → is_of_reader line ≡ true → gives_up line ≡ true → line ≡ Aborts (tid_of line)
