-- Messages as bytes, and which messages are in range.
use Rattle.std.specs.Prelude.{ℕ, ◌^◌, ◌<◌, List, [], ◌∷◌, ◌++◌, Option, Some, None}
use Rattle.byte_numbers.specs.Numbers.{number}
use Rattle.field_bytes.specs.Fields.{IsTid, tid_bytes, decision_bytes}
use Rattle.mdb_base.specs.declared.acts.PlainAct.{PlainAct}
use Rattle.mdb_base.specs.declared.acts.PlainAct.TheVariants.{Read, Write}
use Rattle.mdb_base.specs.declared.names.Tid.{Tid}
use Rattle.mdb_base.specs.declared.replies.Reply.{Reply}
use Rattle.mdb_base.specs.declared.replies.Reply.TheVariants as Reply_is
use Rattle.mdb_base.specs.declared.replies.Why.{Why}
use Rattle.mdb_base.specs.declared.replies.Why.TheVariants as Because
use Rattle.fed_rules.specs.declared.messages.ToSite.{ToSite}
use Rattle.fed_rules.specs.declared.messages.ToSite.TheVariants as To
use Rattle.fed_rules.specs.declared.messages.FromSite.{FromSite}
use Rattle.fed_rules.specs.declared.messages.FromSite.TheVariants as From

-- a read, or a write with its value
abbrev pub act_bytes : PlainAct → List ℕ
act_bytes (Read key) = 1 ∷ number 2 key.0
act_bytes (Write key value) = 2 ∷ (number 2 key.0 ++ number 8 value)

-- an operation's attempt, epoch and count
abbrev pub operation_bytes : Tid → (epoch n : ℕ) → List ℕ
operation_bytes tid epoch n = tid_bytes tid ++ (number 4 epoch ++ number 1 n)

abbrev pub to_site_bytes : ToSite → List ℕ
to_site_bytes (To.Work tid epoch n act) = 1 ∷ (operation_bytes tid epoch n ++ act_bytes act)
to_site_bytes (To.Take tid epoch n) = 2 ∷ operation_bytes tid epoch n
to_site_bytes (To.Prepare tid epoch n) = 3 ∷ operation_bytes tid epoch n
to_site_bytes (To.Decide tid decision) = 4 ∷ (tid_bytes tid ++ decision_bytes decision)

abbrev pub why_bytes : Why → List ℕ
why_bytes (Because.Die by) = 4 ∷ tid_bytes by
why_bytes (Because.Late by) = 5 ∷ tid_bytes by
why_bytes (Because.Invalid by key) = 6 ∷ (tid_bytes by ++ number 2 key.0)
why_bytes (Because.TicketMoved by) = 7 ∷ tid_bytes by

abbrev pub reply_bytes : Reply → List ℕ
reply_bytes Reply_is.Done = 0 ∷ []
reply_bytes (Reply_is.Value value) = 1 ∷ number 8 value
reply_bytes (Reply_is.Ticket ticket) = 2 ∷ number 8 ticket
reply_bytes (Reply_is.Wait by) = 3 ∷ tid_bytes by
reply_bytes (Reply_is.Refused why) = why_bytes why
reply_bytes Reply_is.Unknown = 8 ∷ []

-- no, or yes with the ticket
abbrev pub vote_bytes : Option ℕ → List ℕ
vote_bytes None = 0 ∷ []
vote_bytes (Some ticket) = 1 ∷ number 8 ticket

abbrev pub from_site_bytes : FromSite → List ℕ
from_site_bytes (From.Did tid epoch n reply) = 1 ∷ (operation_bytes tid epoch n ++ reply_bytes reply)
from_site_bytes (From.Vote tid vote) = 2 ∷ (tid_bytes tid ++ vote_bytes vote)
from_site_bytes (From.Ack tid) = 3 ∷ tid_bytes tid
from_site_bytes (From.Inquiry tid) = 4 ∷ tid_bytes tid

-- numbers have their bytes, and attempts are in their range
abbrev pub IsAct : PlainAct → Type 0
IsAct (Read key) = key.0 < 2 ^ 16
IsAct (Write key value) = (key.0 < 2 ^ 16) × (value < 2 ^ 64)

pub record IsOperation (tid : Tid) (epoch n : ℕ) : Type 0 where
  pub attempt : IsTid tid
  pub epochs : epoch < 2 ^ 32
  pub count : n < 2 ^ 8

abbrev pub IsToSite : ToSite → Type 0
IsToSite (To.Work tid epoch n act) = IsOperation tid epoch n × IsAct act
IsToSite (To.Take tid epoch n) = IsOperation tid epoch n
IsToSite (To.Prepare tid epoch n) = IsOperation tid epoch n
IsToSite (To.Decide tid decision) = IsTid tid

abbrev pub IsWhy : Why → Type 0
IsWhy (Because.Die by) = IsTid by
IsWhy (Because.Late by) = IsTid by
IsWhy (Because.Invalid by key) = IsTid by × (key.0 < 2 ^ 16)
IsWhy (Because.TicketMoved by) = IsTid by

abbrev pub IsReply : Reply → Type 0
IsReply Reply_is.Done = Unit {0}
IsReply (Reply_is.Value value) = value < 2 ^ 64
IsReply (Reply_is.Ticket ticket) = ticket < 2 ^ 64
IsReply (Reply_is.Wait by) = IsTid by
IsReply (Reply_is.Refused why) = IsWhy why
IsReply Reply_is.Unknown = Unit {0}

abbrev pub IsVote : Option ℕ → Type 0
IsVote None = Unit {0}
IsVote (Some ticket) = ticket < 2 ^ 64

abbrev pub IsFromSite : FromSite → Type 0
IsFromSite (From.Did tid epoch n reply) = IsOperation tid epoch n × IsReply reply
IsFromSite (From.Vote tid vote) = IsTid tid × IsVote vote
IsFromSite (From.Ack tid) = IsTid tid
IsFromSite (From.Inquiry tid) = IsTid tid
