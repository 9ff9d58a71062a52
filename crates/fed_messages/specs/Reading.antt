-- Reading messages from the front of a list of bytes. A reading is a value with the bytes behind it, or none where the front
-- spells no value.
use Rattle.std.specs.Prelude.{ℕ, ◌==◌, length, List, [], ◌∷◌, Option, Some, None, if◌then◌else◌}
use Rattle.byte_numbers.specs.Numbers.{number_at, ◌>>=◌}
use Rattle.field_bytes.specs.Fields.{tid_at, decision_at}
use Rattle.mdb_base.specs.declared.acts.PlainAct.{PlainAct}
use Rattle.mdb_base.specs.declared.names.Tid.{Tid}
use Rattle.mdb_base.specs.declared.acts.PlainAct.TheVariants.{Read, Write}
use Rattle.mdb_base.specs.declared.replies.Reply.{Reply}
use Rattle.mdb_base.specs.declared.replies.Reply.TheVariants as Reply_is
use Rattle.mdb_base.specs.declared.replies.Why.TheVariants as Because
use Rattle.fed_rules.specs.declared.messages.ToSite.{ToSite}
use Rattle.fed_rules.specs.declared.messages.ToSite.TheVariants as To
use Rattle.fed_rules.specs.declared.messages.FromSite.{FromSite}
use Rattle.fed_rules.specs.declared.messages.FromSite.TheVariants as From
use Rattle.fed_messages.specs.declared.Envelope.{Envelope}
use Rattle.fed_messages.specs.declared.reading.Operation.{Operation}

-- a value with the bytes behind it
abbrev pub Reading : Type 0 → Type 0
Reading A = Option (A × List ℕ)

-- what may stand behind a first byte, by that byte
abbrev pub Kinds : Type 0 → Type 0
Kinds A = List (ℕ × (List ℕ → Reading A))

-- what the first byte says that stands behind it
abbrev pub by_kind : {A : Type 0} → Kinds A → ℕ → List ℕ → Reading A
by_kind [] kind rest = None
by_kind ((k, read) ∷ kinds) kind rest = if kind == k then read rest else by_kind kinds kind rest

abbrev pub kind_at : {A : Type 0} → Kinds A → List ℕ → Reading A
kind_at kinds bytes = do
  kind ← number_at 1 bytes
  by_kind kinds kind.0 kind.1

unfoldable pub read_at : List ℕ → Reading PlainAct
read_at bytes = do
  key ← number_at 2 bytes
  Some (Read (record { 0 = key.0 }), key.1)

unfoldable pub write_at : List ℕ → Reading PlainAct
write_at bytes = do
  key ← number_at 2 bytes
  value ← number_at 8 key.1
  Some (Write (record { 0 = key.0 }) value.0, value.1)

abbrev pub act_kinds : Kinds PlainAct
act_kinds = (1, read_at) ∷ (2, write_at) ∷ []

unfoldable pub act_at : List ℕ → Reading PlainAct
act_at = kind_at act_kinds

unfoldable pub operation_at : List ℕ → Reading Operation
operation_at bytes = do
  tid ← tid_at bytes
  epoch ← number_at 4 tid.1
  n ← number_at 1 epoch.1
  Some (record { tid = tid.0; epoch = epoch.0; n = n.0 }, n.1)

unfoldable pub work_at : List ℕ → Reading ToSite
work_at bytes = do
  operation ← operation_at bytes
  act ← act_at operation.1
  Some (To.Work operation.0.tid operation.0.epoch operation.0.n act.0, act.1)

unfoldable pub take_at : List ℕ → Reading ToSite
take_at bytes = do
  operation ← operation_at bytes
  Some (To.Take operation.0.tid operation.0.epoch operation.0.n, operation.1)

unfoldable pub prepare_at : List ℕ → Reading ToSite
prepare_at bytes = do
  operation ← operation_at bytes
  Some (To.Prepare operation.0.tid operation.0.epoch operation.0.n, operation.1)

unfoldable pub decide_at : List ℕ → Reading ToSite
decide_at bytes = do
  tid ← tid_at bytes
  decision ← decision_at tid.1
  Some (To.Decide tid.0 decision.0, decision.1)

abbrev pub to_site_kinds : Kinds ToSite
to_site_kinds = (1, work_at) ∷ (2, take_at) ∷ (3, prepare_at) ∷ (4, decide_at) ∷ []

unfoldable pub to_site_at : List ℕ → Reading ToSite
to_site_at = kind_at to_site_kinds

unfoldable pub value_at : List ℕ → Reading Reply
value_at bytes = do
  value ← number_at 8 bytes
  Some (Reply_is.Value value.0, value.1)

unfoldable pub ticket_at : List ℕ → Reading Reply
ticket_at bytes = do
  ticket ← number_at 8 bytes
  Some (Reply_is.Ticket ticket.0, ticket.1)

-- an attempt, and what is made of it
unfoldable pub by_at : {A : Type 0} → (Tid → A) → List ℕ → Reading A
by_at made bytes = do
  by ← tid_at bytes
  Some (made by.0, by.1)

unfoldable pub invalid_at : List ℕ → Reading Reply
invalid_at bytes = do
  by ← tid_at bytes
  key ← number_at 2 by.1
  Some (Reply_is.Refused (Because.Invalid by.0 (record { 0 = key.0 })), key.1)

-- nothing more, and what it means
unfoldable pub nothing_at : {A : Type 0} → A → List ℕ → Reading A
nothing_at meant bytes = Some (meant, bytes)

abbrev pub reply_kinds : Kinds Reply
reply_kinds =
    (0, nothing_at Reply_is.Done)
    ∷ (1, value_at)
    ∷ (2, ticket_at)
    ∷ (3, by_at (λ by. Reply_is.Wait by))
    ∷ (4, by_at (λ by. Reply_is.Refused (Because.Die by)))
    ∷ (5, by_at (λ by. Reply_is.Refused (Because.Late by)))
    ∷ (6, invalid_at)
    ∷ (7, by_at (λ by. Reply_is.Refused (Because.TicketMoved by)))
    ∷ (8, nothing_at Reply_is.Unknown)
    ∷ []

unfoldable pub reply_at : List ℕ → Reading Reply
reply_at = kind_at reply_kinds

unfoldable pub yes_at : List ℕ → Reading (Option ℕ)
yes_at bytes = do
  ticket ← number_at 8 bytes
  Some (Some ticket.0, ticket.1)

abbrev pub vote_kinds : Kinds (Option ℕ)
vote_kinds = (0, nothing_at None) ∷ (1, yes_at) ∷ []

unfoldable pub vote_at : List ℕ → Reading (Option ℕ)
vote_at = kind_at vote_kinds

unfoldable pub did_at : List ℕ → Reading FromSite
did_at bytes = do
  operation ← operation_at bytes
  reply ← reply_at operation.1
  Some (From.Did operation.0.tid operation.0.epoch operation.0.n reply.0, reply.1)

unfoldable pub votes_at : List ℕ → Reading FromSite
votes_at bytes = do
  tid ← tid_at bytes
  vote ← vote_at tid.1
  Some (From.Vote tid.0 vote.0, vote.1)

abbrev pub from_site_kinds : Kinds FromSite
from_site_kinds = (1, did_at) ∷ (2, votes_at) ∷ (3, by_at (λ tid. From.Ack tid)) ∷ (4, by_at (λ tid. From.Inquiry tid)) ∷ []

unfoldable pub from_site_at : List ℕ → Reading FromSite
from_site_at = kind_at from_site_kinds

-- an envelope that is all of the bytes
unfoldable pub envelope_of : {M : Type 0} → (List ℕ → Reading M) → List ℕ → Option (Envelope M)
envelope_of message_at bytes = do
  index ← number_at 4 bytes
  stamp ← number_at 8 index.1
  message ← message_at stamp.1
  if length message.1 == 0 then Some (record { index = index.0; stamp = stamp.0; message = message.0 }) else None
