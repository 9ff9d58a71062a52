-- What is spelled is read again, whatever follows it.
use Rattle.std.proofs.Common.{◌≡◌, ℕ, ◌<◌, ◌^◌, List, [], ◌++◌, Option, Some, None, sym, ap, ◌∙◌, arith}
use Rattle.std.proofs.lemmas.List.{append_assoc, append-nil}
use Rattle.byte_numbers.specs.Numbers.{number, ◌>>=◌}
use Rattle.field_bytes.specs.Fields.{IsTid, tid_bytes, tid_at, decision_bytes, decision_at}
use Rattle.field_bytes.proofs.ForCallers.{decision_again, number_then, tid_again}
use Rattle.mdb_base.specs.declared.acts.PlainAct.{PlainAct}
use Rattle.mdb_base.specs.declared.acts.PlainAct.TheVariants.{Read, Write}
use Rattle.mdb_base.specs.declared.names.Tid.{Tid}
use Rattle.mdb_base.specs.declared.replies.Reply.{Reply}
use Rattle.mdb_base.specs.declared.replies.Reply.TheVariants as Reply_is
use Rattle.mdb_base.specs.declared.replies.Why.TheVariants as Because
use Rattle.fed_rules.specs.declared.messages.FromSite.{FromSite}
use Rattle.fed_rules.specs.declared.messages.FromSite.TheVariants as From
use Rattle.fed_rules.specs.declared.messages.ToSite.{ToSite}
use Rattle.fed_rules.specs.declared.messages.ToSite.TheVariants as To
use Rattle.fed_messages.specs.declared.Envelope.{Envelope}
use Rattle.fed_messages.specs.Packets.{IsEnvelope, envelope_bytes}
use Rattle.fed_messages.specs.Spelling.{act_bytes, operation_bytes, to_site_bytes, reply_bytes, vote_bytes, from_site_bytes, IsAct, IsOperation, IsToSite, IsReply, IsVote, IsFromSite}
use Rattle.fed_messages.specs.Reading.{Reading, Kinds, by_kind, kind_at, act_at, act_kinds, read_at, write_at, operation_at, work_at, take_at, prepare_at, decide_at, to_site_at, to_site_kinds, by_at, nothing_at, value_at, ticket_at, invalid_at, reply_at, reply_kinds, yes_at, vote_at, vote_kinds, did_at, votes_at, from_site_at, from_site_kinds, envelope_of}
use Rattle.fed_messages.proofs.ByKind.{found_then}

-- a first byte that was written says what stands behind it
pub kind_again : {A : Type 0} (kinds : Kinds A) (kind : ℕ) (rest : List ℕ) → kind < 256 → kind_at kinds (number 1 kind ++ rest) ≡ by_kind kinds kind rest
kind_again kinds kind rest low = number_then 1 kind rest _ low

pub act_again : (act : PlainAct) (rest : List ℕ) → IsAct act → act_at (act_bytes act ++ rest) ≡ Some (act, rest)
unfolding act_at read_at write_at
act_again (Read key) rest fits = kind_again act_kinds 1 (number 2 key.0 ++ rest) (omega arith) ∙ number_then 2 key.0 rest _ (omega (arith, fits))
act_again (Write key value) rest fits =
    kind_again act_kinds 2 ((number 2 key.0 ++ number 8 value) ++ rest) (omega arith)
    ∙ ap write_at (append_assoc (number 2 key.0) (number 8 value) rest)
    ∙ number_then 2 key.0 (number 8 value ++ rest) _ (omega (arith, fits.0))
    ∙ number_then 8 value rest _ (omega (arith, fits.1))

-- an attempt, and then what stands behind it
tid_then : {B : Type 0} (tid : Tid) (rest : List ℕ) (f : Tid × List ℕ → Option B) → IsTid tid → (tid_at (tid_bytes tid ++ rest) >>= f) ≡ f (tid, rest)
tid_then tid rest f fits = found_then (tid_at (tid_bytes tid ++ rest)) (tid, rest) f (tid_again tid rest fits)

operation_again : (tid : Tid) (epoch n : ℕ) (rest : List ℕ) → IsOperation tid epoch n → operation_at (operation_bytes tid epoch n ++ rest) ≡ Some (record { tid = tid; epoch = epoch; n = n }, rest)
unfolding operation_at
operation_again tid epoch n rest fits =
    ap operation_at (append_assoc (tid_bytes tid) (number 4 epoch ++ number 1 n) rest ∙ ap (λ x. tid_bytes tid ++ x) (append_assoc (number 4 epoch) (number 1 n) rest))
    ∙ tid_then tid (number 4 epoch ++ (number 1 n ++ rest)) _ fits.attempt
    ∙ number_then 4 epoch (number 1 n ++ rest) _ (omega (arith, fits.epochs))
    ∙ number_then 1 n rest _ (omega (arith, fits.count))

work_again : (tid : Tid) (epoch n : ℕ) (act : PlainAct) (rest : List ℕ) → IsOperation tid epoch n → IsAct act → work_at ((operation_bytes tid epoch n ++ act_bytes act) ++ rest) ≡ Some (To.Work tid epoch n act, rest)
unfolding work_at
work_again tid epoch n act rest fits acts =
    ap work_at (append_assoc (operation_bytes tid epoch n) (act_bytes act) rest)
    ∙ found_then (operation_at (operation_bytes tid epoch n ++ (act_bytes act ++ rest))) _ _ (operation_again tid epoch n (act_bytes act ++ rest) fits)
    ∙ found_then (act_at (act_bytes act ++ rest)) (act, rest) _ (act_again act rest acts)

decide_again : (tid : Tid) (decision : _) (rest : List ℕ) → IsTid tid → decide_at ((tid_bytes tid ++ decision_bytes decision) ++ rest) ≡ Some (To.Decide tid decision, rest)
unfolding decide_at
decide_again tid decision rest fits =
    ap decide_at (append_assoc (tid_bytes tid) (decision_bytes decision) rest)
    ∙ tid_then tid (decision_bytes decision ++ rest) _ fits
    ∙ found_then (decision_at (decision_bytes decision ++ rest)) (decision, rest) _ (decision_again decision rest)

pub to_site_again : (message : ToSite) (rest : List ℕ) → IsToSite message → to_site_at (to_site_bytes message ++ rest) ≡ Some (message, rest)
unfolding to_site_at take_at prepare_at
to_site_again (To.Work tid epoch n act) rest fits =
    kind_again to_site_kinds 1 ((operation_bytes tid epoch n ++ act_bytes act) ++ rest) (omega arith) ∙ work_again tid epoch n act rest fits.0 fits.1
to_site_again (To.Take tid epoch n) rest fits =
    kind_again to_site_kinds 2 (operation_bytes tid epoch n ++ rest) (omega arith)
    ∙ found_then (operation_at (operation_bytes tid epoch n ++ rest)) _ _ (operation_again tid epoch n rest fits)
to_site_again (To.Prepare tid epoch n) rest fits =
    kind_again to_site_kinds 3 (operation_bytes tid epoch n ++ rest) (omega arith)
    ∙ found_then (operation_at (operation_bytes tid epoch n ++ rest)) _ _ (operation_again tid epoch n rest fits)
to_site_again (To.Decide tid decision) rest fits =
    kind_again to_site_kinds 4 ((tid_bytes tid ++ decision_bytes decision) ++ rest) (omega arith) ∙ decide_again tid decision rest fits

invalid_again : (by : Tid) (key : ℕ) (rest : List ℕ) → IsTid by → key < 2 ^ 16 → invalid_at ((tid_bytes by ++ number 2 key) ++ rest) ≡ Some (Reply_is.Refused (Because.Invalid by (record { 0 = key })), rest)
unfolding invalid_at
invalid_again by key rest fits low =
    ap invalid_at (append_assoc (tid_bytes by) (number 2 key) rest)
    ∙ tid_then by (number 2 key ++ rest) _ fits
    ∙ number_then 2 key rest _ (omega (arith, low))

reply_again : (reply : Reply) (rest : List ℕ) → IsReply reply → reply_at (reply_bytes reply ++ rest) ≡ Some (reply, rest)
unfolding reply_at nothing_at by_at value_at ticket_at
reply_again Reply_is.Done rest fits = kind_again reply_kinds 0 rest (omega arith)
reply_again (Reply_is.Value value) rest fits =
    kind_again reply_kinds 1 (number 8 value ++ rest) (omega arith) ∙ number_then 8 value rest _ (omega (arith, fits))
reply_again (Reply_is.Ticket ticket) rest fits =
    kind_again reply_kinds 2 (number 8 ticket ++ rest) (omega arith) ∙ number_then 8 ticket rest _ (omega (arith, fits))
reply_again (Reply_is.Wait by) rest fits = kind_again reply_kinds 3 (tid_bytes by ++ rest) (omega arith) ∙ tid_then by rest _ fits
reply_again (Reply_is.Refused (Because.Die by)) rest fits =
    kind_again reply_kinds 4 (tid_bytes by ++ rest) (omega arith) ∙ tid_then by rest _ fits
reply_again (Reply_is.Refused (Because.Late by)) rest fits =
    kind_again reply_kinds 5 (tid_bytes by ++ rest) (omega arith) ∙ tid_then by rest _ fits
reply_again (Reply_is.Refused (Because.Invalid by key)) rest fits =
    kind_again reply_kinds 6 ((tid_bytes by ++ number 2 key.0) ++ rest) (omega arith) ∙ invalid_again by key.0 rest fits.0 fits.1
reply_again (Reply_is.Refused (Because.TicketMoved by)) rest fits =
    kind_again reply_kinds 7 (tid_bytes by ++ rest) (omega arith) ∙ tid_then by rest _ fits
reply_again Reply_is.Unknown rest fits = kind_again reply_kinds 8 rest (omega arith)

pub vote_again : (vote : Option ℕ) (rest : List ℕ) → IsVote vote → vote_at (vote_bytes vote ++ rest) ≡ Some (vote, rest)
unfolding vote_at nothing_at yes_at
vote_again None rest fits = kind_again vote_kinds 0 rest (omega arith)
vote_again (Some ticket) rest fits =
    kind_again vote_kinds 1 (number 8 ticket ++ rest) (omega arith) ∙ number_then 8 ticket rest _ (omega (arith, fits))

did_again : (tid : Tid) (epoch n : ℕ) (reply : Reply) (rest : List ℕ) → IsOperation tid epoch n → IsReply reply → did_at ((operation_bytes tid epoch n ++ reply_bytes reply) ++ rest) ≡ Some (From.Did tid epoch n reply, rest)
unfolding did_at
did_again tid epoch n reply rest fits replies =
    ap did_at (append_assoc (operation_bytes tid epoch n) (reply_bytes reply) rest)
    ∙ found_then (operation_at (operation_bytes tid epoch n ++ (reply_bytes reply ++ rest))) _ _ (operation_again tid epoch n (reply_bytes reply ++ rest) fits)
    ∙ found_then (reply_at (reply_bytes reply ++ rest)) (reply, rest) _ (reply_again reply rest replies)

votes_again : (tid : Tid) (vote : Option ℕ) (rest : List ℕ) → IsTid tid → IsVote vote → votes_at ((tid_bytes tid ++ vote_bytes vote) ++ rest) ≡ Some (From.Vote tid vote, rest)
unfolding votes_at
votes_again tid vote rest fits votes =
    ap votes_at (append_assoc (tid_bytes tid) (vote_bytes vote) rest)
    ∙ tid_then tid (vote_bytes vote ++ rest) _ fits
    ∙ found_then (vote_at (vote_bytes vote ++ rest)) (vote, rest) _ (vote_again vote rest votes)

pub from_site_again : (message : FromSite) (rest : List ℕ) → IsFromSite message → from_site_at (from_site_bytes message ++ rest) ≡ Some (message, rest)
unfolding from_site_at by_at
from_site_again (From.Did tid epoch n reply) rest fits =
    kind_again from_site_kinds 1 ((operation_bytes tid epoch n ++ reply_bytes reply) ++ rest) (omega arith) ∙ did_again tid epoch n reply rest fits.0 fits.1
from_site_again (From.Vote tid vote) rest fits =
    kind_again from_site_kinds 2 ((tid_bytes tid ++ vote_bytes vote) ++ rest) (omega arith) ∙ votes_again tid vote rest fits.0 fits.1
from_site_again (From.Ack tid) rest fits = kind_again from_site_kinds 3 (tid_bytes tid ++ rest) (omega arith) ∙ tid_then tid rest _ fits
from_site_again (From.Inquiry tid) rest fits = kind_again from_site_kinds 4 (tid_bytes tid ++ rest) (omega arith) ∙ tid_then tid rest _ fits

-- an envelope that was written is read, where nothing follows it
pub envelope_again : {M : Type 0} (message_bytes : M → List ℕ) (IsMessage : M → Type 0) (message_at : List ℕ → Reading M) → ((message : M) (rest : List ℕ) → IsMessage message → message_at (message_bytes message ++ rest) ≡ Some (message, rest)) → (envelope : Envelope M) → IsEnvelope IsMessage envelope → envelope_of message_at (envelope_bytes message_bytes envelope) ≡ Some envelope
unfolding envelope_of
envelope_again message_bytes IsMessage message_at by_message envelope fits =
    let text = message_bytes envelope.message in
    number_then 4 envelope.index (number 8 envelope.stamp ++ text) _ (omega (arith, fits.index))
    ∙ number_then 8 envelope.stamp text _ (omega (arith, fits.stamp))
    ∙ found_then (message_at text) (envelope.message, []) _ (ap message_at (sym (append-nil text)) ∙ by_message envelope.message [] fits.message)
