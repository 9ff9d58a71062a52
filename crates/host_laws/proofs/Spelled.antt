-- Bytes tell messages apart whose numbers have theirs, be their attempts in range or not: each is read again from its bytes.
use Rattle.std.proofs.Common.{◌≡◌, ℕ, ◌<◌, ◌^◌, List, [], ◌∷◌, ◌++◌, Option, Some, sym, ap, ◌∙◌, arith}
use Rattle.std.proofs.lemmas.List.{append_assoc, append-nil}
use Rattle.std.proofs.lemmas.Option.{same_Some}
use Rattle.byte_numbers.specs.Numbers.{number, number_at, ◌>>=◌}
use Rattle.byte_numbers.proofs.ForCallers.{number_again}
use Rattle.field_bytes.specs.Fields.{IsTid, tid_bytes, decision_at, decision_bytes}
use Rattle.field_bytes.proofs.ForCallers.{decision_again, number_then}
use Rattle.mdb_base.specs.declared.acts.PlainAct.{PlainAct}
use Rattle.mdb_base.specs.declared.names.Tid.{Tid}
use Rattle.mdb_base.specs.declared.replies.Reply.{Reply}
use Rattle.mdb_base.specs.declared.replies.Reply.TheVariants as Reply_is
use Rattle.mdb_base.specs.declared.replies.Why.{Why}
use Rattle.mdb_base.specs.declared.replies.Why.TheVariants as Because
use Rattle.presumptions.specs.declared.Decision.{Decision}
use Rattle.fed_rules.specs.declared.messages.FromSite.{FromSite}
use Rattle.fed_rules.specs.declared.messages.FromSite.TheVariants as From
use Rattle.fed_rules.specs.declared.messages.ToSite.{ToSite}
use Rattle.fed_rules.specs.declared.messages.ToSite.TheVariants as To
use Rattle.fed_messages.specs.declared.Envelope.{Envelope}
use Rattle.fed_messages.specs.declared.reading.Operation.{Operation}
use Rattle.fed_messages.specs.Packets.{IsEnvelope, envelope_bytes}
use Rattle.fed_messages.specs.Reading.{Kinds, Reading, act_at, kind_at, nothing_at, ticket_at, value_at, vote_at}
use Rattle.fed_messages.specs.Spelling.{IsAct, IsFromSite, IsOperation, IsReply, IsToSite, IsVote, IsWhy, act_bytes, from_site_bytes, operation_bytes, reply_bytes, to_site_bytes, vote_bytes}
use Rattle.fed_messages.proofs.ForCallers.{act_again, found_then, kind_again, vote_again}
use Rattle.host_laws.specs.Written.{FitsFromSite, FitsOperation, FitsReply, FitsTid, FitsToSite, FitsWhy}

-- ---- readings that don't test the range of an attempt

unfoldable tid_read : List ℕ → Reading Tid
tid_read bytes = do
  tx ← number_at 4 bytes
  attempt ← number_at 1 tx.1
  Some (record { tx = record { 0 = tx.0 }; attempt = attempt.0 }, attempt.1)

unfoldable operation_read : List ℕ → Reading Operation
operation_read bytes = do
  tid ← tid_read bytes
  epoch ← number_at 4 tid.1
  n ← number_at 1 epoch.1
  Some (record { tid = tid.0; epoch = epoch.0; n = n.0 }, n.1)

unfoldable work_read : List ℕ → Reading ToSite
work_read bytes = do
  operation ← operation_read bytes
  act ← act_at operation.1
  Some (To.Work operation.0.tid operation.0.epoch operation.0.n act.0, act.1)

unfoldable take_read : List ℕ → Reading ToSite
take_read bytes = do
  operation ← operation_read bytes
  Some (To.Take operation.0.tid operation.0.epoch operation.0.n, operation.1)

unfoldable prepare_read : List ℕ → Reading ToSite
prepare_read bytes = do
  operation ← operation_read bytes
  Some (To.Prepare operation.0.tid operation.0.epoch operation.0.n, operation.1)

unfoldable decide_read : List ℕ → Reading ToSite
decide_read bytes = do
  tid ← tid_read bytes
  decision ← decision_at tid.1
  Some (To.Decide tid.0 decision.0, decision.1)

abbrev to_site_reads : Kinds ToSite
to_site_reads = (1, work_read) ∷ (2, take_read) ∷ (3, prepare_read) ∷ (4, decide_read) ∷ []

-- an attempt, and what is made of it
unfoldable by_read : {A : Type 0} → (Tid → A) → List ℕ → Reading A
by_read made bytes = do
  by ← tid_read bytes
  Some (made by.0, by.1)

unfoldable invalid_read : List ℕ → Reading Reply
invalid_read bytes = do
  by ← tid_read bytes
  key ← number_at 2 by.1
  Some (Reply_is.Refused (Because.Invalid by.0 (record { 0 = key.0 })), key.1)

abbrev reply_reads : Kinds Reply
reply_reads =
    (0, nothing_at Reply_is.Done)
    ∷ (1, value_at)
    ∷ (2, ticket_at)
    ∷ (3, by_read (λ by. Reply_is.Wait by))
    ∷ (4, by_read (λ by. Reply_is.Refused (Because.Die by)))
    ∷ (5, by_read (λ by. Reply_is.Refused (Because.Late by)))
    ∷ (6, invalid_read)
    ∷ (7, by_read (λ by. Reply_is.Refused (Because.TicketMoved by)))
    ∷ (8, nothing_at Reply_is.Unknown)
    ∷ []

unfoldable did_read : List ℕ → Reading FromSite
did_read bytes = do
  operation ← operation_read bytes
  reply ← kind_at reply_reads operation.1
  Some (From.Did operation.0.tid operation.0.epoch operation.0.n reply.0, reply.1)

unfoldable vote_read : List ℕ → Reading FromSite
vote_read bytes = do
  tid ← tid_read bytes
  vote ← vote_at tid.1
  Some (From.Vote tid.0 vote.0, vote.1)

abbrev from_site_reads : Kinds FromSite
from_site_reads = (1, did_read) ∷ (2, vote_read) ∷ (3, by_read (λ tid. From.Ack tid)) ∷ (4, by_read (λ tid. From.Inquiry tid)) ∷ []

-- ---- what was written is read again

tid_again : (tid : Tid) (rest : List ℕ) → FitsTid tid → tid_read (tid_bytes tid ++ rest) ≡ Some (tid, rest)
unfolding tid_read
tid_again tid rest fits =
    ap tid_read (append_assoc (number 4 tid.tx.0) (number 1 tid.attempt) rest)
    ∙ number_then 4 tid.tx.0 (number 1 tid.attempt ++ rest) _ (omega (arith, fits.tx))
    ∙ number_then 1 tid.attempt rest _ (omega (arith, fits.attempts))

tid_then : {B : Type 0} (tid : Tid) (rest : List ℕ) (f : Tid × List ℕ → Option B) → FitsTid tid → (tid_read (tid_bytes tid ++ rest) >>= f) ≡ f (tid, rest)
tid_then tid rest f fits = found_then (tid_read (tid_bytes tid ++ rest)) (tid, rest) f (tid_again tid rest fits)

operation_again : (tid : Tid) (epoch n : ℕ) (rest : List ℕ) → FitsOperation tid epoch n → operation_read (operation_bytes tid epoch n ++ rest) ≡ Some (record { tid = tid; epoch = epoch; n = n }, rest)
unfolding operation_read
operation_again tid epoch n rest fits =
    ap operation_read (append_assoc (tid_bytes tid) (number 4 epoch ++ number 1 n) rest ∙ ap (λ x. tid_bytes tid ++ x) (append_assoc (number 4 epoch) (number 1 n) rest))
    ∙ tid_then tid (number 4 epoch ++ (number 1 n ++ rest)) _ fits.attempt
    ∙ number_then 4 epoch (number 1 n ++ rest) _ (omega (arith, fits.epochs))
    ∙ number_then 1 n rest _ (omega (arith, fits.count))

work_again : (tid : Tid) (epoch n : ℕ) (act : PlainAct) (rest : List ℕ) → FitsOperation tid epoch n → IsAct act → work_read ((operation_bytes tid epoch n ++ act_bytes act) ++ rest) ≡ Some (To.Work tid epoch n act, rest)
unfolding work_read
work_again tid epoch n act rest fits acts =
    ap work_read (append_assoc (operation_bytes tid epoch n) (act_bytes act) rest)
    ∙ found_then (operation_read (operation_bytes tid epoch n ++ (act_bytes act ++ rest))) _ _ (operation_again tid epoch n (act_bytes act ++ rest) fits)
    ∙ found_then (act_at (act_bytes act ++ rest)) (act, rest) _ (act_again act rest acts)

decide_again : (tid : Tid) (decision : Decision) (rest : List ℕ) → FitsTid tid → decide_read ((tid_bytes tid ++ decision_bytes decision) ++ rest) ≡ Some (To.Decide tid decision, rest)
unfolding decide_read
decide_again tid decision rest fits =
    ap decide_read (append_assoc (tid_bytes tid) (decision_bytes decision) rest)
    ∙ tid_then tid (decision_bytes decision ++ rest) _ fits
    ∙ found_then (decision_at (decision_bytes decision ++ rest)) (decision, rest) _ (decision_again decision rest)

to_site_again : (message : ToSite) (rest : List ℕ) → FitsToSite message → kind_at to_site_reads (to_site_bytes message ++ rest) ≡ Some (message, rest)
unfolding take_read prepare_read
to_site_again (To.Work tid epoch n act) rest fits =
    kind_again to_site_reads 1 ((operation_bytes tid epoch n ++ act_bytes act) ++ rest) (omega arith) ∙ work_again tid epoch n act rest fits.0 fits.1
to_site_again (To.Take tid epoch n) rest fits =
    kind_again to_site_reads 2 (operation_bytes tid epoch n ++ rest) (omega arith)
    ∙ found_then (operation_read (operation_bytes tid epoch n ++ rest)) _ _ (operation_again tid epoch n rest fits)
to_site_again (To.Prepare tid epoch n) rest fits =
    kind_again to_site_reads 3 (operation_bytes tid epoch n ++ rest) (omega arith)
    ∙ found_then (operation_read (operation_bytes tid epoch n ++ rest)) _ _ (operation_again tid epoch n rest fits)
to_site_again (To.Decide tid decision) rest fits =
    kind_again to_site_reads 4 ((tid_bytes tid ++ decision_bytes decision) ++ rest) (omega arith) ∙ decide_again tid decision rest fits

invalid_again : (by : Tid) (key : ℕ) (rest : List ℕ) → FitsTid by → key < 2 ^ 16 → invalid_read ((tid_bytes by ++ number 2 key) ++ rest) ≡ Some (Reply_is.Refused (Because.Invalid by (record { 0 = key })), rest)
unfolding invalid_read
invalid_again by key rest fits low =
    ap invalid_read (append_assoc (tid_bytes by) (number 2 key) rest)
    ∙ tid_then by (number 2 key ++ rest) _ fits
    ∙ number_then 2 key rest _ (omega (arith, low))

reply_again : (reply : Reply) (rest : List ℕ) → FitsReply reply → kind_at reply_reads (reply_bytes reply ++ rest) ≡ Some (reply, rest)
unfolding nothing_at by_read value_at ticket_at
reply_again Reply_is.Done rest fits = kind_again reply_reads 0 rest (omega arith)
reply_again (Reply_is.Value value) rest fits =
    kind_again reply_reads 1 (number 8 value ++ rest) (omega arith) ∙ number_then 8 value rest _ (omega (arith, fits))
reply_again (Reply_is.Ticket ticket) rest fits =
    kind_again reply_reads 2 (number 8 ticket ++ rest) (omega arith) ∙ number_then 8 ticket rest _ (omega (arith, fits))
reply_again (Reply_is.Wait by) rest fits = kind_again reply_reads 3 (tid_bytes by ++ rest) (omega arith) ∙ tid_then by rest _ fits
reply_again (Reply_is.Refused (Because.Die by)) rest fits =
    kind_again reply_reads 4 (tid_bytes by ++ rest) (omega arith) ∙ tid_then by rest _ fits
reply_again (Reply_is.Refused (Because.Late by)) rest fits =
    kind_again reply_reads 5 (tid_bytes by ++ rest) (omega arith) ∙ tid_then by rest _ fits
reply_again (Reply_is.Refused (Because.Invalid by key)) rest fits =
    kind_again reply_reads 6 ((tid_bytes by ++ number 2 key.0) ++ rest) (omega arith) ∙ invalid_again by key.0 rest fits.0 fits.1
reply_again (Reply_is.Refused (Because.TicketMoved by)) rest fits =
    kind_again reply_reads 7 (tid_bytes by ++ rest) (omega arith) ∙ tid_then by rest _ fits
reply_again Reply_is.Unknown rest fits = kind_again reply_reads 8 rest (omega arith)

did_again : (tid : Tid) (epoch n : ℕ) (reply : Reply) (rest : List ℕ) → FitsOperation tid epoch n → FitsReply reply → did_read ((operation_bytes tid epoch n ++ reply_bytes reply) ++ rest) ≡ Some (From.Did tid epoch n reply, rest)
unfolding did_read
did_again tid epoch n reply rest fits replies =
    ap did_read (append_assoc (operation_bytes tid epoch n) (reply_bytes reply) rest)
    ∙ found_then (operation_read (operation_bytes tid epoch n ++ (reply_bytes reply ++ rest))) _ _ (operation_again tid epoch n (reply_bytes reply ++ rest) fits)
    ∙ found_then (kind_at reply_reads (reply_bytes reply ++ rest)) (reply, rest) _ (reply_again reply rest replies)

votes_again : (tid : Tid) (vote : Option ℕ) (rest : List ℕ) → FitsTid tid → IsVote vote → vote_read ((tid_bytes tid ++ vote_bytes vote) ++ rest) ≡ Some (From.Vote tid vote, rest)
unfolding vote_read
votes_again tid vote rest fits votes =
    ap vote_read (append_assoc (tid_bytes tid) (vote_bytes vote) rest)
    ∙ tid_then tid (vote_bytes vote ++ rest) _ fits
    ∙ found_then (vote_at (vote_bytes vote ++ rest)) (vote, rest) _ (vote_again vote rest votes)

from_site_again : (message : FromSite) (rest : List ℕ) → FitsFromSite message → kind_at from_site_reads (from_site_bytes message ++ rest) ≡ Some (message, rest)
unfolding by_read
from_site_again (From.Did tid epoch n reply) rest fits =
    kind_again from_site_reads 1 ((operation_bytes tid epoch n ++ reply_bytes reply) ++ rest) (omega arith) ∙ did_again tid epoch n reply rest fits.0 fits.1
from_site_again (From.Vote tid vote) rest fits =
    kind_again from_site_reads 2 ((tid_bytes tid ++ vote_bytes vote) ++ rest) (omega arith) ∙ votes_again tid vote rest fits.0 fits.1
from_site_again (From.Ack tid) rest fits = kind_again from_site_reads 3 (tid_bytes tid ++ rest) (omega arith) ∙ tid_then tid rest _ fits
from_site_again (From.Inquiry tid) rest fits = kind_again from_site_reads 4 (tid_bytes tid ++ rest) (omega arith) ∙ tid_then tid rest _ fits

-- ---- what is in range fits its bytes

tid_fits : (tid : Tid) → IsTid tid → FitsTid tid
tid_fits tid h = let most = h.greatest in let few = h.attempts in record { tx = omega (arith, most); attempts = omega (arith, few) }

operation_fits : (tid : Tid) (epoch n : ℕ) → IsOperation tid epoch n → FitsOperation tid epoch n
operation_fits tid epoch n h = record { attempt = tid_fits tid h.attempt; epochs = h.epochs; count = h.count }

to_site_fits : (message : ToSite) → IsToSite message → FitsToSite message
to_site_fits (To.Work tid epoch n act) h = (operation_fits tid epoch n h.0, h.1)
to_site_fits (To.Take tid epoch n) h = operation_fits tid epoch n h
to_site_fits (To.Prepare tid epoch n) h = operation_fits tid epoch n h
to_site_fits (To.Decide tid decision) h = tid_fits tid h

why_fits : (why : Why) → IsWhy why → FitsWhy why
why_fits (Because.Die by) h = tid_fits by h
why_fits (Because.Late by) h = tid_fits by h
why_fits (Because.Invalid by key) h = (tid_fits by h.0, h.1)
why_fits (Because.TicketMoved by) h = tid_fits by h

reply_fits : (reply : Reply) → IsReply reply → FitsReply reply
reply_fits Reply_is.Done h = tt
reply_fits (Reply_is.Value value) h = h
reply_fits (Reply_is.Ticket ticket) h = h
reply_fits (Reply_is.Wait by) h = tid_fits by h
reply_fits (Reply_is.Refused why) h = why_fits why h
reply_fits Reply_is.Unknown h = tt

from_site_fits : (message : FromSite) → IsFromSite message → FitsFromSite message
from_site_fits (From.Did tid epoch n reply) h = (operation_fits tid epoch n h.0, reply_fits reply h.1)
from_site_fits (From.Vote tid vote) h = (tid_fits tid h.0, h.1)
from_site_fits (From.Ack tid) h = tid_fits tid h
from_site_fits (From.Inquiry tid) h = tid_fits tid h

-- ---- envelopes

-- two numbers of so many bytes that begin the same text are one
number_same : (n x y : ℕ) (r s : List ℕ) → x < 256 ^ n → y < 256 ^ n → number n x ++ r ≡ number n y ++ s → (x ≡ y) × (r ≡ s)
number_same n x y r s low less e =
    let both : (x, r) ≡ (y, s) = same_Some (x, r) (y, s) (sym (number_again n x r low) ∙ ap (number_at n) e ∙ number_again n y s less) in
    (ap (λ (p : ℕ × List ℕ). p.0) both, ap (λ (p : ℕ × List ℕ). p.1) both)

module _ {M : Type 0} (bytes : M → List ℕ) (FitsMessage IsMessage : M → Type 0) (read : List ℕ → Reading M) where
  -- where messages are read again, an envelope has the bytes of one alone
  one_envelope : ((message : M) (rest : List ℕ) → FitsMessage message → read (bytes message ++ rest) ≡ Some (message, rest)) → ((message : M) → IsMessage message → FitsMessage message)
      → (x e : Envelope M) → IsEnvelope FitsMessage x → IsEnvelope IsMessage e → envelope_bytes bytes x ≡ envelope_bytes bytes e → x ≡ e
  one_envelope again fitting x e fits in_range same =
      let x_index = fits.index in
      let e_index = in_range.index in
      let x_stamp = fits.stamp in
      let e_stamp = in_range.stamp in
      let first = number_same 4 x.index e.index (number 8 x.stamp ++ bytes x.message) (number 8 e.stamp ++ bytes e.message) (omega (arith, x_index)) (omega (arith, e_index)) same in
      let second = number_same 8 x.stamp e.stamp (bytes x.message) (bytes e.message) (omega (arith, x_stamp)) (omega (arith, e_stamp)) first.1 in
      let whole : (m : M) → FitsMessage m → read (bytes m) ≡ Some (m, []) = λ m f. ap read (sym (append-nil (bytes m))) ∙ again m [] f in
      let both : (x.message, []) ≡ (e.message, []) = same_Some _ _ (sym (whole x.message fits.message) ∙ ap read second.1 ∙ whole e.message (fitting e.message in_range.message)) in
      let message : x.message ≡ e.message = ap (λ (p : M × List ℕ). p.0) both in
      ap (λ (n : ℕ). let v : Envelope M = record { index = n; stamp = x.stamp; message = x.message } in v) first.0
      ∙ ap (λ (n : ℕ). let v : Envelope M = record { index = e.index; stamp = n; message = x.message } in v) second.0
      ∙ ap (λ (m : M). let v : Envelope M = record { index = e.index; stamp = e.stamp; message = m } in v) message

-- so it is of messages to a site
pub one_to_site : (x e : Envelope ToSite) → IsEnvelope FitsToSite x → IsEnvelope IsToSite e → envelope_bytes to_site_bytes x ≡ envelope_bytes to_site_bytes e → x ≡ e
one_to_site = one_envelope to_site_bytes FitsToSite IsToSite (kind_at to_site_reads) to_site_again to_site_fits

-- and from one
pub one_from_site : (x e : Envelope FromSite) → IsEnvelope FitsFromSite x → IsEnvelope IsFromSite e → envelope_bytes from_site_bytes x ≡ envelope_bytes from_site_bytes e → x ≡ e
one_from_site = one_envelope from_site_bytes FitsFromSite IsFromSite (kind_at from_site_reads) from_site_again from_site_fits
