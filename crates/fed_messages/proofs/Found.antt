-- What is read is spelled so, and in range.
use Rattle.std.proofs.Common.{◌≡◌, ℕ, List, ◌++◌, Option, Some, None, refl, sym, ap, subst, ◌∙◌}
use Rattle.std.proofs.lemmas.Bool.{eqb-true}
use Rattle.std.proofs.lemmas.List.{append-nil, nil_from_length}
use Rattle.std.proofs.lemmas.Option.{same_Some}
use Rattle.byte_numbers.specs.Numbers.{IsBytes, number}
use Rattle.byte_numbers.proofs.ForCallers.{Takes, number_takes}
use Rattle.field_bytes.specs.Fields.{IsTid, tid_bytes, decision_bytes}
use Rattle.field_bytes.proofs.ForCallers.{bind_some, decision_takes, takes_both, tested_some, tid_takes}
use Rattle.mdb_base.specs.declared.acts.PlainAct.{PlainAct}
use Rattle.mdb_base.specs.declared.names.Tid.{Tid}
use Rattle.mdb_base.specs.declared.replies.Reply.{Reply}
use Rattle.mdb_base.specs.declared.replies.Reply.TheVariants as Reply_is
use Rattle.mdb_base.specs.declared.replies.Why.TheVariants as Because
use Rattle.fed_rules.specs.declared.messages.FromSite.{FromSite}
use Rattle.fed_rules.specs.declared.messages.FromSite.TheVariants as From
use Rattle.fed_rules.specs.declared.messages.ToSite.{ToSite}
use Rattle.fed_messages.specs.declared.reading.Operation.{Operation}
use Rattle.fed_messages.specs.declared.Envelope.{Envelope}
use Rattle.fed_messages.specs.Packets.{IsEnvelope, envelope_bytes}
use Rattle.fed_messages.specs.Spelling.{act_bytes, operation_bytes, to_site_bytes, reply_bytes, vote_bytes, from_site_bytes, IsAct, IsOperation, IsToSite, IsReply, IsVote, IsFromSite}
use Rattle.fed_messages.specs.Reading.{Reading, act_at, act_kinds, read_at, write_at, operation_at, work_at, take_at, prepare_at, decide_at, to_site_at, to_site_kinds, by_at, nothing_at, value_at, ticket_at, invalid_at, reply_at, reply_kinds, yes_at, vote_at, vote_kinds, did_at, votes_at, from_site_at, from_site_kinds, envelope_of}
use Rattle.fed_messages.proofs.ByKind.{Reads, KindIs, kind_at-reads, takes_behind}

read_found : KindIs act_bytes IsAct (1, read_at)
unfolding read_at
read_found rest found fits e =
    let first = bind_some _ _ _ e in
    let key = number_takes 2 rest first.0 fits first.1 in
    subst (Reads act_bytes IsAct (number 1 1 ++ rest)) (same_Some _ found first.2)
    (takes_behind (number 1 1) rest (number 2 first.0.0) first.0.1 key.0, key.1)

write_found : KindIs act_bytes IsAct (2, write_at)
unfolding write_at
write_found rest found fits e =
    let first = bind_some _ _ _ e in
    let key = number_takes 2 rest first.0 fits first.1 in
    let second = bind_some _ _ _ first.2 in
    let value = number_takes 8 first.0.1 second.0 key.0.fits second.1 in
    subst (Reads act_bytes IsAct (number 1 2 ++ rest)) (same_Some _ found second.2)
    (takes_behind (number 1 2) rest (number 2 first.0.0 ++ number 8 second.0.0) second.0.1 (takes_both rest (number 2 first.0.0) first.0.1 (number 8 second.0.0) second.0.1 key.0 value.0), (key.1, value.1))

pub act_found : (bytes : List ℕ) (found : PlainAct × List ℕ) → IsBytes bytes → act_at bytes ≡ Some found → Reads act_bytes IsAct bytes found
unfolding act_at
act_found = kind_at-reads act_bytes IsAct act_kinds (read_found, (write_found, tt))

-- an operation that was read
abbrev IsRead : Operation → Type 0
IsRead operation = IsOperation operation.tid operation.epoch operation.n

abbrev text_of : Operation → List ℕ
text_of operation = operation_bytes operation.tid operation.epoch operation.n

operation_found : (bytes : List ℕ) (found : Operation × List ℕ) → IsBytes bytes → operation_at bytes ≡ Some found → Reads text_of IsRead bytes found
unfolding operation_at
operation_found bytes found fits e =
    let first = bind_some _ _ _ e in
    let tid = tid_takes bytes first.0 fits first.1 in
    let second = bind_some _ _ _ first.2 in
    let epoch = number_takes 4 first.0.1 second.0 tid.0.fits second.1 in
    let third = bind_some _ _ _ second.2 in
    let n = number_takes 1 second.0.1 third.0 epoch.0.fits third.1 in
    let both = takes_both first.0.1 (number 4 second.0.0) second.0.1 (number 1 third.0.0) third.0.1 epoch.0 n.0 in
    subst (Reads text_of IsRead bytes) (same_Some _ found third.2)
    (takes_both bytes (tid_bytes first.0.0) first.0.1 (number 4 second.0.0 ++ number 1 third.0.0) third.0.1 tid.0 both, record { attempt = tid.1; epochs = epoch.1; count = n.1 })

work_found : KindIs to_site_bytes IsToSite (1, work_at)
unfolding work_at
work_found rest found fits e =
    let first = bind_some _ _ _ e in
    let operation = operation_found rest first.0 fits first.1 in
    let second = bind_some _ _ _ first.2 in
    let act = act_found first.0.1 second.0 operation.0.fits second.1 in
    subst (Reads to_site_bytes IsToSite (number 1 1 ++ rest)) (same_Some _ found second.2)
    (takes_behind (number 1 1) rest (text_of first.0.0 ++ act_bytes second.0.0) second.0.1 (takes_both rest (text_of first.0.0) first.0.1 (act_bytes second.0.0) second.0.1 operation.0 act.0), (operation.1, act.1))

take_found : KindIs to_site_bytes IsToSite (2, take_at)
unfolding take_at
take_found rest found fits e =
    let first = bind_some _ _ _ e in
    let operation = operation_found rest first.0 fits first.1 in
    subst (Reads to_site_bytes IsToSite (number 1 2 ++ rest)) (same_Some _ found first.2)
    (takes_behind (number 1 2) rest (text_of first.0.0) first.0.1 operation.0, operation.1)

prepare_found : KindIs to_site_bytes IsToSite (3, prepare_at)
unfolding prepare_at
prepare_found rest found fits e =
    let first = bind_some _ _ _ e in
    let operation = operation_found rest first.0 fits first.1 in
    subst (Reads to_site_bytes IsToSite (number 1 3 ++ rest)) (same_Some _ found first.2)
    (takes_behind (number 1 3) rest (text_of first.0.0) first.0.1 operation.0, operation.1)

decide_found : KindIs to_site_bytes IsToSite (4, decide_at)
unfolding decide_at
decide_found rest found fits e =
    let first = bind_some _ _ _ e in
    let tid = tid_takes rest first.0 fits first.1 in
    let second = bind_some _ _ _ first.2 in
    let decision = decision_takes first.0.1 second.0 tid.0.fits second.1 in
    subst (Reads to_site_bytes IsToSite (number 1 4 ++ rest)) (same_Some _ found second.2)
    (takes_behind (number 1 4) rest (tid_bytes first.0.0 ++ decision_bytes second.0.0) second.0.1 (takes_both rest (tid_bytes first.0.0) first.0.1 (decision_bytes second.0.0) second.0.1 tid.0 decision), tid.1)

pub to_site_found : (bytes : List ℕ) (found : ToSite × List ℕ) → IsBytes bytes → to_site_at bytes ≡ Some found → Reads to_site_bytes IsToSite bytes found
unfolding to_site_at
to_site_found = kind_at-reads to_site_bytes IsToSite to_site_kinds (work_found, (take_found, (prepare_found, (decide_found, tt))))

-- an attempt behind a first byte
by_found : {A : Type 0} (text : A → List ℕ) (Is : A → Type 0) (made : Tid → A) (kind : ℕ) → ((tid : Tid) → text (made tid) ≡ number 1 kind ++ tid_bytes tid) → ((tid : Tid) → IsTid tid → Is (made tid)) → KindIs text Is (kind, by_at made)
unfolding by_at
by_found text Is made kind spelled fine rest found fits e =
    let first = bind_some _ _ _ e in
    let tid = tid_takes rest first.0 fits first.1 in
    subst (Reads text Is (number 1 kind ++ rest)) (same_Some _ found first.2)
    (subst (λ t. Takes (number 1 kind ++ rest) t first.0.1) (sym (spelled first.0.0)) (takes_behind (number 1 kind) rest (tid_bytes first.0.0) first.0.1 tid.0), fine first.0.0 tid.1)

-- nothing behind a first byte
nothing_found : {A : Type 0} (text : A → List ℕ) (Is : A → Type 0) (meant : A) (kind : ℕ) → text meant ≡ number 1 kind → Is meant → KindIs text Is (kind, nothing_at meant)
unfolding nothing_at
nothing_found text Is meant kind spelled fine rest found fits e =
    subst (Reads text Is (number 1 kind ++ rest)) (same_Some _ found e)
    (record { parts = ap (λ t. t ++ rest) (sym spelled); fits = fits }, fine)

value_found : KindIs reply_bytes IsReply (1, value_at)
unfolding value_at
value_found rest found fits e =
    let first = bind_some _ _ _ e in
    let value = number_takes 8 rest first.0 fits first.1 in
    subst (Reads reply_bytes IsReply (number 1 1 ++ rest)) (same_Some _ found first.2)
    (takes_behind (number 1 1) rest (number 8 first.0.0) first.0.1 value.0, value.1)

ticket_found : KindIs reply_bytes IsReply (2, ticket_at)
unfolding ticket_at
ticket_found rest found fits e =
    let first = bind_some _ _ _ e in
    let ticket = number_takes 8 rest first.0 fits first.1 in
    subst (Reads reply_bytes IsReply (number 1 2 ++ rest)) (same_Some _ found first.2)
    (takes_behind (number 1 2) rest (number 8 first.0.0) first.0.1 ticket.0, ticket.1)

invalid_found : KindIs reply_bytes IsReply (6, invalid_at)
unfolding invalid_at
invalid_found rest found fits e =
    let first = bind_some _ _ _ e in
    let by = tid_takes rest first.0 fits first.1 in
    let second = bind_some _ _ _ first.2 in
    let key = number_takes 2 first.0.1 second.0 by.0.fits second.1 in
    subst (Reads reply_bytes IsReply (number 1 6 ++ rest)) (same_Some _ found second.2)
    (takes_behind (number 1 6) rest (tid_bytes first.0.0 ++ number 2 second.0.0) second.0.1 (takes_both rest (tid_bytes first.0.0) first.0.1 (number 2 second.0.0) second.0.1 by.0 key.0), (by.1, key.1))

reply_found : (bytes : List ℕ) (found : Reply × List ℕ) → IsBytes bytes → reply_at bytes ≡ Some found → Reads reply_bytes IsReply bytes found
unfolding reply_at
reply_found =
    kind_at-reads reply_bytes IsReply reply_kinds (
      nothing_found reply_bytes IsReply Reply_is.Done 0 refl tt,
      (
        value_found,
        (
          ticket_found,
          (
            by_found reply_bytes IsReply (λ by. Reply_is.Wait by) 3 (λ tid. refl) (λ tid h. h),
            (
              by_found reply_bytes IsReply (λ by. Reply_is.Refused (Because.Die by)) 4 (λ tid. refl) (λ tid h. h),
              (
                by_found reply_bytes IsReply (λ by. Reply_is.Refused (Because.Late by)) 5 (λ tid. refl) (λ tid h. h),
                (
                  invalid_found,
                  (
                    by_found reply_bytes IsReply (λ by. Reply_is.Refused (Because.TicketMoved by)) 7 (λ tid. refl) (λ tid h. h),
                    (nothing_found reply_bytes IsReply Reply_is.Unknown 8 refl tt, tt),
                  ),
                ),
              ),
            ),
          ),
        ),
      ),
    )

yes_found : KindIs vote_bytes IsVote (1, yes_at)
unfolding yes_at
yes_found rest found fits e =
    let first = bind_some _ _ _ e in
    let ticket = number_takes 8 rest first.0 fits first.1 in
    subst (Reads vote_bytes IsVote (number 1 1 ++ rest)) (same_Some _ found first.2)
    (takes_behind (number 1 1) rest (number 8 first.0.0) first.0.1 ticket.0, ticket.1)

vote_found : (bytes : List ℕ) (found : Option ℕ × List ℕ) → IsBytes bytes → vote_at bytes ≡ Some found → Reads vote_bytes IsVote bytes found
unfolding vote_at
vote_found = kind_at-reads vote_bytes IsVote vote_kinds (nothing_found vote_bytes IsVote None 0 refl tt, (yes_found, tt))

did_found : KindIs from_site_bytes IsFromSite (1, did_at)
unfolding did_at
did_found rest found fits e =
    let first = bind_some _ _ _ e in
    let operation = operation_found rest first.0 fits first.1 in
    let second = bind_some _ _ _ first.2 in
    let reply = reply_found first.0.1 second.0 operation.0.fits second.1 in
    subst (Reads from_site_bytes IsFromSite (number 1 1 ++ rest)) (same_Some _ found second.2)
    (takes_behind (number 1 1) rest (text_of first.0.0 ++ reply_bytes second.0.0) second.0.1 (takes_both rest (text_of first.0.0) first.0.1 (reply_bytes second.0.0) second.0.1 operation.0 reply.0), (operation.1, reply.1))

votes_found : KindIs from_site_bytes IsFromSite (2, votes_at)
unfolding votes_at
votes_found rest found fits e =
    let first = bind_some _ _ _ e in
    let tid = tid_takes rest first.0 fits first.1 in
    let second = bind_some _ _ _ first.2 in
    let vote = vote_found first.0.1 second.0 tid.0.fits second.1 in
    subst (Reads from_site_bytes IsFromSite (number 1 2 ++ rest)) (same_Some _ found second.2)
    (takes_behind (number 1 2) rest (tid_bytes first.0.0 ++ vote_bytes second.0.0) second.0.1 (takes_both rest (tid_bytes first.0.0) first.0.1 (vote_bytes second.0.0) second.0.1 tid.0 vote.0), (tid.1, vote.1))

pub from_site_found : (bytes : List ℕ) (found : FromSite × List ℕ) → IsBytes bytes → from_site_at bytes ≡ Some found → Reads from_site_bytes IsFromSite bytes found
unfolding from_site_at
from_site_found =
    kind_at-reads from_site_bytes IsFromSite from_site_kinds (
      did_found,
      (
        votes_found,
        (
          by_found from_site_bytes IsFromSite (λ tid. From.Ack tid) 3 (λ tid. refl) (λ tid h. h),
          (by_found from_site_bytes IsFromSite (λ tid. From.Inquiry tid) 4 (λ tid. refl) (λ tid h. h), tt),
        ),
      ),
    )

-- an envelope that was read is all of the bytes
pub envelope_found : {M : Type 0} (message_bytes : M → List ℕ) (IsMessage : M → Type 0) (message_at : List ℕ → Reading M) → ((bytes : List ℕ) (found : M × List ℕ) → IsBytes bytes → message_at bytes ≡ Some found → Reads message_bytes IsMessage bytes found) → (bytes : List ℕ) (envelope : Envelope M) → IsBytes bytes → envelope_of message_at bytes ≡ Some envelope → (bytes ≡ envelope_bytes message_bytes envelope) × IsEnvelope IsMessage envelope
unfolding envelope_of
envelope_found {M} message_bytes IsMessage message_at by_message bytes envelope fits e =
    let first = bind_some _ _ _ e in
    let index = number_takes 4 bytes first.0 fits first.1 in
    let second = bind_some _ _ _ first.2 in
    let stamp = number_takes 8 first.0.1 second.0 index.0.fits second.1 in
    let third = bind_some _ _ _ second.2 in
    let message = by_message second.0.1 third.0 stamp.0.fits third.1 in
    let tested = tested_some _ _ _ third.2 in
    let text = number 4 first.0.0 ++ (number 8 second.0.0 ++ message_bytes third.0.0) in
    let all = takes_both bytes (number 4 first.0.0) first.0.1 (number 8 second.0.0 ++ message_bytes third.0.0) third.0.1 index.0
    (takes_both first.0.1 (number 8 second.0.0) second.0.1 (message_bytes third.0.0) third.0.1 stamp.0 message.0) in
    let nothing_left = nil_from_length third.0.1 (eqb-true _ _ tested.0) in
    subst (λ (v : Envelope M). (bytes ≡ envelope_bytes message_bytes v) × IsEnvelope IsMessage v) (same_Some _ envelope tested.1)
    (all.parts ∙ ap (λ r. text ++ r) nothing_left ∙ append-nil text, record { index = index.1; stamp = stamp.1; message = message.1 })
