-- Packets as envelopes, both ways.
use Rattle.std.proofs.Common.{◌≡◌, ℕ, ◌≤◌, List, ◌++◌, Option, Some, None, IfSome, length, take, sym, ap, ◌∙◌}
use Rattle.std.proofs.lemmas.List.{length-take-le}
use Rattle.byte_numbers.specs.Numbers.{IsBytes}
use Rattle.fed_messages.specs.declared.Envelope.{Envelope}
use Rattle.fed_messages.specs.declared.Packet.{Packet}
use Rattle.fed_messages.specs.Packets.{IsEnvelope, Spells, envelope_bytes}
use Rattle.fed_messages.specs.Reading.{Reading, envelope_of}
use Rattle.fed_messages.proofs.ByKind.{Reads}
use Rattle.fed_messages.proofs.Again.{envelope_again}
use Rattle.fed_messages.proofs.Found.{envelope_found}

-- an envelope that was read from a packet
pub record IsRead {M : Type 0} (message_bytes : M → List ℕ) (IsMessage : M → Type 0) (packet : Packet) (envelope : Envelope M) : Type 0 where
  pub in_range : IsEnvelope IsMessage envelope
  pub spelled : Spells packet (envelope_bytes message_bytes envelope)

module _ {M : Type 0} (message_bytes : M → List ℕ) (IsMessage : M → Type 0) (message_at : List ℕ → Reading M) (packet : Packet) (text : List ℕ) (front : text ≡ take packet.len packet.bytes) where
  -- what is found is spelled so, and in range
  pub decoded_found : ((bytes : List ℕ) (found : M × List ℕ) → IsBytes bytes → message_at bytes ≡ Some found → Reads message_bytes IsMessage bytes found) → packet.len ≤ length packet.bytes → IsBytes text → (r : Option (Envelope M)) → r ≡ envelope_of message_at text → IfSome r (IsRead message_bytes IsMessage packet)
  decoded_found by_message long fits None e = tt
  decoded_found by_message long fits (Some envelope) e =
      let found = envelope_found message_bytes IsMessage message_at by_message text envelope fits (sym e) in
      record {
        in_range = found.1;
        spelled = record { count = sym (length-take-le packet.len packet.bytes long) ∙ ap length (sym front ∙ found.0); bytes = sym front ∙ found.0 };
      }

  -- what is spelled is found
  pub decoded_only : ((message : M) (rest : List ℕ) → IsMessage message → message_at (message_bytes message ++ rest) ≡ Some (message, rest)) → (r : Option (Envelope M)) → r ≡ envelope_of message_at text → (envelope : Envelope M) → IsEnvelope IsMessage envelope → Spells packet (envelope_bytes message_bytes envelope) → r ≡ Some envelope
  decoded_only by_message r e envelope fits spells =
      e ∙ ap (envelope_of message_at) (front ∙ spells.bytes) ∙ envelope_again message_bytes IsMessage message_at by_message envelope fits
