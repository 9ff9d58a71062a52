-- The number and the stamp that a packet bears, whatever message is in it.
use Rattle.std.proofs.Common.{◌≡◌, ℕ, ◌^◌, ◌<◌, Option, Some, None, List, ◌++◌, length, drop, replicate, ◌-◌, refl, sym, ap, ◌∙◌, arith}
use Rattle.std.proofs.lemmas.List.{append_assoc, drop_at, take_at, take-append-drop}
use Rattle.byte_numbers.specs.Numbers.{number, number_at}
use Rattle.byte_numbers.proofs.ForCallers.{length-number, number_again}
use Rattle.fed_messages.specs.declared.Envelope.{Envelope}
use Rattle.fed_messages.specs.declared.Packet.{Packet}
use Rattle.fed_messages.specs.Packets.{Spells, envelope_bytes, packet_of}

-- the number that was read, 0 where none was
abbrev read_number : Option (ℕ × List ℕ) → ℕ
read_number None = 0
read_number (Some found) = found.0

-- the number in a packet
abbrev pub index_in : Packet → ℕ
index_in packet = read_number (number_at 4 packet.bytes)

-- the stamp in it
abbrev pub stamp_in : Packet → ℕ
stamp_in packet = read_number (number_at 8 (drop 4 packet.bytes))

-- a packet of a text spells it
pub spells_text : (text : List ℕ) → Spells (packet_of text) text
spells_text text = record { count = refl; bytes = take_at text (replicate (40 - length text) 0) (length text) refl }

module _ {M : Type 0} (message_bytes : M → List ℕ) (packet : Packet) (envelope : Envelope M) (spells : Spells packet (envelope_bytes message_bytes envelope)) where
  bytes_are : packet.bytes ≡ number 4 envelope.index ++ ((number 8 envelope.stamp ++ message_bytes envelope.message) ++ drop packet.len packet.bytes)
  bytes_are =
      sym (take-append-drop packet.len packet.bytes)
      ∙ ap (λ (front : List ℕ). front ++ drop packet.len packet.bytes) spells.bytes
      ∙ append_assoc (number 4 envelope.index) (number 8 envelope.stamp ++ message_bytes envelope.message) (drop packet.len packet.bytes)

  behind_index : drop 4 packet.bytes ≡ number 8 envelope.stamp ++ (message_bytes envelope.message ++ drop packet.len packet.bytes)
  behind_index =
      ap (drop 4) bytes_are
      ∙ drop_at (number 4 envelope.index) ((number 8 envelope.stamp ++ message_bytes envelope.message) ++ drop packet.len packet.bytes) 4 (length-number 4 envelope.index)
      ∙ append_assoc (number 8 envelope.stamp) (message_bytes envelope.message) (drop packet.len packet.bytes)

  -- the number in a packet is that of the envelope that it spells
  pub index_spelled : envelope.index < 2 ^ 32 → index_in packet ≡ envelope.index
  index_spelled low =
      ap (λ (bytes : List ℕ). read_number (number_at 4 bytes)) bytes_are
      ∙ ap read_number (number_again 4 envelope.index ((number 8 envelope.stamp ++ message_bytes envelope.message) ++ drop packet.len packet.bytes) (omega (arith, low)))

  -- so is the stamp
  pub stamp_spelled : envelope.stamp < 2 ^ 64 → stamp_in packet ≡ envelope.stamp
  stamp_spelled low =
      ap (λ (bytes : List ℕ). read_number (number_at 8 bytes)) behind_index
      ∙ ap read_number (number_again 8 envelope.stamp (message_bytes envelope.message ++ drop packet.len packet.bytes) (omega (arith, low)))
