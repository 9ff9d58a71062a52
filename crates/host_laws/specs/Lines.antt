-- The stamps of lines, and what goes over the wire of what they send.
use Rattle.std.specs.Prelude.{ℕ, suc, max, List, map, Option, Some, None}
use Rattle.fed_rules.specs.declared.messages.FromSite.{FromSite}
use Rattle.fed_messages.specs.declared.Envelope.{Envelope}
use Rattle.fed_messages.specs.declared.Packet.{Packet}
use Rattle.fed_messages.specs.Packets.{envelope_bytes, packet_of}
use Rattle.fed_messages.specs.Spelling.{from_site_bytes}

-- the stamp of a message that is taken, 0 where none is
abbrev pub stamp_of : {M : Type 0} → Option (Envelope M) → ℕ
stamp_of None = 0
stamp_of (Some envelope) = envelope.stamp

-- the stamp of a line: one more than the last stamp of its host and than that of the message that it takes (Lamport 1978)
abbrev pub next_stamp : ℕ → ℕ → ℕ
next_stamp last after = suc (max last after)

-- a message with its number and the stamp of its line, as a packet
abbrev pub packet_from : ℕ → ℕ → FromSite → Packet
packet_from index stamp message = packet_of (envelope_bytes from_site_bytes (record { index = index; stamp = stamp; message = message }))

-- what a line sends, as packets
abbrev pub packets_at : ℕ → ℕ → List FromSite → List Packet
packets_at index stamp messages = map (packet_from index stamp) messages
