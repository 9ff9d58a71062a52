-- What goes over the wire of what the lines of the coordinator's host send.
use Rattle.std.specs.Prelude.{ℕ, List, map}
use Rattle.fed_rules.specs.declared.messages.ToSite.{ToSite}
use Rattle.fed_messages.specs.declared.Packet.{Packet}
use Rattle.fed_messages.specs.Packets.{envelope_bytes, packet_of}
use Rattle.fed_messages.specs.Spelling.{to_site_bytes}

-- a message with its number and the stamp of its line, as a packet
abbrev pub packet_to : ℕ → ℕ → ToSite → Packet
packet_to index stamp message = packet_of (envelope_bytes to_site_bytes (record { index = index; stamp = stamp; message = message }))

-- what a line sends to one site, as packets
abbrev pub packets_to : ℕ → ℕ → List ToSite → List Packet
packets_to index stamp messages = map (packet_to index stamp) messages
