-- Packets: how they bear a text, and the envelope round each message.
use Rattle.std.specs.Prelude.{ℕ, ◌≡◌, ◌-◌, ◌^◌, ◌<◌, ◌≤◌, List, ◌++◌, length, take, replicate}
use Rattle.byte_numbers.specs.Numbers.{number}
use Rattle.fed_messages.specs.declared.Envelope.{Envelope}
use Rattle.fed_messages.specs.declared.Packet.{Packet}

-- a packet of so many bytes, and 0 behind the text
abbrev pub packet_of : List ℕ → Packet
packet_of text = record { len = length text; bytes = text ++ replicate (40 - length text) 0 }

-- behind the first bytes, at most 40 of them, each one is 0
pub record IsPadded (len : ℕ) (bytes : List ℕ) : Type 0 where
  pub few : len ≤ 40
  pub zeros : bytes ≡ take len bytes ++ replicate (40 - len) 0

-- the packet's first bytes, as many as its length says, are this text
pub record Spells (packet : Packet) (text : List ℕ) : Type 0 where
  pub count : packet.len ≡ length text
  pub bytes : take packet.len packet.bytes ≡ text

-- index, stamp and message
abbrev pub envelope_bytes : {M : Type 0} → (M → List ℕ) → Envelope M → List ℕ
envelope_bytes message_bytes envelope = number 4 envelope.index ++ (number 8 envelope.stamp ++ message_bytes envelope.message)

-- an envelope whose numbers have their bytes, and whose message is in range
pub record IsEnvelope {M : Type 0} (IsMessage : M → Type 0) (envelope : Envelope M) : Type 0 where
  pub index : envelope.index < 2 ^ 32
  pub stamp : envelope.stamp < 2 ^ 64
  pub message : IsMessage envelope.message
