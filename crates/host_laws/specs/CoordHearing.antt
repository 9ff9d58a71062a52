-- The packets that the coordinator's host takes from a site: each bears an envelope from a site, or is left aside.
use Rattle.std.specs.Prelude.{◌≡◌, ◌<◌, ◌^◌, Option, Some, None, List, map, reverse}
use Rattle.mdb_base.specs.Words.{Each, found}
use Rattle.fed_rules.specs.declared.messages.FromSite.{FromSite}
use Rattle.fed_messages.specs.declared.Envelope.{Envelope}
use Rattle.fed_messages.specs.declared.Packet.{Packet}
use Rattle.fed_messages.specs.Packets.{IsEnvelope, Spells, envelope_bytes}
use Rattle.fed_messages.specs.Spelling.{IsFromSite, from_site_bytes}

-- the packet spells the envelope, whose stamp is small
pub record BearsFrom (packet : Packet) (envelope : Envelope FromSite) : Type 0 where
  pub in_range : IsEnvelope IsFromSite envelope
  pub spelled : Spells packet (envelope_bytes from_site_bytes envelope)
  pub small : envelope.stamp < 2 ^ 62

-- a packet that was taken, with the envelope that it bears
pub record TakingFrom : Type 0 where
  pub packet : Packet
  pub bears : Option (Envelope FromSite)

-- it bears none exactly where it is left aside
abbrev pub IsReadFrom : Packet → Option (Envelope FromSite) → Type 0
IsReadFrom packet None = (envelope : Envelope FromSite) → BearsFrom packet envelope → ⊥
IsReadFrom packet (Some envelope) = BearsFrom packet envelope

-- the envelopes, newest first, are those that the packets bear, oldest first, and each is taken by a line
pub record HasHeardFrom (packets : List Packet) (envelopes : List (Envelope FromSite)) : Type 0 where
  pub takings : List TakingFrom
  pub packets_are : packets ≡ reverse (map (λ (taking : TakingFrom). taking.packet) takings)
  pub read : Each (λ (taking : TakingFrom). IsReadFrom taking.packet taking.bears) takings
  pub envelopes_are : envelopes ≡ found (λ (taking : TakingFrom). taking.bears) takings
