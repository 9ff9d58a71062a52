-- The packets that a site's host takes: each bears an envelope for the site, or is left aside.
use Rattle.std.specs.Prelude.{◌≡◌, ◌<◌, ◌^◌, Option, Some, None, List, map, reverse}
use Rattle.mdb_base.specs.Words.{Each, found}
use Rattle.fed_rules.specs.declared.messages.ToSite.{ToSite}
use Rattle.fed_messages.specs.declared.Envelope.{Envelope}
use Rattle.fed_messages.specs.declared.Packet.{Packet}
use Rattle.fed_messages.specs.Packets.{IsEnvelope, Spells, envelope_bytes}
use Rattle.fed_messages.specs.Spelling.{IsToSite, to_site_bytes}
use Rattle.fed_rules.specs.OwnPrograms.{OwnPrograms}
use Rattle.fed_rules.specs.Site_of.{about}

-- the packet spells the envelope, whose stamp is small, and whose message is about no transaction of the site's own
pub record Bears (programs : OwnPrograms) (packet : Packet) (envelope : Envelope ToSite) : Type 0 where
  pub in_range : IsEnvelope IsToSite envelope
  pub spelled : Spells packet (envelope_bytes to_site_bytes envelope)
  pub small : envelope.stamp < 2 ^ 62
  pub foreign : programs (about envelope.message).tx ≡ None

-- a packet that was taken, with the envelope that it bears
pub record Taking : Type 0 where
  pub packet : Packet
  pub bears : Option (Envelope ToSite)

-- it bears none exactly where it is left aside
abbrev pub IsRead : OwnPrograms → Packet → Option (Envelope ToSite) → Type 0
IsRead programs packet None = (envelope : Envelope ToSite) → Bears programs packet envelope → ⊥
IsRead programs packet (Some envelope) = Bears programs packet envelope

-- the envelopes, newest first, are those that the packets bear, oldest first, and each is taken by a line
pub record HasHeard (programs : OwnPrograms) (packets : List Packet) (envelopes : List (Envelope ToSite)) : Type 0 where
  pub takings : List Taking
  pub packets_are : packets ≡ reverse (map (λ (taking : Taking). taking.packet) takings)
  pub read : Each (λ (taking : Taking). IsRead programs taking.packet taking.bears) takings
  pub envelopes_are : envelopes ≡ found (λ (taking : Taking). taking.bears) takings
