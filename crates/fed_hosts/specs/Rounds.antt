-- What a round of the coordinator's inlets leaves.
use Rattle.std.specs.Prelude.{ℕ, ◌≡◌, ◌==◌, ◌≤◌, ◌<◌, ◌+◌, ◌-◌, ◌^◌, ◌⊎◌, ◌++◌, cond, min, Option, Some, None, List, length, option_to_list, slice_get}
use Rattle.fed_messages.specs.declared.Packet.{Packet}
use Rattle.scripted_link.specs.Inlets.{empty_count, inlet_ring, returned, taken}
use Rattle.fed_hosts.specs.declared.ports.Port.{Port}
use Rattle.fed_hosts.specs.declared.rounds.Arrived.{Arrived}
use Rattle.fed_hosts.specs.Ports.{EachBecomes}

-- the packet that came in at this place
abbrev pub arrived_at : Option Arrived → ℕ → Option Packet
arrived_at None place = None
arrived_at (Some arrived) place = cond (place == arrived.place) (Some arrived.packet) None

-- all but the port's inlet stays
pub record IsBesideInlet (old new : Port) : Type 0 where
  pub site : new.ends.site ≡ old.ends.site
  pub outlet : new.ends.outlet ≡ old.ends.outlet
  pub sent : new.to ≡ old.to
  pub ring : inlet_ring new.ends.inlet ≡ inlet_ring old.ends.inlet

-- the port's inlet gave this packet, or none
pub record IsPolled (gave : Option Packet) (old new : Port) : Type 0 where
  pub beside : IsBesideInlet old new
  pub took : taken new.ends.inlet ≡ taken old.ends.inlet ++ option_to_list gave

-- so it is with each port, of which one may have given the packet that came in
abbrev pub ArePolled : Option Arrived → List Port → List Port → Type 0
ArePolled arrived old new = EachBecomes (λ place a b. IsPolled (arrived_at arrived place) a b) old new

-- the port whose inlet gave the packet is one of these, and has put none back
pub record HasArrived (ports : List Port) (arrived : Arrived) : Type 0 where
  pub within : arrived.place < length ports
  pub kept : (port : Port) → slice_get ports arrived.place ≡ Some port → returned port.ends.inlet ≡ None

-- each inlet from one place to another was asked once and gave none, and no other was asked
pub record HaveGivenNone (from to : ℕ) (old new : List Port) : Type 0 where
  pub asked : (place : ℕ) (a b : Port) → from ≤ place → place < to → slice_get old place ≡ Some a → slice_get new place ≡ Some b
      → empty_count b.ends.inlet ≡ min (empty_count a.ends.inlet + 1) (2 ^ 64 - 1)
  pub left : (place : ℕ) (a b : Port) → (place < from) ⊎ (to ≤ place) → slice_get old place ≡ Some a → slice_get new place ≡ Some b → empty_count b.ends.inlet ≡ empty_count a.ends.inlet

-- the inlet at this place, between those two, gave a packet, and each one from the first of them to it gave none
pub record HasComeFrom (from to place : ℕ) (old new : List Port) : Type 0 where
  pub low : from ≤ place
  pub high : place < to
  pub none : HaveGivenNone from place old new

-- the port's inlet has this packet again, where it gave it
pub record IsPutBack (gave : Option Packet) (old new : Port) : Type 0 where
  pub beside : IsBesideInlet old new
  pub took : taken old.ends.inlet ≡ taken new.ends.inlet ++ option_to_list gave

abbrev pub ArePutBack : Arrived → List Port → List Port → Type 0
ArePutBack arrived old new = EachBecomes (λ place a b. IsPutBack (arrived_at (Some arrived) place) a b) old new
