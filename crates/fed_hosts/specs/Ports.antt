-- The coordinator's ends of the rings to and from the sites, and what is put into them.
use Rattle.std.specs.Prelude.{ℕ, ◌≡◌, ◌<◌, ◌^◌, ◌++◌, Option, Some, List, length, map, option_to_list, slice_get}
use Rattle.std.specs.Vec.{vec_len, vec_capacity}
use Rattle.mdb_base.specs.Words.{Each, found, map_some}
use Rattle.fed_rules.specs.declared.commands.Place.{Place}
use Rattle.fed_rules.specs.declared.messages.Sent.{Sent}
use Rattle.session_routes.specs.Posting.{message_to}
use Rattle.fed_messages.specs.declared.Packet.{Packet}
use Rattle.scripted_link.specs.Inlets.{empty_count, returned, taken}
use Rattle.scripted_link.specs.Outlets.{HasMovedOn, IsReserved, offered, outlet_wire}
use Rattle.fed_hosts.specs.declared.ports.Port.{Port}
use Rattle.host_laws.specs.CoordLines.{packets_to}
use Rattle.host_laws.specs.Written.{FitsToSite}

-- each item becomes the one at its place
pub record EachBecomes {A : Type 0} (R : ℕ → A → A → Type 0) (old new : List A) : Type 0 where
  pub count : length new ≡ length old
  pub each : (place : ℕ) (a b : A) → slice_get old place ≡ Some a → slice_get new place ≡ Some b → R place a b

-- the numbers of each message to the port's site have their bytes
abbrev pub IsWritten : Port → Type 0
IsWritten port = Each FitsToSite port.to.items

-- one message has room
pub record HasPortRoom (port : Port) : Type 0 where
  pub sent : vec_len port.to < vec_capacity port.to
  pub outlet : IsReserved port.ends.outlet

-- nothing but room changed, or what moved on at the outlet
pub record IsSamePort (old new : Port) : Type 0 where
  pub site : new.ends.site ≡ old.ends.site
  pub inlet : new.ends.inlet ≡ old.ends.inlet
  pub wire : outlet_wire new.ends.outlet ≡ outlet_wire old.ends.outlet
  pub offers : offered new.ends.outlet ≡ offered old.ends.outlet
  pub moved_on : HasMovedOn old.ends.outlet → HasMovedOn new.ends.outlet
  pub sent : new.to.items ≡ old.to.items

-- the port with what a line with this stamp sends to its site
pub record IsPosted (sends : List Sent) (stamp : ℕ) (old new : Port) : Type 0 where
  pub site : new.ends.site ≡ old.ends.site
  pub inlet : new.ends.inlet ≡ old.ends.inlet
  pub wire : outlet_wire new.ends.outlet ≡ outlet_wire old.ends.outlet
  pub offers : offered new.ends.outlet ≡ offered old.ends.outlet ++ packets_to (length old.to.items) stamp (option_to_list (message_to old.ends.site sends))
  pub sent : new.to.items ≡ old.to.items ++ option_to_list (message_to old.ends.site sends)

-- the port's site and rings stay, and its inlet
pub record IsBesidePort (old new : Port) : Type 0 where
  pub site : new.ends.site ≡ old.ends.site
  pub inlet : new.ends.inlet ≡ old.ends.inlet
  pub wire : outlet_wire new.ends.outlet ≡ outlet_wire old.ends.outlet

-- so it is with each port
abbrev pub AreSamePorts : List Port → List Port → Type 0
AreSamePorts old new = EachBecomes (λ place a b. IsSamePort a b) old new

abbrev pub ArePosted : List Sent → ℕ → List Port → List Port → Type 0
ArePosted sends stamp old new = EachBecomes (λ place a b. IsPosted sends stamp a b) old new

abbrev pub AreBesidePorts : List Port → List Port → Type 0
AreBesidePorts old new = EachBecomes (λ place a b. IsBesidePort a b) old new

abbrev pub HavePortRoom : List Port → Type 0
HavePortRoom ports = (place : ℕ) (port : Port) → slice_get ports place ≡ Some port → HasPortRoom port

-- no packet waits at a port's outlet while a slot of its ring is known to be free
abbrev pub HaveMovedOn : List Port → Type 0
HaveMovedOn ports = (place : ℕ) (port : Port) → slice_get ports place ≡ Some port → HasMovedOn port.ends.outlet

abbrev pub HaveFewSent : List Port → Type 0
HaveFewSent ports = (place : ℕ) (port : Port) → slice_get ports place ≡ Some port → length port.to.items < 2 ^ 32

-- the place that a message to the port's site gets, where one is sent
abbrev pub place_at : List Sent → Port → Option Place
place_at sends port = map_some (λ message. record { site = port.ends.site; place = length port.to.items }) (message_to port.ends.site sends)

-- the places of what is sent, in the order of the ports
abbrev pub places_at : List Sent → List Port → List Place
places_at sends ports = found (place_at sends) ports

-- these places with that one behind them, where there is one
abbrev pub places_behind : List Place → Option Place → List Place
places_behind places place = places ++ option_to_list place

-- the packets that were taken from each site, by rising site
abbrev pub tooks_of : List Port → List (List Packet)
tooks_of ports = map (λ (port : Port). taken port.ends.inlet) ports

-- the packets that were put back, by rising site
abbrev pub backs_of : List Port → List (Option Packet)
backs_of ports = map (λ (port : Port). returned port.ends.inlet) ports

-- how often each inlet gave none
abbrev pub empties_of : List Port → List ℕ
empties_of ports = map (λ (port : Port). empty_count port.ends.inlet) ports
