-- What contracts see of an outlet.
use Rattle.std.specs.Prelude.{ℕ, ◌≡◌, ◌+◌, ◌<◌, ◌≤◌, ◌⊎◌, List, [], length}
use Rattle.std.specs.Vec.{vec_len, vec_capacity}
use Rattle.std.specs.VecDeque.{deque_len, deque_capacity}
use Rattle.rtrb.specs.Ring.{sent, known_free}
use Rattle.fed_messages.specs.declared.Packet.{Packet}
use Rattle.scripted_link.specs.declared.outlet.Outlet.{Outlet}
use Rattle.scripted_link.specs.Rings.{Wire, pushed_ring}

-- the ring and the script
abbrev pub outlet_wire : Outlet → Wire
outlet_wire o = record { ring = pushed_ring o.producer; script = o.script }

-- every packet that it was offered, oldest first
abbrev pub offered : Outlet → List Packet
offered o = o.offered.items

-- the copies that are in the ring or were in it, oldest first
abbrev pub moved : Outlet → List Packet
moved o = sent o.producer

-- the copies that wait for a slot of the ring, oldest first
abbrev pub queued : Outlet → List Packet
queued o = o.queued.items

-- how many slots of the ring it knows to be free
abbrev pub free_slots : Outlet → ℕ
free_slots o = known_free o.producer

-- one offer takes no memory
abbrev pub IsReserved : Outlet → Type 0
IsReserved o = (vec_len o.offered < vec_capacity o.offered) × (deque_len o.queued + (length o.script + 2) ≤ deque_capacity o.queued)

-- no packet waits at the outlet while a slot of its ring is known to be free
abbrev pub HasMovedOn : Outlet → Type 0
HasMovedOn o = (queued o ≡ []) ⊎ (free_slots o ≡ 0)
