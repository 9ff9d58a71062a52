-- What contracts see of an inlet.
use Rattle.std.specs.Prelude.{ℕ, List, ◌++◌, Option}
use Rattle.std.specs.Option.{option_to_list}
use Rattle.rtrb.specs.Ring.{received, known_items}
use Rattle.fed_messages.specs.declared.Packet.{Packet}
use Rattle.scripted_link.specs.declared.inlet.Inlet.{Inlet}
use Rattle.scripted_link.specs.Rings.{Ring, popped_ring}
use Rattle.scripted_link.specs.Back.{without}

-- the ring
abbrev pub inlet_ring : Inlet → Ring
inlet_ring i = popped_ring i.consumer

-- every packet that was taken, oldest first; one that was put back isn't
abbrev pub taken : Inlet → List Packet
taken i = without (received i.consumer) i.back

-- the packet that was put back, and the others that it knows of: the next ones to be taken
abbrev pub ahead : Inlet → List Packet
ahead i = option_to_list i.back ++ known_items i.consumer

-- the packet that was put back
abbrev pub returned : Inlet → Option Packet
returned i = i.back

-- how often it gave nothing
abbrev pub empty_count : Inlet → ℕ
empty_count i = i.empties
