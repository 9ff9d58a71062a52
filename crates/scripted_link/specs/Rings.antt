-- The names of rings.
use Rattle.std.specs.Prelude.{List}
use Rattle.std.specs.Global.{Global}
use denote.RawPtr.{Ptr}
use Rattle.rtrb.specs.Shared.{Names}
use Rattle.rtrb.specs.declared.AnyItems.{AnyItems}
use Rattle.rtrb.specs.declared.producer.Producer.{Producer}
use Rattle.rtrb.specs.declared.consumer.Consumer.{Consumer}
use Rattle.fed_messages.specs.declared.Packet.{Packet}
use Rattle.scripted_link.specs.declared.script.FateAt.{FateAt}

-- a ring, as its two ends know it
pub record Ring : Type 0 where
  pub words : Ptr
  pub slots : Ptr
  pub names : Names
  pub heap : Global

-- a ring with the script of what is offered to it
pub record Wire : Type 0 where
  pub ring : Ring
  pub script : List FateAt

-- the ring that an end belongs to
abbrev pub pushed_ring : Producer Packet Global AnyItems → Ring
pushed_ring p = record { words = p.end.words; slots = p.end.slots; names = p.end.names; heap = p.end.heap }

abbrev pub popped_ring : Consumer Packet Global AnyItems → Ring
popped_ring c = record { words = c.end.words; slots = c.end.slots; names = c.end.names; heap = c.end.heap }
