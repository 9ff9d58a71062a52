-- The last packet that was popped, put back.
use Rattle.std.specs.Prelude.{◌-◌, List, length, take, Option}
use Rattle.std.specs.Option.{option_to_list}
use Rattle.fed_messages.specs.declared.Packet.{Packet}

-- the packets without the last one, where one was put back
abbrev pub without : List Packet → Option Packet → List Packet
without packets back = take (length packets - length (option_to_list back)) packets
