use Rattle.std.proofs.Common.{◌≡◌, map, take}
use Rattle.fed_rules.specs.Coord.{send_due}
use Rattle.coord_tables.proofs.messages.send_dues.Given as goal

-- the first messages are there
abbrev pub invariant-loop-due : goal.invariant-loop-due
invariant-loop-due l = l.sends ≡ map (send_due l.tid) (take l.due-index l.due-items)
