use Rattle.std.proofs.Common.{◌≡◌, ◌≤◌, List, length, take, drop}
use Rattle.mdb_base.specs.declared.names.SiteTicket.{SiteTicket}
use Rattle.ticket_graph.specs.Reach.{IsLowest}
use Rattle.ticket_graph.proofs.Keeping.{IsKeeping}
use Rattle.ticket_graph.proofs.ordered.keep_reached.Given as goal

-- the kept ones stand in front, and those that are left stand where they stood
abbrev pub invariant-loop-place : goal.invariant-loop-place
invariant-loop-place l =
    (l.kept ≤ l.place)
    × (length l.attempts.items ≡ length l.initial.attempts.items)
    × (drop l.place l.attempts.items ≡ drop l.place l.initial.attempts.items)
    × ((met : List SiteTicket) → IsLowest l.initial.lowest.at met →
    IsKeeping met l.initial.attempts.items l.initial.floors (take l.kept l.attempts.items) (drop l.place l.attempts.items) l.floors l.lowest.at)
