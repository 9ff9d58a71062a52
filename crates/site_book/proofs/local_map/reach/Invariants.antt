use Rattle.std.proofs.Common.{◌≡◌, ◌+◌, ◌-◌, ◌≤◌, length}
use Rattle.std.specs.Vec.{vec_capacity}
use Rattle.site_book.specs.Numbered.{by_number}
use Rattle.site_book.proofs.local_map.reach.Given as goal

-- what stands in it stays, and it has room up to the number
abbrev pub invariant-loop-tx : goal.invariant-loop-tx
invariant-loop-tx g l = record { same : by_number l.items.items ≡ by_number l.fn.items.items; room : l.tx.0 + 1 ≤ vec_capacity l.items }

abbrev pub decreases-loop-tx : goal.decreases-loop-tx
decreases-loop-tx g l = l.tx.0 + 1 - length l.items.items
