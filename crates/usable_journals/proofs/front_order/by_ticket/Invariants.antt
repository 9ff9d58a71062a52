use Rattle.std.proofs.Common.{◌≡◌, ℕ, None, drop}
use Rattle.std.specs.BTreeMap.{get}
use Rattle.std.specs.Ordering.{nat_cmp}
use Rattle.usable_journals.specs.Fronts.{held_at}
use Rattle.usable_journals.proofs.front_order.by_ticket.Given as goal

-- what the others still make of it
abbrev pub invariant-loop-held : goal.invariant-loop-held
invariant-loop-held l = (ticket : ℕ) → held_at (drop l.held-index l.doubtful) ticket (get nat_cmp l.found ticket) ≡ held_at l.doubtful ticket None
