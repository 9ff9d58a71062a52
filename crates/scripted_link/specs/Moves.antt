-- How queued packets go into a ring.
use Rattle.std.specs.Prelude.{◌≡◌, ℕ, ◌≤◌, ◌⊎◌, List, [], ◌++◌, take, drop}
use Rattle.fed_messages.specs.declared.Packet.{Packet}

-- The first of the queued packets went behind what was sent and the others stay: at least as many went as slots were known to be free, or all.
-- Where some stay no slot is known to be free then.
pub record Moves (sent queued now_sent now_queued : List Packet) (free now_free : ℕ) : Type 0 where
  pub moved : ℕ
  pub goes : now_sent ≡ sent ++ take moved queued
  pub stays : now_queued ≡ drop moved queued
  pub most : (now_queued ≡ []) ⊎ ((free ≤ moved) × (now_free ≡ 0))
