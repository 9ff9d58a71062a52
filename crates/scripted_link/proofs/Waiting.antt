-- Outlets at which no packet waits while a slot is known to be free.
use Rattle.std.proofs.Common.{◌≡◌, inl, inr, List, [], ◌∷◌, ◌++◌, ap, ◌∙◌}
use Rattle.rtrb.specs.Ring.{sent}
use Rattle.fed_messages.specs.declared.Packet.{Packet}
use Rattle.scripted_link.specs.declared.outlet.Outlet.{Outlet}
use Rattle.scripted_link.specs.Moves.{Moves}
use Rattle.scripted_link.specs.Outlets.{HasMovedOn, free_slots, moved, offered, queued}
use Rattle.scripted_link.specs.Script.{let_through}

-- what stands behind others in an empty list is empty
second_none : (xs ys : List Packet) → xs ++ ys ≡ [] → ys ≡ []
second_none [] ys none = none
second_none (x ∷ xs) ys none = cc

-- nothing was offered yet
pub unoffered_moved : (outlet : Outlet) → offered outlet ≡ [] → HasMovedOn outlet
unoffered_moved outlet none = inl (second_none (sent outlet.producer) outlet.queued.items (outlet.lets ∙ ap (let_through outlet.script) none))

-- what was queued moved on as far as it could
pub moves_on : (old new : Outlet) → Moves (moved old) (queued old) (moved new) (queued new) (free_slots old) (free_slots new) → HasMovedOn new
moves_on old new moves = elim moves.most [ inl none ↦ inl none | inr (least, full) ↦ inr full ]

-- room changes nothing of it
pub moved_same : (old new : Outlet) → queued new ≡ queued old → free_slots new ≡ free_slots old → HasMovedOn old → HasMovedOn new
moved_same old new queued_are free_are is = elim is [ inl none ↦ inl (queued_are ∙ none) | inr full ↦ inr (free_are ∙ full) ]
