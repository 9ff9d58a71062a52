use Rattle.std.proofs.Common.{◌≡◌, ℕ, ◌<◌, Some, slice_get, vec_len, vec_capacity}
use Rattle.session_routes.specs.declared.traffic.Traffic.{Traffic}
use Rattle.session_routes.specs.Posting.{AreSameTraffic}
use Rattle.session_routes.proofs.posting.make_room.Given as goal

abbrev pub invariant-loop-place : goal.invariant-loop-place
invariant-loop-place l =
    record {
      same : AreSameTraffic l.fn.traffic.items l.traffic.items;
      room : (place : ℕ) (one : Traffic) → place < l.place → slice_get l.traffic.items place ≡ Some one → vec_len one.to < vec_capacity one.to;
    }
