use Rattle.std.proofs.Common.{◌≡◌, ◌≤◌, take, vec_len, vec_capacity}
use Rattle.session_routes.specs.Posting.{places_to}
use Rattle.session_routes.proofs.Posts.{PostedTo}
use Rattle.session_routes.proofs.posting.post.Given as goal

abbrev pub invariant-loop-place : goal.invariant-loop-place
invariant-loop-place l =
    record {
      posted : PostedTo l.sends l.place l.fn.traffic.items l.traffic.items;
      places : l.places.items ≡ places_to l.sends (take l.place l.fn.traffic.items);
      grown : vec_len l.places ≤ l.place;
      capacity : vec_capacity l.places ≡ vec_capacity l.fn.places;
    }
