use Rattle.std.proofs.Common.{◌≡◌, ◌≤◌, take, vec_len, vec_capacity}
use Rattle.fed_hosts.specs.Ports.{IsPosted, places_at}
use Rattle.fed_hosts.proofs.Changes.{ChangedTo}
use Rattle.fed_hosts.proofs.posting.post_all.Given as goal

abbrev pub invariant-loop-place : goal.invariant-loop-place
invariant-loop-place l =
    record {
      posted : ChangedTo (λ place a b. IsPosted l.sends l.stamp a b) l.place l.fn.ports.items l.ports.items;
      places : l.places.items ≡ places_at l.sends (take l.place l.fn.ports.items);
      grown : vec_len l.places ≤ l.place;
      capacity : vec_capacity l.places ≡ vec_capacity l.fn.places;
    }
