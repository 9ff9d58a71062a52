use Rattle.std.proofs.Common.{◌≡◌, ℕ, ◌<◌, Some, length, slice_get}
use Rattle.session_routes.specs.Routes.{place_in}
use Rattle.session_routes.proofs.routes.places_of.Given as goal

abbrev pub invariant-loop-number : goal.invariant-loop-number
invariant-loop-number l = record { count : length l.places.items ≡ l.number; at : (n : ℕ) → n < l.number → slice_get l.places.items n ≡ Some (place_in l.sites (record { 0 = n })) }
