use Rattle.std.proofs.Common.{◌≡◌, ◌+◌, drop}
use Rattle.mdb_base.specs.Words.{map_some}
use Rattle.session_routes.specs.Routes.{place_in}
use Rattle.session_routes.proofs.routes.place_of.Given as goal

abbrev pub invariant-loop-place : goal.invariant-loop-place
invariant-loop-place l = map_some (λ n. n + l.place) (place_in (drop l.place l.sites) (record { 0 = l.number })) ≡ place_in l.sites (record { 0 = l.number })
