-- The ports one after another: the places of what is sent to them, and what holds of each.
use Rattle.std.proofs.Common.{◌≡◌, ℕ, ◌+◌, ◌<◌, ◌≤◌, ◌⊎◌, inl, inr, Some, List, ◌++◌, length, take, option_to_list, slice_get, slice_set, sym, ap, ◌∙◌, subst, arith}
use Rattle.std.proofs.lemmas.Bool.{cases_lt}
use Rattle.std.proofs.lemmas.Option.{same_Some}
use Rattle.mdb_base.proofs.ForCallers.{found_next}
use Rattle.fed_rules.specs.declared.commands.Place.{Place}
use Rattle.fed_rules.specs.declared.messages.Sent.{Sent}
use Rattle.session_routes.proofs.ForCallers.{get_other, get_put}
use Rattle.fed_hosts.specs.declared.ports.Port.{Port}
use Rattle.fed_hosts.specs.Ports.{place_at, places_at, places_behind}

-- the places so far go on with that of one port
pub places_next : (sends : List Sent) (place : ℕ) (old : List Port) (before : Port) (places new : List Place) → places ≡ places_at sends (take place old) → slice_get old place ≡ Some before
    → new ≡ places_behind places (place_at sends before) → new ≡ places_at sends (take (place + 1) old)
places_next sends place old before places new so at is = is ∙ (ap (λ (ps : List Place). ps ++ option_to_list (place_at sends before)) so ∙ sym (found_next (place_at sends) old place before at))

-- the ports of which it holds go on with one more
pub next_port : (P : Port → Type 0) (place : ℕ) (now : List Port) (new : Port) → place < length now → P new → ((q : ℕ) (port : Port) → q < place → slice_get now q ≡ Some port → P port)
    → (q : ℕ) (port : Port) → q < place + 1 → slice_get (slice_set now place new) q ≡ Some port → P port
next_port P place now new within holds others q port less at = by_place (cases_lt q place) where
  by_place : (q < place) ⊎ (place ≤ q) → P port
  by_place (inl below) = others q port below (sym (get_other now place q new (λ e. omega (arith, e, below))) ∙ at)
  by_place (inr above) =
      let same : q ≡ place = omega (arith, less, above) in
      let is : new ≡ port = same_Some new port (sym (get_put now place new within) ∙ ap (slice_get (slice_set now place new)) (sym same) ∙ at) in
      subst P is holds
