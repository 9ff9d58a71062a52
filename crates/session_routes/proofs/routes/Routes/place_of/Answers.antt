use Rattle.std.proofs.Common.{◌≡◌, ℕ, Option, List, false, ltb, length, ap, ◌∙◌}
use Rattle.fed_rules.specs.Scenarios.{sites}
use Rattle.session_routes.proofs.Places.{none_at}
use Rattle.session_routes.proofs.routes.Routes.place_of.Goals as goal

pub returns-in-None : goal.returns-in-None
returns-in-None c scenario routed =
    let past : false ≡ ltb c.args.site.0 (length c.args.self.now.places.items) = c.in-None.ensures.lookup.0 ∙ ap (λ (xs : List (Option ℕ)). ltb c.args.site.0 (length xs)) c.deref.ensures.value in
    none_at (sites scenario) c.args.self.now.places.items c.args.site.0 routed.places past
