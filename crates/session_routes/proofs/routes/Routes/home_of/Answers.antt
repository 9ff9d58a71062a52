use Rattle.std.proofs.Common.{◌≡◌, Option, List, false, ltb, length, sym, ap, ◌∙◌}
use Rattle.mdb_base.specs.declared.names.SiteId.{SiteId}
use Rattle.session_routes.proofs.Homes.{no_home}
use Rattle.session_routes.proofs.routes.Routes.home_of.Goals as goal

pub returns-in-None : goal.returns-in-None
returns-in-None c scenario routed =
    let homes = c.args.self.now.homes.items in
    let past : false ≡ ltb c.args.tx.0 (length homes) = c.in-None.ensures.lookup.0 ∙ ap (λ (hs : List (Option SiteId)). ltb c.args.tx.0 (length hs)) c.deref.ensures.value in
    sym (no_home homes c.args.tx past) ∙ routed.homes c.args.tx
