use Rattle.std.proofs.Common.{◌≡◌, Bool, false, sym, ap, ◌∙◌, subst}
use Rattle.fed_hosts.specs.CoordTurns.{HasCoordTurned}
use Rattle.fed_hosts.specs.CoordViews.{CoordView, coord_view_of}
use Rattle.fed_hosts.proofs.coord_host.CoordHost.turn.Goals as goal

pub returns-in-Ok-clause-turned : goal.returns-in-Ok-clause-turned
returns-in-Ok-clause-turned g c =
    let plan = g.N.Plan.coordinator in
    let actor = c.self.inside.actor in
    let working : c.self.inside.failed ≡ false = c.if-self.false in
    let seen : coord_view_of actor false ≡ c.args.self.now = ap (λ (b : Bool). coord_view_of actor b) (sym working) ∙ c.self.view_is in
    subst (λ (v : CoordView). HasCoordTurned plan v (coord_view_of c.turn.new.self c.self.inside.failed) c.in-Ok.made) seen
    (subst (λ (b : Bool). HasCoordTurned plan (coord_view_of actor false) (coord_view_of c.turn.new.self b) c.in-Ok.made) (sym working) c.in-Ok.ensures.turned)
