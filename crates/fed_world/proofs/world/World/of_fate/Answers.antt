use Rattle.std.proofs.Common.{Option, ap, ◌∙◌}
use Rattle.mdb_base.specs.declared.names.SiteId.{SiteId}
use Rattle.local_dbms.specs.declared.asks.SiteAsk.TheVariants as At
use Rattle.fed_world.specs.declared.asks.Asked.TheVariants.{Coordinator}
use Rattle.global_manager.specs.declared.asks.CoordAsk.TheVariants as Coord
use Rattle.fed_world.specs.Hearers.{to_home}
use Rattle.fed_world.proofs.world.World.of_fate.Goals as goal

pub returns-in-Some : goal.returns-in-Some
returns-in-Some c session commands r =
    c.of_site.ensures session commands r ∙ ap (λ (o : Option SiteId). to_home session.plan o (At.Fate c.args.tx) (Coordinator (Coord.Fate c.args.tx))) (c.in-Some.ensures session.plan r.routed)

pub returns-in-None : goal.returns-in-None
returns-in-None c session commands r = ap (λ (o : Option SiteId). to_home session.plan o (At.Fate c.args.tx) (Coordinator (Coord.Fate c.args.tx))) (c.in-None.ensures session.plan r.routed)
