use Rattle.std.proofs.Common.{ap, ◌∙◌}
use Rattle.fed_hosts.specs.CoordViews.{CoordView}
use Rattle.fed_hosts.proofs.CoordEnding.{coord_held}
use Rattle.fed_hosts.proofs.coord_host.CoordHost.finish.Goals as goal

pub returns-clause-held : goal.returns-clause-held
returns-clause-held g c =
    coord_held g.P.TakePolicy.policy g.D.Disk.tells g.D.Disk.seen g.N.Plan.coordinator g.N.Wires.rings c.self.inside.failed c.self.inside.actor c.self.invariant.0 c.of.result c.of.ensures

pub returns-clause-view : goal.returns-clause-view
returns-clause-view g c = record {
  lines = c.of.ensures ∙ ap (λ (v : CoordView). v.lines) c.self.view_is;
  tooks = ap (λ (v : CoordView). v.tooks) c.self.view_is;
  failed = ap (λ (v : CoordView). v.failed) c.self.view_is;
}
