use Rattle.std.proofs.Common.{rules, refl}
use Rattle.fed_hosts.proofs.CoordEnding.{coord_opens}
use Rattle.fed_hosts.proofs.coord_host.CoordHost.new.Goals as goal

pub invariant_of-result : goal.invariant_of-result
invariant_of-result g c =
    (coord_opens g.P.TakePolicy.policy g.D.Disk.tells g.D.Disk.seen g.N.Plan.coordinator g.N.Wires.rings _ c.requires.opens (search rules) refl refl, c.requires.told)
