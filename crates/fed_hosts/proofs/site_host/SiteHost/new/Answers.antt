use Rattle.std.proofs.Common.{rules, refl}
use Rattle.fed_hosts.proofs.Ending.{opens}
use Rattle.fed_hosts.proofs.site_host.SiteHost.new.Goals as goal

pub invariant_of-result : goal.invariant_of-result
invariant_of-result g c =
    (opens g.E.LocalEngine.stands g.D.Disk.tells g.D.Disk.seen g.N.Plan.sites g.N.Wires.rings _ c.requires.opens (search rules) (search rules) refl refl, c.requires.told)
