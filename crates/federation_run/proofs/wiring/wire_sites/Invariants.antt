use Rattle.federation_run.proofs.WiredSites.{AreWiredTo}
use Rattle.federation_run.proofs.wiring.wire_sites.Given as goal

abbrev pub invariant-loop-site : goal.invariant-loop-site
invariant-loop-site l = AreWiredTo l.scenario l.sites l.fn.cores.items l.rest.items l.site-index l.wired_sites.items l.ports.items
