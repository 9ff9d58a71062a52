use Rattle.std.proofs.Common.{refl}
use Rattle.federation_run.proofs.WiredSites.{wired_actors}
use Rattle.federation_run.proofs.wiring.wire_actors.Goals as goal

pub wiring_of-requires : goal.wiring_of-requires
wiring_of-requires c = c.requires

pub returns-in-Ok : goal.returns-in-Ok
returns-in-Ok c = λ tells disks fresh.
    wired_actors tells disks c.args.scenario.now c.args.manager c.args.cores.items.items (record { manager = c.args.manager; stops = c.in-Ok.field-0.stops; ports = c.in-Ok.field-0.ports; wired_sites = c.in-Ok.field-0.wired_sites }) refl
    c.in-Ok.ensures.stops c.in-Ok.ensures.wired fresh
