use Rattle.std.proofs.Common.{None, false, refl}
use Rattle.fed_world.specs.declared.world.World.{World}
use Rattle.fed_world.proofs.Gathered.{gathered_recalls, gathered_stands}
use Rattle.fed_world.proofs.world.World.gather.Goals as goal

pub same-channels : goal.same-channels
same-channels c = refl

pub same-lines : goal.same-lines
same-lines c = refl

pub returns-clause-recalls : goal.returns-clause-recalls
returns-clause-recalls c scenario commands g =
    let world : World = record { cores = c.args.cores; routes = c.in-Ok.routes; traffic = c.in-Ok-traffic_of.traffic; lines = c.into_items.result; broken = false; begun = None; places = c.new.result } in
    gathered_recalls world c.args.lines c.args.channels c.into_items.ensures refl c.in-Ok-traffic_of.ensures c.in-Ok.ensures scenario commands g

pub returns-clause-lines : goal.returns-clause-lines
returns-clause-lines c = c.into_items.ensures

pub returns-clause-stands : goal.returns-clause-stands
returns-clause-stands c tells disks scenario commands g =
    let world : World = record { cores = c.args.cores; routes = c.in-Ok.routes; traffic = c.in-Ok-traffic_of.traffic; lines = c.into_items.result; broken = false; begun = None; places = c.new.result } in
    gathered_stands world c.args.lines c.args.channels c.into_items.ensures refl c.in-Ok-traffic_of.ensures c.in-Ok.ensures tells disks scenario commands refl g
