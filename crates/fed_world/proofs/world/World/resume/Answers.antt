use Rattle.fed_world.proofs.world.World.resume.Goals as goal

pub into_world-requires : goal.into_world-requires
into_world-requires c = c.in-Ok.ensures

pub returns-in-Ok : goal.returns-in-Ok
returns-in-Ok c = c.into_world.ensures
