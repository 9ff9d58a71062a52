use Rattle.fed_world.proofs.world.World.committed.Goals as goal

pub returns : goal.returns
returns c = λ terms programs past recalls up. c.committed.ensures terms past (c.core.ensures.held terms programs past recalls) up
