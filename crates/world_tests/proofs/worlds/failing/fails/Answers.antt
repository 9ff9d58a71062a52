use Rattle.fed_world.proofs.ForCallers.{are_empty}
use Rattle.world_tests.proofs.worlds.failing.fails.Goals as goal

pub new-requires-clause-empty : goal.new-requires-clause-empty
new-requires-clause-empty g c = are_empty c.in_ok-disks.disks.items c.in_ok-disks.ensures.empty
