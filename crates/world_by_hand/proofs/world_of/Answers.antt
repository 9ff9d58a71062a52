use Rattle.std.proofs.Common.{[], arith}
use Rattle.fed_world.proofs.ForCallers.{are_empty}
use Rattle.world_by_hand.proofs.world_of.Goals as goal

pub new-requires-clause-empty : goal.new-requires-clause-empty
new-requires-clause-empty c = are_empty c.args.disks.now.items c.requires.empty

pub returns : goal.returns
returns c = record { session = c.in-Ok.scenario; commands = []; stood = c.in_ok-world.ensures.stands; holds = omega arith }
