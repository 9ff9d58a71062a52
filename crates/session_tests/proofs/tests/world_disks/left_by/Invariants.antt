use Rattle.fed_world.specs.FewCommands.{IsOfCommands}
use Rattle.session_tests.proofs.tests.world_disks.left_by.Given as goal

abbrev pub invariant-loop-command : goal.invariant-loop-command
invariant-loop-command l = record { stood : IsOfCommands l.count l.world l.disks.items }
