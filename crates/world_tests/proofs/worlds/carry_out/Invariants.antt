use Rattle.std.proofs.Common.{◌+◌, ◌≤◌}
use Rattle.fed_world.specs.FewCommands.{IsOfCommands}
use Rattle.world_tests.proofs.worlds.carry_out.Given as goal

abbrev pub invariant-loop-text : goal.invariant-loop-text
invariant-loop-text g l = record { few : l.count ≤ l.start + 100; stood : IsOfCommands l.count l.world l.disks.items }
