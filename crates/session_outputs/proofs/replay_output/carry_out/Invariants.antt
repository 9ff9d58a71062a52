use Rattle.std.proofs.Common.{◌≡◌, List, map, take}
use Rattle.fed_rules.specs.declared.commands.Command.{Command}
use Rattle.fed_rules.specs.declared.scenario.Scenario.{Scenario}
use Rattle.fed_world.specs.Faults.{faults_of}
use Rattle.fed_world.specs.FreshWorlds.{Stands}
use Rattle.closing.specs.FreshTowards.{FitWith}
use Rattle.closing.specs.Steps.{with_commands}
use Rattle.session_outputs.proofs.replay_output.carry_out.Given as goal

-- the world stands for the commands so far, and no disk failed
abbrev pub invariant-loop-command : goal.invariant-loop-command
invariant-loop-command g l = record {
  stands : (scenario : Scenario) (commands : List Command) → Stands g.D.Disk.tells l.fn.world (map g.D.Disk.seen l.fn.disks.items) scenario commands → FitWith l.commands scenario commands
      → Stands g.D.Disk.tells l.world (map g.D.Disk.seen l.disks.items) scenario (with_commands (take l.command-index l.commands) commands);
  calm : faults_of (map g.D.Disk.seen l.disks.items) ≡ faults_of (map g.D.Disk.seen l.fn.disks.items);
}
