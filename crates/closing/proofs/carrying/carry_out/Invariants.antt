use Rattle.std.proofs.Common.{◌≡◌, List, map, take}
use Rattle.fed_rules.specs.declared.commands.Command.{Command}
use Rattle.fed_rules.specs.Sessions.{Session}
use Rattle.fed_world.specs.Faults.{faults_of}
use Rattle.fed_world.specs.Worlds.{Stands}
use Rattle.closing.specs.Steps.{FitWith, with_commands}
use Rattle.closing.proofs.carrying.carry_out.Given as goal

abbrev pub invariant-loop-command : goal.invariant-loop-command
invariant-loop-command g l = record {
  stands : (session : Session) (commands : List Command) → Stands g.D.Disk.tells l.fn.world (map g.D.Disk.seen l.fn.disks.items) session commands → FitWith l.commands session commands
      → Stands g.D.Disk.tells l.world (map g.D.Disk.seen l.disks.items) session (with_commands (take l.command-index l.commands) commands);
  calm : faults_of (map g.D.Disk.seen l.disks.items) ≡ faults_of (map g.D.Disk.seen l.fn.disks.items);
}
