use Rattle.std.proofs.Common.{◌≡◌, List, map, take}
use Rattle.fed_rules.specs.declared.commands.Command.{Command}
use Rattle.fed_rules.specs.declared.scenario.Scenario.{Scenario}
use Rattle.fed_rules.specs.Sessions.{fresh}
use Rattle.fed_world.specs.Faults.{faults_of}
use Rattle.fed_world.specs.FreshWorlds.{Stands}
use Rattle.closing.specs.Alone.{all_alone}
use Rattle.closing.specs.Towards.{Fits}
use Rattle.closing.proofs.alone.each_alone.Given as goal

abbrev pub invariant-loop-line : goal.invariant-loop-line
invariant-loop-line g l = record {
  stands : (scenario : Scenario) (commands : List Command) → Stands g.D.Disk.tells l.fn.world (map g.D.Disk.seen l.fn.disks.items) scenario commands → Fits (fresh scenario) (all_alone l.lines scenario commands)
      → Stands g.D.Disk.tells l.world (map g.D.Disk.seen l.disks.items) scenario (all_alone (take l.line-index l.lines) scenario commands);
  calm : faults_of (map g.D.Disk.seen l.disks.items) ≡ faults_of (map g.D.Disk.seen l.fn.disks.items);
}
