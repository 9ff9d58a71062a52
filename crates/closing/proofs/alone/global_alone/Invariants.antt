use Rattle.std.proofs.Common.{◌≡◌, ◌-◌, ◌*◌, List, length, map, drop}
use Rattle.fed_rules.specs.declared.commands.Command.{Command}
use Rattle.fed_rules.specs.declared.scenario.Scenario.{Scenario}
use Rattle.fed_rules.specs.Closing as rules
use Rattle.fed_rules.specs.Sessions.{fresh}
use Rattle.fed_world.specs.Faults.{faults_of}
use Rattle.fed_world.specs.FreshWorlds.{Stands}
use Rattle.closing.specs.Towards.{Fits}
use Rattle.closing.proofs.Deliveries.{IsOnTheWay}
use Rattle.closing.proofs.alone.global_alone.Given as goal

-- the messages behind the first ones are left
abbrev pub invariant-loop-next : goal.invariant-loop-next
invariant-loop-next g l = record {
  stands : (scenario : Scenario) (commands : List Command) → Stands g.D.Disk.tells l.fn.world (map g.D.Disk.seen l.fn.disks.items) scenario commands → Fits (fresh scenario) (rules.global_alone scenario l.fn.tx l.steps commands)
      → IsOnTheWay g.D.Disk.tells l.world (map g.D.Disk.seen l.disks.items) scenario (4 * length l.steps - l.next) (drop l.next l.places.items) (rules.global_alone scenario l.fn.tx l.steps commands) commands;
  calm : faults_of (map g.D.Disk.seen l.disks.items) ≡ faults_of (map g.D.Disk.seen l.fn.disks.items);
}
