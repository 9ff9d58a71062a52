use Rattle.std.proofs.Common.{◌≡◌, ◌+◌, ◌<◌, ◌^◌, List, length, map}
use Rattle.fed_rules.specs.declared.commands.Command.{Command}
use Rattle.fed_rules.specs.declared.scenario.Scenario.{Scenario}
use Rattle.fed_world.specs.Faults.{faults_of}
use Rattle.fed_world.specs.FreshWorlds.{Stands}
use Rattle.run_audit.specs.Audits.{WillFit, verdict_behind}
use Rattle.run_audit.proofs.Reached.{HasReached}
use Rattle.run_audit.proofs.lines.check_lines.Given as goal

-- the lines that are left decide, behind the commands that were carried out
abbrev pub invariant-loop-rest : goal.invariant-loop-rest
invariant-loop-rest g l = record {
  left : (scenario : Scenario) (commands : List Command) → Stands g.D.Disk.tells l.fn.world (map g.D.Disk.seen l.fn.disks.items) scenario commands → WillFit l.text scenario commands
      → HasReached (Stands g.D.Disk.tells l.world (map g.D.Disk.seen l.disks.items)) l.rest l.number scenario (verdict_behind l.first l.text scenario commands);
  short : l.number + length l.rest < 2 ^ 31;
  calm : faults_of (map g.D.Disk.seen l.disks.items) ≡ faults_of (map g.D.Disk.seen l.fn.disks.items);
}

abbrev pub decreases-loop-rest : goal.decreases-loop-rest
decreases-loop-rest g l = length l.rest
