use Rattle.std.proofs.Common.{◌≡◌, List, map, take}
use Rattle.fed_rules.specs.declared.commands.Command.{Command}
use Rattle.fed_rules.specs.Sessions.{Session}
use Rattle.fed_world.specs.Faults.{faults_of}
use Rattle.fed_world.specs.Worlds.{Stands}
use Rattle.closing.specs.Steps.{asks_about}
use Rattle.closing.specs.Towards.{Fits}
use Rattle.closing.proofs.exchanging.ask_about.Given as goal

abbrev pub invariant-loop-tid : goal.invariant-loop-tid
invariant-loop-tid g l = record {
  stands : (session : Session) (commands : List Command) → Stands g.D.Disk.tells l.fn.world (map g.D.Disk.seen l.fn.disks.items) session commands → Fits session (asks_about l.site l.tids session commands)
      → Stands g.D.Disk.tells l.world (map g.D.Disk.seen l.disks.items) session (asks_about l.site (take l.tid-index l.tids) session commands);
  calm : faults_of (map g.D.Disk.seen l.disks.items) ≡ faults_of (map g.D.Disk.seen l.fn.disks.items);
}
