use Rattle.std.proofs.Common.{◌≡◌, List, map, take}
use Rattle.fed_rules.specs.declared.commands.Command.{Command}
use Rattle.fed_rules.specs.Sessions.{Session}
use Rattle.fed_world.specs.Faults.{faults_of}
use Rattle.fed_world.specs.Worlds.{Stands}
use Rattle.closing.specs.Steps.{deliver_all}
use Rattle.closing.specs.Towards.{Fits}
use Rattle.closing.proofs.exchanging.deliver_each.Given as goal

abbrev pub invariant-loop-place : goal.invariant-loop-place
invariant-loop-place g l = record {
  stands : (session : Session) (commands : List Command) → Stands g.D.Disk.tells l.fn.world (map g.D.Disk.seen l.fn.disks.items) session commands → Fits session (deliver_all l.places session commands)
      → Stands g.D.Disk.tells l.world (map g.D.Disk.seen l.disks.items) session (deliver_all (take l.place-index l.places) session commands);
  calm : faults_of (map g.D.Disk.seen l.disks.items) ≡ faults_of (map g.D.Disk.seen l.fn.disks.items);
}
