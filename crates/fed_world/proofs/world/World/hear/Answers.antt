use Rattle.std.proofs.Common.{map, refl}
use Rattle.fed_rules.specs.declared.answers.Answer.TheVariants as Say
use Rattle.fed_rules.specs.declared.commands.Line.{Line}
use Rattle.fed_world.specs.Worlds.{IsHeard, IsUnheard}
use Rattle.fed_world.proofs.ActorHears.{coord_heard, coord_unheard, site_heard, site_unheard, some_coord_ask, some_site_ask}
use Rattle.fed_world.proofs.Nowhere.{nobody_hears}
use Rattle.fed_world.proofs.Recalled.{recalls}
use Rattle.fed_world.proofs.world.World.hear.Goals as goal

pub at_site-requires-clause-stood : goal.at_site-requires-clause-stood
at_site-requires-clause-stood g c = some_site_ask g.D.Disk.tells c.args.self.now (map g.D.Disk.seen c.args.disks.now.items) c.args.command.now c.in-Site.place c.in-Site.ask c.in-Site.ensures c.requires.stood

pub returns-in-Site-clause-heard : goal.returns-in-Site-clause-heard
returns-in-Site-clause-heard g c =
    site_heard g.D.Disk.tells c.args.self.now (map g.D.Disk.seen c.args.disks.now.items) c.args.command.now c.in-Site.place c.in-Site.ask c.in-Site.ensures
    _ _ (λ line. IsHeard g.D.Disk.tells c.at_site.new.self (map g.D.Disk.seen c.at_site.new.disks.items) line) c.at_site.result c.at_site.ensures.heard

pub returns-in-Site-clause-failed : goal.returns-in-Site-clause-failed
returns-in-Site-clause-failed g c =
    site_unheard g.D.Disk.tells c.args.self.now (map g.D.Disk.seen c.args.disks.now.items) c.args.command.now c.in-Site.place c.in-Site.ask c.in-Site.ensures
    (λ why. IsUnheard g.D.Disk.tells why c.at_site.new.self (map g.D.Disk.seen c.at_site.new.disks.items)) c.at_site.result c.at_site.ensures.failed

pub at_coordinator-requires-clause-stood : goal.at_coordinator-requires-clause-stood
at_coordinator-requires-clause-stood g c = some_coord_ask g.D.Disk.tells c.args.self.now (map g.D.Disk.seen c.args.disks.now.items) c.args.command.now c.in-Coordinator.ask c.in-Coordinator.ensures c.requires.stood

pub returns-in-Coordinator-clause-heard : goal.returns-in-Coordinator-clause-heard
returns-in-Coordinator-clause-heard g c =
    coord_heard g.D.Disk.tells c.args.self.now (map g.D.Disk.seen c.args.disks.now.items) c.args.command.now c.in-Coordinator.ask c.in-Coordinator.ensures
    _ _ (λ line. IsHeard g.D.Disk.tells c.at_coordinator.new.self (map g.D.Disk.seen c.at_coordinator.new.disks.items) line) c.at_coordinator.result c.at_coordinator.ensures.heard

pub returns-in-Coordinator-clause-failed : goal.returns-in-Coordinator-clause-failed
returns-in-Coordinator-clause-failed g c =
    coord_unheard g.D.Disk.tells c.args.self.now (map g.D.Disk.seen c.args.disks.now.items) c.args.command.now c.in-Coordinator.ask c.in-Coordinator.ensures
    (λ why. IsUnheard g.D.Disk.tells why c.at_coordinator.new.self (map g.D.Disk.seen c.at_coordinator.new.disks.items)) c.at_coordinator.result c.at_coordinator.ensures.failed

pub returns-in-Nobody-clause-heard : goal.returns-in-Nobody-clause-heard
returns-in-Nobody-clause-heard g c =
    let line : Line = record { command = c.args.command.now; answer = Say.None; sends = c.none.result } in
    record {
      line = line;
      is = refl;
      lines = c.push_reserved.ensures.items;
      holds = λ session commands stood room.
          nobody_hears g.D.Disk.tells c.args.self.now (record c.args.self.now { lines = c.push_reserved.new.self }) (map g.D.Disk.seen c.args.disks.now.items) line session commands c.args.command.now
          (c.in-Nobody.ensures session commands (recalls g.D.Disk.tells c.args.self.now (map g.D.Disk.seen c.args.disks.now.items) session commands stood)) refl c.none.ensures (record { cores = refl; traffic = refl }) stood.stand;
    }

pub returns-in-Nobody-clause-keeps : goal.returns-in-Nobody-clause-keeps
returns-in-Nobody-clause-keeps g c = record { broken = refl; routes = refl; scenario = refl; begun = refl }
