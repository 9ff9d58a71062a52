use Rattle.fed_world.proofs.Broken.{roomier, same_stands}
use Rattle.fed_world.proofs.world.World.make_room.Goals as goal

pub returns-in_err-reserve-clause-same : goal.returns-in_err-reserve-clause-same
returns-in_err-reserve-clause-same c = roomier c.args.self.now c.reserve.new.self c.reserve.ensures.items

pub returns-in_err-reserve-clause-stands : goal.returns-in_err-reserve-clause-stands
returns-in_err-reserve-clause-stands c tells disks session commands stood =
    same_stands tells c.args.self.now (record c.args.self.now { lines = c.reserve.new.self }) disks session commands (roomier c.args.self.now c.reserve.new.self c.reserve.ensures.items) stood

pub returns-clause-same : goal.returns-clause-same
returns-clause-same c = roomier c.args.self.now c.reserve.new.self c.reserve.ensures.items

pub returns-clause-stands : goal.returns-clause-stands
returns-clause-stands c tells disks session commands stood =
    same_stands tells c.args.self.now (record c.args.self.now { lines = c.reserve.new.self }) disks session commands (roomier c.args.self.now c.reserve.new.self c.reserve.ensures.items) stood
