use Rattle.std.proofs.Common.{refl}
use Rattle.coord_tables.specs.declared.tables.Tables.{Tables}
use Rattle.coord_core.proofs.Committing.{stands_regrown}
use Rattle.coord_core.proofs.Roomed.{stands_roomed}
use Rattle.coord_core.proofs.coord.CoordCore.room_for_commit.Goals as goal

pub returns-clause-stands : goal.returns-clause-stands
returns-clause-stands g c = λ terms past k.
    let tables : Tables = record c.args.self.now.tables { committed = c.reserve.new.self } in
    stands_roomed g.P.TakePolicy.policy g.D.Disk.tells (record c.args.self.now { tables = tables }) c.room_for.new.store (g.D.Disk.seen c.args.disk.now) (g.D.Disk.seen c.room_for.new.disk) terms past c.room_for.ensures.keeps c.room_for.ensures.standing
    (stands_regrown g.P.TakePolicy.policy g.D.Disk.tells c.args.self.now tables (g.D.Disk.seen c.args.disk.now) terms past refl refl refl c.reserve.ensures.same refl k)
