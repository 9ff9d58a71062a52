use Rattle.std.proofs.Common.{refl}
use Rattle.coord_core.proofs.New.{new_stands}
use Rattle.coord_core.proofs.coord.CoordCore.new.Goals as goal

pub returns : goal.returns
returns g c =
    new_stands g.P.TakePolicy.policy
    (record { protocols = c.args.protocols; policy = c.args.policy; tables = c.in_ok-tables.tables; begun = c.new-2.result; store = c.create.result })
    c.args.protocols c.len.ensures.rising c.requires refl c.in_ok-tables.ensures c.new-2.ensures c.create.ensures
