use Rattle.mdb_base.proofs.ForCallers.{map_err, map_ok}
use Rattle.coord_tables.proofs.ForCallers.{again_sends}
use Rattle.fed_rules.specs.declared.events.CoordEvent.TheVariants as Ev
use Rattle.coord_core.proofs.Still.{serves}
use Rattle.coord_core.proofs.coord.CoordCore.send_all.Goals as goal

pub returns-clause-answered : goal.returns-clause-answered
returns-clause-answered g c = map_ok _ _ c.send.result c.send.ensures.answered (λ step each terms past k u.
    let old = c.args.self.now in
    let s = serves g.P.TakePolicy.policy g.D.Disk.tells old terms past k.holds c.requires.up in
    each terms past (Ev.Again c.args.tid) k
    (again_sends old.tables terms past c.args.tid c.in-Ok-may_take.may c.some_held-held.result c.in-Ok.dues c.in-Ok-let_through.through c.len-none.result s u (c.in-Ok-may_take.ensures terms past k u) c.in-Ok.ensures c.in-Ok-let_through.ensures
    c.some_held-held.ensures c.len-none.ensures.count))

pub returns-clause-failed : goal.returns-clause-failed
returns-clause-failed g c = map_err _ _ c.send.result c.send.ensures.failed (λ why each terms past k u.
    let old = c.args.self.now in
    let s = serves g.P.TakePolicy.policy g.D.Disk.tells old terms past k.holds c.requires.up in
    each terms past (Ev.Again c.args.tid) k
    (again_sends old.tables terms past c.args.tid c.in-Ok-may_take.may c.some_held-held.result c.in-Ok.dues c.in-Ok-let_through.through c.len-none.result s u (c.in-Ok-may_take.ensures terms past k u) c.in-Ok.ensures c.in-Ok-let_through.ensures
    c.some_held-held.ensures c.len-none.ensures.count))
