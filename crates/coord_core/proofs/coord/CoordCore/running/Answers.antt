use Rattle.std.proofs.Common.{◌≡◌, not, ◌∙◌}
use Rattle.fed_rules.specs.Happenings.{is_down}
use Rattle.fed_rules.specs.CoordPast.{undecided_of}
use Rattle.actor_store.specs.declared.store.Standing.{Standing}
use Rattle.actor_store.specs.declared.store.Standing.TheVariants.{Up, Down, Failing}
use Rattle.actor_store.specs.Store.{is_up}
use Rattle.coord_core.specs.Stands.{TablesStand}
use Rattle.coord_tables.proofs.ForCallers.{running_is}
use Rattle.coord_core.proofs.coord.CoordCore.running.Goals as goal

pub returns : goal.returns
returns g c terms past h up = from c.args.self.now.store.standing h.standing h.tables
  where
    from : (standing : Standing) → is_down past ≡ not (is_up standing) → TablesStand c.args.self.now.tables standing terms past → c.last_of.result ≡ undecided_of past c.args.tx
    from Up e s = c.last_of.ensures ∙ running_is c.args.self.now.tables terms past c.args.tx s
    from Down e s = cc
    from Failing e s = cc
