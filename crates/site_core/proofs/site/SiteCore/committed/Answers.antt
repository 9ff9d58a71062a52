use Rattle.std.proofs.Common.{◌≡◌, not, ◌∙◌}
use Rattle.fed_rules.specs.Happenings.{is_down}
use Rattle.fed_rules.specs.SitePast.{records}
use Rattle.fed_rules.specs.SiteRecords.{local_of}
use Rattle.actor_store.specs.declared.store.Standing.{Standing}
use Rattle.actor_store.specs.declared.store.Standing.TheVariants.{Up, Down, Failing}
use Rattle.actor_store.specs.Store.{is_up}
use Rattle.site_core.specs.Stands.{IsIn}
use Rattle.site_core.proofs.site.SiteCore.committed.Goals as goal

pub returns : goal.returns
returns g c home past h up = from c.args.self.now.store.standing h.memory.standing h.memory.standing_in
  where
    from : (standing : Standing) → is_down past ≡ not (is_up standing) → IsIn g.E.LocalEngine.stands c.args.self.now standing home past → c.committed.result ≡ local_of (records home past) c.args.tx
    from Up e u = c.committed.ensures ∙ u.notes.committed_is c.args.tx
    from Down e u = cc
    from Failing e u = cc
