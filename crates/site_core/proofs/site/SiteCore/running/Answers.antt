use Rattle.std.proofs.Common.{◌≡◌, not, sym, ◌∙◌}
use Rattle.fed_rules.specs.Happenings.{is_down}
use Rattle.fed_rules.specs.SitePast.{live_of_tx}
use Rattle.actor_store.specs.declared.store.Standing.{Standing}
use Rattle.actor_store.specs.declared.store.Standing.TheVariants.{Up, Down, Failing}
use Rattle.actor_store.specs.Store.{is_up}
use Rattle.site_core.specs.Stands.{IsIn}
use Rattle.site_core.proofs.LineLaws.{running_is}
use Rattle.site_core.proofs.site.SiteCore.running.Goals as goal

pub returns : goal.returns
returns g c home past h up local = from c.args.self.now.store.standing h.memory.standing h.memory.standing_in
  where
    from : (standing : Standing) → is_down past ≡ not (is_up standing) → IsIn g.E.LocalEngine.stands c.args.self.now standing home past → c.running.result ≡ live_of_tx home past c.args.tx
    from Up e u = c.running.ensures ∙ sym (running_is c.args.self.now.book home past u.notes (g.met.E.LocalEngine.right _ _ _ u.engine) h.memory.begun c.args.tx local)
    from Down e u = cc
    from Failing e u = cc
