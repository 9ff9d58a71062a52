use Rattle.std.proofs.Common.{refl}
use Rattle.actor_store.proofs.ForCallers.{from_stop}
use Rattle.site_core.proofs.Outcomes.{well_with}
use Rattle.site_core.proofs.StopLaws.{halt_stops}
use Rattle.site_core.proofs.site.SiteCore.halt.Goals as goal

pub returns-clause-answered : goal.returns-clause-answered
returns-clause-answered g c = well_with _ c.said.result _ c.said.ensures
    (λ home past k.
    halt_stops g.E.LocalEngine.stands g.D.Disk.tells c.args.self.now _ _ (g.D.Disk.seen c.args.disk.now) (g.D.Disk.seen c.stop-kept.new.disk) home past c.args.cut c.stop-kept.result
    k c.requires.up (from_stop k.stored (c.stop-kept.ensures.stops _ _ _ k.stored.behind)) c.stop-kept.ensures.down refl refl refl refl c.stop-kept.ensures.called)
