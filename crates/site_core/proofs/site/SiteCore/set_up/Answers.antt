use Rattle.std.proofs.Common.{refl}
use Rattle.site_core.proofs.FirstLaws.{stands_first}
use Rattle.site_core.proofs.site.SiteCore.set_up.Goals as goal

pub returns-in-Ok-set_up_store-clause-stands : goal.returns-in-Ok-set_up_store-clause-stands
returns-in-Ok-set_up_store-clause-stands g c =
    stands_first g.E.LocalEngine.stands g.D.Disk.tells _ (g.D.Disk.seen c.set_up_store.new.disk) _ c.in-Ok-set_up_store.ensures.keeps c.in-Ok-set_up_store.ensures.up c.requires.fresh c.new-in-Ok-set_up_store.ensures c.in-Ok.ensures refl refl
