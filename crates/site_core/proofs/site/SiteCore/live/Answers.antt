use Rattle.std.proofs.Common.{◌≡◌, not, ◌∙◌}
use Rattle.std.specs.Option.{option_copied}
use Rattle.mdb_base.specs.Words.{map_some}
use Rattle.fed_rules.specs.Happenings.{is_down}
use Rattle.fed_rules.specs.SitePast.{live}
use Rattle.actor_store.specs.declared.store.Standing.{Standing}
use Rattle.actor_store.specs.declared.store.Standing.TheVariants.{Up, Down, Failing}
use Rattle.actor_store.specs.Store.{is_up}
use Rattle.site_book.specs.Noted.{noted_of}
use Rattle.site_core.specs.Stands.{IsIn}
use Rattle.site_core.proofs.LineLaws.{noted_live}
use Rattle.site_core.proofs.site.SiteCore.live.Goals as goal

pub returns : goal.returns
returns g c home past h up = from c.args.self.now.store.standing h.memory.standing h.memory.standing_in
  where
    from : (standing : Standing) → is_down past ≡ not (is_up standing) → IsIn g.E.LocalEngine.stands c.args.self.now standing home past → option_copied c.live.result ≡ map_some noted_of (live home past c.args.tid)
    from Up e u = c.live.ensures ∙ noted_live c.args.self.now.book _ _ _ u.notes.follows c.args.tid
    from Down e u = cc
    from Failing e u = cc
