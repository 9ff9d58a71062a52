use Rattle.std.proofs.Common.{◌≡◌, false, not, List, ◌∙◌}
use Rattle.std.proofs.lemmas.Result.{IfOk-weaker}
use Rattle.mdb_base.specs.declared.rows.Put.{Put}
use Rattle.fed_rules.specs.Happenings.{is_down}
use Rattle.fed_rules.specs.Runs.{EngineLine, Start, rows as rows_after}
use Rattle.fed_rules.specs.SitePast.{SitePast, engine_lines, epoch_start, records}
use Rattle.fed_rules.specs.SiteRecords.{Home, site_rows}
use Rattle.actor_store.specs.declared.store.Standing.{Standing}
use Rattle.actor_store.specs.declared.store.Standing.TheVariants.{Up, Down, Failing}
use Rattle.actor_store.specs.Store.{is_up}
use Rattle.site_core.specs.Made.{IsGoingOn}
use Rattle.site_core.specs.Stands.{IsIn}
use Rattle.site_core.proofs.MadeLaws.{made_tabled}
use Rattle.site_core.proofs.site.SiteCore.rows.Goals as goal

pub returns-clause-table : goal.returns-clause-table
returns-clause-table g c = IfOk-weaker c.rows.result _ _ (λ rows are home past h up. from rows are home past h.made up c.args.self.now.store.standing h.memory.standing h.memory.standing_in) c.rows.ensures
  where
    from : (rows : List Put) → ((start : Start) (lines : List EngineLine) → g.E.LocalEngine.stands c.args.self.now.engine start lines → rows ≡ rows_after start lines) → (home : Home) (past : SitePast)
        → IsGoingOn home past → is_down past ≡ false → (standing : Standing) → is_down past ≡ not (is_up standing) → IsIn g.E.LocalEngine.stands c.args.self.now standing home past
        → rows ≡ site_rows home (records home past)
    from rows are home past made up Up e u = are (epoch_start home past) (engine_lines past) u.engine ∙ made_tabled home past made
    from rows are home past made up Down e u = cc
    from rows are home past made up Failing e u = cc
