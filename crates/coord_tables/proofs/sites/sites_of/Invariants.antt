use Rattle.std.proofs.Common.{◌≡◌, ◌≤◌, take}
use Rattle.mdb_base.specs.declared.names.SiteId.{SiteId}
use Rattle.fed_rules.specs.CoordPast.{visits}
use Rattle.global_exec.specs.Sets.{has_site}
use Rattle.coord_tables.proofs.sites.sites_of.Given as goal

-- the set has the sites of the first steps
abbrev pub invariant-loop-step : goal.invariant-loop-step
invariant-loop-step l = (site : SiteId) → 1 ≤ site.0 → site.0 ≤ 8 → has_site l.sites site ≡ visits site (take l.step-index l.steps)
