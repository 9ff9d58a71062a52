use Rattle.std.proofs.Common.{◌<◌, ◌∙◌, List, [], ◌∷◌, ◌++◌, length, sym, ap₂, arith}
use Rattle.mdb_base.specs.declared.rows.SiteRows.{SiteRows}
use Rattle.mdb_base.proofs.ForCallers.{slice_get-there}
use Rattle.fed_rules.specs.Scenarios.{sites}
use Rattle.fed_rules.specs.Story.{story_in}
use Rattle.fed_world.specs.Reporting.{rows_at}
use Rattle.fed_world.proofs.SessionParts.{taken_more}
use Rattle.fed_world.proofs.world.World.tables.Goals as goal

pub loop-place-preserved : goal.loop-place-preserved
loop-place-preserved c = λ session commands r rest.
    let place = c.loop-place.place in
    let count = r.actors.sites.all_channels in
    let within : place < length (sites session.plan) = omega (arith, c.loop-place-test.true, count) in
    let (site, at) = slice_get-there (sites session.plan) place within in
    let row = c.in_ok-rows.ensures session commands r rest site at in
    c.in_ok-push.ensures.items
    ∙ (ap₂ (λ (rows : List SiteRows) (one : SiteRows). rows ++ one ∷ []) (c.loop-place.invariant session commands r rest) row
    ∙ sym (taken_more (rows_at session.plan (story_in session commands)) (sites session.plan) place site at))
