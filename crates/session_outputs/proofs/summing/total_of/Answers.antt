use Rattle.std.proofs.Common.{◌%◌, ◌^◌, ◌<◌, ◌∙◌, List, length, ap, arith}
use Rattle.mdb_base.specs.declared.rows.Put.{Put}
use Rattle.mdb_base.proofs.ForCallers.{slice_get-there}
use Rattle.fed_rules.proofs.ForCallers.{its-site}
use Rattle.fed_rules.specs.Scenarios.{sites}
use Rattle.fed_rules.specs.Story.{past_of, story_of}
use Rattle.local_dbms.specs.Stands.{own_programs}
use Rattle.fed_world.proofs.ForCallers.{declared_table}
use Rattle.report_text.specs.Summaries.{rows_total}
use Rattle.session_outputs.proofs.Totals.{one_more_total, table_given}
use Rattle.session_outputs.proofs.summing.total_of.Goals as goal

pub loop-place-preserved : goal.loop-place-preserved
loop-place-preserved c = λ scenario commands r rest.
    let place = c.loop-place.place in
    let story = story_of scenario commands in
    let within : place < length (sites scenario) = omega (arith, c.loop-place-test.true, c.len-place-end.ensures, r.count) in
    let (site, there) = slice_get-there (sites scenario) place within in
    let here = r.sites place site c.at.result.now there c.at.ensures in
    let told = c.in_ok-rows.ensures.table here.home (past_of site story) (c.core.ensures.held here.home (own_programs site scenario.transactions) (past_of site story) here.recalls) (rest.sites_up site) in
    let table = told ∙ declared_table scenario story site here.home (its-site scenario site here.home here.declared) here.declared in
    let given = table ∙ table_given c.sites_journals_say_all.ensures.all scenario commands site in
    let more = c.rows_total-total.ensures ∙ ap (λ (rows : List Put). rows_total rows % 2 ^ 64) c.as_slice.ensures.items in
    one_more_total scenario story place site c.in_ok-rows.rows (2 ^ 64) c.loop-place.total c.rows_total-total.result there given more (c.loop-place.invariant scenario commands r rest)
