use Rattle.std.proofs.Common.{◌<◌, length, arith}
use Rattle.mdb_base.proofs.ForCallers.{slice_get-there}
use Rattle.fed_rules.specs.Scenarios.{sites}
use Rattle.fed_rules.specs.Story.{past_of}
use Rattle.local_dbms.specs.Stands.{own_programs}
use Rattle.session_outputs.proofs.Totals.{one_more_site}
use Rattle.session_outputs.proofs.summing.local_commits_of.Goals as goal

pub loop-place-preserved : goal.loop-place-preserved
loop-place-preserved c = λ scenario story r.
    let place = c.loop-place.place in
    let within : place < length (sites scenario) = omega (arith, c.loop-place-test.true, c.len-place-end.ensures, r.count) in
    let (site, there) = slice_get-there (sites scenario) place within in
    let here = r.sites place site c.at.result.now there c.at.ensures in
    let told = c.records-records.ensures here.home (past_of site story) (c.core.ensures.held here.home (own_programs site scenario.transactions) (past_of site story) here.recalls) in
    let more = one_more_site scenario story place site here.home c.records-records.result.now there here.declared told in
    let before = c.loop-place.invariant scenario story r in
    let counted = c.local_commits.ensures in
    let sum = c.in_ok-count.ensures in
    omega (arith, more, before, counted, sum)
