use Rattle.std.proofs.Common.{◌∙◌, length, ap}
use Rattle.std.specs.Prelude.{count_by, is_none, is_some}
use Rattle.fed_rules.specs.declared.scenario.Scenario.{Scenario}
use Rattle.fed_rules.specs.declared.scenario.TxLine.{TxLine}
use Rattle.fed_rules.specs.Sessions.{fresh}
use Rattle.fed_rules.specs.Story.{story_of}
use Rattle.report_text.specs.Summaries.{summary_line}
use Rattle.session_outputs.proofs.summing.summary_of.Goals as goal

pub returns : goal.returns
returns c scenario commands r rest =
    let same = c.scenario.view_is ∙ c.scenario-scenario.ensures (fresh scenario) commands r.has in
    let actors = c.cores-cores.ensures (fresh scenario) commands r in
    let sites = c.len.ensures ∙ ap (λ (z : Scenario). length z.sites) same in
    let globals = c.globals.ensures
    ∙ (ap (count_by (λ (line : TxLine). is_none line.home)) c.as_slice-transactions.ensures ∙ ap (λ (z : Scenario). count_by (λ (line : TxLine). is_none line.home) z.transactions) same) in
    let locals = c.locals.ensures
    ∙ (ap (count_by (λ (line : TxLine). is_some line.home)) c.as_slice-transactions.ensures ∙ ap (λ (z : Scenario). count_by (λ (line : TxLine). is_some line.home) z.transactions) same) in
    let committed = c.in_ok-commits_of.ensures scenario (story_of scenario commands) actors in
    let total = c.in_ok-total_of.ensures scenario commands actors rest in
    λ i. summary_line (sites i) (globals i) (locals i) (committed i) (total i)
