use Rattle.std.proofs.Common.{◌+◌, ◌∙◌, ap, ap₂}
use Rattle.std.specs.Prelude.{count_by}
use Rattle.std.proofs.lemmas.Result.{IfOk-weaker}
use Rattle.fed_rules.specs.CoordPast.{journal}
use Rattle.fed_rules.specs.Scenarios.{global_program}
use Rattle.fed_rules.specs.Story.{coord_past}
use Rattle.fed_world.specs.Asks.{terms_of}
use Rattle.report_text.specs.Summaries.{is_global_commit}
use Rattle.session_outputs.proofs.Totals.{count_reversed}
use Rattle.session_outputs.proofs.summing.commits_of.Goals as goal

pub returns : goal.returns
returns c =
    IfOk-weaker c.plus.result _ _
    (λ sum e scenario story r.
    let told = c.records-records.ensures (terms_of scenario) (coord_past story) (c.core.ensures.held (terms_of scenario) (global_program scenario) (coord_past story) r.coordinator) in
    e ∙ ap₂ (λ m n. m + n) (c.in_ok-count.ensures scenario story r)
    (c.global_commits.ensures ∙ (ap (count_by is_global_commit) told ∙ count_reversed is_global_commit (journal (coord_past story)))))
    c.plus.ensures
