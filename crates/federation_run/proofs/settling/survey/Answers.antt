use Rattle.std.proofs.Common.{◌∙◌}
use Rattle.federation_run.proofs.SettledParts.{surveyed}
use Rattle.federation_run.proofs.settling.survey.Goals as goal

pub returns : goal.returns
returns c =
    surveyed c.args.scenario.now c.args.left.now c.first_failed.result c.as_slice.result.now c.as_slice-2.result.now c.as_slice-3.result.now c.as_slice-5.result.now c.as_slice-4.result.now (c.as_slice.ensures.value ∙ c.in_ok-declared.ensures)
    c.as_slice-2.ensures.value (c.are_placed.ensures c.if-not-are_placed.false) c.as_slice-3.ensures.value c.as_slice-4.ensures.value c.all_fit.ensures c.as_slice-5.ensures.value c.first_failed.ensures
