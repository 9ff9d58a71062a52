use Rattle.std.proofs.Common.{◌∙◌}
use Rattle.std.proofs.lemmas.Result.{IfOk-weaker}
use Rattle.session_outputs.proofs.summing.summed.Goals as goal

pub returns : goal.returns
returns c =
    IfOk-weaker c.summary_line.result _ _ (λ text e scenario commands r rest. e ∙ c.in_ok-summary_of.ensures scenario commands r rest) c.summary_line.ensures
