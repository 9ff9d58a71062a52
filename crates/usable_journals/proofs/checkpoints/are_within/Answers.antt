use Rattle.std.proofs.lemmas.Result.{IfOk-weaker}
use Rattle.usable_journals.proofs.SumLaws.{within_is}
use Rattle.usable_journals.proofs.checkpoints.are_within.Goals as goal

pub returns : goal.returns
returns c = IfOk-weaker c.all_fit.result _ _ (λ within is. within_is c.args.records.now within is) c.all_fit.ensures
