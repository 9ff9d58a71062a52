use Rattle.usable_journals.proofs.SumLaws.{some_is}
use Rattle.usable_journals.proofs.owners.are_of_some.Goals as goal

pub returns : goal.returns
returns c = some_is c.args.records.now c.all_fit.result c.all_fit.ensures
