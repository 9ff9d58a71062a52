use Rattle.found_disks.proofs.OneAnswer.{one_damaged, one_foreign, read_or_damaged, usable_or_foreign}
use Rattle.found_disks.proofs.laws.disks_have_one_answer.Goals as goal

pub returns-clause-read_or_damaged : goal.returns-clause-read_or_damaged
returns-clause-read_or_damaged c = read_or_damaged

pub returns-clause-one_damaged : goal.returns-clause-one_damaged
returns-clause-one_damaged c = one_damaged

pub returns-clause-usable_or_foreign : goal.returns-clause-usable_or_foreign
returns-clause-usable_or_foreign c = usable_or_foreign

pub returns-clause-one_foreign : goal.returns-clause-one_foreign
returns-clause-one_foreign c = one_foreign
