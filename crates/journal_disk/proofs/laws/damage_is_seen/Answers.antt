use Rattle.journal_disk.proofs.Whole.{no_other, one_place, changed}
use Rattle.journal_disk.proofs.laws.damage_is_seen.Goals as goal

pub returns-clause-no_other : goal.returns-clause-no_other
returns-clause-no_other c = no_other

pub returns-clause-one_place : goal.returns-clause-one_place
returns-clause-one_place c = one_place

pub returns-clause-changed : goal.returns-clause-changed
returns-clause-changed c = changed
