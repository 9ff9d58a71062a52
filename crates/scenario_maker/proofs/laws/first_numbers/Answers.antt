use Rattle.std.proofs.Common.{refl}
use Rattle.scenario_maker.proofs.laws.first_numbers.Goals as goal

pub returns-clause-numbers : goal.returns-clause-numbers
returns-clause-numbers c = refl

pub returns-clause-sites : goal.returns-clause-sites
returns-clause-sites c = refl
