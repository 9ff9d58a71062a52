use Rattle.found_laws.proofs.FoundLines.{lines_are_few, lines_fit}
use Rattle.found_laws.proofs.laws.found_lines_are_few.Goals as goal

pub returns-clause-few : goal.returns-clause-few
returns-clause-few c = lines_are_few

pub returns-clause-fits : goal.returns-clause-fits
returns-clause-fits c = lines_fit
