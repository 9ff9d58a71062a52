use Rattle.resume_laws.proofs.GoesOn.{all_outcomes_stay}
use Rattle.resume_laws.proofs.outcomes.outcomes_stay.Goals as goal

pub returns : goal.returns
returns c = all_outcomes_stay
