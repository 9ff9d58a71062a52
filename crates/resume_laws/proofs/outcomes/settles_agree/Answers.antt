use Rattle.resume_laws.proofs.GoesOn.{all_settles_agree}
use Rattle.resume_laws.proofs.outcomes.settles_agree.Goals as goal

pub returns : goal.returns
returns c = all_settles_agree c.inquiries_in_doubt_are_answered_the_outcome.ensures.presumption
