use Rattle.resume_laws.proofs.LeftDisks.{stops_keep_outcomes}
use Rattle.resume_laws.proofs.again.stops_keep_outcomes.Goals as goal

pub returns : goal.returns
returns c = stops_keep_outcomes
