use Rattle.progress_laws.proofs.Doubts.{doubts_end}
use Rattle.progress_laws.proofs.progress.doubts_end_in_three.Goals as goal

pub returns : goal.returns
returns c = doubts_end c.sites_settle_the_outcome.ensures.outcome
