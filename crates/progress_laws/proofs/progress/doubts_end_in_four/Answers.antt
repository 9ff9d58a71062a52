use Rattle.progress_laws.proofs.GivenUp.{doubts_end_late}
use Rattle.progress_laws.proofs.progress.doubts_end_in_four.Goals as goal

pub returns : goal.returns
returns c = doubts_end_late c.doubts_end_in_three.ensures
