use Rattle.commit_laws.proofs.SealProofs.{closed-have-no-live-run}
use Rattle.commit_laws.proofs.seal_laws.closed_attempts_have_no_live_run.Goals as goal

pub returns : goal.returns
returns c = closed-have-no-live-run
