use Rattle.commit_laws.proofs.SealProofs.{commits-meet-no-live-run}
use Rattle.commit_laws.proofs.seal_laws.commits_meet_no_live_run.Goals as goal

pub returns : goal.returns
returns c = commits-meet-no-live-run
