use Rattle.federation_laws.proofs.Memberships.{commits-agree}
use Rattle.federation_laws.proofs.program_laws.commits_agree.Goals as goal

pub returns : goal.returns
returns c = commits-agree
