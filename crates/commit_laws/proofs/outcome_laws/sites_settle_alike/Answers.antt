use Rattle.commit_laws.proofs.OutcomeLaws.{sites-agree}
use Rattle.commit_laws.proofs.outcome_laws.sites_settle_alike.Goals as goal

pub returns : goal.returns
returns c = sites-agree
