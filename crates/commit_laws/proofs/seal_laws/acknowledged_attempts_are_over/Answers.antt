use Rattle.commit_laws.proofs.SealProofs.{acknowledged-are-not-in-doubt, acknowledged-are-not-sealed}
use Rattle.commit_laws.proofs.seal_laws.acknowledged_attempts_are_over.Goals as goal

pub returns-clause-not_in_doubt : goal.returns-clause-not_in_doubt
returns-clause-not_in_doubt c = acknowledged-are-not-in-doubt

pub returns-clause-not_sealed : goal.returns-clause-not_sealed
returns-clause-not_sealed c = acknowledged-are-not-sealed
