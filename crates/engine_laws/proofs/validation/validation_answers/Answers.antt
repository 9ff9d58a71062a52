use Rattle.engine_laws.proofs.ValidationReplies.{validation_grants, validation_seals}
use Rattle.engine_laws.proofs.validation.validation_answers.Goals as goal

pub returns-clause-granted : goal.returns-clause-granted
returns-clause-granted c = validation_grants

pub returns-clause-sealing : goal.returns-clause-sealing
returns-clause-sealing c = validation_seals
