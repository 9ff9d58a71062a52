use Rattle.engine_laws.proofs.MultiversionReplies.{multiversion_answers}
use Rattle.engine_laws.proofs.multiversion.multiversion_answers.Goals as goal

pub returns : goal.returns
returns c = multiversion_answers
