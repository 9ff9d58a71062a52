use Rattle.engine_laws.proofs.MultiversionReplies.{multiversion_readers, multiversion_seals}
use Rattle.engine_laws.proofs.multiversion.multiversion_readers_pass.Goals as goal

pub returns-clause-readers : goal.returns-clause-readers
returns-clause-readers c = multiversion_readers

pub returns-clause-sealing : goal.returns-clause-sealing
returns-clause-sealing c = multiversion_seals
