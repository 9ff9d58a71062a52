use Rattle.engine_laws.proofs.MultiversionReplies.{multiversion_versions}
use Rattle.engine_laws.proofs.multiversion.multiversion_reads_its_version.Goals as goal

pub returns : goal.returns
returns c = multiversion_versions
