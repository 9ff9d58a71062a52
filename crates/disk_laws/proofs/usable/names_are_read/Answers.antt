use Rattle.disk_laws.proofs.Named.{names_read}
use Rattle.disk_laws.proofs.usable.names_are_read.Goals as goal

pub returns : goal.returns
returns c = names_read
