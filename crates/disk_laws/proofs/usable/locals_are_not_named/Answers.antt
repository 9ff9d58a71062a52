use Rattle.disk_laws.proofs.Apart.{locals_not_named}
use Rattle.disk_laws.proofs.usable.locals_are_not_named.Goals as goal

pub returns : goal.returns
returns c = locals_not_named
