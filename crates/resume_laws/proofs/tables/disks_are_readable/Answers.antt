use Rattle.resume_laws.proofs.Readable.{disks_readable}
use Rattle.resume_laws.proofs.tables.disks_are_readable.Goals as goal

pub returns : goal.returns
returns c = disks_readable
