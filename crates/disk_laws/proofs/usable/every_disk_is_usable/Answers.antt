use Rattle.disk_laws.proofs.AllRules.{usable_disks}
use Rattle.disk_laws.proofs.usable.every_disk_is_usable.Goals as goal

pub returns : goal.returns
returns c = usable_disks
