use Rattle.refuted_rules.proofs.Disks.{unsynced_lost}
use Rattle.refuted_rules.proofs.wrong_rules.wrong_survival.Goals as goal

pub returns : goal.returns
returns c = unsynced_lost
