use Rattle.site_history.proofs.WellKept.{starts_well}
use Rattle.site_history.proofs.serial_pasts.epochs_start_well.Goals as goal

pub returns : goal.returns
returns c = starts_well
