use Rattle.site_history.proofs.SerialPasts.{pasts_epochs}
use Rattle.site_history.proofs.serial_pasts.restarts_keep_sealed_runs.Goals as goal

pub returns : goal.returns
returns c = pasts_epochs
