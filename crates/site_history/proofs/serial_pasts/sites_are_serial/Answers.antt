use Rattle.site_history.proofs.SerialPasts.{pasts_serial}
use Rattle.site_history.proofs.serial_pasts.sites_are_serial.Goals as goal

pub returns : goal.returns
returns c = pasts_serial
