use Rattle.site_history.proofs.ShutWalk.{prepares_once}
use Rattle.site_history.proofs.serial_pasts.sites_prepare_once.Goals as goal

pub returns : goal.returns
returns c = prepares_once
