use Rattle.held_disks.proofs.Stores.{site_holds}
use Rattle.held_disks.proofs.standing.sites_hold_their_records.Goals as goal

pub returns : goal.returns
returns g c = site_holds g.E.LocalEngine.stands
