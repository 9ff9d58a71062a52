use Rattle.held_disks.proofs.Stores.{coord_holds}
use Rattle.held_disks.proofs.standing.coordinators_hold_their_records.Goals as goal

pub returns : goal.returns
returns g c = coord_holds g.P.TakePolicy.policy
