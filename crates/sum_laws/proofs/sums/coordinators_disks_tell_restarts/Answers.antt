use Rattle.coord_laws.proofs.ForCallers.{going_tells}
use Rattle.sum_laws.proofs.Restarts.{journals_tell_restarts}
use Rattle.sum_laws.proofs.sums.coordinators_disks_tell_restarts.Goals as goal

pub returns-clause-pasts : goal.returns-clause-pasts
returns-clause-pasts c = going_tells

pub returns-clause-stories : goal.returns-clause-stories
returns-clause-stories c = journals_tell_restarts c.coordinators_are_made_by_events.ensures
