use Rattle.coord_laws.proofs.CoordPasts.{coordinators_say, coordinators_sum, going_say, going_sums}
use Rattle.coord_laws.proofs.sums.coordinators_checkpoints_are_sums.Goals as goal

pub returns-clause-all : goal.returns-clause-all
returns-clause-all c = λ protocols policy events. (coordinators_sum protocols policy events, coordinators_say protocols policy events)

pub returns-clause-going_on : goal.returns-clause-going_on
returns-clause-going_on c = λ protocols policy past made. (going_sums protocols policy past made, going_say protocols policy past made)
