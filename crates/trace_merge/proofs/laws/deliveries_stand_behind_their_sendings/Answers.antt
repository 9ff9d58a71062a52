use Rattle.trace_merge.proofs.Places.{deliveries_follow}
use Rattle.trace_merge.proofs.laws.deliveries_stand_behind_their_sendings.Goals as goal

pub returns : goal.returns
returns g c = deliveries_follow _
