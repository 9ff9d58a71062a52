use Rattle.std.proofs.Common.{◌≡◌, length}
use Rattle.record_fields.specs.Items.{rises}
use Rattle.record_fields.proofs.items.rises.Given as goal

abbrev pub invariant-loop-rest : goal.invariant-loop-rest
invariant-loop-rest g l = rises g.T.Item.number_of l.rest ≡ rises g.T.Item.number_of l.items

abbrev pub decreases-loop-rest : goal.decreases-loop-rest
decreases-loop-rest g l = length l.rest
