use Rattle.coord_journal.specs.PayloadSizes.{payload_has_size}
use Rattle.coord_journal.proofs.laws.payloads_have_the_lengths_of_the_rules.Goals as goal

pub returns : goal.returns
returns c = payload_has_size
