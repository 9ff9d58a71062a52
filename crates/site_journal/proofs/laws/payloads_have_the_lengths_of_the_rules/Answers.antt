use Rattle.site_journal.specs.PayloadSizes.{payload_has_size}
use Rattle.site_journal.proofs.laws.payloads_have_the_lengths_of_the_rules.Goals as goal

pub returns : goal.returns
returns c = payload_has_size
