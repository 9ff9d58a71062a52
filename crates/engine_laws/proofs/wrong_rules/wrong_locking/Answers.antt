use Rattle.engine_laws.proofs.Refuted.{until_sealed_refuted, starts_again_refuted}
use Rattle.engine_laws.proofs.wrong_rules.wrong_locking.Goals as goal

pub returns-clause-freed_keys : goal.returns-clause-freed_keys
returns-clause-freed_keys c = until_sealed_refuted

pub returns-clause-numbers_from_one : goal.returns-clause-numbers_from_one
returns-clause-numbers_from_one c = starts_again_refuted
