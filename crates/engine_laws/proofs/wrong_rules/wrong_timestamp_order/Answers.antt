use Rattle.engine_laws.proofs.Refuted.{committed_reads_refuted, without_waits_refuted}
use Rattle.engine_laws.proofs.wrong_rules.wrong_timestamp_order.Goals as goal

pub returns-clause-forgotten_reads : goal.returns-clause-forgotten_reads
returns-clause-forgotten_reads c = committed_reads_refuted

pub returns-clause-no_waits : goal.returns-clause-no_waits
returns-clause-no_waits c = without_waits_refuted
