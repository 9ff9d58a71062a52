use Rattle.journal_rules.specs.Torn.{AnyRecord}
use Rattle.journal_rules.proofs.Keeps.{from_empty}
use Rattle.journal_rules.proofs.Torn.{torn_from_empty}
use Rattle.journal_rules.proofs.whole_frames_are_the_records.Goals as goal

pub returns-clause-stands : goal.returns-clause-stands
returns-clause-stands g c = from_empty g.F.Format.spelling

pub returns-clause-torn : goal.returns-clause-torn
returns-clause-torn g c = λ size counts. torn_from_empty g.F.Format.spelling size counts AnyRecord
