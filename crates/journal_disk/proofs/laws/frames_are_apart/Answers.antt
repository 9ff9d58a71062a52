use Rattle.journal_disk.proofs.Whole.{one_frame, one_payload}
use Rattle.journal_disk.proofs.laws.frames_are_apart.Goals as goal

pub returns-clause-one_payload : goal.returns-clause-one_payload
returns-clause-one_payload c = one_payload

pub returns-clause-none_begins_another : goal.returns-clause-none_begins_another
returns-clause-none_begins_another c = one_frame
