use Rattle.frame_journal.proofs.Apart.{one_spelling, none_begins, one_list}
use Rattle.frame_journal.proofs.laws.records_are_apart.Goals as goal

pub returns-clause-one_spelling : goal.returns-clause-one_spelling
returns-clause-one_spelling g c = one_spelling g.F.Format.spelling g.F.Format.reading g.F.Format.is_record g.met.F.Format.spelled_is_read

pub returns-clause-none_begins_another : goal.returns-clause-none_begins_another
returns-clause-none_begins_another g c = none_begins g.F.Format.spelling g.F.Format.reading g.F.Format.is_record g.met.F.Format.spelled_is_read

pub returns-clause-one_list : goal.returns-clause-one_list
returns-clause-one_list g c = one_list g.F.Format.spelling g.F.Format.reading g.F.Format.is_record g.met.F.Format.spelled_is_read
