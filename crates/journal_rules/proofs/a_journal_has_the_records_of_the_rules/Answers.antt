use Rattle.journal_rules.proofs.Journals.{entries_follow, torn_follows}
use Rattle.journal_rules.proofs.a_journal_has_the_records_of_the_rules.Goals as goal

pub returns-clause-entries : goal.returns-clause-entries
returns-clause-entries g c = entries_follow g.F.Format.spelling g.F.Format.reading g.F.Format.is_record g.F.Format.frame_bytes g.met.F.Format.counts_frames g.met.F.Format.spelled_is_read

pub returns-clause-torn : goal.returns-clause-torn
returns-clause-torn g c = λ tells seen journal disk told sized kept stands entries written.
    torn_follows g.F.Format.spelling g.F.Format.frame_bytes g.met.F.Format.counts_frames tells seen journal disk told sized kept stands
