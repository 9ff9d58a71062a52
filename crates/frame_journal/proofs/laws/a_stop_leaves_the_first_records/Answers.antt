use Rattle.frame_journal.specs.Records.{entry_frame}
use Rattle.frame_journal.proofs.Apart.{whole_records}
use Rattle.frame_journal.proofs.Within.{within_front}
use Rattle.frame_journal.proofs.laws.a_stop_leaves_the_first_records.Goals as goal

pub returns-clause-whole : goal.returns-clause-whole
returns-clause-whole g c = whole_records (entry_frame g.F.Format.spelling)

pub returns-clause-first : goal.returns-clause-first
returns-clause-first g c = within_front (entry_frame g.F.Format.spelling)
