use Rattle.journal_sums.proofs.DifferLaws.{apart_in_journal, once_in_journal}
use Rattle.journal_sums.proofs.laws.doubts_differ.Goals as goal

pub returns-clause-kept : goal.returns-clause-kept
returns-clause-kept c home journal = once_in_journal home journal

pub returns-clause-doubts : goal.returns-clause-doubts
returns-clause-doubts c home journal = apart_in_journal home journal
