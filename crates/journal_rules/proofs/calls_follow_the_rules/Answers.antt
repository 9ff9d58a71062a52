use Rattle.journal_rules.specs.Torn.{AnyRecord}
use Rattle.journal_rules.proofs.Keeps.{call_stands, journal_stands, within_agrees}
use Rattle.journal_rules.proofs.Torn.{call_torn}
use Rattle.journal_rules.proofs.calls_follow_the_rules.Goals as goal

pub returns-clause-call : goal.returns-clause-call
returns-clause-call g c = call_stands g.F.Format.spelling

pub returns-clause-torn : goal.returns-clause-torn
returns-clause-torn g c = λ size counts. call_torn g.F.Format.spelling size counts AnyRecord

pub returns-clause-kept : goal.returns-clause-kept
returns-clause-kept g c = within_agrees g.F.Format.spelling

pub returns-clause-journal : goal.returns-clause-journal
returns-clause-journal g c = journal_stands g.F.Format.spelling
