use Rattle.commit_laws.proofs.ForgettingProofs.{presumptions-are-right, inquiries-are-answered-the-outcome}
use Rattle.commit_laws.proofs.forgetting_laws.inquiries_in_doubt_are_answered_the_outcome.Goals as goal

pub returns-clause-presumption : goal.returns-clause-presumption
returns-clause-presumption c = presumptions-are-right

pub returns-clause-answer : goal.returns-clause-answer
returns-clause-answer c = inquiries-are-answered-the-outcome
