use Rattle.commit_laws.proofs.EndingProofs.{stories-end-alike, stories-forget-exactly, stories-answer-in-doubt}
use Rattle.commit_laws.proofs.forgetting_laws.attempts_end_by_their_outcomes.Goals as goal

pub returns-clause-alike : goal.returns-clause-alike
returns-clause-alike c = stories-end-alike

pub returns-clause-forgets : goal.returns-clause-forgets
returns-clause-forgets c = stories-forget-exactly

pub returns-clause-answers : goal.returns-clause-answers
returns-clause-answers c = stories-answer-in-doubt
