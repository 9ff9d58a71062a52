use Rattle.engine_laws.proofs.TimestampReplies.{timestamp_answers, timestamp_takes, timestamp_seals}
use Rattle.engine_laws.proofs.timestamp.timestamp_answers.Goals as goal

pub returns-clause-access : goal.returns-clause-access
returns-clause-access c = timestamp_answers

pub returns-clause-ticket : goal.returns-clause-ticket
returns-clause-ticket c = timestamp_takes

pub returns-clause-sealing : goal.returns-clause-sealing
returns-clause-sealing c = timestamp_seals
