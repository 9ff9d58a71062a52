use Rattle.refuted_rules.proofs.Closings.{still_armed, still_live, still_known, still_in_doubt, still_unanswered}
use Rattle.refuted_rules.proofs.wrong_rules.wrong_closings.Goals as goal

pub returns-clause-armed : goal.returns-clause-armed
returns-clause-armed c = still_armed

pub returns-clause-live : goal.returns-clause-live
returns-clause-live c = still_live

pub returns-clause-known : goal.returns-clause-known
returns-clause-known c = still_known

pub returns-clause-in_doubt : goal.returns-clause-in_doubt
returns-clause-in_doubt c = still_in_doubt

pub returns-clause-unanswered : goal.returns-clause-unanswered
returns-clause-unanswered c = still_unanswered
