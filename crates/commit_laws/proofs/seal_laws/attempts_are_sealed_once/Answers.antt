use Rattle.commit_laws.proofs.SealProofs.{attempts-are-sealed-once, decided-are-not-sealed, one-prepared-is-kept, prepared-in-the-known-epoch}
use Rattle.commit_laws.proofs.seal_laws.attempts_are_sealed_once.Goals as goal

pub returns-clause-once : goal.returns-clause-once
returns-clause-once c = attempts-are-sealed-once

pub returns-clause-not_behind_a_decision : goal.returns-clause-not_behind_a_decision
returns-clause-not_behind_a_decision c = decided-are-not-sealed

pub returns-clause-kept_once : goal.returns-clause-kept_once
returns-clause-kept_once c = one-prepared-is-kept

pub returns-clause-known_epoch : goal.returns-clause-known_epoch
returns-clause-known_epoch c = prepared-in-the-known-epoch
