use Rattle.mdb_base.specs.declared.names.Engine.TheVariants.{Timestamp, Multiversion}
use Rattle.engine_laws.proofs.ForCallers.{multiversion_by_age, timestamp_by_age}
use Rattle.run_book.proofs.AgeSteps.{follows_begins, follows_calls, follows_starts, follows_unseals}
use Rattle.run_book.proofs.laws.the_ages_follow_the_lines.Goals as goal

pub returns-clause-starts : goal.returns-clause-starts
returns-clause-starts c = follows_starts

pub returns-clause-begins : goal.returns-clause-begins
returns-clause-begins c = follows_begins

pub returns-clause-timestamp_calls : goal.returns-clause-timestamp_calls
returns-clause-timestamp_calls c = follows_calls Timestamp timestamp_by_age

pub returns-clause-multiversion_calls : goal.returns-clause-multiversion_calls
returns-clause-multiversion_calls c = follows_calls Multiversion multiversion_by_age

pub returns-clause-timestamp_unseals : goal.returns-clause-timestamp_unseals
returns-clause-timestamp_unseals c = follows_unseals Timestamp timestamp_by_age

pub returns-clause-multiversion_unseals : goal.returns-clause-multiversion_unseals
returns-clause-multiversion_unseals c = follows_unseals Multiversion multiversion_by_age
