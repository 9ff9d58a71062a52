use Rattle.mdb_base.specs.declared.names.Engine.TheVariants.{Timestamp, Multiversion}
use Rattle.engine_laws.proofs.ForCallers.{multiversion_by_age, timestamp_by_age}
use Rattle.run_book.proofs.AgeRules.{stops_access, stops_reader}
use Rattle.run_book.proofs.TicketRules.{stops_taking}
use Rattle.run_book.proofs.laws.the_ages_answer_as_the_rules.Goals as goal

pub returns-clause-timestamp_access : goal.returns-clause-timestamp_access
returns-clause-timestamp_access c = stops_access Timestamp timestamp_by_age

pub returns-clause-multiversion_write : goal.returns-clause-multiversion_write
returns-clause-multiversion_write c = stops_access Multiversion multiversion_by_age

pub returns-clause-multiversion_read : goal.returns-clause-multiversion_read
returns-clause-multiversion_read c = stops_reader Multiversion multiversion_by_age

pub returns-clause-timestamp_ticket : goal.returns-clause-timestamp_ticket
returns-clause-timestamp_ticket c = stops_taking Timestamp timestamp_by_age

pub returns-clause-multiversion_ticket : goal.returns-clause-multiversion_ticket
returns-clause-multiversion_ticket c = stops_taking Multiversion multiversion_by_age
