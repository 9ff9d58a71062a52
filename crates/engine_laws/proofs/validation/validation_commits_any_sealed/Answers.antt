use Rattle.mdb_base.specs.declared.names.Engine.TheVariants.{Validation}
use Rattle.engine_laws.specs.Laws.{IsSerialSite, HasTicketsInOrder}
use Rattle.engine_laws.proofs.Commits.{any_commits}
use Rattle.engine_laws.proofs.EachRule.{serial_by, tickets_by}
use Rattle.engine_laws.proofs.validation.validation_commits_any_sealed.Goals as goal

pub returns-clause-serial : goal.returns-clause-serial
returns-clause-serial c = any_commits Validation IsSerialSite (serial_by Validation)

pub returns-clause-tickets : goal.returns-clause-tickets
returns-clause-tickets c = any_commits Validation HasTicketsInOrder (tickets_by Validation)
