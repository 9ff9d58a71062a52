use Rattle.mdb_base.specs.declared.names.Engine.TheVariants.{Multiversion}
use Rattle.engine_laws.specs.Laws.{IsSerialSite, HasTicketsInOrder}
use Rattle.engine_laws.proofs.Commits.{any_commits}
use Rattle.engine_laws.proofs.EachRule.{serial_by, tickets_by}
use Rattle.engine_laws.proofs.multiversion.multiversion_commits_any_sealed.Goals as goal

pub returns-clause-serial : goal.returns-clause-serial
returns-clause-serial c = any_commits Multiversion IsSerialSite (serial_by Multiversion)

pub returns-clause-tickets : goal.returns-clause-tickets
returns-clause-tickets c = any_commits Multiversion HasTicketsInOrder (tickets_by Multiversion)
