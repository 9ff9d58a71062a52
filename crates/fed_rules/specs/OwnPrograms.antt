-- The programs that an actor holds: of the global transactions at the coordinator, of its local ones at a site.
use Rattle.std.specs.Prelude.{cond, Option, Some, None, List}
use Rattle.mdb_base.specs.declared.acts.Step.{Step}
use Rattle.mdb_base.specs.declared.names.SiteId.{SiteId}
use Rattle.mdb_base.specs.declared.names.Tx.{Tx}
use Rattle.mdb_base.specs.Names.{same_site, same_tx}
use Rattle.mdb_base.specs.Words.{first_where}
use Rattle.fed_rules.specs.declared.scenario.TxLine.{TxLine}

-- the program of a transaction, where it is one of the actor's own
abbrev pub OwnPrograms : Type 0
OwnPrograms = Tx → Option (List Step)

-- the program of a line, where its transaction is local at this site
abbrev pub program_at : SiteId → Option TxLine → Option (List Step)
program_at site None = None
program_at site (Some line) = at line.home where
  at : Option SiteId → Option (List Step)
  at None = None
  at (Some home) = cond (same_site home site) (Some line.program) None

-- the programs of a site's own transactions by these lines, of several of one number the first
abbrev pub own_programs : SiteId → List TxLine → OwnPrograms
own_programs site lines tx = program_at site (first_where (λ line. same_tx line.tx tx) lines)
