-- What the beginning of an attempt asks of the past.
use Rattle.std.specs.Prelude.{◌≡◌, None, List}
use Rattle.mdb_base.specs.declared.acts.Step.{Step}
use Rattle.mdb_base.specs.declared.names.Tid.{Tid}
use Rattle.mdb_base.specs.Words.{Each}
use Rattle.field_bytes.specs.Fields.{IsTid}
use Rattle.fed_rules.specs.CoordPast.{CoordPast, attempts_of, records, undecided_of}
use Rattle.fed_rules.specs.CoordRecords.{committed_of}
use Rattle.global_exec.specs.Pasts.{IsAmong}
use Rattle.coord_tables.specs.declared.tables.Tables.{Tables}
use Rattle.coord_tables.specs.Terms.{Terms}

-- the attempt is the next one of its transaction, in its range, and its sites are declared
pub record CanGo (tid : Tid) (program : List Step) (terms : Terms) (past : CoordPast) : Type 0 where
  pub in_range : IsTid tid
  pub next : tid.attempt ≡ attempts_of past tid.tx
  pub sites : Each (λ step. IsAmong step.site terms.protocols) program

-- the attempt may go, and no attempt of its transaction is committed or undecided
pub record CanBegin (tid : Tid) (program : List Step) (terms : Terms) (past : CoordPast) : Type 0 where
  pub can : CanGo tid program terms past
  pub uncommitted : committed_of (records past) tid.tx ≡ None
  pub idle : undecided_of past tid.tx ≡ None

-- the tables list what they listed; there may be room for more
pub record ListTheSame (old new : Tables) : Type 0 where
  pub known : new.known ≡ old.known
  pub exec : new.exec ≡ old.exec
  pub stages : new.stages.listed ≡ old.stages.listed
  pub committed : new.committed ≡ old.committed
  pub graph : new.graph ≡ old.graph
