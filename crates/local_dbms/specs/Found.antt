-- The programs of a site whose journal was found: nothing is known of them but whose they are, so they are made up.
use Rattle.std.specs.Prelude.{Bool, false, cond, Some, None, List, [], ◌∷◌}
use Rattle.mdb_base.specs.declared.acts.Act.TheVariants.{Get}
use Rattle.mdb_base.specs.declared.acts.Step.{Step}
use Rattle.mdb_base.specs.declared.names.Tid.{Tid}
use Rattle.mdb_base.specs.declared.names.Tx.{Tx}
use Rattle.mdb_base.specs.Names.{same_tx}
use Rattle.mdb_base.specs.Words.{some_of}
use Rattle.fed_rules.specs.declared.records.SiteRecord.{SiteRecord}
use Rattle.fed_rules.specs.declared.records.SiteRecord.TheVariants.{Local, Checkpoint}
use Rattle.local_dbms.specs.Stands.{OwnPrograms}

-- the record has a local attempt of the transaction
abbrev pub has_local : Tx → SiteRecord → Bool
has_local tx (Local tid number writes) = same_tx tid.tx tx
has_local tx (Checkpoint sum) = some_of (λ (tid : Tid). same_tx tid.tx tx) sum.locals
has_local tx other = false

-- a read of key 0 at site 1
abbrev pub made_up : List Step
made_up = record { site = record { 0 = 1 }; act = Get (record { 0 = 0 }) } ∷ []

-- each transaction of which a record has a local attempt has this program
abbrev pub found_programs : List SiteRecord → OwnPrograms
found_programs records tx = cond (some_of (has_local tx) records) (Some made_up) None
