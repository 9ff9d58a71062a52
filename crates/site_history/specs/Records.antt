-- What is said of the records of a site: which of them bind an attempt, and how they fit to the outcomes.
use Rattle.std.specs.Prelude.{ℕ, ◌≡◌, true, false, Bool, List, [], ◌∷◌}
use Rattle.mdb_base.specs.declared.names.Tid.{Tid}
use Rattle.mdb_base.specs.declared.rows.Put.{Put}
use Rattle.mdb_base.specs.Words.{Each, Among}
use Rattle.order_laws.specs.Chains.{In}
use Rattle.presumptions.specs.declared.Decision.TheVariants as Decided
use Rattle.fed_rules.specs.declared.records.SiteRecord.{SiteRecord}
use Rattle.fed_rules.specs.declared.records.SiteRecord.TheVariants.{Prepared, Ended, Local}

-- a record by which the attempt is prepared
abbrev pub Prepares : Tid → SiteRecord → Type 0
Prepares tid (Prepared prepared epoch number ticket writes) = prepared ≡ tid
Prepares tid other = ⊥

-- a record by which the attempt is prepared, or is committed as a local one
abbrev pub Binds : Tid → SiteRecord → Type 0
Binds tid (Prepared prepared epoch number ticket writes) = prepared ≡ tid
Binds tid (Local done number writes) = done ≡ tid
Binds tid other = ⊥

-- one of the records binds the attempt
abbrev pub IsBound : Tid → List SiteRecord → Type 0
IsBound tid records = Among (Binds tid) records

-- no attempt is bound by two records
abbrev pub BindOnce : List SiteRecord → Type 0
BindOnce [] = Unit {0}
BindOnce (Prepared tid epoch number ticket writes ∷ records) = (IsBound tid records → ⊥) × BindOnce records
BindOnce (Local tid number writes ∷ records) = (IsBound tid records → ⊥) × BindOnce records
BindOnce (other ∷ records) = BindOnce records

-- a Prepared record of the attempt is kept, with this ticket
pub record IsPrepared (records : List SiteRecord) (tid : Tid) (ticket : ℕ) : Type 0 where
  pub epoch : ℕ
  pub number : ℕ
  pub writes : List Put
  pub kept : In (Prepared tid epoch number ticket writes) records

-- an Ended record tells the outcome
abbrev pub TellsOutcome : (Tid → Bool) → SiteRecord → Type 0
TellsOutcome commits (Ended tid Decided.Commit) = commits tid ≡ true
TellsOutcome commits (Ended tid Decided.Abort) = commits tid ≡ false
TellsOutcome commits other = Unit {0}

-- each Ended record tells the outcome
abbrev pub TellOutcomes : (Tid → Bool) → List SiteRecord → Type 0
TellOutcomes commits records = Each (TellsOutcome commits) records
