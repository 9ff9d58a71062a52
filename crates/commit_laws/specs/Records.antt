-- What the records of a site's journal say of an attempt, as facts on one record.
use Rattle.std.specs.Prelude.{◌≡◌, ℕ, false}
use Rattle.mdb_base.specs.declared.names.Tid.{Tid}
use Rattle.presumptions.specs.declared.Decision.{Decision}
use Rattle.presumptions.specs.declared.Protocol.{Protocol}
use Rattle.presumptions.specs.Table.{forces}
use Rattle.fed_rules.specs.declared.records.SiteRecord.{SiteRecord}
use Rattle.fed_rules.specs.declared.records.SiteRecord.TheVariants as Rec

-- a Prepared record of the attempt, of this epoch
abbrev pub IsPrepared : Tid → ℕ → SiteRecord → Type 0
IsPrepared tid e (Rec.Prepared prepared epoch number ticket writes) = (prepared ≡ tid) × (epoch ≡ e)
IsPrepared tid e kept = ⊥

-- an Ended record of the attempt, with this decision
abbrev pub IsEnded : Tid → Decision → SiteRecord → Type 0
IsEnded tid decision (Rec.Ended ended made) = (ended ≡ tid) × (made ≡ decision)
IsEnded tid decision kept = ⊥

-- a record that a site appends without a sync: a stop may take it away
abbrev pub IsLooseEnded : Protocol → SiteRecord → Type 0
IsLooseEnded protocol (Rec.Ended ended made) = forces protocol made ≡ false
IsLooseEnded protocol kept = ⊥
