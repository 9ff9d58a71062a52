-- What holds of the records of a site, and what a start takes of a subtransaction in doubt.
use Rattle.std.specs.Prelude.{◌≡◌, None, List, [], ◌∷◌}
use Rattle.mdb_base.specs.declared.names.Tid.{Tid}
use Rattle.fed_rules.specs.declared.records.SiteRecord.{SiteRecord}
use Rattle.fed_rules.specs.declared.records.SiteRecord.TheVariants as Rec
use Rattle.fed_rules.specs.SiteRecords.{Held, local_of}

abbrev pub held_tid : Held → Tid
held_tid held = held.tid

-- no transaction has two Local records
abbrev pub LocalsOnce : List SiteRecord → Type 0
LocalsOnce [] = Unit {0}
LocalsOnce (Rec.Local tid number writes ∷ records) = (local_of records tid.tx ≡ None) × LocalsOnce records
LocalsOnce (other ∷ records) = LocalsOnce records
