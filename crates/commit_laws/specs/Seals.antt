-- A line that seals a subtransaction: its disk calls append a Prepared record of the attempt. A line that a stop ends may be one too.
use Rattle.std.specs.Prelude.{ℕ, ◌≡◌, Bool, false}
use Rattle.mdb_base.specs.declared.names.Tid.{Tid}
use Rattle.mdb_base.specs.Names.{same_tid}
use Rattle.mdb_base.specs.Words.{some_of}
use Rattle.fed_rules.specs.declared.events.SiteEvent.{SiteEvent}
use Rattle.fed_rules.specs.declared.events.SiteEvent.TheVariants as Ev
use Rattle.fed_rules.specs.declared.messages.ToSite.TheVariants as To
use Rattle.fed_rules.specs.declared.records.SiteRecord.{SiteRecord}
use Rattle.fed_rules.specs.declared.records.SiteRecord.TheVariants as Rec
use Rattle.fed_rules.specs.Disk.{Call, Append}
use Rattle.fed_rules.specs.SitePast.{SiteHappening}

-- whether the record is a Prepared of the attempt
abbrev pub is_prepared : Tid → SiteRecord → Bool
is_prepared tid (Rec.Prepared prepared epoch number ticket writes) = same_tid prepared tid
is_prepared tid kept = false

-- whether the call appends a Prepared record of the attempt
abbrev pub appends_prepared : Tid → Call SiteRecord → Bool
appends_prepared tid (Append kept) = is_prepared tid kept
appends_prepared tid call = false

-- whether the line seals the attempt
abbrev pub seals : Tid → SiteHappening → Bool
seals tid x = some_of (appends_prepared tid) x.calls

-- the event is a Prepare of the attempt that names this epoch
abbrev pub IsPrepareOf : Tid → ℕ → SiteEvent → Type 0
IsPrepareOf tid epoch (Ev.Give (To.Prepare prepared e n)) = (prepared ≡ tid) × (e ≡ epoch)
IsPrepareOf tid epoch event = ⊥
