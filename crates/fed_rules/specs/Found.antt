-- What is found on the disks of a session that goes on from them: the journals that stand there.
use Rattle.std.specs.Prelude.{ℕ, Option, None, List, []}
use Rattle.fed_rules.specs.declared.records.CoordRecord.{CoordRecord}
use Rattle.fed_rules.specs.declared.records.SiteRecord.{SiteRecord}

-- the records of a journal, the newest first, and how many bytes stand behind the last whole frame
pub record Journal (Record : Type 0) : Type 0 where
  pub records : List Record
  pub torn : ℕ

-- the journal of the coordinator, where the session goes on from disks, and those of the sites that have a record
pub record Found : Type 0 where
  pub coordinator : Option (Journal CoordRecord)
  pub sites : List (Journal SiteRecord)

-- a session that begins with empty disks
abbrev pub nothing : Found
nothing = record { coordinator = None; sites = [] }
