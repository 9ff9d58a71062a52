-- A journal that is found on the disk of a coordinator whose core is to go on from it.
use Rattle.std.specs.Prelude.{Bool, true, false, ◌&&◌, List, [], ◌∷◌}
use Rattle.mdb_base.specs.Words.{some_of}
use Rattle.presumptions.specs.declared.Participant.{Participant}
use Rattle.fed_rules.specs.declared.events.CoordEvent.{CoordEvent}
use Rattle.fed_rules.specs.declared.events.CoordEvent.TheVariants as Ev
use Rattle.fed_rules.specs.declared.records.CoordRecord.{CoordRecord}
use Rattle.fed_rules.specs.CoordPast.{CoordHappening, CoordPast, disk}
use Rattle.fed_rules.specs.Disk.{Disk}
use Rattle.fed_rules.specs.Found.{Journal}
use Rattle.fed_rules.specs.Reopened.{coord_opening}
use Rattle.fed_rules.specs.Usable.{IsUsableCoordinator}
use Rattle.journal_disk.specs.Disk.{Image}
use Rattle.coord_journal.specs.Spelling.{IsRecord, spelling}
use Rattle.actor_store.specs.Found.{IsFoundIn}
use Rattle.actor_store.specs.Store.{writes}

-- whether the event is a halt
abbrev pub is_halt : CoordEvent → Bool
is_halt (Ev.Halt cut) = true
is_halt event = false

-- whether the line begins a past with a journal that was found: it is a halt, and the records of the journal are what it writes
abbrev pub opens : CoordHappening → Bool
opens x = is_halt x.event && writes x.calls

-- whether the past goes on from a journal that was found
abbrev pub was_found : CoordPast → Bool
was_found past = some_of opens past

-- the disk that a journal with its torn rest stands for: what a first Checkpoint is read as is trimmed before it, and all is synced
abbrev pub found_disk : Journal CoordRecord → Disk CoordRecord
found_disk journal = disk (coord_opening journal ∷ [])

-- this journal stands in the bytes, in records of the format, and is usable as that of a coordinator of these sites
pub record IsFoundOn (image : Image) (protocols : List Participant) (journal : Journal CoordRecord) : Type 0 where
  pub stands : IsFoundIn spelling IsRecord image journal
  pub usable : IsUsableCoordinator protocols journal.records

-- some journal is
abbrev pub SomeJournal : Image → List Participant → Type 0
SomeJournal image protocols = (journal : Journal CoordRecord) × IsFoundOn image protocols journal
