-- The causes of the disk, as a journal names them.
use Rattle.journal_disk.specs.declared.errors.DiskErr.{DiskErr}
use Rattle.journal_disk.specs.declared.errors.DiskErr.TheVariants as OfDisk
use Rattle.journal_disk.specs.declared.errors.JournalErr.{JournalErr}
use Rattle.journal_disk.specs.declared.errors.JournalErr.TheVariants as OfJournal

abbrev pub journal_cause : DiskErr → JournalErr
journal_cause (OfDisk.Damaged at) = OfJournal.Damaged at
journal_cause OfDisk.Failed = OfJournal.Failed
journal_cause OfDisk.Memory = OfJournal.Memory
