-- What is answered where journals aren't found.
use Rattle.std.proofs.Common.{◌≡◌, Err, List}
use Rattle.journal_disk.specs.Disk.{Image, Seen}
use Rattle.found_disks.specs.declared.errors.ReopenErr.{ReopenErr}
use Rattle.found_disks.specs.declared.errors.ReopenErr.TheVariants as Err_is
use Rattle.found_disks.specs.declared.reading.Journals.{Journals}
use Rattle.found_disks.specs.Faults.{faults_of}
use Rattle.found_disks.specs.Finding.{FindsAs, IsRefused}
use Rattle.found_disks.specs.Reading.{AreRead, FailsAs, IsFirstUnread}

-- where they aren't read
pub unread_found : (images : List Image) (why : ReopenErr) → IsFirstUnread images why → FindsAs (Err why) images
unread_found images (Err_is.Damaged number at) told = told
unread_found images (Err_is.Foreign number) told = absurd told
unread_found images (Err_is.Disk number) told = tt
unread_found images Err_is.Memory told = tt

-- where those that are read are refused
pub refused_found : (images : List Image) (journals : Journals) (why : ReopenErr) → AreRead images journals → IsRefused journals why → FindsAs (Err why) images
refused_found images journals (Err_is.Damaged number at) read refused = absurd refused
refused_found images journals (Err_is.Foreign number) read refused = record { journals = journals; read = read; foreign = refused }
refused_found images journals (Err_is.Disk number) read refused = absurd refused
refused_found images journals Err_is.Memory read refused = tt

-- and then no count moved
pub refused_calm : (journals : Journals) (why : ReopenErr) (old new : List Seen) → IsRefused journals why → faults_of new ≡ faults_of old → FailsAs why old new
refused_calm journals (Err_is.Damaged number at) old new refused calm = absurd refused
refused_calm journals (Err_is.Foreign number) old new refused calm = calm
refused_calm journals (Err_is.Disk number) old new refused calm = absurd refused
refused_calm journals Err_is.Memory old new refused calm = calm
