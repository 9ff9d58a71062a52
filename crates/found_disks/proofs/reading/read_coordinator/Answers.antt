use Rattle.std.proofs.Common.{map, slice_set, sym, subst, arith}
use Rattle.coord_journal.specs.Spelling.{IsRecord, reading, spelling}
use Rattle.found_disks.specs.declared.errors.ReopenErr.{ReopenErr}
use Rattle.found_disks.specs.Reading.{FailsAs, IsUnread, images_of}
use Rattle.found_disks.proofs.Puts.{same_images}
use Rattle.found_disks.proofs.Readings.{read_here, told_read, told_unread, unread_here}
use Rattle.found_disks.proofs.reading.read_coordinator.Goals as goal

pub index_mut-requires : goal.index_mut-requires
index_mut-requires g c = let some = c.requires.some in let ok = c.args.disks.now.ok.0 in omega (arith, some, ok)

pub returns-in-Ok-clause-read : goal.returns-in-Ok-clause-read
returns-in-Ok-clause-read g c =
    read_here g.D.Disk.seen c.args.disks.now.items 0 c.index_mut.result.now c.load.new.disk c.requires.some c.index_mut.ensures.value spelling IsRecord g.D.Disk.tells c.in-Ok.journal c.requires.told (c.load.ensures.image c.requires.told) c.in-Ok.ensures.kept_on c.in-Ok.ensures.are_records

pub returns-in-Ok-clause-images : goal.returns-in-Ok-clause-images
returns-in-Ok-clause-images g c = same_images g.D.Disk.seen c.args.disks.now.items 0 c.index_mut.result.now c.load.new.disk c.requires.some c.index_mut.ensures.value (c.load.ensures.image c.requires.told)

pub returns-in-Ok-clause-cause : goal.returns-in-Ok-clause-cause
returns-in-Ok-clause-cause g c = told_read g.D.Disk.seen c.args.disks.now.items 0 c.index_mut.result.now c.load.new.disk c.requires.some c.index_mut.ensures.value c.in-Ok.journal c.in-Ok.ensures.cause

pub returns-in-Err-clause-unread : goal.returns-in-Err-clause-unread
returns-in-Err-clause-unread g c =
    subst (λ (why : ReopenErr). IsUnread reading 0 (images_of (map g.D.Disk.seen c.args.disks.now.items)) why) (sym c.unread.ensures)
    (unread_here g.D.Disk.seen c.args.disks.now.items 0 c.index_mut.result.now c.load.new.disk c.requires.some c.index_mut.ensures.value reading c.in-Err.why (c.in-Err.ensures.exact c.requires.told) (c.in-Err.ensures.damaged c.requires.told))

pub returns-in-Err-clause-images : goal.returns-in-Err-clause-images
returns-in-Err-clause-images g c = same_images g.D.Disk.seen c.args.disks.now.items 0 c.index_mut.result.now c.load.new.disk c.requires.some c.index_mut.ensures.value (c.load.ensures.image c.requires.told)

pub returns-in-Err-clause-cause : goal.returns-in-Err-clause-cause
returns-in-Err-clause-cause g c =
    subst (λ (why : ReopenErr). FailsAs why (map g.D.Disk.seen c.args.disks.now.items) (map g.D.Disk.seen (slice_set c.args.disks.now.items 0 c.load.new.disk))) (sym c.unread.ensures)
    (told_unread g.D.Disk.seen c.args.disks.now.items 0 c.index_mut.result.now c.load.new.disk c.requires.some c.index_mut.ensures.value c.in-Err.why c.in-Err.ensures.cause)
