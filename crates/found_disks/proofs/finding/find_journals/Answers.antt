use Rattle.std.proofs.Common.{◌≡◌, map}
use Rattle.found_disks.specs.Reading.{images_of}
use Rattle.found_disks.proofs.Finds.{refused_calm, refused_found, unread_found}
use Rattle.found_disks.proofs.InRange.{found_range}
use Rattle.found_disks.proofs.UsableFinds.{usable_found}
use Rattle.found_disks.proofs.finding.find_journals.Goals as goal

pub read_journals-requires-clause-told : goal.read_journals-requires-clause-told
read_journals-requires-clause-told g c = c.requires.told

pub read_journals-requires-clause-nine : goal.read_journals-requires-clause-nine
read_journals-requires-clause-nine g c = c.requires.nine

pub refuse_foreign-requires : goal.refuse_foreign-requires
refuse_foreign-requires g c = c.in-Ok.ensures.read.all

pub returns-in-Ok-refuse_foreign-clause-found : goal.returns-in-Ok-refuse_foreign-clause-found
returns-in-Ok-refuse_foreign-clause-found g c = (c.in-Ok.ensures.read, c.in-Ok-refuse_foreign.ensures.usable)

pub returns-in-Ok-refuse_foreign-clause-usable : goal.returns-in-Ok-refuse_foreign-clause-usable
returns-in-Ok-refuse_foreign-clause-usable g c =
    usable_found (images_of (map g.D.Disk.seen c.args.disks.now.items)) c.in-Ok.journals c.in-Ok.ensures.read c.in-Ok-refuse_foreign.ensures.usable

pub returns-in-Ok-refuse_foreign-clause-range : goal.returns-in-Ok-refuse_foreign-clause-range
returns-in-Ok-refuse_foreign-clause-range g c = found_range (images_of (map g.D.Disk.seen c.args.disks.now.items)) c.in-Ok.journals c.in-Ok.ensures.read

pub returns-in-Ok-refuse_foreign-clause-images : goal.returns-in-Ok-refuse_foreign-clause-images
returns-in-Ok-refuse_foreign-clause-images g c = c.in-Ok.ensures.images

pub returns-in-Ok-refuse_foreign-clause-cause : goal.returns-in-Ok-refuse_foreign-clause-cause
returns-in-Ok-refuse_foreign-clause-cause g c = c.in-Ok.ensures.cause

pub returns-in-Err-refuse_foreign-clause-found : goal.returns-in-Err-refuse_foreign-clause-found
returns-in-Err-refuse_foreign-clause-found g c =
    refused_found (images_of (map g.D.Disk.seen c.args.disks.now.items)) c.in-Ok.journals c.in-Err-refuse_foreign.why c.in-Ok.ensures.read c.in-Err-refuse_foreign.ensures.foreign

pub returns-in-Err-refuse_foreign-clause-images : goal.returns-in-Err-refuse_foreign-clause-images
returns-in-Err-refuse_foreign-clause-images g c = c.in-Ok.ensures.images

pub returns-in-Err-refuse_foreign-clause-cause : goal.returns-in-Err-refuse_foreign-clause-cause
returns-in-Err-refuse_foreign-clause-cause g c =
    refused_calm c.in-Ok.journals c.in-Err-refuse_foreign.why (map g.D.Disk.seen c.args.disks.now.items) (map g.D.Disk.seen c.read_journals.new.disks.items)
    c.in-Err-refuse_foreign.ensures.foreign c.in-Ok.ensures.cause

pub returns-in-Err-clause-found : goal.returns-in-Err-clause-found
returns-in-Err-clause-found g c = unread_found (images_of (map g.D.Disk.seen c.args.disks.now.items)) c.in-Err.why c.in-Err.ensures.unread

pub returns-in-Err-clause-images : goal.returns-in-Err-clause-images
returns-in-Err-clause-images g c = c.in-Err.ensures.images

pub returns-in-Err-clause-cause : goal.returns-in-Err-clause-cause
returns-in-Err-clause-cause g c = c.in-Err.ensures.cause
