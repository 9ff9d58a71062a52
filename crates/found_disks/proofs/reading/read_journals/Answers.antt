use Rattle.std.proofs.Common.{List, map, subst, ◌∙◌, arith}
use Rattle.journal_disk.specs.Disk.{Image}
use Rattle.found_disks.specs.Reading.{AreReadFrom, AreSitesUnread, images_of}
use Rattle.found_disks.proofs.Puts.{same_length}
use Rattle.found_disks.proofs.Readings.{first_unread, other_unread, told_later}
use Rattle.found_disks.proofs.reading.read_journals.Goals as goal

pub read_coordinator-requires-clause-told : goal.read_coordinator-requires-clause-told
read_coordinator-requires-clause-told g c = c.requires.told

pub read_coordinator-requires-clause-some : goal.read_coordinator-requires-clause-some
read_coordinator-requires-clause-some g c = let nine = c.requires.nine in omega (arith, nine)

pub read_sites-requires-clause-told : goal.read_sites-requires-clause-told
read_sites-requires-clause-told g c = c.requires.told

pub read_sites-requires-clause-nine : goal.read_sites-requires-clause-nine
read_sites-requires-clause-nine g c =
    same_length g.D.Disk.seen c.read_coordinator.new.disks.items c.args.disks.now.items c.in-Ok.ensures.images ∙ c.requires.nine

pub returns-in-Ok-read_sites-clause-read : goal.returns-in-Ok-read_sites-clause-read
returns-in-Ok-read_sites-clause-read g c = record {
  coordinator = c.in-Ok.ensures.read;
  sites = subst (λ (images : List Image). AreReadFrom 1 images c.in-Ok-read_sites.sites.items) c.in-Ok.ensures.images c.in-Ok-read_sites.ensures.read;
  all = c.in-Ok-read_sites.ensures.all;
}

pub returns-in-Ok-read_sites-clause-images : goal.returns-in-Ok-read_sites-clause-images
returns-in-Ok-read_sites-clause-images g c = c.in-Ok-read_sites.ensures.images ∙ c.in-Ok.ensures.images

pub returns-in-Ok-read_sites-clause-cause : goal.returns-in-Ok-read_sites-clause-cause
returns-in-Ok-read_sites-clause-cause g c = c.in-Ok-read_sites.ensures.cause ∙ c.in-Ok.ensures.cause

pub returns-in-Err-read_sites-clause-unread : goal.returns-in-Err-read_sites-clause-unread
returns-in-Err-read_sites-clause-unread g c =
    other_unread (images_of (map g.D.Disk.seen c.args.disks.now.items)) c.in-Ok.coordinator c.in-Err-read_sites.why c.in-Ok.ensures.read
    (subst (λ (images : List Image). AreSitesUnread images c.in-Err-read_sites.why) c.in-Ok.ensures.images c.in-Err-read_sites.ensures.unread)

pub returns-in-Err-read_sites-clause-images : goal.returns-in-Err-read_sites-clause-images
returns-in-Err-read_sites-clause-images g c = c.in-Err-read_sites.ensures.images ∙ c.in-Ok.ensures.images

pub returns-in-Err-read_sites-clause-cause : goal.returns-in-Err-read_sites-clause-cause
returns-in-Err-read_sites-clause-cause g c =
    told_later c.in-Err-read_sites.why (map g.D.Disk.seen c.args.disks.now.items) (map g.D.Disk.seen c.read_coordinator.new.disks.items) (map g.D.Disk.seen c.read_sites.new.disks.items)
    c.in-Ok.ensures.cause c.in-Err-read_sites.ensures.cause

pub returns-in-Err-clause-unread : goal.returns-in-Err-clause-unread
returns-in-Err-clause-unread g c = first_unread (images_of (map g.D.Disk.seen c.args.disks.now.items)) c.in-Err.why c.in-Err.ensures.unread

pub returns-in-Err-clause-images : goal.returns-in-Err-clause-images
returns-in-Err-clause-images g c = c.in-Err.ensures.images

pub returns-in-Err-clause-cause : goal.returns-in-Err-clause-cause
returns-in-Err-clause-cause g c = c.in-Err.ensures.cause
