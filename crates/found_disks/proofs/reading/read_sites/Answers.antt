use Rattle.std.proofs.Common.{List, length, map, refl, sym, ap, subst, ◌∙◌, arith}
use Rattle.std.proofs.lemmas.List.{length_push}
use Rattle.fed_rules.specs.declared.records.SiteRecord.{SiteRecord}
use Rattle.journal_disk.specs.Disk.{Image}
use Rattle.frame_journal.specs.Journal.{Kept}
use Rattle.site_journal.specs.Spelling.{IsRecord, reading, spelling}
use Rattle.found_disks.specs.Reading.{AreReadFrom, HasBytes, IsReadFrom, IsUnread, images_of}
use Rattle.found_disks.proofs.Puts.{same_length}
use Rattle.found_disks.proofs.Readings.{one_more, site_unread, told_later}
use Rattle.found_disks.proofs.reading.read_sites.Goals as goal

pub loop-number-init : goal.loop-number-init
loop-number-init g c = record {
  read = subst (λ (js : List (Kept SiteRecord)). AreReadFrom 1 (images_of (map g.D.Disk.seen c.args.disks.now.items)) js) (sym c.new-journals.ensures.items) tt;
  all = (let none = ap (λ (js : List (Kept SiteRecord)). length js) c.new-journals.ensures.items in omega (arith, none));
  most = omega arith;
  images = refl;
  nine = c.requires.nine;
  calm = refl;
}

pub read_site-requires-clause-told : goal.read_site-requires-clause-told
read_site-requires-clause-told g c = c.requires.told

pub read_site-requires-clause-some : goal.read_site-requires-clause-some
read_site-requires-clause-some g c =
    let test = c.loop-number-test.true in
    let nine = c.loop-number.invariant.nine in
    omega (arith, test, nine)

pub returns-in_default-clause-unread : goal.returns-in_default-clause-unread
returns-in_default-clause-unread g c = tt

pub returns-in_default-clause-images : goal.returns-in_default-clause-images
returns-in_default-clause-images g c = c.in-Ok.ensures.images ∙ c.loop-number.invariant.images

pub returns-in_default-clause-cause : goal.returns-in_default-clause-cause
returns-in_default-clause-cause g c = c.in-Ok.ensures.cause ∙ c.loop-number.invariant.calm

pub loop-number-preserved : goal.loop-number-preserved
loop-number-preserved g c =
    let inv = c.loop-number.invariant in
    let images = images_of (map g.D.Disk.seen c.args.disks.now.items) in
    let all = inv.all in
    record {
      read = subst (λ (js : List (Kept SiteRecord)). AreReadFrom 1 images js) (sym c.in-Ok-push.ensures.items)
          (one_more 1 c.loop-number.number images c.loop-number.journals.items c.in-Ok.journal (omega (arith, all)) inv.read
          (subst (λ (is : List Image). HasBytes is c.loop-number.number (IsReadFrom spelling IsRecord c.in-Ok.journal)) inv.images c.in-Ok.ensures.read));
      all = (let longer = ap (λ (js : List (Kept SiteRecord)). length js) c.in-Ok-push.ensures.items in let size = length_push c.loop-number.journals.items c.in-Ok.journal in
          omega (arith, longer, size, all));
      most = (let test = c.loop-number-test.true in omega (arith, test));
      images = c.in-Ok.ensures.images ∙ inv.images;
      nine = same_length g.D.Disk.seen c.read_site.new.disks.items c.loop-number.disks.items c.in-Ok.ensures.images ∙ inv.nine;
      calm = c.in-Ok.ensures.cause ∙ inv.calm;
    }

pub returns-in-Err-clause-unread : goal.returns-in-Err-clause-unread
returns-in-Err-clause-unread g c =
    let inv = c.loop-number.invariant in
    site_unread (images_of (map g.D.Disk.seen c.args.disks.now.items)) c.loop-number.journals.items c.loop-number.number c.in-Err.why inv.read inv.all
    (subst (λ (is : List Image). IsUnread reading c.loop-number.number is c.in-Err.why) inv.images c.in-Err.ensures.unread)

pub returns-in-Err-clause-images : goal.returns-in-Err-clause-images
returns-in-Err-clause-images g c = c.in-Err.ensures.images ∙ c.loop-number.invariant.images

pub returns-in-Err-clause-cause : goal.returns-in-Err-clause-cause
returns-in-Err-clause-cause g c =
    told_later c.in-Err.why (map g.D.Disk.seen c.args.disks.now.items) (map g.D.Disk.seen c.loop-number.disks.items) (map g.D.Disk.seen c.read_site.new.disks.items)
    c.loop-number.invariant.calm c.in-Err.ensures.cause

pub returns-clause-read : goal.returns-clause-read
returns-clause-read g c = c.loop-number.invariant.read

pub returns-clause-all : goal.returns-clause-all
returns-clause-all g c =
    let inv = c.loop-number.invariant in
    let all = inv.all in
    let most = inv.most in
    let test = c.loop-number-test.false in
    omega (arith, all, most, test)

pub returns-clause-images : goal.returns-clause-images
returns-clause-images g c = c.loop-number.invariant.images

pub returns-clause-cause : goal.returns-clause-cause
returns-clause-cause g c = c.loop-number.invariant.calm
