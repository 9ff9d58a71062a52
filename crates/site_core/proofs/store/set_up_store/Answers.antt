use Rattle.std.proofs.Common.{None, arith}
use Rattle.fed_rules.specs.Disk.{empty_disk}
use Rattle.fed_rules.specs.declared.records.SiteRecord.TheVariants as Rec
use Rattle.journal_disk.proofs.ForCallers.{takes_behind}
use Rattle.site_journal.specs.Frames.{frame_has_size}
use Rattle.actor_store.proofs.ForCallers.{from_kept}
use Rattle.site_core.proofs.NewStore.{keeps_new}
use Rattle.site_core.proofs.SetUpLaws.{setup_fits}
use Rattle.site_core.proofs.store.set_up_store.Goals as goal

pub frame_len-requires : goal.frame_len-requires
frame_len-requires g c = setup_fits c.args.site c.args.engine c.args.protocol c.args.items c.requires.few

pub overflow_add-bytes : goal.overflow_add-bytes
overflow_add-bytes g c =
    let setup = frame_has_size (Rec.Setup c.args.site c.args.engine c.args.protocol c.args.items) in
    let start = frame_has_size (Rec.Start 1) in
    omega (arith, c.frame_len.ensures, c.frame_len-2.ensures, setup, start, c.requires.few)

pub make_room-requires-clause-kept : goal.make_room-requires-clause-kept
make_room-requires-clause-kept g c =
    let k = keeps_new g.D.Disk.tells (g.D.Disk.seen c.args.disk.now) c.create-store.result c.requires.empty (g.met.D.Disk.told_size c.args.disk.now c.requires.told) (g.met.D.Disk.is_sound c.args.disk.now c.requires.told) c.create-store.ensures in
    (k.old, (empty_disk, None, k.behind))

pub begin_journal-requires-clause-kept : goal.begin_journal-requires-clause-kept
begin_journal-requires-clause-kept g c =
    let k = keeps_new g.D.Disk.tells (g.D.Disk.seen c.args.disk.now) c.create-store.result c.requires.empty (g.met.D.Disk.told_size c.args.disk.now c.requires.told) (g.met.D.Disk.is_sound c.args.disk.now c.requires.told) c.create-store.ensures in
    from_kept k (c.make_room.ensures.keeps _ _ _ k.behind)

pub begin_journal-requires-clause-setup_fits : goal.begin_journal-requires-clause-setup_fits
begin_journal-requires-clause-setup_fits g c = setup_fits c.args.site c.args.engine c.args.protocol c.args.items c.requires.few

pub returns-clause-called : goal.returns-clause-called
returns-clause-called g c =
    let seen = g.D.Disk.seen in
    takes_behind 3 (seen c.args.disk.now) (seen c.make_room.new.disk) (seen c.begin_journal.new.disk) c.begin_journal.result c.make_room.ensures.called c.begin_journal.ensures.called
