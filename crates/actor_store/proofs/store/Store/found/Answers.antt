use Rattle.std.proofs.Common.{rules}
use Rattle.actor_store.proofs.FoundLaws.{found_keeps, found_records}
use Rattle.actor_store.proofs.store.Store.found.Goals as goal

pub unreachable-requires : goal.unreachable-requires
unreachable-requires g c =
    let met = g.met.F.Format in
    let (old, disk, f) = c.requires.found in
    let r = found_records g.F.Format.spelling g.F.Format.reading g.F.Format.is_record g.F.Format.frame_bytes met.counts_frames met.spelled_is_read _ old disk f in
    let loads = c.load.ensures.again c.requires.told r.0 r.2 r.1 in
    search (rules, loads)

pub returns-in-Ok-clause-keeps : goal.returns-in-Ok-clause-keeps
returns-in-Ok-clause-keeps g c old rules f =
    let met = g.met.F.Format in
    found_keeps g.F.Format.spelling g.F.Format.reading g.F.Format.is_record g.F.Format.frame_bytes met.counts_frames met.spelled_is_read g.D.Disk.tells _ c.in-Ok.journal _ old rules c.requires.told f (c.load.ensures.image c.requires.told) c.in-Ok.ensures.kept_on c.in-Ok.ensures.are_records
