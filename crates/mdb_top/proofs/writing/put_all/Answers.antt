use Rattle.mdb_top.proofs.Progress.{put-more}
use Rattle.mdb_top.proofs.writing.put_all.Goals as goal

pub loop-place-preserved : goal.loop-place-preserved
loop-place-preserved g c =
    put-more _ _ _ _ _ _ _ c.args.bytes.now c.loop-place.place c.in-Ok.count c.loop-place.invariant c.in-Ok.ensures.count c.in-Ok.ensures.written c.in-Ok.ensures.cause.clean
