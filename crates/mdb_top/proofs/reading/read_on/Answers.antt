use Rattle.mdb_top.proofs.Progress.{reads-on}
use Rattle.mdb_top.proofs.reading.read_on.Goals as goal

pub returns-in-Ok-extend_from_slice-clause-ok : goal.returns-in-Ok-extend_from_slice-clause-ok
returns-in-Ok-extend_from_slice-clause-ok g c =
    reads-on _ c.in-Ok.count _ _ _ _ _ c.take.new.into c.requires c.in-Ok.ensures.count c.take.auto.into c.in-Ok.ensures.given c.in-Ok-extend_from_slice.ensures.items
