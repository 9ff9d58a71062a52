use Rattle.actor_store.proofs.NewLaws.{new_keeps}
use Rattle.actor_store.proofs.laws.a_new_store_is_that_of_an_empty_disk.Goals as goal

pub returns : goal.returns
returns g c = new_keeps g.F.Format.spelling g.F.Format.reading g.F.Format.is_record g.F.Format.frame_bytes g.met.F.Format.counts_frames g.met.F.Format.spelled_is_read
