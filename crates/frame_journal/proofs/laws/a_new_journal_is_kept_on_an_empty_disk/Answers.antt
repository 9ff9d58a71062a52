use Rattle.frame_journal.proofs.Keeping.{new_is_kept}
use Rattle.frame_journal.proofs.laws.a_new_journal_is_kept_on_an_empty_disk.Goals as goal

pub returns : goal.returns
returns g c = new_is_kept g.F.Format.spelling
