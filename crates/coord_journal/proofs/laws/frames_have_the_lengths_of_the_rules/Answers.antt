use Rattle.coord_journal.specs.Frames.{frame_has_size}
use Rattle.coord_journal.proofs.laws.frames_have_the_lengths_of_the_rules.Goals as goal

pub returns : goal.returns
returns c = frame_has_size
