use Rattle.found_disks.proofs.FoundLines.{found_short}
use Rattle.found_disks.proofs.laws.found_sessions_begin_shortly.Goals as goal

pub returns : goal.returns
returns c = found_short c.found_lines_are_few.ensures.fits
