use Rattle.journal_disk.specs.Disk.{kept_bytes}
use Rattle.journal_disk.proofs.Whole.{one_reading, whole_left, whole_front}
use Rattle.journal_disk.proofs.laws.whole_frames_survive.Goals as goal

pub returns-clause-one_reading : goal.returns-clause-one_reading
returns-clause-one_reading c = one_reading

pub returns-clause-survive : goal.returns-clause-survive
returns-clause-survive c = λ image payloads cut whole. whole_left (kept_bytes cut image) image.bytes payloads whole

pub returns-clause-front : goal.returns-clause-front
returns-clause-front c = whole_front
