use Rattle.std.proofs.Common.{ap, ◌∙◌}
use Rattle.sha2.specs.Sha256.{sha256}
use Rattle.journal_disk.specs.Frames.{digest_of}
use Rattle.journal_disk.proofs.reading.digest_at.Goals as goal

pub returns : goal.returns
unfolding digest_of
returns c = c.digest_of.ensures ∙ ap sha256 c.requires.counted.is
