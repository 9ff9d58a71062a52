use Rattle.std.proofs.Common.{◌≡◌, take, map}
use Rattle.journal_sums.specs.Starts.{doubt_held}
use Rattle.journal_sums.proofs.starts.doubts_of.Given as goal

abbrev pub invariant-loop-held : goal.invariant-loop-held
invariant-loop-held l = l.doubts.items ≡ map doubt_held (take l.held-index l.doubtful)
