use Rattle.std.proofs.Common.{◌≡◌, take, map}
use Rattle.site_core.specs.Recovered.{held_tid}
use Rattle.site_core.proofs.starting.attempts_of.Given as goal

abbrev pub invariant-loop-held : goal.invariant-loop-held
invariant-loop-held l = l.tids.items ≡ map held_tid (take l.held-index l.doubtful)
