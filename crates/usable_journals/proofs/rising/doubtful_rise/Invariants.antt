use Rattle.std.proofs.Common.{◌≡◌, None, drop}
use Rattle.usable_journals.specs.Rising.{rises}
use Rattle.usable_journals.proofs.rising.doubtful_rise.Given as goal

-- the rest decides
abbrev pub invariant-loop-held : goal.invariant-loop-held
invariant-loop-held l = rises (λ held. held.tid) l.last (drop l.held-index l.doubtful) ≡ rises (λ held. held.tid) None l.doubtful
