use Rattle.std.proofs.Common.{◌≡◌, None, drop}
use Rattle.usable_journals.specs.Rising.{rises}
use Rattle.usable_journals.proofs.rising.tids_rise.Given as goal

-- the rest decides
abbrev pub invariant-loop-tid : goal.invariant-loop-tid
invariant-loop-tid l = rises (λ tid. tid) l.last (drop l.tid-index l.tids) ≡ rises (λ tid. tid) None l.tids
