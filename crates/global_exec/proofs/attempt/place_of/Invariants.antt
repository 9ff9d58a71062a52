use Rattle.std.proofs.Common.{◌≡◌, false, take}
use Rattle.mdb_base.specs.Words.{Each}
use Rattle.global_exec.specs.Live.{is_at}
use Rattle.global_exec.proofs.attempt.place_of.Given as goal

-- the first participants are at other sites
abbrev pub invariant-loop-place : goal.invariant-loop-place
invariant-loop-place l = Each (λ progress. is_at l.site progress ≡ false) (take l.place l.sites)
