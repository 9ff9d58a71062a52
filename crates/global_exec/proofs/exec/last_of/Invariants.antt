use Rattle.std.proofs.Common.{◌≡◌, map, reverse, take}
use Rattle.indexmap.specs.IndexMap.{values}
use Rattle.mdb_base.specs.Names.{same_tx}
use Rattle.mdb_base.specs.Words.{first_where}
use Rattle.global_exec.proofs.exec.last_of.Given as goal

-- the last one of the first attempts
abbrev pub invariant-loop-place : goal.invariant-loop-place
invariant-loop-place l = l.last ≡ first_where (λ tid. same_tx tid.tx l.tx) (reverse (map (λ live. live.tid) (take l.place (values l.attempts))))
