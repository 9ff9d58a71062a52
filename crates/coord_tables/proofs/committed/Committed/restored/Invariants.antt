use Rattle.std.proofs.Common.{◌≡◌, map, take}
use Rattle.mdb_base.specs.declared.names.Tx.{Tx}
use Rattle.coord_tables.specs.Attempts.{last_of}
use Rattle.coord_tables.specs.Trees.{committed_in}
use Rattle.coord_tables.proofs.committed.Committed.restored.Given as goal

-- the first ones are there
abbrev pub invariant-loop-attempt : goal.invariant-loop-attempt
invariant-loop-attempt l = (tx : Tx) → committed_in l.tids.entries tx ≡ last_of tx (map (λ attempt. attempt.tid) (take l.attempt-index l.attempt-items))
