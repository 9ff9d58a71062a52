use Rattle.std.proofs.Common.{◌≡◌, take}
use Rattle.std.specs.BTreeSet.{contains}
use Rattle.mdb_base.specs.declared.names.Tid.{Tid}
use Rattle.mdb_base.specs.Names.{same_tid, tid_cmp}
use Rattle.mdb_base.specs.Words.{some_of}
use Rattle.usable_journals.proofs.coord_order.open_tids.Given as goal

-- those of the first ones
abbrev pub invariant-loop-attempt : goal.invariant-loop-attempt
invariant-loop-attempt l = (tid : Tid) → contains tid_cmp l.tids tid ≡ some_of (λ attempt. same_tid attempt.tid tid) (take l.attempt-index l.attempts)
