use Rattle.std.proofs.Common.{◌≡◌, drop, map}
use Rattle.mdb_base.specs.declared.names.Tx.{Tx}
use Rattle.fed_rules.specs.declared.sums.OpenAttempt.{OpenAttempt}
use Rattle.coord_tables.specs.Found.{reached}
use Rattle.coord_tables.specs.Trees.{noted}
use Rattle.coord_tables.proofs.found.reach_open.Given as goal

-- with the other ones it comes to what all come to
abbrev pub invariant-loop-attempt : goal.invariant-loop-attempt
invariant-loop-attempt l =
    (tx : Tx) → reached tx (noted l.begun.listed tx) (map (λ (attempt : OpenAttempt). attempt.tid) (drop l.attempt-index l.attempts))
    ≡ reached tx (noted l.fn.begun.listed tx) (map (λ (attempt : OpenAttempt). attempt.tid) l.attempts)
