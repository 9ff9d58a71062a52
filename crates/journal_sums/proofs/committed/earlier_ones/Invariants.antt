use Rattle.std.proofs.Common.{◌≡◌, ◌+◌, drop}
use Rattle.mdb_base.specs.Names.{tid_before}
use Rattle.journal_sums.specs.CoordReadings.{front_count}
use Rattle.journal_sums.proofs.committed.earlier_ones.Given as goal

-- the first ones are earlier
abbrev pub invariant-loop-place : goal.invariant-loop-place
invariant-loop-place l = l.place + front_count (λ attempt. tid_before attempt.tid l.tid) (drop l.place l.committed) ≡ front_count (λ attempt. tid_before attempt.tid l.tid) l.committed
