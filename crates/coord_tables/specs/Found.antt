-- How many attempts were begun, by a journal that is found on a coordinator's disk: those that a record names, and of their transactions those before
-- them.
use Rattle.std.specs.Prelude.{ℕ, ◌+◌, max, cond, List, [], ◌∷◌, ◌++◌, map}
use Rattle.mdb_base.specs.declared.names.Tid.{Tid}
use Rattle.mdb_base.specs.declared.names.Tx.{Tx}
use Rattle.mdb_base.specs.Names.{same_tx}
use Rattle.fed_rules.specs.declared.records.CoordRecord.{CoordRecord}
use Rattle.fed_rules.specs.declared.records.CoordRecord.TheVariants.{Initiation, Commit, Abort, End, Checkpoint}
use Rattle.fed_rules.specs.declared.sums.CommittedAttempt.{CommittedAttempt}
use Rattle.fed_rules.specs.declared.sums.OpenAttempt.{OpenAttempt}

-- the attempts that a record names, those of a Checkpoint's lists included
abbrev pub attempts_in : CoordRecord → List Tid
attempts_in (Initiation tid participants) = tid ∷ []
attempts_in (Commit tid tickets) = tid ∷ []
attempts_in (Abort tid participants) = tid ∷ []
attempts_in (End tid) = tid ∷ []
attempts_in (Checkpoint sum) =
    map (λ (attempt : OpenAttempt). attempt.tid) sum.open_attempts ++ map (λ (attempt : CommittedAttempt). attempt.tid) sum.committed

-- how many attempts of the transaction were begun, where so many were, and this one with those before it
abbrev pub with_reached : Tx → ℕ → Tid → ℕ
with_reached tx count tid = cond (same_tx tid.tx tx) (max count (tid.attempt + 1)) count

-- where so many were, and each of these with those before it
abbrev pub reached : Tx → ℕ → List Tid → ℕ
reached tx count [] = count
reached tx count (tid ∷ tids) = reached tx (with_reached tx count tid) tids

-- where so many were, and each that these records name
abbrev pub found_from : Tx → ℕ → List CoordRecord → ℕ
found_from tx count [] = count
found_from tx count (kept ∷ more) = found_from tx (reached tx count (attempts_in kept)) more

-- how many were begun by these records, in whatever order they stand
abbrev pub found_attempts : Tx → List CoordRecord → ℕ
found_attempts tx records = found_from tx 0 records
