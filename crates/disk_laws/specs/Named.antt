-- Which transactions a coordinator's records name: what a journal is read as names the same ones as its records.
use Rattle.std.specs.Prelude.{◌≡◌, ◌⊎◌, ◌↔◌, List}
use Rattle.mdb_base.specs.declared.names.Tx.{Tx}
use Rattle.mdb_base.specs.Words.{Among}
use Rattle.presumptions.specs.declared.Participant.{Participant}
use Rattle.fed_rules.specs.declared.records.CoordRecord.{CoordRecord}
use Rattle.fed_rules.specs.declared.records.CoordRecord.TheVariants.{Initiation, Commit, Abort, End, Checkpoint}
use Rattle.fed_rules.specs.declared.sums.CommittedAttempt.{CommittedAttempt}
use Rattle.fed_rules.specs.declared.sums.OpenAttempt.{OpenAttempt}
use Rattle.fed_rules.specs.Usable.{CoordSumsFit, IsAttemptOf, coord_read}

-- the record names an attempt of the transaction, also in a Checkpoint at any place
abbrev pub NamesOne : Tx → CoordRecord → Type 0
NamesOne tx (Initiation tid participants) = tid.tx ≡ tx
NamesOne tx (Commit tid tickets) = tid.tx ≡ tx
NamesOne tx (Abort tid participants) = tid.tx ≡ tx
NamesOne tx (End tid) = tid.tx ≡ tx
NamesOne tx (Checkpoint sum) = Among (λ (attempt : OpenAttempt). attempt.tid.tx ≡ tx) sum.open_attempts ⊎ Among (λ (attempt : CommittedAttempt). attempt.tid.tx ≡ tx) sum.committed

-- a transaction is named by a record exactly where what is read has a record of an attempt of it
abbrev pub NamesAreRead : Type 0
NamesAreRead =
    (protocols : List Participant) (journal : List CoordRecord) → CoordSumsFit protocols journal → (tx : Tx)
    → Among (NamesOne tx) journal ↔ Among (IsAttemptOf tx) (coord_read journal)
