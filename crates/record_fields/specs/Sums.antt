-- The parts of a Checkpoint as bytes. Its lists rise by attempt: by transaction, and then by the number of the attempt.
use Rattle.std.specs.Prelude.{ℕ, ◌+◌, ◌*◌, ◌==◌, List, ◌++◌, Option, Some, None, if◌then◌else◌}
use Rattle.mdb_base.specs.declared.names.Tid.{Tid}
use Rattle.mdb_base.specs.declared.rows.Put.{Put}
use Rattle.fed_rules.specs.declared.sums.CommittedAttempt.{CommittedAttempt}
use Rattle.fed_rules.specs.declared.sums.DoubtfulSum.{DoubtfulSum}
use Rattle.fed_rules.specs.declared.sums.OpenAttempt.{OpenAttempt}
use Rattle.byte_numbers.specs.Numbers.{number, number_at, ◌>>=◌}
use Rattle.record_fields.specs.Field.{Field, a_number, both, made}
use Rattle.record_fields.specs.Items.{rising_list}
use Rattle.record_fields.specs.Named.{a_tid, writes, participants, tickets}

-- attempts by transaction and then by attempt are attempts by this number
abbrev pub tid_number : Tid → ℕ
tid_number tid = 256 * tid.tx.0 + tid.attempt

-- attempts, rising, behind their number in two bytes
abbrev pub tids : Field (List Tid)
tids = rising_list 2 tid_number a_tid

-- 0 for none, or 1 and the value
abbrev pub maybe_bytes : {A : Type 0} → (A → List ℕ) → Option A → List ℕ
maybe_bytes spelling None = number 1 0
maybe_bytes spelling (Some x) = number 1 1 ++ spelling x

abbrev pub maybe_at : {A : Type 0} → (List ℕ → Option (A × List ℕ)) → ℕ → List ℕ → Option (Option A × List ℕ)
maybe_at reading flag bytes =
    if flag == 0 then Some (None, bytes) else (if flag == 1 then (reading bytes >>= λ found. Some (Some found.0, found.1)) else None)

abbrev pub MaybeFits : {A : Type 0} → (A → Type 0) → Option A → Type 0
MaybeFits Fits None = Unit {0}
MaybeFits Fits (Some x) = Fits x

-- what may be there: 0, or 1 and then the field
abbrev pub maybe : {A : Type 0} → Field A → Field (Option A)
maybe field =
    record {
      spelling = maybe_bytes field.spelling;
      reading = λ bytes. number_at 1 bytes >>= λ flag. maybe_at field.reading flag.0 flag.1;
      Fits = MaybeFits field.Fits;
    }

-- an attempt, its epoch, serial number and ticket, and its writes
abbrev pub prepared : Field (Tid × (ℕ × (ℕ × (ℕ × List Put))))
prepared = both a_tid (both (a_number 4) (both (a_number 8) (both (a_number 8) writes)))

-- a subtransaction in doubt, as its Prepared record says it
abbrev pub a_doubtful : Field DoubtfulSum
a_doubtful =
    made (λ p. record { tid = p.0; epoch = p.1.0; number = p.1.1.0; ticket = p.1.1.1.0; writes = p.1.1.1.1 })
    (λ held. (held.tid, (held.epoch, (held.number, (held.ticket, held.writes))))) prepared

abbrev pub doubtful : Field (List DoubtfulSum)
doubtful = rising_list 2 (λ held. tid_number held.tid) a_doubtful

-- an attempt with its participants
abbrev pub an_open_attempt : Field OpenAttempt
an_open_attempt = made (λ p. record { tid = p.0; participants = p.1 }) (λ x. (x.tid, x.participants)) (both a_tid participants)

abbrev pub open_attempts : Field (List OpenAttempt)
open_attempts = rising_list 2 (λ x. tid_number x.tid) an_open_attempt

-- an attempt with its tickets
abbrev pub a_committed_attempt : Field CommittedAttempt
a_committed_attempt = made (λ p. record { tid = p.0; tickets = p.1 }) (λ x. (x.tid, x.tickets)) (both a_tid tickets)

abbrev pub committed_attempts : Field (List CommittedAttempt)
committed_attempts = rising_list 2 (λ x. tid_number x.tid) a_committed_attempt
