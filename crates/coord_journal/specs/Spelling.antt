-- The payloads of the coordinator's records: a tag and then the fields, in the order in which they stand. Numbers are big-endian.
use Rattle.std.specs.Prelude.{ℕ, ◌==◌, List, ◌++◌, Option, Some, None, All, if◌then◌else◌}
use Rattle.mdb_base.specs.declared.names.SiteTicket.{SiteTicket}
use Rattle.mdb_base.specs.declared.names.Tid.{Tid}
use Rattle.presumptions.specs.declared.Participant.{Participant}
use Rattle.fed_rules.specs.declared.records.CoordRecord.{CoordRecord}
use Rattle.fed_rules.specs.declared.records.CoordRecord.TheVariants.{Initiation, Commit, Abort, End, Checkpoint}
use Rattle.fed_rules.specs.declared.sums.CommittedAttempt.{CommittedAttempt}
use Rattle.fed_rules.specs.declared.sums.CoordSum.{CoordSum}
use Rattle.fed_rules.specs.declared.sums.OpenAttempt.{OpenAttempt}
use Rattle.mdb_base.specs.Rising.{IsRising}
use Rattle.byte_numbers.specs.Numbers.{number, number_at, ◌>>=◌}
use Rattle.field_bytes.specs.Fields.{IsTid}
use Rattle.record_fields.specs.Field.{Field, both, made, whole_of}
use Rattle.record_fields.specs.Named.{IsSite, a_tid, participants, tickets}
use Rattle.record_fields.specs.Sums.{tid_number, open_attempts, committed_attempts}

abbrev pub initiation : Field (Tid × List Participant)
initiation = both a_tid participants

abbrev pub commit : Field (Tid × List SiteTicket)
commit = both a_tid tickets

-- the open attempts with their participants, and the committed ones with their tickets, each list by rising attempt
abbrev pub checkpoint : Field CoordSum
checkpoint = made (λ p. record { open_attempts = p.0; committed = p.1 }) (λ sum. (sum.open_attempts, sum.committed)) (both open_attempts committed_attempts)

-- the payload
abbrev pub spelling : CoordRecord → List ℕ
spelling (Initiation tid sites) = number 1 1 ++ initiation.spelling (tid, sites)
spelling (Commit tid sites) = number 1 2 ++ commit.spelling (tid, sites)
spelling (End tid) = number 1 3 ++ a_tid.spelling tid
spelling (Abort tid sites) = number 1 4 ++ initiation.spelling (tid, sites)
spelling (Checkpoint sum) = number 1 5 ++ checkpoint.spelling sum

-- what can be written: each part in its range, and sites that rise
abbrev pub IsRecord : CoordRecord → Type 0
IsRecord (Initiation tid sites) = initiation.Fits (tid, sites)
IsRecord (Commit tid sites) = commit.Fits (tid, sites)
IsRecord (End tid) = a_tid.Fits tid
IsRecord (Abort tid sites) = initiation.Fits (tid, sites)
IsRecord (Checkpoint sum) = checkpoint.Fits sum

-- an attempt and its participants lie in their ranges
abbrev pub IsOpenInRange : OpenAttempt → Type 0
IsOpenInRange attempt = IsTid attempt.tid × All (λ participant. IsSite participant.site) attempt.participants

-- an attempt and its tickets' sites lie in their ranges
abbrev pub IsCommittedInRange : CommittedAttempt → Type 0
IsCommittedInRange attempt = IsTid attempt.tid × All (λ ticket. IsSite ticket.site) attempt.tickets

-- the names in a Checkpoint lie in their ranges, and its attempts rise
pub record IsSumInRange (sum : CoordSum) : Type 0 where
  pub open_attempts : All IsOpenInRange sum.open_attempts
  pub open_attempts_rise : IsRising (λ attempt. tid_number attempt.tid) sum.open_attempts
  pub committed : All IsCommittedInRange sum.committed
  pub committed_rise : IsRising (λ attempt. tid_number attempt.tid) sum.committed

-- its names lie in their ranges
abbrev pub InRange : CoordRecord → Type 0
InRange (Initiation tid sites) = IsTid tid × All (λ participant. IsSite participant.site) sites
InRange (Commit tid sites) = IsTid tid × All (λ ticket. IsSite ticket.site) sites
InRange (End tid) = IsTid tid
InRange (Abort tid sites) = IsTid tid × All (λ participant. IsSite participant.site) sites
InRange (Checkpoint sum) = IsSumInRange sum

unfoldable pub initiation_at : List ℕ → Option (CoordRecord × List ℕ)
initiation_at bytes = initiation.reading bytes >>= λ f. Some (Initiation f.0.0 f.0.1, f.1)

unfoldable pub commit_at : List ℕ → Option (CoordRecord × List ℕ)
commit_at bytes = commit.reading bytes >>= λ f. Some (Commit f.0.0 f.0.1, f.1)

unfoldable pub end_at : List ℕ → Option (CoordRecord × List ℕ)
end_at bytes = a_tid.reading bytes >>= λ f. Some (End f.0, f.1)

unfoldable pub abort_at : List ℕ → Option (CoordRecord × List ℕ)
abort_at bytes = initiation.reading bytes >>= λ f. Some (Abort f.0.0 f.0.1, f.1)

unfoldable pub checkpoint_at : List ℕ → Option (CoordRecord × List ℕ)
checkpoint_at bytes = checkpoint.reading bytes >>= λ f. Some (Checkpoint f.0, f.1)

-- the record behind this tag
abbrev pub tagged_at : ℕ → List ℕ → Option (CoordRecord × List ℕ)
tagged_at tag bytes =
    if tag == 1 then initiation_at bytes
    else (if tag == 2 then commit_at bytes else (if tag == 3 then end_at bytes else (if tag == 4 then abort_at bytes else (if tag == 5 then checkpoint_at bytes else None))))

-- the record that a payload spells, all of it
unfoldable pub reading : List ℕ → Option CoordRecord
reading payload = whole_of (number_at 1 payload >>= λ tag. tagged_at tag.0 tag.1)
