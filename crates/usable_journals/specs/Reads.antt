-- What was read of the coordinator's records so far.
use Rattle.std.specs.Prelude.{◌≡◌, Bool, true, false, cond, is_some, ◌&&◌, Option, Some, None, List, [], ◌∷◌, ◌++◌}
use Rattle.std.specs.BTreeMap.{get}
use Rattle.mdb_base.specs.declared.names.SiteTicket.{SiteTicket}
use Rattle.mdb_base.specs.declared.names.Tid.{Tid}
use Rattle.mdb_base.specs.Names.{same_tid, tid_cmp}
use Rattle.presumptions.specs.declared.Participant.{Participant}
use Rattle.fed_rules.specs.declared.records.CoordRecord.{CoordRecord}
use Rattle.fed_rules.specs.declared.records.CoordRecord.TheVariants.{Checkpoint}
use Rattle.fed_rules.specs.declared.sums.CommittedAttempt.{CommittedAttempt}
use Rattle.fed_rules.specs.declared.sums.OpenAttempt.{OpenAttempt}
use Rattle.fed_rules.specs.CoordRecords.{class_of, ends_at_once}
use Rattle.fed_rules.specs.CoordSums.{committed_with, coord_sum, open_with}
use Rattle.usable_journals.specs.declared.coord_sums.Reading.{Reading}
use Rattle.usable_journals.specs.CoordTests.{in_order}

-- the participants of an attempt among open ones
abbrev pub open_in : List OpenAttempt → Tid → Option (List Participant)
open_in [] tid = None
open_in (x ∷ xs) tid = cond (same_tid x.tid tid) (Some x.participants) (open_in xs tid)

-- the tickets of an attempt among committed ones
abbrev pub tickets_in : List CommittedAttempt → Tid → Option (List SiteTicket)
tickets_in [] tid = None
tickets_in (x ∷ xs) tid = cond (same_tid x.tid tid) (Some x.tickets) (tickets_in xs tid)

-- an attempt is open with these participants, unless it is open already
abbrev pub begun : Tid → List Participant → (Tid → Option (List Participant)) → Tid → Option (List Participant)
begun tid participants look q = cond (is_some (look tid)) (look q) (cond (same_tid tid q) (Some participants) (look q))

abbrev pub ends_of : Option (List Participant) → Bool
ends_of None = false
ends_of (Some participants) = ends_at_once (class_of participants)

-- a committed attempt is no longer open, if a commit of it is forgotten at once
abbrev pub forgotten : Tid → (Tid → Option (List Participant)) → Tid → Option (List Participant)
forgotten tid look q = cond (same_tid tid q && ends_of (look tid)) None (look q)

abbrev pub ended : Tid → (Tid → Option (List Participant)) → Tid → Option (List Participant)
ended tid look q = cond (same_tid tid q) None (look q)

-- what was read is what the records say
pub record Says (protocols : List Participant) (reading : Reading) (records : List CoordRecord) : Type 0 where
  pub attempts : (tid : Tid) → get tid_cmp reading.attempts tid ≡ open_in (open_with protocols [] records) tid
  pub committed : (tid : Tid) → get tid_cmp reading.committed tid ≡ tickets_in (committed_with [] records) tid

-- these records were read, the newest first
abbrev pub Reads : List Participant → Reading → Reading → List CoordRecord → Type 0
Reads protocols before after entries =
    (records : List CoordRecord) → Says protocols before records → in_order (entries ++ records) ≡ true → Says protocols after (entries ++ records)

abbrev pub open_pair : OpenAttempt → Tid × List Participant
open_pair attempt = (attempt.tid, attempt.participants)

abbrev pub committed_pair : CommittedAttempt → Tid × List SiteTicket
committed_pair attempt = (attempt.tid, attempt.tickets)

-- a Checkpoint is the sum of the records before it
abbrev pub Fits : List Participant → CoordRecord → List CoordRecord → Type 0
Fits protocols (Checkpoint sum) records = sum ≡ coord_sum protocols records
Fits protocols other records = Unit {0}
