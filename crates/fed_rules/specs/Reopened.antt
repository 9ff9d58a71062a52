-- An actor that begins down, with a journal on its disk. Its past is made up: lines behind which the actor is down, this journal stands on its
-- disk, and whatever looks back over the past finds what the journal says. What stands before the first record is trimmed: of a Checkpoint
-- the records that it is read as. Nothing here is a line of the rules; the rules go on from it.
use Rattle.std.specs.Prelude.{ℕ, zero, suc, ◌+◌, ◌-◌, ◌++◌, Bool, not, ◌&&◌, Option, Some, None, List, [], ◌∷◌, length, map}
use Rattle.mdb_base.specs.declared.acts.Act.TheVariants as Does
use Rattle.mdb_base.specs.declared.acts.Step.{Step}
use Rattle.mdb_base.specs.declared.names.SiteId.{SiteId}
use Rattle.mdb_base.specs.declared.names.Tid.{Tid}
use Rattle.mdb_base.specs.declared.names.Tx.{Tx}
use Rattle.mdb_base.specs.declared.rows.Put.{Put}
use Rattle.mdb_base.specs.Names.{same_tid}
use Rattle.mdb_base.specs.Words.{or_else, some_of, those}
use Rattle.presumptions.specs.declared.Decision.TheVariants as Decided
use Rattle.presumptions.specs.declared.Participant.{Participant}
use Rattle.fed_rules.specs.declared.answers.Answer.TheVariants as Say
use Rattle.fed_rules.specs.declared.events.CoordEvent.TheVariants as Coord_event
use Rattle.fed_rules.specs.declared.events.SiteEvent.TheVariants as Site_event
use Rattle.fed_rules.specs.declared.messages.FromSite.TheVariants as From
use Rattle.fed_rules.specs.declared.messages.ToSite.TheVariants as To
use Rattle.fed_rules.specs.declared.records.CoordRecord.{CoordRecord}
use Rattle.fed_rules.specs.declared.records.CoordRecord.TheVariants as Coord_rec
use Rattle.fed_rules.specs.declared.records.SiteRecord.{SiteRecord}
use Rattle.fed_rules.specs.declared.records.SiteRecord.TheVariants as Rec
use Rattle.fed_rules.specs.declared.sums.CommittedAttempt.{CommittedAttempt}
use Rattle.fed_rules.specs.declared.sums.CoordSum.{CoordSum}
use Rattle.fed_rules.specs.declared.sums.OpenAttempt.{OpenAttempt}
use Rattle.fed_rules.specs.declared.sums.SiteSum.{SiteSum}
use Rattle.fed_rules.specs.CoordPast as Coordinator
use Rattle.fed_rules.specs.CoordPast.{CoordHappening, CoordPast}
use Rattle.fed_rules.specs.CoordRecords.{named, recorded}
use Rattle.fed_rules.specs.Disk.{Call, Append, Sync, TrimFront, Stops}
use Rattle.fed_rules.specs.Found.{Journal}
use Rattle.fed_rules.specs.Happenings.{Happening, quiet}
use Rattle.fed_rules.specs.SitePast.{SiteHappening, SitePast}
use Rattle.fed_rules.specs.SiteRecords.{Home}
use Rattle.fed_rules.specs.SiteSums.{carried}

-- the calls that append these records, which stand newest first
abbrev pub appends : {Record : Type 0} → List Record → List (Call Record)
appends [] = []
appends (newest ∷ older) = appends older ++ Append newest ∷ []

-- the first record is appended behind those that it is read as, which are trimmed, and then each newer one
abbrev pub written : {Record : Type 0} → (Record → List Record) → Record → List Record → List (Call Record)
written read_as first [] = appends (read_as first) ++ Append first ∷ Sync ∷ TrimFront ∷ []
written read_as newest (next ∷ older) = written read_as next older ++ Append newest ∷ []

abbrev pub rewritten : {Record : Type 0} → (Record → List Record) → List Record → List (Call Record)
rewritten read_as [] = []
rewritten read_as (newest ∷ older) = written read_as newest older

-- all that was written is synced but for a frame of more bytes than the torn rest, of which a stop keeps so many
abbrev pub torn_off : {Record : Type 0} → Record → ℕ → List (Call Record)
torn_off long torn = Sync ∷ Append long ∷ Stops torn ∷ []

-- the stop that leaves this journal
abbrev pub opening : {Event Message Record : Type 0} → Event → (ℕ → Record) → (Record → List Record) → Journal Record → Happening Event Message Record
opening halt long read_as journal =
    record {
      event = halt;
      answer = Say.Stopped (length journal.records);
      sends = [];
      calls = rewritten read_as journal.records ++ torn_off (long journal.torn) journal.torn;
      lines = [];
    }

-- the first record of a journal
abbrev pub oldest : {Record : Type 0} → Record → List Record → Record
oldest newest [] = newest
oldest newest (next ∷ older) = oldest next older

abbrev pub first_of : {Record : Type 0} → List Record → Option Record
first_of [] = None
first_of (newest ∷ older) = Some (oldest newest older)

-- no attempt of any transaction
abbrev pub nobody : Tid
nobody = record { tx = record { 0 = 0 }; attempt = 0 }

-- so many writes
abbrev pub blank : ℕ → List Put
blank zero = []
blank (suc n) = record { key = record { 0 = 0 }; value = 0 } ∷ blank n

-- ---- a site

-- the site that a first record is of, with the rows of a Checkpoint as its first ones
abbrev pub home_by : SiteRecord → Option Home
home_by (Rec.Setup site engine protocol items) = Some (record { site = site; engine = engine; protocol = protocol; items = items })
home_by (Rec.Checkpoint sum) = Some (record { site = sum.site; engine = sum.engine; protocol = sum.protocol; items = sum.rows })
home_by other = None

-- a committed local attempt, the writes of which are in the rows
abbrev pub local_read : ℕ → Tid → SiteRecord
local_read number tid = Rec.Local tid number []

-- the owner of the published ticket, which ended
abbrev pub owner_read : Option Tid → SiteSum → List SiteRecord
owner_read None sum = []
owner_read (Some owner) sum = Rec.Ended owner Decided.Abort ∷ Rec.Prepared owner 0 sum.counter sum.published [] ∷ []

-- what a Checkpoint is read as beside its rows, the newest first: its epoch as that of a Start, its published ticket with the owner as a kept ticket, its
-- counter as their number and that of its locals, these as kept ones, and those in doubt as kept Prepared records
abbrev pub site_sum_read : SiteSum → List SiteRecord
site_sum_read sum =
    carried sum.doubtful ++ map (local_read sum.counter) sum.locals ++ owner_read sum.owner sum ++ Rec.Start sum.epoch ∷ []

-- no Start stands before a Setup
abbrev pub site_reads_as : SiteRecord → List SiteRecord
site_reads_as (Rec.Checkpoint sum) = site_sum_read sum
site_reads_as other = Rec.Start 0 ∷ []

abbrev pub long_site : ℕ → SiteRecord
long_site torn = Rec.Local nobody 0 (blank torn)

-- an event of a local attempt, and a message about a global one, that came while the site was down
abbrev pub was_local : Tid → SiteHappening
was_local tid = quiet (Site_event.Commit tid) Say.Down

abbrev pub was_global : Tid → SiteHappening
was_global tid = quiet (Site_event.Give (To.Take tid 0 0)) Say.Down

abbrev pub owner_named : Option Tid → List SiteHappening
owner_named None = []
owner_named (Some tid) = was_global tid ∷ []

-- the attempts that a record names, told apart
abbrev pub site_names : SiteRecord → SitePast
site_names (Rec.Prepared tid epoch number ticket writes) = was_global tid ∷ []
site_names (Rec.Ended tid decision) = was_global tid ∷ []
site_names (Rec.Local tid number writes) = was_local tid ∷ []
site_names (Rec.Checkpoint sum) = map (λ held. was_global held.tid) sum.doubtful ++ owner_named sum.owner ++ map was_local sum.locals
site_names other = []

abbrev pub all_named : List SiteRecord → SitePast
all_named [] = []
all_named (newest ∷ older) = site_names newest ++ all_named older

abbrev pub site_opening : Journal SiteRecord → SiteHappening
site_opening journal = opening (Site_event.Halt 0) long_site site_reads_as journal

-- the past of a site on whose disk this journal was found
abbrev pub opened_site : Journal SiteRecord → SitePast
opened_site journal = site_opening journal ∷ all_named journal.records

-- ---- the coordinator

abbrev pub is_open_in : CoordSum → Tid → Bool
is_open_in sum tid = some_of (λ attempt. same_tid attempt.tid tid) sum.open_attempts

abbrev pub end_read : CommittedAttempt → CoordRecord
end_read attempt = Coord_rec.End attempt.tid

abbrev pub commit_read : CommittedAttempt → CoordRecord
commit_read attempt = Coord_rec.Commit attempt.tid attempt.tickets

abbrev pub initiation_read : OpenAttempt → CoordRecord
initiation_read attempt = Coord_rec.Initiation attempt.tid attempt.participants

-- what a Checkpoint is read as, the newest first: its open attempts as kept Initiations, and its committed ones as kept Commits, with an End behind
-- where they aren't open
abbrev pub coord_sum_read : CoordSum → List CoordRecord
coord_sum_read sum =
    map end_read (those (λ attempt. not (is_open_in sum attempt.tid)) sum.committed) ++ map commit_read sum.committed ++ map initiation_read sum.open_attempts

abbrev pub coord_reads_as : CoordRecord → List CoordRecord
coord_reads_as (Coord_rec.Checkpoint sum) = coord_sum_read sum
coord_reads_as other = []

abbrev pub blank_ends : ℕ → List Tid
blank_ends zero = []
blank_ends (suc n) = nobody ∷ blank_ends n

-- an attempt with so many committed ones beside it
abbrev pub long_coord : ℕ → CoordRecord
long_coord torn = Coord_rec.Checkpoint (record { open_attempts = []; committed = map (λ tid. record { tid = tid; tickets = [] }) (blank_ends torn) })

abbrev pub coord_opening : Journal CoordRecord → CoordHappening
coord_opening journal = opening (Coord_event.Halt 0) long_coord coord_reads_as journal

-- all that the journal's records say, a first Checkpoint read as what it sums
abbrev pub coord_read : Journal CoordRecord → List CoordRecord
coord_read journal = Coordinator.records (coord_opening journal ∷ [])

-- a program with a step at each of these sites
abbrev pub visit : Participant → Step
visit member = record { site = member.site; act = Does.Get (record { 0 = 0 }) }

-- the line that begins an attempt, at the sites that its records name
abbrev pub goes : List Participant → List CoordRecord → Tid → CoordHappening
goes protocols records tid = quiet (Coord_event.Go tid (map visit (or_else (named protocols records tid) []))) (Say.Begun tid)

-- the next so many attempts of a transaction
abbrev pub go_on : List Participant → List CoordRecord → Tx → ℕ → CoordPast → CoordPast
go_on protocols records tx zero past = past
go_on protocols records tx (suc n) past =
    let before = go_on protocols records tx n past in
    goes protocols records (record { tx = tx; attempt = Coordinator.attempts_of before tx }) ∷ before

-- each of these attempts was begun, and those of its transaction before it
abbrev pub all_gone : List Participant → List CoordRecord → List Tid → CoordPast
all_gone protocols records [] = []
all_gone protocols records (tid ∷ tids) =
    let before = all_gone protocols records tids in
    go_on protocols records tid.tx (tid.attempt + 1 - Coordinator.attempts_of before tid.tx) before

-- the votes and acknowledgements of a site, of which the records say that they were taken
abbrev pub heard_from : Participant → Tid → CoordPast
heard_from member tid =
    quiet (Coord_event.Take member.site (From.Ack tid)) Say.Ignored ∷ quiet (Coord_event.Take member.site (From.Vote tid (Some 0))) Say.Ignored ∷ []

abbrev pub heard_of : List Participant → Tid → CoordPast → CoordPast
heard_of [] tid past = past
heard_of (member ∷ members) tid past = heard_from member tid ++ heard_of members tid past

abbrev pub all_heard : List Participant → List Tid → CoordPast → CoordPast
all_heard protocols [] past = past
all_heard protocols (tid ∷ tids) past = heard_of protocols tid (all_heard protocols tids past)

-- the past of a coordinator of these sites on whose disk this journal was found
abbrev pub opened_coordinator : List Participant → Journal CoordRecord → CoordPast
opened_coordinator protocols journal =
    let records = coord_read journal in
    let tids = recorded records in
    coord_opening journal ∷ all_heard protocols tids (all_gone protocols records tids)
