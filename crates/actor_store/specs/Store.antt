-- What an actor's store stands for: the disk of the rules, and the trip in force.
use Rattle.std.specs.Prelude.{ℕ, ◌≡◌, ◌==◌, ◌+◌, ◌<◌, ◌≤◌, nat_lt, Bool, true, false, cond, Option, Some, None, Result, Ok, Err, List, [], ◌∷◌, ◌++◌, length, map, take, drop, reverse}
use Rattle.std.specs.List.{AllByRecursion}
use Rattle.mdb_base.specs.Words.{map_some}
use Rattle.fed_rules.specs.Disk.{Call, Append, CutBack, Stops, Disk, after_call, after_calls, is_torn, journal as journal_of}
use Rattle.fed_rules.specs.Happenings.{Trip, used}
use Rattle.journal_disk.specs.Disk.{HasCalled, HasCalledAtMost, Image, Seen, all_synced, reads}
use Rattle.frame_journal.specs.Journal.{Kept, IsKeptOn}
use Rattle.frame_journal.specs.Records.{Entry, AreRecordsOf, as_written, entry_frame, spelled_size, values}
use Rattle.journal_rules.specs.Stands.{StandsFor, record_frame, respelled}
use Rattle.journal_rules.specs.Torn.{IsTornBy}
use Rattle.actor_store.specs.declared.store.SetTrip.{SetTrip}
use Rattle.actor_store.specs.declared.store.Standing.{Standing}
use Rattle.actor_store.specs.declared.store.Standing.TheVariants.{Up, Down, Failing}
use Rattle.actor_store.specs.declared.store.Break.{Break}
use Rattle.actor_store.specs.declared.store.Break.TheVariants.{Stopped, Failed}
use Rattle.actor_store.specs.declared.store.Store.{Store}

-- what contracts see of a store: its journal, the trip that is set, and whether the actor is up
pub record Stored (R : Type 0) : Type 0 where
  pub journal : Kept R
  pub trip : Option SetTrip
  pub standing : Standing

abbrev pub stored : {R F : Type 0} → Store R F → Stored R
stored store = record { journal = store.journal; trip = store.trip; standing = store.standing }

abbrev pub is_up : Standing → Bool
is_up Up = true
is_up Down = false
is_up Failing = false

abbrev pub is_failing : Standing → Bool
is_failing Up = false
is_failing Down = false
is_failing Failing = true

-- where a call failed, what is on the disk is taken as synced: the next start syncs it before all else
abbrev pub taken_as : Standing → Image → Image
taken_as Up image = image
taken_as Down image = image
taken_as Failing image = all_synced image

-- the trip as the rules speak of it
abbrev pub trip_of_rules : SetTrip → Trip
trip_of_rules trip = record { calls = trip.calls; cut = trip.cut }

-- what a trip of so many calls sets; one of none disarms
abbrev pub trip_to : ℕ → ℕ → Option SetTrip
trip_to calls cut = cond (calls == 0) None (Some (record { calls = calls; cut = cut }))

-- a trip that is set has calls left
abbrev pub IsArmed : Option SetTrip → Type 0
IsArmed None = Unit {0}
IsArmed (Some trip) = 0 < trip.calls

-- while a site is up nothing stands behind the whole frames, and while it is down all that it holds is synced
abbrev pub IsInOrder : {R : Type 0} → Standing → Kept R → Disk R → Type 0
IsInOrder Up journal rules = journal.is_torn ≡ false
IsInOrder Down journal rules = rules.synced ≡ rules.length
IsInOrder Failing journal rules = rules.synced ≡ rules.length

-- entries that were found at the front of a disk, in frames of either version, and the place of the rules behind them
pub record Old (R : Type 0) : Type 0 where
  pub entries : List (Entry R)
  pub end : ℕ

-- nothing was found, or no entry that isn't spelled as it would be written
abbrev pub none_old : {R : Type 0} → Old R
none_old = record { entries = []; end = 0 }

-- those of them that stand: all of them, and none once they were trimmed
abbrev pub untrimmed : {R : Type 0} → ℕ → List (Entry R) → ℕ → List (Entry R)
untrimmed end [] trimmed = []
untrimmed end (entry ∷ entries) trimmed = cond (nat_lt trimmed end) (entry ∷ entries) []

abbrev pub old_standing : {R : Type 0} → Old R → Disk R → List (Entry R)
old_standing old rules = untrimmed old.end old.entries rules.trimmed

-- old entries stand at the front of the bytes, their frames are synced, and they end where they did
pub record IsOldFront {R : Type 0} (spelling : R → List ℕ) (end : ℕ) (entries : List (Entry R)) (image : Image) (rules : Disk R) : Type 0 where
  pub trimmed : rules.trimmed ≤ rules.synced
  pub synced : spelled_size (entry_frame spelling) entries ≤ image.synced
  pub ends : rules.trimmed + spelled_size (record_frame spelling) (values entries) ≡ end

-- what was trimmed was synced, and so are the frames of old entries
abbrev pub IsFirmFront : {R : Type 0} → (R → List ℕ) → ℕ → List (Entry R) → Image → Disk R → Type 0
IsFirmFront spelling end [] image rules = rules.trimmed ≤ rules.synced
IsFirmFront spelling end (entry ∷ entries) image rules = IsOldFront spelling end (entry ∷ entries) image rules

-- the entries of these records: the old ones are spelled as they were found, and those behind them as they are written
abbrev pub entries_behind : {R : Type 0} → List (Entry R) → List R → List (Entry R)
entries_behind old records = old ++ map as_written (drop (length old) records)

-- on this disk the store stands for the disk of the rules with this trip in force, where these entries were found: of what stands of them
-- the bytes are as they were found, and with their frames spelled as version 2 the bytes are those of the rules. Behind the last whole frame
-- stand the first bytes of the frame that a stop cut
pub record KeepsBehind {R : Type 0} (spelling : R → List ℕ) (is_record : R → Type 0) (frame_bytes : R → ℕ) (tells : Bool) (seen : Seen) (store : Stored R) (old : Old R) (rules : Disk R) (in_force : Option Trip) : Type 0 where
  pub kept_on : IsKeptOn spelling tells seen store.journal
  pub stands : StandsFor spelling frame_bytes (respelled spelling (old_standing old rules) (taken_as store.standing seen.image)) rules
  pub torn : IsTornBy spelling is_record frame_bytes (respelled spelling (old_standing old rules) (taken_as store.standing seen.image)) rules
  pub records : store.journal.entries ≡ entries_behind (old_standing old rules) (reverse (journal_of frame_bytes rules))
  pub are : values store.journal.entries ≡ reverse (journal_of frame_bytes rules)
  pub are_records : AllByRecursion is_record (values store.journal.entries)
  pub written : AllByRecursion is_record rules.records
  pub front : IsFirmFront spelling old.end (old_standing old rules) (taken_as store.standing seen.image) rules
  pub trip : map_some trip_of_rules store.trip ≡ in_force
  pub armed : IsArmed store.trip
  pub in_order : IsInOrder store.standing store.journal rules

-- the same where all frames are of version 2
abbrev pub Keeps : {R : Type 0} → (R → List ℕ) → (R → Type 0) → (R → ℕ) → Bool → Seen → Stored R → Disk R → Option Trip → Type 0
Keeps spelling is_record frame_bytes tells seen store rules in_force = KeepsBehind spelling is_record frame_bytes tells seen store none_old rules in_force

-- the same of a store that may have begun with a found journal: some entries were found. Where it began with an empty disk, none were
pub record KeepsFrom {R : Type 0} (spelling : R → List ℕ) (is_record : R → Type 0) (frame_bytes : R → ℕ) (found : Bool) (tells : Bool) (seen : Seen) (store : Stored R) (rules : Disk R) (in_force : Option Trip) : Type 0 where
  pub old : Old R
  pub none : found ≡ false → old ≡ none_old
  pub behind : KeepsBehind spelling is_record frame_bytes tells seen store old rules in_force

-- old entries are at the front of the bytes that were found, with what was written in version 2 behind them: the records that stand
pub record IsFoundFrontOf {R : Type 0} (spelling : R → List ℕ) (frame_bytes : R → ℕ) (end : ℕ) (entries : List (Entry R)) (image : Image) (rules : Disk R) : Type 0 where
  pub old : IsOldFront spelling end entries image rules
  pub newer : List R
  pub whole : AreRecordsOf (entry_frame spelling) image.bytes (entries ++ map as_written newer)
  pub are : values entries ++ newer ≡ reverse (journal_of frame_bytes rules)

abbrev pub IsFoundFront : {R : Type 0} → (R → List ℕ) → (R → ℕ) → ℕ → List (Entry R) → Image → Disk R → Type 0
IsFoundFront spelling frame_bytes end [] image rules = rules.trimmed ≤ rules.synced
IsFoundFront spelling frame_bytes end (entry ∷ entries) image rules = IsFoundFrontOf spelling frame_bytes end (entry ∷ entries) image rules

-- an image of which these entries are at the front stands for this disk of the rules, all of which is synced, as a stop leaves it, and each
-- record of it is one of the format
pub record IsFoundBehind {R : Type 0} (spelling : R → List ℕ) (is_record : R → Type 0) (frame_bytes : R → ℕ) (image : Image) (old : Old R) (rules : Disk R) : Type 0 where
  pub stands : StandsFor spelling frame_bytes (respelled spelling (old_standing old rules) image) rules
  pub torn : IsTornBy spelling is_record frame_bytes (respelled spelling (old_standing old rules) image) rules
  pub written : AllByRecursion is_record rules.records
  pub front : IsFoundFront spelling frame_bytes old.end (old_standing old rules) image rules
  pub synced : rules.synced ≡ rules.length

-- the same where all frames are of version 2
abbrev pub IsFoundAs : {R : Type 0} → (R → List ℕ) → (R → Type 0) → (R → ℕ) → Image → Disk R → Type 0
IsFoundAs spelling is_record frame_bytes image rules = IsFoundBehind spelling is_record frame_bytes image none_old rules

abbrev pub SomeFound : {R : Type 0} → (R → List ℕ) → (R → Type 0) → (R → ℕ) → Image → Type 0
SomeFound {R} spelling is_record frame_bytes image = (old : Old R) × (rules : Disk R) × IsFoundBehind spelling is_record frame_bytes image old rules

-- it stands for some disk
abbrev pub SomeKept : {R : Type 0} → (Disk R → Option Trip → Type 0) → Type 0
SomeKept {R} K = (rules : Disk R) × (trip : Option Trip) × K rules trip

-- and where some entries were found
abbrev pub SomeKeptBehind : {R : Type 0} → (Old R → Disk R → Option Trip → Type 0) → Type 0
SomeKeptBehind {R} K = (old : Old R) × SomeKept (K old)

-- a disk after the first of these calls and a stop
abbrev pub stopped_disk : {R : Type 0} → (R → ℕ) → ℕ → ℕ → Disk R → List (Call R) → Disk R
stopped_disk frame_bytes n cut rules calls = after_calls frame_bytes rules (take n calls ++ Stops cut ∷ [])

-- the bytes on the disk are those of the rules, synced or not: the frames that stand there, and behind them the first bytes of the one that
-- a stop cut
pub record HoldsBytes {R : Type 0} (spelling : R → List ℕ) (is_record : R → Type 0) (frame_bytes : R → ℕ) (image : Image) (rules : Disk R) : Type 0 where
  pub records : AreRecordsOf (record_frame spelling) image.bytes (reverse (journal_of frame_bytes rules))
  pub bytes : length image.bytes + rules.trimmed ≡ rules.length
  pub torn : IsTornBy spelling is_record frame_bytes image rules

-- the disk holds what some stop within these calls leaves
abbrev pub SomeStop : {R : Type 0} → (R → List ℕ) → (R → Type 0) → (R → ℕ) → Image → Disk R → List (Call R) → Type 0
SomeStop spelling is_record frame_bytes image rules calls =
    (n : ℕ) × (cut : ℕ) × HoldsBytes spelling is_record frame_bytes image (stopped_disk frame_bytes n cut rules calls)

-- a stop with this cut, which keeps so many records
abbrev pub StopsWith : {R : Type 0} → (R → ℕ) → (Disk R → Option Trip → Type 0) → Disk R → ℕ → ℕ → Type 0
StopsWith frame_bytes K rules cut kept =
    K (after_call frame_bytes rules (Stops cut)) None × (kept ≡ length (journal_of frame_bytes (after_call frame_bytes rules (Stops cut))))

-- so many calls don't use a trip up
abbrev pub Passes : Option Trip → ℕ → Type 0
Passes None n = Unit {0}
Passes (Some trip) n = n < trip.calls

-- how disk calls end: all are done; or the trip in force comes within them; or one fails, which leaves what some stop leaves
abbrev pub Ends : {A R : Type 0} → (R → ℕ) → (Disk R → Option Trip → Type 0) → Disk R → Option Trip → List (Call R) → Result A Break → Type 0
Ends frame_bytes K rules trip calls (Ok done) = Passes trip (length calls) × K (after_calls frame_bytes rules calls) (used (length calls) trip)
Ends frame_bytes K rules trip calls (Err (Stopped kept)) =
    (set : Trip) × (trip ≡ Some set) × (set.calls ≤ length calls) × K (stopped_disk frame_bytes set.calls set.cut rules calls) None
    × (kept ≡ length (journal_of frame_bytes (stopped_disk frame_bytes set.calls set.cut rules calls)))
Ends frame_bytes K rules trip calls (Err Failed) = (n : ℕ) × (cut : ℕ) × K (stopped_disk frame_bytes n cut rules calls) None

-- how the counting of one call that was made ends
abbrev pub Counts : {A R : Type 0} → (R → ℕ) → (Disk R → Option Trip → Type 0) → Disk R → Option Trip → Result A Break → Type 0
Counts frame_bytes K rules trip (Ok done) = Passes trip 1 × K rules (used 1 trip)
Counts frame_bytes K rules trip (Err (Stopped kept)) =
    (set : Trip) × (trip ≡ Some set) × (set.calls ≡ 1) × StopsWith frame_bytes K rules set.cut kept
Counts frame_bytes K rules trip (Err Failed) = ⊥

-- whether some of these calls writes a record
abbrev pub writes : {R : Type 0} → List (Call R) → Bool
writes [] = false
writes (Append entry ∷ calls) = true
writes (call ∷ calls) = writes calls

-- the calls by which a start cuts a torn rest back
abbrev pub cut_calls : {R : Type 0} → (R → ℕ) → Disk R → List (Call R)
cut_calls frame_bytes rules = cond (is_torn frame_bytes rules) (CutBack ∷ []) []

-- ---- how many calls the disk gets

-- where nothing is torn, a start behind a failed call cuts back too. The rules don't have this call
abbrev pub uncounted : {R : Type 0} → Stored R → ℕ
uncounted store = cond store.journal.is_torn 0 (cond (is_failing store.standing) 1 0)

-- how often a disk of so many bytes is read again: one whose journal was just found isn't
abbrev pub reloads : (is_fresh : Bool) → ℕ → ℕ
reloads is_fresh size = cond is_fresh 0 (reads size)

-- how many calls that can fail the disk had where these of the rules end so, and so many beside them: each of these once; those before the trip
-- in force; or at most so many, where one failed
abbrev pub Called : {A R : Type 0} → ℕ → Option Trip → List (Call R) → Seen → Seen → Result A Break → Type 0
Called beside trip calls old new (Ok done) = HasCalled (beside + length calls) old new
Called beside trip calls old new (Err (Stopped kept)) = (set : Trip) × (trip ≡ Some set) × HasCalled (beside + set.calls) old new
Called beside trip calls old new (Err Failed) = HasCalledAtMost (beside + length calls) old new
