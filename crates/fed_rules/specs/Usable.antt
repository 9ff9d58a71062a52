-- When a session may go on from the disks that it finds: what the journals keep, and every front of them. Lists of records stand newest first, and
-- a first Checkpoint is read as what it sums. A disk without a whole frame counts as empty.
use Rattle.std.specs.Prelude.{ℕ, ◌≡◌, ◌≤◌, ◌<◌, ◌^◌, ◌⊎◌, ◌++◌, Bool, true, false, is_some, Option, Some, None, List, [], ◌∷◌, map}
use Rattle.mdb_base.specs.declared.names.SiteId.{SiteId}
use Rattle.mdb_base.specs.declared.names.SiteTicket.{SiteTicket}
use Rattle.mdb_base.specs.declared.names.Tid.{Tid}
use Rattle.mdb_base.specs.declared.names.Tx.{Tx}
use Rattle.mdb_base.specs.declared.rows.Put.{Put}
use Rattle.mdb_base.specs.Names.{same_tid, tid_before}
use Rattle.mdb_base.specs.Words.{Each, Among, some_of}
use Rattle.order_laws.specs.Chains.{In, Distinct}
use Rattle.order_laws.specs.Tickets.{Ticketed, HasNoCycle}
use Rattle.presumptions.specs.declared.Participant.{Participant}
use Rattle.fed_rules.specs.declared.records.CoordRecord.{CoordRecord}
use Rattle.fed_rules.specs.declared.records.CoordRecord.TheVariants as Coord_rec
use Rattle.fed_rules.specs.declared.records.SiteRecord.{SiteRecord}
use Rattle.fed_rules.specs.declared.records.SiteRecord.TheVariants.{Setup, Start, Prepared, Ended, Local, Checkpoint}
use Rattle.fed_rules.specs.declared.sums.CommittedAttempt.{CommittedAttempt}
use Rattle.fed_rules.specs.declared.sums.CoordSum.{CoordSum}
use Rattle.fed_rules.specs.declared.sums.OpenAttempt.{OpenAttempt}
use Rattle.fed_rules.specs.declared.sums.SiteSum.{SiteSum}
use Rattle.fed_rules.specs.CoordRecords.{class_of, commits, ends_at_once}
use Rattle.fed_rules.specs.CoordSums.{coord_sum}
use Rattle.fed_rules.specs.EngineLines.{AreApart, has_row}
use Rattle.fed_rules.specs.Found.{Found, Journal}
use Rattle.fed_rules.specs.Reopened.{coord_sum_read, first_of, home_by, local_read, site_sum_read}
use Rattle.fed_rules.specs.SiteRecords.{Held, Home, Install, doubt_of, doubts, epoch_of, installs, kept_held}
use Rattle.fed_rules.specs.SiteSums.{carried, site_sum}

-- each stands before all behind it by its attempt
abbrev pub RiseBy : {A : Type 0} → (A → Tid) → List A → Type 0
RiseBy tid_of [] = Unit {0}
RiseBy tid_of (x ∷ xs) = Each (λ y. tid_before (tid_of x) (tid_of y) ≡ true) xs × RiseBy tid_of xs

-- ---- on a site's disk

-- numbers and tickets are from 1 to 2^62 - 1, and epochs below 2^31
abbrev pub IsHeldBelow : Held → Type 0
IsHeldBelow held = (1 ≤ held.number) × (held.number < 2 ^ 62) × (1 ≤ held.ticket) × (held.ticket < 2 ^ 62) × (held.epoch < 2 ^ 31)

abbrev pub IsBelow : SiteRecord → Type 0
IsBelow (Start epoch) = epoch < 2 ^ 31
IsBelow (Prepared tid epoch number ticket writes) = IsHeldBelow (record { tid = tid; epoch = epoch; number = number; ticket = ticket; writes = writes })
IsBelow (Local tid number writes) = (1 ≤ number) × (number < 2 ^ 62)
IsBelow (Checkpoint sum) = (sum.epoch < 2 ^ 31) × (sum.counter < 2 ^ 62) × (sum.published < 2 ^ 62) × Each IsHeldBelow sum.doubtful
IsBelow other = Unit {0}

-- the numbers of those in doubt are at most the counter, and their tickets differ and are at most the published one
pub record IsWithin (sum : SiteSum) : Type 0 where
  pub numbers : Each (λ held. held.number ≤ sum.counter) sum.doubtful
  pub tickets : Each (λ held. held.ticket ≤ sum.published) sum.doubtful
  pub differ : Distinct (map (λ (held : Held). held.ticket) sum.doubtful)

abbrev pub AreWithin : SiteRecord → Type 0
AreWithin (Checkpoint sum) = IsWithin sum
AreWithin other = Unit {0}

-- a Checkpoint has an owner exactly where its published ticket isn't 0, and then its counter isn't 0; without an owner and without a committed local attempt its counter is 0;
-- those in doubt and the local ones stand by rising attempt, as the format has them
pub record IsSumOfSome (sum : SiteSum) : Type 0 where
  pub owned : ((sum.owner ≡ None) × (sum.published ≡ 0)) ⊎ ((owner : Tid) × (sum.owner ≡ Some owner) × (1 ≤ sum.published) × (1 ≤ sum.counter))
  pub counts : sum.owner ≡ None → sum.locals ≡ [] → sum.counter ≡ 0
  pub doubtful_rise : RiseBy (λ (held : Held). held.tid) sum.doubtful
  pub locals_rise : RiseBy (λ (tid : Tid). tid) sum.locals

abbrev pub AreSumsOfSome : SiteRecord → Type 0
AreSumsOfSome (Checkpoint sum) = IsSumOfSome sum
AreSumsOfSome other = Unit {0}

-- the records, with those that a first Checkpoint stands for behind it
abbrev pub read : List SiteRecord → List SiteRecord
read [] = []
read (Checkpoint sum ∷ []) = Checkpoint sum ∷ site_sum_read sum
read (newest ∷ older) = newest ∷ read older

-- and of these but those in doubt and the committed local ones
abbrev pub counted : List SiteRecord → List SiteRecord
counted [] = []
counted (Checkpoint sum ∷ []) = carried sum.doubtful ++ map (local_read sum.counter) sum.locals
counted (newest ∷ older) = newest ∷ counted older

-- a Checkpoint behind other records is the Sum of them
abbrev pub SumsFit : Home → List SiteRecord → Type 0
SumsFit home [] = Unit {0}
SumsFit home (first ∷ []) = Unit {0}
SumsFit home (Checkpoint sum ∷ older) = (sum ≡ site_sum home (read older)) × SumsFit home older
SumsFit home (newest ∷ older) = SumsFit home older

-- a Setup stands first alone
abbrev pub SetUpFirst : List SiteRecord → Type 0
SetUpFirst [] = Unit {0}
SetUpFirst (first ∷ []) = Unit {0}
SetUpFirst (Setup site engine protocol items ∷ older) = ⊥
SetUpFirst (newest ∷ older) = SetUpFirst older

-- the epochs of Start records and Checkpoints are at least 1 and rise; at a Checkpoint they may also stay
abbrev pub EpochsRise : List SiteRecord → Type 0
EpochsRise [] = Unit {0}
EpochsRise (Start epoch ∷ older) = (epoch_of (read older) < epoch) × EpochsRise older
EpochsRise (Checkpoint sum ∷ older) = (1 ≤ sum.epoch) × (epoch_of (read older) ≤ sum.epoch) × EpochsRise older
EpochsRise (newest ∷ older) = EpochsRise older

abbrev pub IsPreparedOf : Tid → SiteRecord → Type 0
IsPreparedOf tid (Prepared prepared epoch number ticket writes) = prepared ≡ tid
IsPreparedOf tid other = ⊥

-- a Local record of an attempt of the transaction
abbrev pub IsLocalOf : Tx → SiteRecord → Type 0
IsLocalOf tx (Local done number writes) = done.tx ≡ tx
IsLocalOf tx other = ⊥

-- each attempt has at most one Prepared and one Ended behind it, and each transaction one Local
abbrev pub OnceEach : List SiteRecord → Type 0
OnceEach [] = Unit {0}
OnceEach (Prepared tid epoch number ticket writes ∷ older) = (Among (IsPreparedOf tid) older → ⊥) × OnceEach older
OnceEach (Ended tid decision ∷ older) = (Among (IsPreparedOf tid) older → is_some (doubt_of older tid) ≡ true) × OnceEach older
OnceEach (Local tid number writes ∷ older) = (Among (IsLocalOf tid.tx) older → ⊥) × OnceEach older
OnceEach (newest ∷ older) = OnceEach older

-- a record of a global transaction: a Prepared, an Ended, or a Checkpoint with one in doubt or with an owner
abbrev pub IsGlobalOf : Tx → SiteRecord → Type 0
IsGlobalOf tx (Prepared tid epoch number ticket writes) = tid.tx ≡ tx
IsGlobalOf tx (Ended tid decision) = tid.tx ≡ tx
IsGlobalOf tx (Checkpoint sum) = Among (λ (held : Held). held.tid.tx ≡ tx) sum.doubtful ⊎ ((tid : Tid) × (sum.owner ≡ Some tid) × (tid.tx ≡ tx))
IsGlobalOf tx other = ⊥

-- no transaction that has a Local has a record of a global one
abbrev pub AreParted : (locals globals : List SiteRecord) → Type 0
AreParted locals globals = (tx : Tx) → Among (IsLocalOf tx) locals → Among (IsGlobalOf tx) globals → ⊥

-- the serial numbers of a journal
abbrev pub numbers : List SiteRecord → List ℕ
numbers [] = []
numbers (Prepared tid epoch number ticket writes ∷ older) = number ∷ numbers older
numbers (Local tid number writes ∷ older) = number ∷ numbers older
numbers (Checkpoint sum ∷ []) = map (λ (held : Held). held.number) sum.doubtful
numbers (newest ∷ older) = numbers older

-- the tickets of the Prepared records, and the published ones of the Checkpoints
abbrev pub tickets : List SiteRecord → List ℕ
tickets [] = []
tickets (Prepared tid epoch number ticket writes ∷ older) = ticket ∷ tickets older
tickets (Checkpoint sum ∷ older) = sum.published ∷ tickets older
tickets (newest ∷ older) = tickets older

-- a Prepared has a greater ticket than each before it, and than the published one of each Checkpoint before it
abbrev pub TicketsRise : List SiteRecord → Type 0
TicketsRise [] = Unit {0}
TicketsRise (Prepared tid epoch number ticket writes ∷ older) = Each (λ before. before < ticket) (tickets older) × TicketsRise older
TicketsRise (newest ∷ older) = TicketsRise older

-- no key is written by both
abbrev pub KeepClear : List Put → List Put → Type 0
KeepClear writes others = Each (λ put. has_row put.key others ≡ false) writes

-- no committed one of a greater number writes a key of one in doubt; numbers differ
abbrev pub IsBehind : Held → Install → Type 0
IsBehind held install = held.number ≤ install.number → KeepClear held.writes install.writes

-- every front of the list keeps it
abbrev pub OfFronts : (List SiteRecord → Type 0) → List SiteRecord → Type 0
OfFronts P [] = P []
OfFronts P (newest ∷ older) = P (newest ∷ older) × OfFronts P older

-- any two of those in doubt have their tickets in the order of their numbers, which differ, and write no common key
abbrev pub DoubtsApart : List SiteRecord → Type 0
DoubtsApart journal = (a b : Held) → In a (doubts (counted journal)) → In b (doubts (counted journal)) → same_tid a.tid b.tid ≡ false
    → AreApart (kept_held a) (kept_held b)

abbrev pub AreBehind : List SiteRecord → Type 0
AreBehind journal = Each (λ held. Each (IsBehind held) (installs (counted journal))) (doubts (counted journal))

-- a Local has a greater number than each committed one before it that writes one of its keys
abbrev pub LocalsOnTop : List SiteRecord → Type 0
LocalsOnTop [] = Unit {0}
LocalsOnTop (Local tid number writes ∷ older) =
    Each (λ (i : Install). (i.number < number) ⊎ KeepClear writes i.writes) (installs (counted older)) × LocalsOnTop older
LocalsOnTop (newest ∷ older) = LocalsOnTop older

abbrev pub IsOfSite : ℕ → Option Home → Type 0
IsOfSite number None = ⊥
IsOfSite number (Some home) = home.site.0 ≡ number

abbrev pub home_of_first : Option SiteRecord → Option Home
home_of_first None = None
home_of_first (Some first) = home_by first

abbrev pub HaveSums : Option Home → List SiteRecord → Type 0
HaveSums None journal = ⊥
HaveSums (Some home) journal = SumsFit home journal

-- what a site's journal keeps
pub record IsUsableSite (number : ℕ) (journal : List SiteRecord) : Type 0 where
  pub below : Each IsBelow journal
  pub within : Each AreWithin journal
  pub first : IsOfSite number (home_of_first (first_of journal))
  pub set_up : SetUpFirst journal
  pub sums : HaveSums (home_of_first (first_of journal)) journal
  pub epochs : EpochsRise journal
  pub once : OnceEach (counted journal)
  pub numbers_differ : Distinct (numbers journal)
  pub tickets_rise : TicketsRise journal
  pub parted : AreParted (counted journal) journal
  pub doubts_apart : OfFronts DoubtsApart journal
  pub clear : OfFronts AreBehind journal
  pub on_top : LocalsOnTop journal
  pub sums_of_some : Each AreSumsOfSome journal

-- ---- on the coordinator's disk

-- the records, with those that a first Checkpoint stands for behind it
abbrev pub coord_read : List CoordRecord → List CoordRecord
coord_read [] = []
coord_read (Coord_rec.Checkpoint sum ∷ []) = Coord_rec.Checkpoint sum ∷ coord_sum_read sum
coord_read (newest ∷ older) = newest ∷ coord_read older

abbrev pub IsTicketBelow : SiteTicket → Type 0
IsTicketBelow ticket = ticket.ticket < 2 ^ 62

abbrev pub IsCoordBelow : CoordRecord → Type 0
IsCoordBelow (Coord_rec.Commit tid tickets) = Each IsTicketBelow tickets
IsCoordBelow (Coord_rec.Checkpoint sum) = Each (λ (attempt : CommittedAttempt). Each IsTicketBelow attempt.tickets) sum.committed
IsCoordBelow other = Unit {0}

abbrev pub CoordSumsFit : List Participant → List CoordRecord → Type 0
CoordSumsFit protocols [] = Unit {0}
CoordSumsFit protocols (first ∷ []) = Unit {0}
CoordSumsFit protocols (Coord_rec.Checkpoint sum ∷ older) = (sum ≡ coord_sum protocols (coord_read older)) × CoordSumsFit protocols older
CoordSumsFit protocols (newest ∷ older) = CoordSumsFit protocols older

-- records of the attempt: those that may stand before an Initiation, before a Commit or an Abort, and before an End
abbrev pub IsAnyOf : Tid → CoordRecord → Type 0
IsAnyOf tid (Coord_rec.Initiation begun participants) = begun ≡ tid
IsAnyOf tid (Coord_rec.Commit decided tickets) = decided ≡ tid
IsAnyOf tid (Coord_rec.Abort decided participants) = decided ≡ tid
IsAnyOf tid (Coord_rec.End ended) = ended ≡ tid
IsAnyOf tid (Coord_rec.Checkpoint sum) = ⊥

abbrev pub IsDecidedOf : Tid → CoordRecord → Type 0
IsDecidedOf tid (Coord_rec.Initiation begun participants) = ⊥
IsDecidedOf tid (Coord_rec.Commit decided tickets) = decided ≡ tid
IsDecidedOf tid (Coord_rec.Abort decided participants) = decided ≡ tid
IsDecidedOf tid (Coord_rec.End ended) = ended ≡ tid
IsDecidedOf tid (Coord_rec.Checkpoint sum) = ⊥

abbrev pub IsEndOf : Tid → CoordRecord → Type 0
IsEndOf tid (Coord_rec.End ended) = ended ≡ tid
IsEndOf tid other = ⊥

-- each attempt has at most one Initiation, one of Commit and Abort, and one End, in this order
abbrev pub StandInOrder : List CoordRecord → Type 0
StandInOrder [] = Unit {0}
StandInOrder (Coord_rec.Initiation tid participants ∷ older) = (Among (IsAnyOf tid) older → ⊥) × StandInOrder older
StandInOrder (Coord_rec.Commit tid tickets ∷ older) = (Among (IsDecidedOf tid) older → ⊥) × StandInOrder older
StandInOrder (Coord_rec.Abort tid participants ∷ older) = (Among (IsDecidedOf tid) older → ⊥) × StandInOrder older
StandInOrder (Coord_rec.End tid ∷ older) = (Among (IsEndOf tid) older → ⊥) × StandInOrder older
StandInOrder (Coord_rec.Checkpoint sum ∷ older) = StandInOrder older

-- a Commit of an attempt of the transaction
abbrev pub IsCommitOf : Tx → CoordRecord → Type 0
IsCommitOf tx (Coord_rec.Commit tid tickets) = tid.tx ≡ tx
IsCommitOf tx other = ⊥

-- each transaction has at most one Commit
abbrev pub CommitOnce : List CoordRecord → Type 0
CommitOnce [] = Unit {0}
CommitOnce (Coord_rec.Commit tid tickets ∷ older) = (Among (IsCommitOf tid.tx) older → ⊥) × CommitOnce older
CommitOnce (newest ∷ older) = CommitOnce older

-- the sites that a record names are declared, with the protocols that it names
abbrev pub IsDeclaredAt : List Participant → SiteTicket → Type 0
IsDeclaredAt protocols ticket = Among (λ (member : Participant). member.site ≡ ticket.site) protocols

abbrev pub NamesSites : List Participant → CoordRecord → Type 0
NamesSites protocols (Coord_rec.Initiation tid participants) = Each (λ member. In member protocols) participants
NamesSites protocols (Coord_rec.Commit tid tickets) = Each (IsDeclaredAt protocols) tickets
NamesSites protocols (Coord_rec.Abort tid participants) = Each (λ member. In member protocols) participants
NamesSites protocols (Coord_rec.End tid) = Unit {0}
NamesSites protocols (Coord_rec.Checkpoint sum) =
    Each (λ (attempt : OpenAttempt). Each (λ member. In member protocols) attempt.participants) sum.open_attempts
    × Each (λ (attempt : CommittedAttempt). Each (IsDeclaredAt protocols) attempt.tickets) sum.committed

-- a Checkpoint's attempts stand by rising attempt, as the format has them, and none that committed is open where a commit of its participants is
-- forgotten at once
pub record IsSumOfOpen (sum : CoordSum) : Type 0 where
  pub open_rise : RiseBy (λ (attempt : OpenAttempt). attempt.tid) sum.open_attempts
  pub committed_rise : RiseBy (λ (attempt : CommittedAttempt). attempt.tid) sum.committed
  pub awaited : Each (λ (attempt : OpenAttempt). some_of (λ (done : CommittedAttempt). same_tid done.tid attempt.tid) sum.committed ≡ true
      → ends_at_once (class_of attempt.participants) ≡ false) sum.open_attempts

abbrev pub AreSumsOfOpen : CoordRecord → Type 0
AreSumsOfOpen (Coord_rec.Checkpoint sum) = IsSumOfOpen sum
AreSumsOfOpen other = Unit {0}

-- what a coordinator's journal keeps, where these are the sites whose disks aren't empty
pub record IsUsableCoordinator (protocols : List Participant) (journal : List CoordRecord) : Type 0 where
  pub below : Each IsCoordBelow journal
  pub sums : CoordSumsFit protocols journal
  pub order : StandInOrder (coord_read journal)
  pub once : CommitOnce (coord_read journal)
  pub sums_of_open : Each AreSumsOfOpen journal
  pub sites : Each (NamesSites protocols) journal
  pub cycle_free : HasNoCycle (commits (coord_read journal))

-- ---- on the coordinator's disk and a site's

-- a record of an attempt of the transaction
abbrev pub IsAttemptOf : Tx → CoordRecord → Type 0
IsAttemptOf tx (Coord_rec.Initiation tid participants) = tid.tx ≡ tx
IsAttemptOf tx (Coord_rec.Commit tid tickets) = tid.tx ≡ tx
IsAttemptOf tx (Coord_rec.Abort tid participants) = tid.tx ≡ tx
IsAttemptOf tx (Coord_rec.End tid) = tid.tx ≡ tx
IsAttemptOf tx (Coord_rec.Checkpoint sum) = ⊥

-- no transaction that a record of the coordinator names has a Local at the site, or stands among the locals of a first Checkpoint there
abbrev pub AreUnnamed : (coordinator : List CoordRecord) → (site : List SiteRecord) → Type 0
AreUnnamed coordinator site = (tx : Tx) → Among (IsLocalOf tx) (counted site) → Among (IsAttemptOf tx) (coord_read coordinator) → ⊥
