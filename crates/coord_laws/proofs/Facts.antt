-- What a line of the coordinator does about one attempt: what it appends, sends and makes of its standing, as facts on the line.
use Rattle.std.proofs.Common.{◌≡◌, ℕ, ◌⊎◌, Bool, true, false, cond, ◌||◌, is_some, Some, None, List, [], ◌∷◌, ◌++◌}
use Rattle.mdb_base.specs.declared.acts.Step.{Step}
use Rattle.mdb_base.specs.declared.names.SiteId.{SiteId}
use Rattle.mdb_base.specs.declared.names.Tid.{Tid}
use Rattle.mdb_base.specs.Names.{same_tid}
use Rattle.mdb_base.specs.Words.{Each, Among}
use Rattle.presumptions.specs.declared.Decision.{Decision}
use Rattle.presumptions.specs.declared.Decision.TheVariants as Decided
use Rattle.presumptions.specs.declared.Participant.{Participant}
use Rattle.presumptions.specs.Table.{presumed}
use Rattle.fed_rules.specs.declared.answers.Answer.{Answer}
use Rattle.fed_rules.specs.declared.answers.Answer.TheVariants as Say
use Rattle.fed_rules.specs.declared.events.CoordEvent.{CoordEvent}
use Rattle.fed_rules.specs.declared.events.CoordEvent.TheVariants as Ev
use Rattle.fed_rules.specs.declared.messages.FromSite.TheVariants as From
use Rattle.fed_rules.specs.declared.messages.Sent.{Sent}
use Rattle.fed_rules.specs.declared.messages.ToSite.{ToSite}
use Rattle.fed_rules.specs.declared.messages.ToSite.TheVariants as To
use Rattle.fed_rules.specs.declared.records.CoordRecord.{CoordRecord}
use Rattle.fed_rules.specs.declared.records.CoordRecord.TheVariants as Rec
use Rattle.fed_rules.specs.Happenings.{quiet, stops, comes_up}
use Rattle.fed_rules.specs.Coord.{missing, did_counts, all_voted, protocol_of}
use Rattle.fed_rules.specs.CoordPast.{CoordHappening, CoordPast, records, Standing, Undecided, Decided, Gone, standing_of, standing, kept_decision, is_about, begins, counts, participants, program, visits, epoch_at, has_ticket_at, has_acked}
use Rattle.fed_rules.specs.CoordRecords.{class_of, has_initiation, ticketed, named, required, is_nobody}
use Rattle.coord_laws.specs.Records.{IsCommit, IsEnd}
use Rattle.fed_rules.proofs.ForCallers.{IsQuiet, appended}
use Rattle.fed_rules.specs.CoordSums.{coord_sum}
use Rattle.fed_rules.specs.Usable.{IsDeclaredAt}

abbrev pub is_undecided : Standing → Bool
is_undecided Undecided = true
is_undecided standing = false

-- what the answer of a line about an attempt makes of its standing
abbrev pub moved : Answer → Standing → Standing
moved (Say.Begun tid) old = Undecided
moved (Say.Decides decision cause forgets) old = cond forgets Gone (Decided decision)
moved Say.Forgets old = Gone
moved answer old = old

-- the standing that the kept records give
abbrev pub kept_standing : List Participant → List CoordRecord → Tid → Standing
kept_standing protocols kept g = standing_of false (kept_decision protocols kept g)

-- the attempt is known without a decision
abbrev pub IsOpen : List Participant → CoordPast → Tid → Type 0
IsOpen protocols past g = is_undecided (standing protocols past g) ≡ true

-- neither a Commit, nor an Abort, nor an End record of the attempt
abbrev pub IsUnmarked : Tid → CoordRecord → Type 0
IsUnmarked g (Rec.Commit tid tickets) = same_tid tid g ≡ false
IsUnmarked g (Rec.End tid) = same_tid tid g ≡ false
IsUnmarked g (Rec.Abort tid members) = same_tid tid g ≡ false
IsUnmarked g kept = Unit {0}

-- no Commit record of the attempt
abbrev pub IsUncommitted : Tid → CoordRecord → Type 0
IsUncommitted g (Rec.Commit tid tickets) = same_tid tid g ≡ false
IsUncommitted g kept = Unit {0}

-- the last yes vote of an undecided attempt is taken
pub record IsCommitting (protocols : List Participant) (g : Tid) (past : CoordPast) (event : CoordEvent) : Type 0 where
  pub undecided : IsOpen protocols past g
  pub site : SiteId
  pub ticket : ℕ
  pub taken : event ≡ Ev.Take site (From.Vote g (Some ticket))
  pub all : all_voted (quiet event Say.Voted ∷ past) g (participants protocols past g) ≡ true

-- why an End record of the attempt is appended, behind these other records of the line: the last required acknowledgement is taken
pub record IsEnding (protocols : List Participant) (g : Tid) (past : CoordPast) (event : CoordEvent)
    (before : List CoordRecord) : Type 0 where
  pub decision : Decision
  pub known : standing protocols past g ≡ Decided decision
  pub alone : before ≡ []
  pub none : is_nobody (missing protocols (quiet event Say.Acked ∷ past) g decision) ≡ true
  pub recorded : is_some (named protocols (records past) g) ≡ true

-- why a record is appended, behind these other records of the line
abbrev pub Wrote : List Participant → Tid → CoordPast → CoordEvent → List CoordRecord → CoordRecord → Type 0
Wrote protocols g past event before (Rec.Initiation tid members) = same_tid tid g ≡ true → IsOpen protocols past g ×
    (members ≡ participants protocols past g) × (named protocols (records past) g ≡ None)
Wrote protocols g past event before (Rec.Commit tid tickets) = same_tid tid g ≡ true → IsCommitting protocols g past event ×
    (before ≡ []) × (ticketed protocols tickets ≡ participants protocols past g) × Each (IsDeclaredAt (participants protocols past g)) tickets
Wrote protocols g past event before (Rec.Abort tid members) = same_tid tid g ≡ true → IsOpen protocols past g ×
    (members ≡ participants protocols past g)
Wrote protocols g past event before (Rec.End tid) = same_tid tid g ≡ true → IsEnding protocols g past event before
Wrote protocols g past event before (Rec.Checkpoint sum) = (sum ≡ coord_sum protocols (records past)) × (before ≡ [])

-- why the records of a line are appended, the newest first
abbrev pub WroteAll : List Participant → Tid → CoordPast → CoordEvent → List CoordRecord → Type 0
WroteAll protocols g past event [] = Unit {0}
WroteAll protocols g past event (r ∷ rs) = Wrote protocols g past event rs r × WroteAll protocols g past event rs

-- a decision is commit exactly where its Commit record is appended
abbrev pub IsDecidedBy : Tid → Decision → List CoordRecord → Type 0
IsDecidedBy g Decided.Commit news = Among (IsCommit g) news
IsDecidedBy g Decided.Abort news = Each (IsUncommitted g) news

-- what a line that no stop ends makes of the attempt's standing, with these new records
pub data Stands (protocols : List Participant) (g : Tid) (past : CoordPast) (y : CoordHappening) (news : List CoordRecord) : Type 0 where
  Same : standing protocols (y ∷ past) g ≡ standing protocols past g → begins g y.answer ≡ false → Each (IsUnmarked g) news
      → ((site : SiteId) → has_acked (y ∷ past) g site ≡ has_acked past g site) ⊎
      ((decision : Decision) → standing protocols past g ≡ Decided decision
      → is_nobody (missing protocols (y ∷ past) g decision) ≡ false)
      → Stands protocols g past y news
  Starts : begins g y.answer ≡ true → standing protocols (y ∷ past) g ≡ Undecided → news ≡ [] → (steps : List Step)
      → y.event ≡ Ev.Go g steps → Stands protocols g past y news
  Decides : (decision : Decision) (forgets : Bool) → IsOpen protocols past g → begins g y.answer ≡ false
      → standing protocols (y ∷ past) g ≡ cond forgets Gone (Decided decision)
      → is_nobody (required protocols (news ++ records past) g decision) ≡ forgets → IsDecidedBy g decision news →
      ((site : SiteId) → has_acked (y ∷ past) g site ≡ false) → Stands protocols g past y news
  Forgets : (decision : Decision) → standing protocols past g ≡ Decided decision → begins g y.answer ≡ false
      → standing protocols (y ∷ past) g ≡ Gone
      → is_nobody (missing protocols (quiet y.event Say.Acked ∷ past) g decision) ≡ true → Each IsEnd news →
      ((site : SiteId) → has_acked (y ∷ past) g site ≡ has_acked (quiet y.event Say.Acked ∷ past) g site)
      → Stands protocols g past y news
  Restarts : begins g y.answer ≡ false → standing protocols (y ∷ past) g ≡ kept_standing protocols (records (y ∷ past)) g
      → ((site : SiteId) → has_acked (y ∷ past) g site ≡ false) → (stops y.answer || comes_up y.answer) ≡ true
      → Stands protocols g past y news

-- a Prepare is sent of an undecided attempt, with the epoch of its counted replies, and its Initiation stands on the disk where its class has one
pub record IsPreparing (protocols : List Participant) (g : Tid) (past : CoordPast) (y : CoordHappening) (site : SiteId)
    (e : ℕ) : Type 0 where
  pub undecided : IsOpen protocols past g
  pub visits : visits site (program (y ∷ past) g) ≡ true
  pub ticketed : has_ticket_at (y ∷ past) g site ≡ true
  pub epoch : e ≡ epoch_at (y ∷ past) g site
  pub recorded : has_initiation (class_of (participants protocols past g)) ≡ true
      → is_some (named protocols (records (y ∷ past)) g) ≡ true

-- why a decision is sent
pub data IsTelling (protocols : List Participant) (g : Tid) (past : CoordPast) (y : CoordHappening) (site : SiteId)
    (decision : Decision) : Type 0 where
  Now : (forgets : Bool) → IsOpen protocols past g → standing protocols (y ∷ past) g ≡ cond forgets Gone (Decided decision)
      → (news : List CoordRecord)
      → records (y ∷ past) ≡ news ++ records past → IsDecidedBy g decision news → IsTelling protocols g past y site decision
  Known : standing protocols past g ≡ Decided decision → IsTelling protocols g past y site decision
  Presumed : standing protocols past g ≡ Gone → y.event ≡ Ev.Take site (From.Inquiry g)
      → decision ≡ presumed (protocol_of protocols site) → IsTelling protocols g past y site decision

-- why a message is sent
abbrev pub Says : List Participant → Tid → CoordPast → CoordHappening → SiteId → ToSite → Type 0
Says protocols g past y site (To.Prepare tid e n) = same_tid tid g ≡ true → IsPreparing protocols g past y site e
Says protocols g past y site (To.Decide tid decision) = same_tid tid g ≡ true → IsTelling protocols g past y site decision
Says protocols g past y site message = Unit {0}

abbrev pub Tells : List Participant → Tid → CoordPast → CoordHappening → Sent → Type 0
Tells protocols g past y sent = Says protocols g past y sent.site sent.message

-- a line that decides commit of the attempt appends its Commit
abbrev pub Committed : Tid → CoordEvent → Answer → List CoordRecord → Type 0
Committed g event (Say.Decides Decided.Commit cause forgets) news = is_about g event ≡ true → Among (IsCommit g) news
Committed g event answer news = Unit {0}

-- why a reply counts
abbrev pub Counted : List Participant → Tid → CoordPast → CoordEvent → Type 0
Counted protocols g past (Ev.Take site (From.Did tid e n reply)) = same_tid tid g ≡ true
    → did_counts past site g e n reply ≡ true
Counted protocols g past event = Unit {0}

-- all of this of a line that no stop ends
pub record Goes (protocols : List Participant) (g : Tid) (past : CoordPast) (event : CoordEvent) (y : CoordHappening) : Type 0 where
  pub is : y.event ≡ event
  pub quiet : IsQuiet IsEnd false y.calls
  pub wrote : WroteAll protocols g past event (appended y.calls [])
  pub stands : Stands protocols g past y (appended y.calls [])
  pub tells : Each (Tells protocols g past y) y.sends
  pub counted : counts y.answer ≡ true → Counted protocols g past event
  pub committed : Committed g event y.answer (appended y.calls [])
