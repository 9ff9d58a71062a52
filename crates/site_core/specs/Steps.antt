-- What a step of a core asks of the past, and what it does to the pasts that the core stands for.
use Rattle.std.specs.Prelude.{ℕ, ◌≡◌, ◌+◌, ◌<◌, ◌^◌, Bool, false, Some, List, length}
use Rattle.mdb_base.specs.declared.names.Tid.{Tid}
use Rattle.field_bytes.specs.Fields.{IsTid}
use Rattle.fed_rules.specs.declared.events.SiteEvent.{SiteEvent}
use Rattle.fed_rules.specs.declared.events.SiteEvent.TheVariants as Ev
use Rattle.fed_rules.specs.declared.events.SiteStep.{SiteStep}
use Rattle.fed_rules.specs.declared.messages.ToSite.{ToSite}
use Rattle.fed_rules.specs.declared.messages.ToSite.TheVariants as To
use Rattle.fed_rules.specs.Runs.{Start, EngineLine, Run, counter, published}
use Rattle.fed_rules.specs.Site.{site_line}
use Rattle.fed_rules.specs.SitePast.{SiteHappening, SitePast, attempts_of, epoch, epoch_start, engine_lines, live}
use Rattle.fed_rules.specs.SiteRecords.{Home}
use Rattle.journal_disk.specs.Disk.{Seen}
use Rattle.actor_store.specs.declared.errors.StepErr.{StepErr}
use Rattle.site_core.specs.declared.site.SiteCore.{SiteCore}
use Rattle.site_core.specs.Made.{was_begun, was_global, was_local}
use Rattle.site_core.specs.Stands.{Adds, Answers, Breaks, Fails, Holds, Stands, Steps, beside_rules, calls_for}

-- for some past that it stands for the fact holds
pub record SomePast (K : Home → SitePast → Type 0) (P : Home → SitePast → Type 0) : Type 0 where
  pub home : Home
  pub past : SitePast
  pub stood : K home past
  pub holds : P home past

-- for every past that it stands for the fact holds
abbrev pub EachPast : (Home → SitePast → Type 0) → (Home → SitePast → Type 0) → Type 0
EachPast K P = (home : Home) (past : SitePast) → K home past → P home past

-- any past
abbrev pub AnyPast : Home → SitePast → Type 0
AnyPast home past = Unit {0}

-- the next number that is drawn fits
abbrev pub NumberFits : Home → SitePast → Type 0
NumberFits home past = counter (epoch_start home past) (engine_lines past) + 1 < 2 ^ 64

-- no message was about the transaction of the attempt
abbrev pub IsLocal : Tid → SitePast → Type 0
IsLocal tid past = was_global tid.tx past ≡ false

-- an attempt of a local transaction begins that wasn't begun before, of at most 32, and the next number fits
pub record CanBegin (tid : Tid) (home : Home) (past : SitePast) : Type 0 where
  pub apart : IsLocal tid past
  pub new : was_begun tid past ≡ false
  pub few : attempts_of past tid.tx < 32
  pub fits : NumberFits home past

-- the attempt has fewer than 32 finished accesses
abbrev pub HasFewAccesses : Tid → Home → SitePast → Type 0
HasFewAccesses tid home past = (run : Run) → live home past tid ≡ Some run → length run.acts < 32

-- an access is of a local attempt with fewer than 32 finished ones
pub record CanAct (tid : Tid) (home : Home) (past : SitePast) : Type 0 where
  pub apart : IsLocal tid past
  pub few : HasFewAccesses tid home past

-- a commit names a local attempt in its range, and the next number fits
pub record CanCommit (tid : Tid) (home : Home) (past : SitePast) : Type 0 where
  pub apart : IsLocal tid past
  pub in_range : IsTid tid
  pub fits : NumberFits home past

-- the number of the next epoch fits
abbrev pub EpochFits : Home → SitePast → Type 0
EpochFits home past = epoch home past + 1 < 2 ^ 32

-- no event of a local attempt names the transaction of the attempt
abbrev pub IsGlobal : Tid → SitePast → Type 0
IsGlobal tid past = was_local tid.tx past ≡ false

-- a message is about a global transaction, and the next ticket fits
pub record CanTakeTicket (tid : Tid) (home : Home) (past : SitePast) : Type 0 where
  pub apart : IsGlobal tid past
  pub fits : published (epoch_start home past) (engine_lines past) + 1 < 2 ^ 64

-- a message is about a global transaction, and the next number fits
pub record CanWork (tid : Tid) (home : Home) (past : SitePast) : Type 0 where
  pub apart : IsGlobal tid past
  pub fits : NumberFits home past

-- a message is about an attempt of a global transaction in its range, and the next number fits
pub record CanPrepare (tid : Tid) (home : Home) (past : SitePast) : Type 0 where
  pub apart : IsGlobal tid past
  pub in_range : IsTid tid
  pub fits : NumberFits home past

-- a message is about an attempt of a global transaction in its range
pub record CanDecide (tid : Tid) (home : Home) (past : SitePast) : Type 0 where
  pub apart : IsGlobal tid past
  pub in_range : IsTid tid

-- what a message of a coordinator asks of the past
abbrev pub CanTakeMessage : ToSite → Home → SitePast → Type 0
CanTakeMessage (To.Take tid epoch n) home past = CanTakeTicket tid home past
CanTakeMessage (To.Work tid epoch n act) home past = CanWork tid home past
CanTakeMessage (To.Prepare tid epoch n) home past = CanPrepare tid home past
CanTakeMessage (To.Decide tid decision) home past = CanDecide tid home past

-- what an event asks of the past
abbrev pub CanStep : SiteEvent → Home → SitePast → Type 0
CanStep (Ev.Begin tid) home past = CanBegin tid home past
CanStep (Ev.Act tid act) home past = CanAct tid home past
CanStep (Ev.Commit tid) home past = CanCommit tid home past
CanStep (Ev.Abort tid) home past = IsLocal tid past
CanStep (Ev.Fate tx) home past = was_global tx past ≡ false
CanStep (Ev.Give message) home past = CanTakeMessage message home past
CanStep (Ev.Ask tid) home past = Unit {0}
CanStep (Ev.Drop tid) home past = Unit {0}
CanStep (Ev.Halt cut) home past = Unit {0}
CanStep (Ev.Trip calls cut) home past = Unit {0}
CanStep Ev.Back home past = EpochFits home past
CanStep Ev.Check home past = Unit {0}

-- what a step does, from an old core with what is seen of its disk before, to a new one with what is seen of its disk after
module _ {E : Type 0} (stands : E → Start → List EngineLine → Type 0) (tells : Bool) (old : SiteCore E) (before : Seen) (new : SiteCore E) (after : Seen) where
  -- of each past for which the old core stood, where the event may come, the step is the answer to it, and the new core stands for the next
  -- line
  abbrev pub StepsOn : SiteEvent → SiteStep → Type 0
  StepsOn event step =
      EachPast (Stands stands tells old before)
      (λ home past. CanStep event home past → Steps stands tells (beside_rules event old before) before step new after home past (site_line home past event))

  -- of each such past the event isn't answered, for this reason, and the new core stands for what that leaves
  abbrev pub FailsOn : SiteEvent → StepErr → Type 0
  FailsOn event why =
      EachPast (Stands stands tells old before)
      (λ home past. CanStep event home past → Fails stands tells (beside_rules event old before + calls_for home past event) before why new after home past event)

  -- of each past for which the old core stood, where this may come, the step is that of this line, and the new core has the line in memory
  -- and on its disk, which had so many calls beside those of the line
  abbrev pub AnswersBeside : ℕ → (Home → SitePast → Type 0) → (Home → SitePast → SiteHappening) → SiteStep → Type 0
  AnswersBeside beside Can line step =
      EachPast (Stands stands tells old before) (λ home past. Can home past → Answers stands tells beside before step new after home past (line home past))

  -- of each such past the event isn't answered, for this reason, and the new core has in memory and on its disk what that leaves
  abbrev pub BreaksBeside : ℕ → (Home → SitePast → Type 0) → SiteEvent → StepErr → Type 0
  BreaksBeside beside Can event why =
      EachPast (Stands stands tells old before) (λ home past. Can home past → Breaks stands tells (beside + calls_for home past event) before why new after home past event)

  -- the same where the disk had the calls of the line alone
  abbrev pub AnswersWhere : (Home → SitePast → Type 0) → (Home → SitePast → SiteHappening) → SiteStep → Type 0
  AnswersWhere Can line step = AnswersBeside 0 Can line step

  abbrev pub BreaksWhere : (Home → SitePast → Type 0) → SiteEvent → StepErr → Type 0
  BreaksWhere Can event why = BreaksBeside 0 Can event why

  -- the same of each past for which the old core stood, whatever it is
  abbrev pub AnswersEach : ℕ → (Home → SitePast → SiteHappening) → SiteStep → Type 0
  AnswersEach beside line step = EachPast (Stands stands tells old before) (λ home past. Answers stands tells beside before step new after home past (line home past))

  abbrev pub BreaksEach : ℕ → SiteEvent → StepErr → Type 0
  BreaksEach beside event why = EachPast (Stands stands tells old before) (λ home past. Breaks stands tells (beside + calls_for home past event) before why new after home past event)

-- of each past that the old core held in memory, where this may come, the step is that of this line, and the new core has it in memory
abbrev pub AddsWhere : {E : Type 0} → (E → Start → List EngineLine → Type 0) → SiteCore E → SiteCore E → (Home → SitePast → Type 0) → (Home → SitePast → SiteHappening) → SiteStep → Type 0
AddsWhere stands old new Can line step = EachPast (Holds stands old) (λ home past. Can home past → Adds stands step new home past (line home past))
