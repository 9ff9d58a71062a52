-- What the core of a site stands for: a home, and the list of what happened there, the newest first.
use Rattle.std.specs.Prelude.{ℕ, ◌≡◌, ◌+◌, Bool, true, cond, not, option_to_list, List, [], ◌∷◌, length, reverse}
use Rattle.mdb_base.specs.declared.names.Engine.{Engine}
use Rattle.mdb_base.specs.declared.names.Tid.{Tid}
use Rattle.mdb_base.specs.declared.names.Tx.{Tx}
use Rattle.mdb_base.specs.Words.{map_some}
use Rattle.fed_rules.specs.declared.events.SiteEvent.{SiteEvent}
use Rattle.fed_rules.specs.declared.events.SiteEvent.TheVariants as Ev
use Rattle.fed_rules.specs.declared.events.SiteStep.{SiteStep}
use Rattle.fed_rules.specs.Happenings.{is_down}
use Rattle.fed_rules.specs.Runs as Lines
use Rattle.fed_rules.specs.Runs.{EngineLine}
use Rattle.fed_rules.specs.Site.{answered, site_line}
use Rattle.fed_rules.specs.SitePast.{SiteHappening, SitePast, epoch, epoch_start, engine_lines, attempts_of, journal}
use Rattle.fed_rules.specs.SitePast as Past
use Rattle.fed_rules.specs.SiteRecords.{Home, doubt_of, start_of}
use Rattle.journal_disk.specs.Disk.{HasCalled, HasCalledAtMost, Seen}
use Rattle.frame_journal.specs.Journal.{records}
use Rattle.journal_rules.specs.Calls.{can_fail}
use Rattle.prepared_state.specs.Book.{doubt_about}
use Rattle.journal_sums.specs.Starts.{doubt_held}
use Rattle.site_book.specs.Book.{begun_in}
use Rattle.site_core.specs.declared.site.SiteCore.{SiteCore}
use Rattle.actor_store.specs.declared.errors.StepErr.{StepErr}
use Rattle.actor_store.specs.declared.errors.StepErr.TheVariants as Err_is
use Rattle.actor_store.specs.declared.store.Standing.{Standing}
use Rattle.actor_store.specs.declared.store.Standing.TheVariants.{Up, Down, Failing}
use Rattle.actor_store.specs.Store as actor
use Rattle.actor_store.specs.Store.{IsArmed, is_up, reloads, trip_of_rules, uncounted}
use Rattle.site_core.specs.Made.{IsGoingOn, was_found}
use Rattle.site_core.specs.Notes.{NotesPast}
use Rattle.site_core.specs.Recovered.{LocalsOnce}
use Rattle.site_core.specs.Store.{Keeps}

-- the engine stands for lines of some epoch, by this rule
pub record IsOfKind {E : Type 0} (stands : E → Lines.Start → List EngineLine → Type 0) (engine : E) (kind : Engine) : Type 0 where
  pub start : Lines.Start
  pub lines : List EngineLine
  pub stood : stands engine start lines
  pub of_kind : start.kind ≡ kind

-- a core whose site is up: its engine stands for the lines of the epoch, its book says what became of each attempt, and it lists what the
-- site is in doubt of, each with the epoch and the ticket of its record
pub record IsUp {E : Type 0} (stands : E → Lines.Start → List EngineLine → Type 0) (core : SiteCore E) (home : Home) (past : SitePast) : Type 0 where
  pub engine : stands core.engine (epoch_start home past) (engine_lines past)
  pub notes : NotesPast core.book home past
  pub doubts : (tid : Tid) → doubt_about tid core.doubts.doubts ≡ map_some doubt_held (doubt_of (Past.records home past) tid)
  pub epoch : core.epoch ≡ epoch home past

-- one whose site is down: a stop ended every run
pub record IsStopped {E : Type 0} (stands : E → Lines.Start → List EngineLine → Type 0) (core : SiteCore E) (home : Home) (past : SitePast) : Type 0 where
  pub engine : IsOfKind stands core.engine home.engine
  pub start : epoch_start home past ≡ start_of home (Past.records home past)
  pub lines : engine_lines past ≡ []

abbrev pub IsIn : {E : Type 0} → (E → Lines.Start → List EngineLine → Type 0) → SiteCore E → Standing → Home → SitePast → Type 0
IsIn stands core Up home past = IsUp stands core home past
IsIn stands core Down home past = IsStopped stands core home past
IsIn stands core Failing home past = IsStopped stands core home past

-- what a core has in memory of a past: the records on its disk, the trip, whether it is up, how many attempts of each local transaction were
-- begun, and the protocol; and no local transaction is recorded twice
pub record Remembers {E : Type 0} (stands : E → Lines.Start → List EngineLine → Type 0) (core : SiteCore E) (home : Home) (past : SitePast) : Type 0 where
  pub records : records core.store.journal ≡ reverse (journal home past)
  pub trip : map_some trip_of_rules core.store.trip ≡ Past.trip past
  pub armed : IsArmed core.store.trip
  pub standing : is_down past ≡ not (is_up core.store.standing)
  pub standing_in : IsIn stands core core.store.standing home past
  pub begun : (tx : Tx) → begun_in core.book tx ≡ attempts_of past tx
  pub protocol : core.protocol ≡ home.protocol
  pub once : LocalsOnce (Past.records home past)

-- the core holds this past of this home, which events made of nothing or of a journal that was found
pub record Holds {E : Type 0} (stands : E → Lines.Start → List EngineLine → Type 0) (core : SiteCore E) (home : Home) (past : SitePast) : Type 0 where
  pub made : IsGoingOn home past
  pub memory : Remembers stands core home past

-- the core, with this disk, stands for it
pub record Stands {E : Type 0} (stands : E → Lines.Start → List EngineLine → Type 0) (tells : Bool) (core : SiteCore E) (disk : Seen) (home : Home) (past : SitePast) : Type 0 where
  pub holds : Holds stands core home past
  pub stored : Keeps (was_found past) tells disk core.store (Past.disk home past) (Past.trip past)

-- the core, with this disk, has this past in memory and on the disk
pub record Carries {E : Type 0} (stands : E → Lines.Start → List EngineLine → Type 0) (tells : Bool) (core : SiteCore E) (disk : Seen) (home : Home) (past : SitePast) : Type 0 where
  pub memory : Remembers stands core home past
  pub stored : Keeps (was_found past) tells disk core.store (Past.disk home past) (Past.trip past)

-- the step says and sends what the line does, and the core has the line in memory
pub record Adds {E : Type 0} (stands : E → Lines.Start → List EngineLine → Type 0) (step : SiteStep) (core : SiteCore E) (home : Home) (past : SitePast) (x : SiteHappening) : Type 0 where
  pub answer : step.answer ≡ x.answer
  pub sends : option_to_list step.sends ≡ x.sends
  pub memory : Remembers stands core home (x ∷ past)

-- how many calls a step makes beside those of the rules: a start reads the disk, and behind a failed call it cuts back where nothing is torn
abbrev pub beside_rules : {E : Type 0} → SiteEvent → SiteCore E → Seen → ℕ
beside_rules Ev.Back core disk = cond (is_up core.store.standing) 0 (reloads core.store.is_fresh disk.size + uncounted (actor.stored core.store))
beside_rules event core disk = 0

-- and on its disk, which had each call of the line once, and so many beside them, since it was seen before
pub record Answers {E : Type 0} (stands : E → Lines.Start → List EngineLine → Type 0) (tells : Bool) (beside : ℕ) (before : Seen) (step : SiteStep) (core : SiteCore E) (disk : Seen) (home : Home) (past : SitePast) (x : SiteHappening) : Type 0 where
  pub answer : step.answer ≡ x.answer
  pub sends : option_to_list step.sends ≡ x.sends
  pub carries : Carries stands tells core disk home (x ∷ past)
  pub called : HasCalled (beside + can_fail x.calls) before disk

-- the step says and sends what the line does, and the core with this disk stands for the line added. The disk had each call of the line once, and
-- so many beside them
pub record Steps {E : Type 0} (stands : E → Lines.Start → List EngineLine → Type 0) (tells : Bool) (beside : ℕ) (before : Seen) (step : SiteStep) (core : SiteCore E) (disk : Seen) (home : Home) (past : SitePast) (x : SiteHappening) : Type 0 where
  pub answer : step.answer ≡ x.answer
  pub sends : option_to_list step.sends ≡ x.sends
  pub stood : Stands stands tells core disk home (x ∷ past)
  pub called : HasCalled (beside + can_fail x.calls) before disk

-- a stop that is as a failed disk call: it comes before the event, or right after so many of its disk calls
pub data StopAt : Type 0 where
  Before : ℕ → StopAt
  Within : ℕ → ℕ → StopAt

-- the past behind this event
abbrev pub behind : Home → SitePast → SiteEvent → SitePast
behind home past event = site_line home past event ∷ past

-- the past that such a stop, which events make, leaves: no trip is set and the site halts, or a trip that is set stops the event
abbrev pub stopped_past : Home → SitePast → SiteEvent → StopAt → SitePast
stopped_past home past event (Before cut) = behind home (behind home past (Ev.Trip 0 0)) (Ev.Halt cut)
stopped_past home past event (Within calls cut) = behind home (behind home past (Ev.Trip calls cut)) event

-- how many disk calls the rules have for the event, where no trip comes within them
abbrev pub calls_for : Home → SitePast → SiteEvent → ℕ
calls_for home past event = length (answered home past event).calls

-- an event that isn't answered: want of memory changes nothing, and a failed disk call leaves the site down, as such a stop leaves it. The disk had
-- at most so many calls
abbrev pub Fails : {E : Type 0} → (E → Lines.Start → List EngineLine → Type 0) → Bool → ℕ → Seen → StepErr → SiteCore E → Seen → Home → SitePast → SiteEvent → Type 0
Fails stands tells most before Err_is.Memory core disk home past event = Stands stands tells core disk home past × HasCalledAtMost most before disk
Fails stands tells most before Err_is.Disk core disk home past event =
    (at : StopAt) × Stands stands tells core disk home (stopped_past home past event at) × (is_down (stopped_past home past event at) ≡ true) × HasCalledAtMost most before disk

-- the same of what the core has in memory and on its disk
abbrev pub Breaks : {E : Type 0} → (E → Lines.Start → List EngineLine → Type 0) → Bool → ℕ → Seen → StepErr → SiteCore E → Seen → Home → SitePast → SiteEvent → Type 0
Breaks stands tells most before Err_is.Memory core disk home past event = Carries stands tells core disk home past × HasCalledAtMost most before disk
Breaks stands tells most before Err_is.Disk core disk home past event =
    (at : StopAt) × Carries stands tells core disk home (stopped_past home past event at) × (is_down (stopped_past home past event at) ≡ true) × HasCalledAtMost most before disk
