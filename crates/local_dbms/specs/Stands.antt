-- What a local database system stands for: its home, the programs of its local transactions, and its past, the newest line first.
use Rattle.std.specs.Prelude.{◌≡◌, ◌≤◌, ◌<◌, ◌^◌, option_to_list, Bool, true, cond, IsSome, Option, Some, None, List, [], ◌∷◌, length, slice_get}
use Rattle.mdb_base.specs.declared.acts.Step.{Step}
use Rattle.mdb_base.specs.declared.names.SiteId.{SiteId}
use Rattle.mdb_base.specs.declared.names.Tx.{Tx}
use Rattle.mdb_base.specs.declared.rows.Put.{Put}
use Rattle.mdb_base.specs.Names.{same_tx}
use Rattle.mdb_base.specs.Words.{or_else}
use Rattle.field_bytes.specs.Fields.{IsTid}
use Rattle.fed_rules.specs.declared.answers.Answer.{Answer}
use Rattle.fed_rules.specs.declared.events.SiteEvent.{SiteEvent}
use Rattle.fed_rules.specs.declared.events.SiteEvent.TheVariants as Ev
use Rattle.fed_rules.specs.declared.events.SiteStep.{SiteStep}
use Rattle.fed_rules.specs.declared.messages.FromSite.{FromSite}
use Rattle.fed_rules.specs.declared.messages.ToSite.{ToSite}
use Rattle.fed_rules.specs.declared.scenario.SiteLine.{SiteLine}
use Rattle.fed_rules.specs.declared.scenario.TxLine.{TxLine}
use Rattle.fed_rules.specs.Happenings.{is_down}
pub use Rattle.fed_rules.specs.OwnPrograms.{OwnPrograms, own_programs, program_at}
use Rattle.fed_rules.specs.Requests.{Request, Submits, Declines, attempt, most_attempts}
use Rattle.fed_rules.specs.Runs.{Start, EngineLine}
use Rattle.fed_rules.specs.Site.{site_line}
use Rattle.fed_rules.specs.SiteCommands.{answer_to, past_behind}
use Rattle.fed_rules.specs.SitePast.{SitePast, attempts_of}
use Rattle.fed_rules.specs.SiteRecords.{Home}
use Rattle.journal_disk.specs.Disk.{Seen}
use Rattle.actor_store.specs.declared.errors.StepErr.{StepErr}
use Rattle.actor_store.specs.declared.errors.StepErr.TheVariants as Err_is
use Rattle.fed_rules.specs.Site_of.{about}
use Rattle.site_core.specs.Stands.{Holds, Stands as CoreStands, StopAt, stopped_past}
use Rattle.site_core.specs.Steps.{CanStep}
use Rattle.local_dbms.specs.declared.dbms.LocalDbms.{LocalDbms}

-- an event names a transaction of the site's own, a begin also its next attempt, of at most 32, and a message is about none of them
abbrev pub FitsPrograms : OwnPrograms → SitePast → SiteEvent → Type 0
FitsPrograms programs past (Ev.Begin tid) = IsSome (programs tid.tx) × (tid ≡ attempt tid.tx (attempts_of past tid.tx)) × (attempts_of past tid.tx < most_attempts)
FitsPrograms programs past (Ev.Act tid act) = IsSome (programs tid.tx)
FitsPrograms programs past (Ev.Commit tid) = IsSome (programs tid.tx)
FitsPrograms programs past (Ev.Abort tid) = IsSome (programs tid.tx)
FitsPrograms programs past (Ev.Fate tx) = IsSome (programs tx)
FitsPrograms programs past (Ev.Give message) = programs (about message).tx ≡ None
FitsPrograms programs past event = Unit {0}

-- each line's event fits the programs and the lines before it
abbrev pub IsOwned : OwnPrograms → SitePast → Type 0
IsOwned programs [] = Unit {0}
IsOwned programs (x ∷ past) = FitsPrograms programs past x.event × IsOwned programs past

-- the program that stands at the number of a transaction in this list
abbrev pub program_in : List (Option (List Step)) → Tx → Option (List Step)
program_in kept tx = or_else (slice_get kept tx.0) None

-- the list has exactly these programs, of transactions in their range, and the past is that of their site
pub record Owns (kept : List (Option (List Step))) (programs : OwnPrograms) (past : SitePast) : Type 0 where
  pub held : (tx : Tx) → program_in kept tx ≡ programs tx
  pub named : (tx : Tx) → IsSome (programs tx) → (1 ≤ tx.0) × (tx.0 ≤ 1024)
  pub owned : IsOwned programs past

-- the core has this past in memory
pub record Recalls {E : Type 0} (stands : E → Start → List EngineLine → Type 0) (dbms : LocalDbms E) (home : Home) (programs : OwnPrograms) (past : SitePast) : Type 0 where
  pub core : Holds stands dbms.core home past
  pub owns : Owns dbms.programs.items programs past

-- and on this disk
pub record Stands {E : Type 0} (stands : E → Start → List EngineLine → Type 0) (tells : Bool) (dbms : LocalDbms E) (disk : Seen) (home : Home) (programs : OwnPrograms) (past : SitePast) : Type 0 where
  pub core : CoreStands stands tells dbms.core disk home past
  pub owns : Owns dbms.programs.items programs past

-- for some home, programs and past that it stands for the fact holds
pub record Some_site (K : Home → OwnPrograms → SitePast → Type 0) (P : Home → OwnPrograms → SitePast → Type 0) : Type 0 where
  pub home : Home
  pub programs : OwnPrograms
  pub past : SitePast
  pub stood : K home programs past
  pub holds : P home programs past

-- and for every one
abbrev pub Each_site : (Home → OwnPrograms → SitePast → Type 0) → (Home → OwnPrograms → SitePast → Type 0) → Type 0
Each_site K P = (home : Home) (programs : OwnPrograms) (past : SitePast) → K home programs past → P home programs past

-- there are few enough lines that the numbers of one more fit
abbrev pub IsShort : Home → OwnPrograms → SitePast → Type 0
IsShort home programs past = length past < 2 ^ 30

-- the answer to a request, and what it leaves
pub record Serves (K : Home → OwnPrograms → SitePast → Type 0) (answer : Answer) (home : Home) (programs : OwnPrograms) (past : SitePast) (r : Request SiteEvent) : Type 0 where
  pub said : answer ≡ answer_to home past r
  pub next : K home programs (past_behind home past r)

-- what a request sends
abbrev pub sends_of : Home → SitePast → Request SiteEvent → List FromSite
sends_of home past (Submits event) = (site_line home past event).sends
sends_of home past (Declines answer) = []

-- the answer to a request with what is sent, and what it leaves
pub record Tells (K : Home → OwnPrograms → SitePast → Type 0) (step : SiteStep) (home : Home) (programs : OwnPrograms) (past : SitePast) (r : Request SiteEvent) : Type 0 where
  pub said : step.answer ≡ answer_to home past r
  pub sent : option_to_list step.sends ≡ sends_of home past r
  pub next : K home programs (past_behind home past r)

-- a request that isn't answered: want of memory changes nothing, and behind a failed disk call, which no declined one makes, the site is
-- down, as a stop within the event leaves it
abbrev pub Fails : (Home → OwnPrograms → SitePast → Type 0) → StepErr → Home → OwnPrograms → SitePast → Request SiteEvent → Type 0
Fails K Err_is.Memory home programs past r = K home programs past
Fails K Err_is.Disk home programs past (Submits event) =
    (at : StopAt) × K home programs (stopped_past home past event at) × (is_down (stopped_past home past event at) ≡ true)
Fails K Err_is.Disk home programs past (Declines answer) = ⊥

-- the event may come to the core, and fits the programs
abbrev pub CanSubmit : SiteEvent → Home → OwnPrograms → SitePast → Type 0
CanSubmit event home programs past = CanStep event home past × FitsPrograms programs past event

-- a message that may be given: it is about an attempt in its range, of no transaction of the site's own
pub record CanGive (message : ToSite) (home : Home) (programs : OwnPrograms) (past : SitePast) : Type 0 where
  pub short : length past < 2 ^ 30
  pub foreign : programs (about message).tx ≡ None
  pub in_range : IsTid (about message)

-- the program of a transaction by one further line, which counts before what stands in this list
abbrev pub noted : SiteId → TxLine → List (Option (List Step)) → OwnPrograms
noted site line kept tx = cond (same_tx line.tx tx) (program_at site (Some line)) (program_in kept tx)

-- at the number of each of the site's own transactions by these lines stands its program, and at any other number nothing
abbrev pub AreOwn : SiteId → List TxLine → List (Option (List Step)) → Type 0
AreOwn site lines kept = (tx : Tx) → program_in kept tx ≡ own_programs site lines tx

-- the transaction of the line is in its range
abbrev pub IsNamed : TxLine → Type 0
IsNamed line = (1 ≤ line.tx.0) × (line.tx.0 ≤ 1024)

-- the home of a site's line with these first rows
abbrev pub home_from : SiteLine → List Put → Home
home_from line items = record { site = line.site; engine = line.engine; protocol = line.protocol; items = items }
