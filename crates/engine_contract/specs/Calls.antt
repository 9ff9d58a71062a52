-- When each call may come on a list of engine lines, and what it answers beside the line that it adds.
use Rattle.std.specs.Prelude.{ℕ, ◌≡◌, ◌+◌, ◌^◌, ◌<◌, Option, Some, None, List, [], ◌∷◌}
use Rattle.mdb_base.specs.declared.names.Engine.{Engine}
use Rattle.mdb_base.specs.declared.names.Tid.{Tid}
use Rattle.mdb_base.specs.declared.rows.Put.{Put}
use Rattle.fed_rules.specs.declared.runs.Kept.{Kept}
use Rattle.fed_rules.specs.declared.runs.Sealed.{Sealed}
use Rattle.fed_rules.specs.Runs.{Start, EngineLine, Begins, Seals, Refuses, Run, run_at, counter, published, puts_of}
use Rattle.fed_rules.specs.Replies.{Drawn, AtBegin, AtSealing, rule, seal_stop}
use Rattle.fed_rules.specs.EngineLines.{IsFree, IsLive, IsTicketless, IsSealed}
use Rattle.engine_contract.specs.declared.seal_err.SealErr.{SealErr}
use Rattle.engine_contract.specs.declared.seal_err.SealErr.TheVariants as Err_is
use Rattle.engine_contract.specs.Past.{AddsLine, KeepsPast, EachPast}

-- the attempt has no unended run, and the next number fits
pub record CanBegin (tid : Tid) (start : Start) (lines : List EngineLine) : Type 0 where
  pub free : IsFree start lines tid
  pub fits : counter start lines + 1 < 2 ^ 64

-- the attempt has a live run
pub record CanAct (tid : Tid) (start : Start) (lines : List EngineLine) : Type 0 where
  pub run : Run
  pub live : IsLive start lines tid run

-- the attempt has a live run without a ticket, and the next ticket fits
pub record CanTake (tid : Tid) (start : Start) (lines : List EngineLine) : Type 0 where
  pub run : Run
  pub ticketless : IsTicketless start lines tid run
  pub fits : published start lines + 1 < 2 ^ 64

-- where a sealing draws a number, the next one fits
abbrev pub NumberFits : Drawn → Start → List EngineLine → Type 0
NumberFits AtBegin start lines = Unit {0}
NumberFits AtSealing start lines = counter start lines + 1 < 2 ^ 64

-- the attempt has a live run, and its serial number fits
pub record CanSeal (tid : Tid) (start : Start) (lines : List EngineLine) : Type 0 where
  pub run : Run
  pub live : IsLive start lines tid run
  pub fits : NumberFits (rule start.kind).drawn start lines

-- the attempt has a sealed run
pub record CanCommit (tid : Tid) (start : Start) (lines : List EngineLine) : Type 0 where
  pub run : Run
  pub number : ℕ
  pub sealed : IsSealed start lines tid run number

-- the attempt has an unended run
pub record CanAbort (tid : Tid) (start : Start) (lines : List EngineLine) : Type 0 where
  pub run : Run
  pub unended : run_at start lines tid ≡ Some run

-- the newest line is the begin of the attempt
pub record HasJustBegun (tid : Tid) (start : Start) (lines : List EngineLine) : Type 0 where
  pub number : ℕ
  pub older : List EngineLine
  pub newest : lines ≡ Begins tid number ∷ older

-- the newest line is the sealing of the attempt
pub record HasJustSealed (tid : Tid) (start : Start) (lines : List EngineLine) : Type 0 where
  pub number : ℕ
  pub older : List EngineLine
  pub newest : lines ≡ Seals tid number ∷ older

-- a sealing hands out the run's ticket, and the last write of each key
pub record HandsOut (run : Run) (sealed : Sealed) : Type 0 where
  pub ticket : sealed.ticket ≡ run.ticket
  pub writes : sealed.writes ≡ puts_of run.acts

-- what is sealed is the attempt's run
abbrev pub SealsRun : Tid → Sealed → Start → List EngineLine → Type 0
SealsRun tid sealed start lines = (run : Run) → run_at start lines tid ≡ Some run → HandsOut run sealed

-- a sealing without success: the refusal is a line, and want of memory changes nothing
abbrev pub FailsToSeal : {A : Type 0} → (A → Start → List EngineLine → Type 0) → A → Tid → SealErr → A → Type 0
FailsToSeal stands old tid (Err_is.Refused why) new = AddsLine stands old (Refuses tid why) new
FailsToSeal stands old tid Err_is.Memory new = KeepsPast stands old new

-- the rule doesn't refuse the sealing of the attempt's run
abbrev pub PassesRule : Tid → Start → List EngineLine → Type 0
PassesRule tid start lines = (run : Run) → run_at start lines tid ≡ Some run → seal_stop start.kind start lines run ≡ None

-- want of memory hides no refusal: the rule lets the run pass
abbrev pub HidesNone : {A : Type 0} → (A → Start → List EngineLine → Type 0) → A → Tid → SealErr → Type 0
HidesNone stands old tid (Err_is.Refused why) = Unit {0}
HidesNone stands old tid Err_is.Memory = EachPast stands old (PassesRule tid)

-- what an epoch starts from
abbrev pub start_from : Engine → List Put → List Kept → (counter published : ℕ) → Option Tid → Start
start_from kind rows doubtful counter published owner =
    record { kind = kind; rows = rows; doubtful = doubtful; counter = counter; published = published; owner = owner }

-- what a new site starts from: its first rows, and nothing else
abbrev pub fresh_start : Engine → List Put → Start
fresh_start kind rows = start_from kind rows [] 0 0 None
