-- What a global transaction manager stands for: the terms of its coordinator, the programs of the global transactions, and its past, the newest line first.
use Rattle.std.specs.Prelude.{ℕ, ◌≡◌, ◌≤◌, ◌<◌, ◌⊎◌, [], ◌∷◌, Bool, true, IsSome, Option, Some, None, List}
use Rattle.std.specs.FinMap.{FinMap, from_entries, get, insert, remove}
use Rattle.mdb_base.specs.declared.acts.Step.{Step}
use Rattle.mdb_base.specs.declared.names.SiteId.{SiteId}
use Rattle.mdb_base.specs.declared.names.Tid.{Tid}
use Rattle.mdb_base.specs.declared.names.Tx.{Tx}
use Rattle.mdb_base.specs.Names.{same_tx, tx_cmp}
use Rattle.mdb_base.specs.Words.{Each, first_where, map_some}
use Rattle.presumptions.specs.declared.Participant.{Participant}
use Rattle.fed_rules.specs.declared.answers.Answer.{Answer}
use Rattle.fed_rules.specs.declared.events.CoordEvent.{CoordEvent}
use Rattle.fed_rules.specs.declared.events.CoordEvent.TheVariants as Ev
use Rattle.fed_rules.specs.declared.events.CoordStep.{CoordStep}
use Rattle.fed_rules.specs.declared.scenario.TxLine.{TxLine}
use Rattle.fed_rules.specs.CoordPast.{CoordPast, attempts_of}
use Rattle.fed_rules.specs.Happenings.{is_down, stops}
pub use Rattle.fed_rules.specs.OwnPrograms.{OwnPrograms}
use Rattle.fed_rules.specs.Policies.{Policy}
use Rattle.fed_rules.specs.Requests.{Request, Submits, Declines, most_attempts}
use Rattle.fed_rules.specs.Right.{MayPrint}
use Rattle.fed_rules.specs.Scenarios.{global_line}
use Rattle.coord_laws.specs.Pasts.{IsOpened}
use Rattle.journal_disk.specs.Disk.{Seen}
use Rattle.actor_store.specs.declared.errors.StepErr.{StepErr}
use Rattle.actor_store.specs.declared.errors.StepErr.TheVariants as Err_is
use Rattle.fed_rules.specs.Terms.{IsAmong}
use Rattle.coord_core.specs.Stands.{Holds, Stands as CoreStands, stopped_before, stopped_within, with_trip}
use Rattle.coord_core.specs.Steps.{CanStep}
use Rattle.coord_tables.specs.Terms.{Terms, line_of}
use Rattle.global_manager.specs.declared.manager.GlobalManager.{GlobalManager}

-- a `go` is of the next attempt of a global transaction, of at most 32, with its program
pub record IsNextAttempt (programs : OwnPrograms) (past : CoordPast) (tid : Tid) (steps : List Step) : Type 0 where
  pub own : programs tid.tx ≡ Some steps
  pub next : tid.attempt ≡ attempts_of past tid.tx
  pub few : attempts_of past tid.tx < most_attempts

abbrev pub FitsPrograms : OwnPrograms → CoordPast → CoordEvent → Type 0
FitsPrograms programs past (Ev.Go tid steps) = IsNextAttempt programs past tid steps
FitsPrograms programs past event = Unit {0}

-- each line's event fits the programs and the lines before it, behind nothing or behind the past that a journal stands for
abbrev pub IsOwned : List Participant → OwnPrograms → CoordPast → Type 0
IsOwned protocols programs [] = Unit {0}
IsOwned protocols programs (x ∷ past) = IsOpened protocols (x ∷ past) ⊎ (FitsPrograms programs past x.event × IsOwned protocols programs past)

-- each step's site is one of these
abbrev pub IsSited : List Participant → List Step → Type 0
IsSited protocols steps = Each (λ step. IsAmong step.site protocols) steps

-- the map holds exactly these programs, of transactions in their range, each with steps at the coordinator's sites, and the past is of them
pub record Owns (map : FinMap tx_cmp (List Step)) (terms : Terms) (programs : OwnPrograms) (past : CoordPast) : Type 0 where
  pub held : (tx : Tx) → get map tx ≡ programs tx
  pub named : (tx : Tx) → IsSome (programs tx) → (1 ≤ tx.0) × (tx.0 ≤ 1024)
  pub sited : (tx : Tx) (steps : List Step) → programs tx ≡ Some steps → IsSited terms.protocols steps
  pub owned : IsOwned terms.protocols programs past

-- the manager has this past in memory; the test is the one that contracts see of a policy
pub record Recalls {P : Type 0} (test : P → Policy) (manager : GlobalManager P) (terms : Terms) (programs : OwnPrograms) (past : CoordPast) : Type 0 where
  pub core : Holds test manager.core terms past
  pub owns : Owns (from_entries manager.programs.entries) terms programs past

-- and on this disk
pub record Stands {P : Type 0} (test : P → Policy) (tells : Bool) (manager : GlobalManager P) (seen : Seen) (terms : Terms) (programs : OwnPrograms) (past : CoordPast) : Type 0 where
  pub core : CoreStands test tells manager.core seen terms past
  pub owns : Owns (from_entries manager.programs.entries) terms programs past

-- for some terms, programs and past that it stands for the fact holds
pub record SomeManaged (K : Terms → OwnPrograms → CoordPast → Type 0) (P : Terms → OwnPrograms → CoordPast → Type 0) : Type 0 where
  pub terms : Terms
  pub programs : OwnPrograms
  pub past : CoordPast
  pub stood : K terms programs past
  pub holds : P terms programs past

-- and for all
abbrev pub EachManaged : (Terms → OwnPrograms → CoordPast → Type 0) → (Terms → OwnPrograms → CoordPast → Type 0) → Type 0
EachManaged K P = (terms : Terms) (programs : OwnPrograms) (past : CoordPast) → K terms programs past → P terms programs past

-- the answer to an event with what is sent, and what it leaves; of a refusal by a cycle another cycle may be named
pub record Sends (K : Terms → OwnPrograms → CoordPast → Type 0) (step : CoordStep) (terms : Terms) (programs : OwnPrograms) (past : CoordPast) (event : CoordEvent) : Type 0 where
  pub said : MayPrint terms.protocols past (line_of terms past event) (line_of terms past event).event step.answer
  pub sent : step.sends ≡ (line_of terms past event).sends
  pub next : K terms programs (line_of terms past event ∷ past)

-- an answer without an event sends nothing and changes nothing
pub record Keeps (K : Terms → OwnPrograms → CoordPast → Type 0) (step : CoordStep) (terms : Terms) (programs : OwnPrograms) (past : CoordPast) (answer : Answer) : Type 0 where
  pub said : step.answer ≡ answer
  pub sent : step.sends ≡ []
  pub next : K terms programs past

-- the step is what the request comes to
abbrev pub Serves : (Terms → OwnPrograms → CoordPast → Type 0) → CoordStep → Terms → OwnPrograms → CoordPast → Request CoordEvent → Type 0
Serves K step terms programs past (Submits event) = Sends K step terms programs past event
Serves K step terms programs past (Declines answer) = Keeps K step terms programs past answer

-- a failed disk call leaves the coordinator down, as a stop before the event does
pub record StopsBefore (K : Terms → OwnPrograms → CoordPast → Type 0) (terms : Terms) (programs : OwnPrograms) (past : CoordPast) : Type 0 where
  pub cut : ℕ
  pub stood : K terms programs (stopped_before terms past cut)
  pub down : is_down (stopped_before terms past cut) ≡ true

-- or as a stop right after some disk call of the event does
pub record StopsWithin (K : Terms → OwnPrograms → CoordPast → Type 0) (terms : Terms) (programs : OwnPrograms) (past : CoordPast) (event : CoordEvent) : Type 0 where
  pub calls : ℕ
  pub cut : ℕ
  pub stops : stops (line_of terms (with_trip terms past calls cut) event).answer ≡ true
  pub stood : K terms programs (stopped_within terms past event calls cut)
  pub down : is_down (stopped_within terms past event calls cut) ≡ true

-- a request that isn't answered: want of memory changes nothing, and a failed disk call, which no declined one makes, is as a stop
abbrev pub Fails : (Terms → OwnPrograms → CoordPast → Type 0) → StepErr → Terms → OwnPrograms → CoordPast → Request CoordEvent → Type 0
Fails K Err_is.Memory terms programs past r = K terms programs past
Fails K Err_is.Disk terms programs past (Submits event) = StopsBefore K terms programs past ⊎ StopsWithin K terms programs past event
Fails K Err_is.Disk terms programs past (Declines answer) = ⊥

-- the event may be submitted to the core, and fits the programs
abbrev pub CanSubmit : CoordEvent → Terms → OwnPrograms → CoordPast → Type 0
CanSubmit event terms programs past = CanStep event terms past × FitsPrograms programs past event

-- the program of a line, where its transaction is global
abbrev pub program_at : Option TxLine → Option (List Step)
program_at line = map_some (λ l. l.program) (global_line line)

-- the programs of the global transactions of these lines, of several of one number the first
abbrev pub own_programs : List TxLine → OwnPrograms
own_programs lines tx = program_at (first_where (λ line. same_tx line.tx tx) lines)

-- the programs with that of one further line, which counts before the others, where there is one
abbrev pub noted : Tx → Option (List Step) → FinMap tx_cmp (List Step) → FinMap tx_cmp (List Step)
noted tx None map = remove map tx
noted tx (Some steps) map = insert map tx steps

-- the steps of a transaction with no home are at these sites
abbrev pub IsSitedFrom : List Participant → Option SiteId → List Step → Type 0
IsSitedFrom protocols None steps = IsSited protocols steps
IsSitedFrom protocols (Some home) steps = Unit {0}

-- the transaction of the line is in its range, and the steps of a global one are at these sites
pub record IsDeclared (protocols : List Participant) (line : TxLine) : Type 0 where
  pub least : 1 ≤ line.tx.0
  pub greatest : line.tx.0 ≤ 1024
  pub sited : IsSitedFrom protocols line.home line.program
