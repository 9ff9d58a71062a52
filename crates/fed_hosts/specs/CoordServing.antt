-- How the calls of the coordinator's host end.
use Rattle.std.specs.Prelude.{◌≡◌, ◌<◌, ◌≤◌, Bool, false, Some, List, ◌⊎◌}
use Rattle.mdb_base.specs.declared.acts.Step.{Step}
use Rattle.mdb_base.specs.declared.names.Tx.{Tx}
use Rattle.fed_rules.specs.declared.answers.Answer.TheVariants as Say
use Rattle.fed_rules.specs.declared.events.CoordEvent.{CoordEvent}
use Rattle.fed_rules.specs.declared.events.CoordEvent.TheVariants as Ev
use Rattle.fed_rules.specs.CoordPast.{CoordPast, attempts_of}
use Rattle.fed_rules.specs.Policies.{Policy}
use Rattle.fed_rules.specs.Requests.{Request, attempt, unless_begun}
use Rattle.fed_rules.specs.SitePast.{begins_tx}
use Rattle.journal_disk.specs.Disk.{Seen}
use Rattle.actor_store.specs.declared.errors.StepErr.{StepErr}
use Rattle.coord_tables.specs.Terms.{Terms, line_of}
use Rattle.global_manager.specs.declared.asks.CoordAsk.{CoordAsk}
use Rattle.global_manager.specs.declared.asks.CoordAsk.TheVariants as Coord
use Rattle.global_manager.specs.Asks.{coord_request}
use Rattle.global_manager.specs.Stands.{OwnPrograms}
use Rattle.scripted_link.specs.Rings.{Wire}
use Rattle.fed_hosts.specs.declared.coord_actor.CoordActor.{CoordActor}
use Rattle.fed_hosts.specs.declared.coord_asks.CoordCall.{CoordCall}
use Rattle.fed_hosts.specs.declared.coord_asks.CoordCall.TheVariants as Call
use Rattle.fed_hosts.specs.declared.rounds.Arrived.{Arrived}
use Rattle.fed_hosts.specs.CoordKeeps.{CoordKeeps, CoordKeepsFor}
use Rattle.host_laws.specs.CoordPlans.{CoordPlan}
use Rattle.fed_hosts.specs.declared.ports.Port.{Port}
use Rattle.fed_hosts.specs.Keeps.{most_begun}
use Rattle.fed_hosts.specs.Rounds.{ArePolled}
use Rattle.fed_hosts.specs.Serving.{has_failed}

-- what it asks of the coordinator
abbrev pub ask_of_call : CoordCall → CoordAsk
ask_of_call (Call.Go tx) = Coord.Go tx
ask_of_call (Call.Fate tx) = Coord.Fate tx
ask_of_call (Call.Again tid) = Coord.Again tid
ask_of_call (Call.Late tid) = Coord.Late tid

-- and what the rules call that
abbrev pub request_of_call : Terms → OwnPrograms → CoordPast → CoordCall → Request CoordEvent
request_of_call terms programs past call = coord_request (ask_of_call call) terms programs past

-- an attempt may begin: fewer were begun than a host begins, or nothing would begin
abbrev pub MayGo : Terms → CoordPast → Tx → Type 0
MayGo terms past tx = (attempts_of past tx < most_begun)
    ⊎ ((other : Tx) (steps : List Step) → begins_tx other (line_of terms past (Ev.Go (attempt tx (attempts_of past tx)) steps)).answer ≡ false)

-- so it is with a call that is a `go`
abbrev pub MayCall : Terms → CoordPast → CoordCall → Type 0
MayCall terms past (Call.Go tx) = MayGo terms past tx
MayCall terms past call = Unit {0}

-- a `go` would begin a further attempt, of a transaction of which as many were begun as a host begins
pub record IsLastAttempt (terms : Terms) (past : CoordPast) (tx : Tx) : Type 0 where
  pub most : most_begun ≤ attempts_of past tx
  pub further : (steps : List Step) → unless_begun (line_of terms past (Ev.Go (attempt tx (attempts_of past tx)) steps)).answer ≡ Say.Spent

-- the call is such a `go`
abbrev pub IsLastGo : Terms → CoordPast → CoordCall → Type 0
IsLastGo terms past (Call.Go tx) = IsLastAttempt terms past tx
IsLastGo terms past call = ⊥

-- an error: the host has failed where a disk call did
abbrev pub HasCoordFailed : {P D : Type 0} → (P → Policy) → Bool → (D → Seen) → CoordPlan → List Wire → CoordActor P D → StepErr → Type 0
HasCoordFailed test tells seen plan rings new why = CoordKeeps test tells seen plan rings (has_failed why) new

-- where a packet came in last, for which the host has not answered yet
pub record HoldsFrom {P D : Type 0} (test : P → Policy) (tells : Bool) (seen : D → Seen) (plan : CoordPlan) (rings : List Wire) (arrived : Arrived) (actor : CoordActor P D) : Type 0 where
  pub before : List Port
  pub polled : ArePolled (Some arrived) before actor.ports.items
  pub keeps : CoordKeepsFor test tells seen plan rings false before actor
