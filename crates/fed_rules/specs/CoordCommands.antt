-- What the coordinator makes of the commands of its global transactions: from the protocols, the policy, the transaction's program and its past alone.
use Rattle.std.specs.Prelude.{ℕ, nat_le, Option, List}
use Rattle.mdb_base.specs.declared.acts.Step.{Step}
use Rattle.mdb_base.specs.declared.names.Tid.{Tid}
use Rattle.mdb_base.specs.declared.names.Tx.{Tx}
use Rattle.mdb_base.specs.Names.{same_tid}
use Rattle.mdb_base.specs.Words.{when, given, some_of}
use Rattle.presumptions.specs.declared.Participant.{Participant}
use Rattle.fed_rules.specs.declared.answers.Answer.TheVariants as Say
use Rattle.fed_rules.specs.declared.events.CoordEvent.{CoordEvent}
use Rattle.fed_rules.specs.declared.events.CoordEvent.TheVariants as Ev
use Rattle.fed_rules.specs.Coord.{coord_line}
use Rattle.fed_rules.specs.CoordPast.{CoordPast, attempts_of, begun_tids}
use Rattle.fed_rules.specs.Policies.{Policy}
use Rattle.fed_rules.specs.Requests.{Request, Submits, Declines, most_attempts, unless_begun, attempt}

unfoldable pub go_next : List Participant → Policy → CoordPast → Tx → List Step → ℕ → Request CoordEvent
go_next protocols policy past tx steps n =
    let event = Ev.Go (attempt tx n) steps in
    when (nat_le most_attempts n) (Declines (unless_begun (coord_line protocols policy past event).answer)) (Submits event)

-- `go`: the next attempt of a global transaction, where this is its program
unfoldable pub go_request : List Participant → Policy → Option (List Step) → CoordPast → Tx → Request CoordEvent
go_request protocols policy program past tx =
    given program (λ steps. go_next protocols policy past tx steps (attempts_of past tx)) (Declines Say.None)

-- `fate` of a global transaction
unfoldable pub fate_request : Option (List Step) → Tx → Request CoordEvent
fate_request program tx = given program (λ steps. Submits (Ev.Fate tx)) (Declines Say.None)

-- `again` and `late`: an event about an attempt that was begun
unfoldable pub attempt_request : CoordPast → Tid → CoordEvent → Request CoordEvent
attempt_request past tid event = when (some_of (same_tid tid) (begun_tids past)) (Submits event) (Declines Say.None)
