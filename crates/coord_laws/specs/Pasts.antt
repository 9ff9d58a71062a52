-- The pasts that events make of a coordinator, where each `go` is of the next attempt of its transaction.
use Rattle.std.specs.Prelude.{◌≡◌, ◌⊎◌, Some, List, [], ◌∷◌, map}
use Rattle.mdb_base.specs.declared.names.Tid.{Tid}
use Rattle.mdb_base.specs.Words.{Each}
use Rattle.order_laws.specs.Tickets.{HasNoCycle, OneEach}
use Rattle.presumptions.specs.declared.Participant.{Participant}
use Rattle.fed_rules.specs.declared.events.CoordEvent.{CoordEvent}
use Rattle.fed_rules.specs.declared.events.CoordEvent.TheVariants.{Go}
use Rattle.fed_rules.specs.Coord.{coord_line}
use Rattle.fed_rules.specs.declared.records.CoordRecord.{CoordRecord}
use Rattle.fed_rules.specs.CoordPast.{CoordHappening, CoordPast, attempts_of, participants_of}
use Rattle.fed_rules.specs.CoordRecords.{commits, named}
use Rattle.fed_rules.specs.Found.{Journal}
use Rattle.fed_rules.specs.Policies.{Policy}
use Rattle.fed_rules.specs.Reopened.{coord_read, opened_coordinator, visit}
use Rattle.fed_rules.specs.Usable.{AreSumsOfOpen, CoordSumsFit, StandInOrder}

-- a `go` is of the next attempt of its transaction
abbrev pub IsNumbered : CoordPast → CoordEvent → Type 0
IsNumbered past (Go tid steps) = tid.attempt ≡ attempts_of past tid.tx
IsNumbered past event = Unit {0}

-- each line is the coordinator's next one, at an event that came behind the lines before it
abbrev pub IsMadeByEvents : List Participant → Policy → CoordPast → Type 0
IsMadeByEvents protocols policy [] = Unit {0}
IsMadeByEvents protocols policy (x ∷ past) =
    (event : CoordEvent) × (x ≡ coord_line protocols policy past event) × IsNumbered past event × IsMadeByEvents protocols policy past

-- who is named by the records is a list of declared participants, by rising site
abbrev pub NameDeclared : List Participant → List CoordRecord → Type 0
NameDeclared protocols records =
    (tid : Tid) (members : List Participant) → named protocols records tid ≡ Some members → members ≡ participants_of protocols (map visit members)

-- the past is the one that a journal stands for, which names declared participants, no attempt of which committed twice, whose tickets close no
-- cycle, in which the records of an attempt stand in order, and each Checkpoint behind other records is the Sum of them
pub record IsOpened (protocols : List Participant) (past : CoordPast) : Type 0 where
  pub journal : Journal CoordRecord
  pub is : past ≡ opened_coordinator protocols journal
  pub declared : NameDeclared protocols (coord_read journal)
  pub once : OneEach (commits (coord_read journal))
  pub cycle_free : HasNoCycle (commits (coord_read journal))
  pub order : StandInOrder (coord_read journal)
  pub sums : CoordSumsFit protocols journal.records
  pub sums_of_open : Each AreSumsOfOpen journal.records

-- the line is the coordinator's next one, at an event that came behind the lines before it
pub record IsNextLine (protocols : List Participant) (policy : Policy) (past : CoordPast) (x : CoordHappening) : Type 0 where
  pub event : CoordEvent
  pub is : x ≡ coord_line protocols policy past event
  pub numbered : IsNumbered past event

-- each line is the coordinator's next one, behind nothing or behind the past that a journal stands for
abbrev pub IsGoingOn : List Participant → Policy → CoordPast → Type 0
IsGoingOn protocols policy [] = Unit {0}
IsGoingOn protocols policy (x ∷ past) = IsOpened protocols (x ∷ past) ⊎ (IsNextLine protocols policy past x × IsGoingOn protocols policy past)

-- the fact holds of every such past, whatever the protocols and the policy
abbrev pub OfPasts : (List Participant → CoordPast → Type 0) → Type 0
OfPasts P = (protocols : List Participant) (policy : Policy) (past : CoordPast) → IsGoingOn protocols policy past → P protocols past

-- of every past that events make of nothing
abbrev pub OfFreshPasts : (List Participant → CoordPast → Type 0) → Type 0
OfFreshPasts P = (protocols : List Participant) (policy : Policy) (past : CoordPast) → IsMadeByEvents protocols policy past → P protocols past
