-- When a Checkpoint of the coordinator may stand for all records before it.
use Rattle.std.specs.Prelude.{◌≡◌, List, [], ◌∷◌}
use Rattle.presumptions.specs.declared.Participant.{Participant}
use Rattle.fed_rules.specs.declared.events.CoordEvent.{CoordEvent}
use Rattle.fed_rules.specs.declared.records.CoordRecord.{CoordRecord}
use Rattle.fed_rules.specs.declared.records.CoordRecord.TheVariants.{Checkpoint}
use Rattle.fed_rules.specs.Coord.{coord_past}
use Rattle.fed_rules.specs.CoordPast.{CoordPast, records}
use Rattle.fed_rules.specs.CoordSums.{coord_journal_sum, coord_sum}
use Rattle.fed_rules.specs.Policies.{Policy}

-- each Checkpoint of the coordinator is the Sum of what stands before it
abbrev pub AreCoordSums : List Participant → List CoordRecord → Type 0
AreCoordSums protocols [] = Unit {0}
AreCoordSums protocols (Checkpoint sum ∷ records) = (sum ≡ coord_sum protocols records) × AreCoordSums protocols records
AreCoordSums protocols (newest ∷ records) = AreCoordSums protocols records

-- the fact holds of every past of the coordinator that events make
abbrev pub OfCoordinators : (List Participant → CoordPast → Type 0) → Type 0
OfCoordinators P =
    (protocols : List Participant) (policy : Policy) (events : List CoordEvent) → P protocols (coord_past protocols policy events)

-- at the coordinator each Checkpoint is the Sum of what stands before it, so that its journal says what all its records say
abbrev pub CheckpointsAreCoordSums : List Participant → CoordPast → Type 0
CheckpointsAreCoordSums protocols past =
    AreCoordSums protocols (records past)
    × (coord_journal_sum protocols (records past) ≡ coord_sum protocols (records past))
