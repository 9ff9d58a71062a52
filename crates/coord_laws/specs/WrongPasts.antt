-- Why each `go` has to be of the next attempt: where it may repeat one, an attempt begins twice.
use Rattle.std.specs.Prelude.{List}
use Rattle.presumptions.specs.declared.Participant.{Participant}
use Rattle.fed_rules.specs.declared.events.CoordEvent.{CoordEvent}
use Rattle.fed_rules.specs.Coord.{coord_past}
use Rattle.fed_rules.specs.Policies.{Policy}
use Rattle.coord_laws.specs.Laws.{BeginOnce}

-- these events, whatever attempts they are of, make a past in which an attempt begins twice
pub record BeginsTwice : Type 0 where
  pub protocols : List Participant
  pub policy : Policy
  pub events : List CoordEvent  -- the last one first
  pub twice : BeginOnce protocols (coord_past protocols policy events) → ⊥
