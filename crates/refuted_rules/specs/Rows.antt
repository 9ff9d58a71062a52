-- Ways to keep rows that look right and aren't.
use Rattle.std.specs.Prelude.{◌≡◌, List, [], ◌∷◌}
use Rattle.mdb_base.specs.declared.names.Key.{Key}
use Rattle.mdb_base.specs.declared.rows.Put.{Put}
use Rattle.mdb_base.specs.Rising.{IsRising}
use Rattle.mdb_base.specs.Rows.{look_up}
use Rattle.fed_rules.specs.Runs.{Access, Got, Wrote, EngineLine, Start, table}

-- kept so, the rows behind some lines don't give the table
pub record MissesTheTable (rows : Start → List EngineLine → List Put) : Type 0 where
  pub start : Start
  pub lines : List EngineLine
  pub key : Key
  pub broken : look_up (rows start lines) key ≡ table start lines key → ⊥

-- the rows stay as the epoch began
abbrev pub rows_of_the_start : Start → List EngineLine → List Put
rows_of_the_start start lines = start.rows

-- written down so, the writes of some accesses don't rise by their keys
pub record DoesNotRise (puts : List Access → List Put) : Type 0 where
  pub acts : List Access
  pub broken : IsRising (λ put. put.key.0) (puts acts) → ⊥

-- the writes as they were made, the last one first
abbrev pub puts_as_made : List Access → List Put
puts_as_made [] = []
puts_as_made (Got key value ∷ acts) = puts_as_made acts
puts_as_made (Wrote key value ∷ acts) = record { key = key; value = value } ∷ puts_as_made acts
