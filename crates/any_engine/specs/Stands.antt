-- What an engine of any rule stands for: what the engine that it is stands for.
use Rattle.std.specs.Prelude.{◌≡◌, List}
use Rattle.mdb_base.specs.declared.names.Engine.{Engine}
use Rattle.mdb_base.specs.declared.names.Engine.TheVariants as Kind
use Rattle.fed_rules.specs.Runs.{Start, EngineLine}
use Rattle.fed_rules.specs.EngineLines.{IsStart, IsRight}
use Rattle.locking_engine.specs.Stands.{Stands as LockingStands}
use Rattle.timestamp_engine.specs.Stands.{Stands as TimestampStands}
use Rattle.validation_engine.specs.Stands.{Stands as ValidationStands}
use Rattle.multiversion_engine.specs.Stands.{Stands as MultiversionStands}
use Rattle.any_engine.specs.declared.engine.AnyEngine.{AnyEngine}
use Rattle.any_engine.specs.declared.engine.AnyEngine.TheVariants.{Locking, Timestamp, Validation, Multiversion}

-- its rule
abbrev pub kind_of : AnyEngine → Engine
kind_of (Locking engine) = Kind.Locking
kind_of (Timestamp engine) = Kind.Timestamp
kind_of (Validation engine) = Kind.Validation
kind_of (Multiversion engine) = Kind.Multiversion

-- the starts and the lists of engine lines that it stands for
abbrev pub Stands : AnyEngine → Start → List EngineLine → Type 0
Stands (Locking engine) start lines = LockingStands engine start lines
Stands (Timestamp engine) start lines = TimestampStands engine start lines
Stands (Validation engine) start lines = ValidationStands engine start lines
Stands (Multiversion engine) start lines = MultiversionStands engine start lines

-- each start is of its kind
pub stood_kind : (engine : AnyEngine) (start : Start) (lines : List EngineLine) → Stands engine start lines → start.kind ≡ kind_of engine
stood_kind (Locking engine) start lines stood = stood.keeps.keeps.of_kind
stood_kind (Timestamp engine) start lines stood = stood.keeps.keeps.of_kind
stood_kind (Validation engine) start lines stood = stood.keeps.keeps.of_kind
stood_kind (Multiversion engine) start lines stood = stood.keeps.keeps.of_kind

-- and one that an epoch may start from
pub stood_start : (engine : AnyEngine) (start : Start) (lines : List EngineLine) → Stands engine start lines → IsStart start
stood_start (Locking engine) start lines stood = stood.keeps.keeps.starts
stood_start (Timestamp engine) start lines stood = stood.keeps.keeps.starts
stood_start (Validation engine) start lines stood = stood.keeps.keeps.starts
stood_start (Multiversion engine) start lines stood = stood.keeps.keeps.starts

-- each answer is the rule's
pub stood_right : (engine : AnyEngine) (start : Start) (lines : List EngineLine) → Stands engine start lines → IsRight start lines
stood_right (Locking engine) start lines stood = stood.keeps.keeps.right
stood_right (Timestamp engine) start lines stood = stood.keeps.keeps.right
stood_right (Validation engine) start lines stood = stood.keeps.keeps.right
stood_right (Multiversion engine) start lines stood = stood.keeps.keeps.right
