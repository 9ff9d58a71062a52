-- A world that stands for a session that began with empty disks stands for a session. For callers.
use Rattle.std.proofs.Common.{List}
use Rattle.fed_rules.specs.declared.commands.Command.{Command}
use Rattle.fed_rules.specs.declared.scenario.Scenario.{Scenario}
use Rattle.fed_rules.specs.Sessions.{Session, fresh}
use Rattle.fed_world.specs.Worlds.{SomeStory}

pub some_session : (K P : Session → List Command → Type 0) → SomeStory (λ (scenario : Scenario). K (fresh scenario)) (λ (scenario : Scenario). P (fresh scenario)) → SomeStory K P
some_session K P s = record { session = fresh s.session; commands = s.commands; stood = s.stood; holds = s.holds }
