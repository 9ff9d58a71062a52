-- Closing a session that began with empty disks, for callers that tell it by its scenario.
use Rattle.std.proofs.Common.{List, arith}
use Rattle.fed_rules.specs.declared.commands.Command.{Command}
use Rattle.fed_rules.specs.declared.scenario.Scenario.{Scenario}
use Rattle.fed_rules.specs.Sessions.{fresh}
use Rattle.closing.specs.FreshTowards as Fresh
use Rattle.closing.specs.Steps.{CanClose}

-- it begins with no lines
pub fresh_can_close : (scenario : Scenario) (commands : List Command) → Fresh.CanClose scenario commands → CanClose (fresh scenario) commands
fresh_can_close scenario commands few = omega (arith, few)
