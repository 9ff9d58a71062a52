use Rattle.client_drivers.proofs.LocalSteps.{IsLocal}
use Rattle.client_drivers.proofs.local.drive_local.Given as goal

abbrev pub invariant-loop-made : goal.invariant-loop-made
invariant-loop-made g l = IsLocal g.S.SiteDoor.tells l.tries l.turns l.tx l.initial.door l.door l.call l.waits l.made
