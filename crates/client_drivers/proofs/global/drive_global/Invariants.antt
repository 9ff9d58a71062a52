use Rattle.client_drivers.proofs.GlobalSteps.{IsGlobal}
use Rattle.client_drivers.proofs.global.drive_global.Given as goal

abbrev pub invariant-loop-made : goal.invariant-loop-made
invariant-loop-made g l = IsGlobal g.C.CoordDoor.tells l.tries l.turns l.tx l.initial.door l.door l.call l.agains l.made
