use Rattle.std.proofs.Common.{◌≤◌, drop, length}
use Rattle.local_dbms.specs.Stands.{AreOwn}
use Rattle.local_dbms.proofs.programs.programs_of.Given as goal

abbrev pub invariant-loop-left : goal.invariant-loop-left
invariant-loop-left l = record { within : l.left ≤ length l.lines; held : AreOwn l.site (drop l.left l.lines) l.programs.items }

abbrev pub decreases-loop-left : goal.decreases-loop-left
decreases-loop-left l = l.left
