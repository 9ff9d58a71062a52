use Rattle.std.proofs.Common.{◌≡◌, drop}
use Rattle.session_report.specs.Told.{told_on, untold}
use Rattle.session_report.proofs.telling.Telling.of.Given as goal

abbrev pub invariant-loop-line : goal.invariant-loop-line
invariant-loop-line l = told_on l.channels (drop l.line-index l.lines) l.telling ≡ told_on l.channels l.lines untold
