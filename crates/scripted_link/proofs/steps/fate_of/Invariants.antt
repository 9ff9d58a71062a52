use Rattle.std.proofs.Common.{◌≡◌, drop}
use Rattle.scripted_link.specs.Script.{fate_at}
use Rattle.scripted_link.proofs.steps.fate_of.Given as goal

-- what is left of the script decides
abbrev pub invariant-loop-named : goal.invariant-loop-named
invariant-loop-named l = fate_at l.script l.place ≡ fate_at (drop l.named-index l.script) l.place
