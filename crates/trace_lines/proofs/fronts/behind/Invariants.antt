use Rattle.std.proofs.Common.{◌≡◌, ◌++◌, take}
use Rattle.trace_lines.proofs.fronts.behind.Given as goal

-- the bytes so far stand before the rest
abbrev pub invariant-loop-byte : goal.invariant-loop-byte
invariant-loop-byte l = l.text ≡ take l.byte-index l.word ++ l.rest
