use Rattle.std.proofs.Common.{◌≡◌, ◌++◌, take, drop}
use Rattle.mdb_base.specs.Words.{map_some}
use Rattle.trace_lines.specs.Reading as reading
use Rattle.trace_lines.proofs.marks.cut_at.Given as goal

-- the words so far stand before what a cut of the others gives
abbrev pub invariant-loop-place : goal.invariant-loop-place
invariant-loop-place l =
    map_some (λ parts. (take l.place l.words ++ parts.0, parts.1)) (reading.cut_at l.mark (drop l.place l.words)) ≡ reading.cut_at l.mark l.words
