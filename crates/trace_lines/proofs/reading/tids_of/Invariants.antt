use Rattle.std.proofs.Common.{◌≡◌, ◌++◌, drop}
use Rattle.mdb_base.specs.Words.{map_some}
use Rattle.trace_lines.specs.Reading.{tids_of}
use Rattle.trace_lines.proofs.reading.tids_of.Given as goal

-- the attempts so far stand before those of the words that are left
abbrev pub invariant-loop-word : goal.invariant-loop-word
invariant-loop-word l = map_some (λ more. l.tids.items ++ more) (tids_of (drop l.word-index l.words)) ≡ tids_of l.words
