use Rattle.std.proofs.Common.{◌≡◌, ◌++◌, drop}
use Rattle.mdb_base.specs.Words.{map_some}
use Rattle.trace_lines.specs.Reading.{edges_of}
use Rattle.trace_lines.proofs.answers.edges_of.Given as goal

-- the edges so far stand before those of the words that are left
abbrev pub invariant-loop-word : goal.invariant-loop-word
invariant-loop-word l = map_some (λ more. l.edges.items ++ more) (edges_of (drop l.word-index l.words)) ≡ edges_of l.words
