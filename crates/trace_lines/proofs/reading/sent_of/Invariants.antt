use Rattle.std.proofs.Common.{◌≡◌, ◌++◌, drop}
use Rattle.mdb_base.specs.Words.{map_some}
use Rattle.trace_lines.specs.Reading.{sent_of}
use Rattle.trace_lines.proofs.reading.sent_of.Given as goal

-- the places so far stand before those of the words that are left
abbrev pub invariant-loop-word : goal.invariant-loop-word
invariant-loop-word l = map_some (λ more. l.places.items ++ more) (sent_of (drop l.word-index l.words)) ≡ sent_of l.words
