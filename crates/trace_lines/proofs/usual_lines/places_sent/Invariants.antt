use Rattle.std.proofs.Common.{◌≡◌, ◌++◌, IsTrue, length, map}
use Rattle.mdb_base.specs.Words.{each_of}
use Rattle.line_text.specs.Range.{is_place}
use Rattle.line_text.specs.Spelling.{place_word, spaced}
use Rattle.trace_lines.proofs.usual_lines.places_sent.Given as goal

-- the places so far stand before the rest
abbrev pub invariant-loop-sent : goal.invariant-loop-sent
invariant-loop-sent l = record {
  each : IsTrue (each_of is_place l.places.items);
  spelled : l.text ≡ spaced (map (place_word l.command) l.places.items) ++ l.rest;
}

abbrev pub decreases-loop-sent : goal.decreases-loop-sent
decreases-loop-sent l = length l.rest
