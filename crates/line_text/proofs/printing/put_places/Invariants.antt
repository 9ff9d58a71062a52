use Rattle.std.proofs.Common.{◌≡◌, ◌++◌, map, take}
use Rattle.line_text.specs.Spelling.{place_word, spaced}
use Rattle.line_text.proofs.printing.put_places.Given as goal

-- the places so far stand at the end
abbrev pub invariant-loop-sent : goal.invariant-loop-sent
invariant-loop-sent l = l.out.items ≡ l.fn.out.items ++ spaced (map (place_word l.command) (take l.sent-index l.places))
