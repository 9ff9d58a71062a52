use Rattle.std.proofs.Common.{◌≡◌, ◌++◌, map, take}
use Rattle.line_text.specs.declared.word.Word.TheVariants.{Joined}
use Rattle.line_text.specs.Spelling.{spaced}
use Rattle.line_text.proofs.answers.put_edges.Given as goal

-- the edges so far stand at the end
abbrev pub invariant-loop-edge : goal.invariant-loop-edge
invariant-loop-edge l = l.out.items ≡ l.fn.out.items ++ spaced (map Joined (take l.edge-index l.edges))
