use Rattle.std.proofs.Common.{◌≡◌, ◌++◌, take}
use Rattle.std.specs.List.{flat_map}
use Rattle.report_text.specs.Spelling.{line_bytes, reads_words}
use Rattle.report_text.proofs.lines.put_all_reads.Given as goal

-- what was written so far stands at the end
abbrev pub invariant-loop-reads : goal.invariant-loop-reads
invariant-loop-reads l = l.out.items ≡ l.fn.out.items ++ flat_map (λ reads. line_bytes (reads_words reads)) (take l.reads-index l.all)
