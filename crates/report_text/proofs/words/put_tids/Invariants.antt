use Rattle.std.proofs.Common.{◌≡◌, ◌++◌, map, take}
use Rattle.mdb_base.specs.Texts.{tid_text}
use Rattle.report_text.specs.Spelling.{spaced}
use Rattle.report_text.proofs.words.put_tids.Given as goal

-- what was written so far stands at the end
abbrev pub invariant-loop-tid : goal.invariant-loop-tid
invariant-loop-tid l = l.out.items ≡ l.fn.out.items ++ spaced (map tid_text (take l.tid-index l.tids))
