use Rattle.std.proofs.Common.{◌≡◌, ◌++◌, map}
use Rattle.journal_sums.proofs.EntryLaws.{put_of}
use Rattle.journal_sums.proofs.versions.later_rows.Given as goal

abbrev pub invariant-loop-key : goal.invariant-loop-key
invariant-loop-key l = l.rows.items ++ map put_of l.key-iterator ≡ map put_of l.later.entries
