use Rattle.std.proofs.Common.{◌≡◌, map, take}
use Rattle.frame_journal.specs.Journal.{records}
use Rattle.found_disks.proofs.finding.records_of.Given as goal

abbrev pub invariant-loop-journal : goal.invariant-loop-journal
invariant-loop-journal l = map (λ s. s.now) l.all.items ≡ map records (take l.journal-index l.journals)
