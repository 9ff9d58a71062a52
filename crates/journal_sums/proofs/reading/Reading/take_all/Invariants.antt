use Rattle.std.proofs.Common.{List, ◌++◌, take}
use Rattle.std.specs.Prelude.{reverse}
use Rattle.fed_rules.specs.declared.records.SiteRecord.{SiteRecord}
use Rattle.fed_rules.specs.SiteRecords.{Home}
use Rattle.journal_sums.specs.Readings.{SaysJournal}
use Rattle.journal_sums.proofs.reading.Reading.take_all.Given as goal

abbrev pub invariant-loop-entry : goal.invariant-loop-entry
invariant-loop-entry l =
    (home : Home) (journal : List SiteRecord) → SaysJournal l.fn.self home journal → SaysJournal l.self home (reverse (take l.entry-index l.entries) ++ journal)
