use Rattle.std.proofs.Common.{◌++◌, sym, subst}
use Rattle.std.specs.Prelude.{reverse}
use Rattle.std.proofs.lemmas.List.{take_all}
use Rattle.journal_sums.specs.Readings.{SaysJournal}
use Rattle.journal_sums.proofs.ReadingLaws.{next_read}
use Rattle.journal_sums.proofs.reading.Reading.take_all.Goals as goal

pub loop-entry-preserved : goal.loop-entry-preserved
loop-entry-preserved c home journal says =
    subst (SaysJournal c.take.new.self home) (sym (next_read c.args.entries.now c.loop-entry.entry-index c.entry-item.result journal c.loop-entry-test.true c.entry-item.is))
    (c.in_ok-take.ensures home _ (c.loop-entry.invariant home journal says))

pub returns : goal.returns
returns c home journal says =
    subst (λ records. SaysJournal c.loop-entry.self home (reverse records ++ journal)) (take_all c.loop-entry.entry-index c.args.entries.now c.loop-entry-test.false)
    (c.loop-entry.invariant home journal says)
