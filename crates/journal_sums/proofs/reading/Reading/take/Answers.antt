use Rattle.std.proofs.Common.{◌∷◌, sym, subst}
use Rattle.std.proofs.lemmas.Result.{on_ok_weaker}
use Rattle.journal_sums.specs.Readings.{TellsCounters}
use Rattle.journal_sums.proofs.ReadingLaws.{adds_journal, holds_beside}
use Rattle.journal_sums.proofs.reading.Reading.take.Goals as goal

pub returns-in_default : goal.returns-in_default
returns-in_default c =
    let old = c.args.self.now in
    let entry = c.args.entry.now in
    on_ok_weaker c.hold.result
    (λ holds. adds_journal old c.hold.new.self entry
    (λ sum newer says. record {
      counters = subst (λ counters. TellsCounters counters sum (entry ∷ newer)) (sym c.hold.ensures.counters) (c.after-self.ensures sum newer says.counters);
      holds = holds sum newer (holds_beside old c.after-self.result sum newer says.holds);
    }) c.in_default.not-Checkpoint) c.hold.ensures.held
