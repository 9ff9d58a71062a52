use Rattle.std.proofs.lemmas.Result.{on_ok_weaker}
use Rattle.std.proofs.Common.{sym, ◌∙◌}
use Rattle.journal_sums.proofs.ReadingLaws.{adds_commit}
use Rattle.journal_sums.proofs.reading.Reading.end.Goals as goal

pub returns-in-Some-clause-ended : goal.returns-in-Some-clause-ended
returns-in-Some-clause-ended c =
    let old = c.args.self.now in
    rw c.in-Commit.is
    (on_ok_weaker c.install.result
    (λ installed. adds_commit old c.install.new.versions c.settle-held.new.doubtful c.args.tid c.in-Some.held (sym c.settle-held.ensures.held ∙ c.in-Some.is) installed c.settle-held.ensures.gone)
    c.install.ensures.versions)
