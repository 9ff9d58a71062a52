use Rattle.std.proofs.Common.{ap, ◌∙◌}
use Rattle.std.specs.Prelude.{reverse}
use Rattle.order_laws.specs.SortedLists.{also}
use Rattle.journal_sums.proofs.ReadingLaws.{sum_is}
use Rattle.journal_sums.proofs.reading.Reading.into_sum.Goals as goal

pub returns : goal.returns
returns c sum newer says =
    let reading = c.args.self in
    sum_is reading sum newer c.in_ok-rows.rows c.in_ok-locals.locals c.in_ok-doubtful.doubtful says c.in_ok-rows.ensures.rising c.in_ok-rows.ensures.rows
    (c.in_ok-locals.ensures ∙ ap (λ first. also first (reverse reading.locals.items)) c.as_slice.ensures) c.in_ok-doubtful.ensures.ordered
    c.in_ok-doubtful.ensures.values
