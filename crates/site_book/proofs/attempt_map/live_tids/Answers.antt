use Rattle.site_book.proofs.Listed.{lists_live}
use Rattle.site_book.proofs.attempt_map.live_tids.Goals as goal

pub returns : goal.returns
returns c =
    lists_live c.args.attempts.now.entries c.in_ok-tids.tids.items _ c.in_ok-tids.ensures.tids c.in_ok-tids.ensures.apart c.sort_unstable.ensures.permutation c.sort_unstable.ensures.sorted
