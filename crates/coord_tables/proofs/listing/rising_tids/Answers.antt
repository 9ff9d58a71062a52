use Rattle.std.proofs.Common.{ap, ◌∙◌}
use Rattle.fed_rules.specs.Closing.{rising}
use Rattle.coord_tables.proofs.Listings.{sorted_rising}
use Rattle.coord_tables.proofs.listing.rising_tids.Goals as goal

pub returns : goal.returns
returns c =
    sorted_rising c.in_ok-tids.tids.items c.sort_unstable.new.self.items c.sort_unstable.ensures.permutation c.sort_unstable.ensures.sorted
    ∙ ap rising c.in_ok-tids.ensures
