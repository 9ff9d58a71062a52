use Rattle.std.proofs.Common.{◌++◌, List, append-nil, sym, ap, ◌∙◌}
use Rattle.site_book.specs.declared.attempt_map.Name.{Name}
use Rattle.site_book.specs.declared.progress.Progress.{Progress}
use Rattle.site_book.specs.Listing.{live_keys}
use Rattle.site_book.specs.Named.{by_tid}
use Rattle.site_book.proofs.attempt_map.all_live.Goals as goal

pub returns-clause-tids : goal.returns-clause-tids
returns-clause-tids c =
    sym (append-nil c.loop-name.tids.items)
    ∙ (ap (λ (left : List (Name × Progress)). c.loop-name.tids.items ++ live_keys (by_tid left)) (sym c.in-None.ensures.steps.0) ∙ c.loop-name.invariant)

pub returns-clause-apart : goal.returns-clause-apart
returns-clause-apart c = c.iter-name-items.ensures.unique
