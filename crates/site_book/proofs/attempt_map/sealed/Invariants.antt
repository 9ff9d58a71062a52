use Rattle.std.proofs.Common.{◌≡◌, drop}
use Rattle.std.specs.FinMap.{empty}
use Rattle.site_book.specs.Book.{with_doubtful}
use Rattle.site_book.specs.Named.{kept_in}
use Rattle.site_book.proofs.attempt_map.sealed.Given as goal

abbrev pub invariant-loop-tid : goal.invariant-loop-tid
invariant-loop-tid l = with_doubtful (drop l.tid-index l.doubtful) (kept_in l.attempts.entries) ≡ with_doubtful l.doubtful empty
