use Rattle.std.proofs.Common.{◌≡◌, ◌++◌}
use Rattle.site_book.specs.Listing.{live_keys}
use Rattle.site_book.specs.Named.{by_tid}
use Rattle.site_book.proofs.attempt_map.all_live.Given as goal

abbrev pub invariant-loop-name : goal.invariant-loop-name
invariant-loop-name l = l.tids.items ++ live_keys (by_tid l.name-iterator) ≡ live_keys (by_tid l.attempts.entries)
