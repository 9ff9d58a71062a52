use Rattle.std.proofs.Common.{◌≡◌, map}
use Rattle.fed_rules.specs.SiteRecords.{kept_held}
use Rattle.journal_sums.proofs.starts.kept_of.Given as goal

abbrev pub invariant-loop-held : goal.invariant-loop-held
invariant-loop-held l = l.kept.items ≡ map kept_held l.yielded
