use Rattle.std.proofs.Common.{◌≡◌, take}
use Rattle.mdb_base.specs.Words.{found}
use Rattle.global_exec.specs.Live.{all_sites, fresh_at}
use Rattle.global_exec.proofs.attempt.sites_of.Given as goal

abbrev pub invariant-loop-site : goal.invariant-loop-site
invariant-loop-site l = l.sites.items ≡ found (fresh_at l.steps) (take l.site-index all_sites)
