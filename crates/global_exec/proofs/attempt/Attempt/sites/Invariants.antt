use Rattle.std.proofs.Common.{◌≡◌, ◌≤◌, take}
use Rattle.mdb_base.specs.declared.names.SiteId.{SiteId}
use Rattle.mdb_base.specs.Words.{some_of}
use Rattle.global_exec.specs.Live.{is_at}
use Rattle.global_exec.specs.Sets.{has_site}
use Rattle.global_exec.proofs.attempt.Attempt.sites.Given as goal

abbrev pub invariant-loop-progress : goal.invariant-loop-progress
invariant-loop-progress l = (site : SiteId) → 1 ≤ site.0 → site.0 ≤ 8 → has_site l.set site ≡ some_of (is_at site) (take l.progress-index l.progress-items)
