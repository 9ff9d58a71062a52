use Rattle.std.proofs.Common.{◌-◌, ◌<◌, ◌≤◌, length}
use Rattle.fed_rules.specs.SiteRecords.{Home}
use Rattle.usable_journals.proofs.SiteParts.{IsAt, IsHomeOf}
use Rattle.usable_journals.proofs.site_sums.sums_fit.Given as goal

abbrev pub invariant-loop-place : goal.invariant-loop-place
invariant-loop-place l = record {
  before : l.last < l.place;
  within : l.place ≤ length l.records;
  at : (home : Home) → IsHomeOf l.records home → IsAt home l.records l.last l.place;
}

abbrev pub decreases-loop-place : goal.decreases-loop-place
decreases-loop-place l = length l.records - l.place
