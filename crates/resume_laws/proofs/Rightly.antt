-- A session goes on rightly from the disks that another one left.
use Rattle.fed_rules.specs.Headline.{Headline, OfStories}
use Rattle.site_history.specs.SiteOrders.{IsSerialPast}
use Rattle.site_history.specs.Stories.{OfSites}
use Rattle.commit_laws.specs.Forgetting.{PresumptionsAreRight}
use Rattle.resume_laws.specs.Rightly.{ReadableGoOn}
use Rattle.fed_rules.specs.GoingOn.{SessionsGoOn}
use Rattle.resume_laws.proofs.Readable.{disks_readable}
use Rattle.resume_laws.proofs.GoesOn.{all_outcomes_stay, all_settles_agree}
use Rattle.resume_laws.proofs.TablesAgain.{all_tables}

pub goes_on_rightly : OfSites IsSerialPast → OfStories Headline → PresumptionsAreRight → ReadableGoOn
goes_on_rightly serial headline presumptions scenario whole commands down reads = record {
  usable = reads.usable;
  outcomes = all_outcomes_stay scenario whole commands reads.says;
  settles = all_settles_agree presumptions scenario whole commands down reads.says;
  tables = all_tables serial headline presumptions scenario whole commands down reads.says reads.plan reads.tables;
}

pub all_go_on : OfSites IsSerialPast → OfStories Headline → PresumptionsAreRight → SessionsGoOn
all_go_on serial headline presumptions scenario whole commands short down =
    goes_on_rightly serial headline presumptions scenario whole commands down (disks_readable scenario whole commands short)
