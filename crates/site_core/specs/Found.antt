-- A journal that is found on the disk of a site whose core is to go on from it.
use Rattle.std.specs.Prelude.{ℕ, ◌≡◌, Some, List}
use Rattle.fed_rules.specs.declared.records.SiteRecord.{SiteRecord}
use Rattle.fed_rules.specs.Found.{Journal}
use Rattle.fed_rules.specs.Reopened.{first_of}
use Rattle.fed_rules.specs.Runs as Lines
use Rattle.fed_rules.specs.Runs.{EngineLine}
use Rattle.fed_rules.specs.SiteRecords.{Home}
use Rattle.fed_rules.specs.Usable.{IsUsableSite, home_of_first}
use Rattle.journal_disk.specs.Disk.{Image}
use Rattle.site_journal.specs.Spelling.{IsRecord, spelling}
use Rattle.actor_store.specs.Found.{IsFoundIn}
use Rattle.site_core.specs.Stands.{IsOfKind}

-- this journal stands in the bytes, in records of the format, and is usable as that of this site
pub record IsFoundOn (image : Image) (home : Home) (journal : Journal SiteRecord) : Type 0 where
  pub stands : IsFoundIn spelling IsRecord image journal
  pub number : ℕ
  pub usable : IsUsableSite number journal.records
  pub is_home : home_of_first (first_of journal.records) ≡ Some home

-- some journal of a site with this engine's rule
pub record SomeJournal {E : Type 0} (stands : E → Lines.Start → List EngineLine → Type 0) (engine : E) (image : Image) : Type 0 where
  pub home : Home
  pub journal : Journal SiteRecord
  pub found : IsFoundOn image home journal
  pub of_kind : IsOfKind stands engine home.engine
