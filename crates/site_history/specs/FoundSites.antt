-- A site on whose disk a usable journal is found, and what further events make of it.
use Rattle.std.specs.Prelude.{ℕ, ◌≡◌, Bool, true, false, Option, Some, None, List}
use Rattle.mdb_base.specs.declared.names.Tid.{Tid}
use Rattle.mdb_base.specs.declared.names.Tx.{Tx}
use Rattle.mdb_base.specs.Rising.{IsRising}
use Rattle.mdb_base.specs.Words.{Each}
use Rattle.fed_rules.specs.declared.events.SiteEvent.{SiteEvent}
use Rattle.fed_rules.specs.declared.records.SiteRecord.{SiteRecord}
use Rattle.fed_rules.specs.declared.records.SiteRecord.TheVariants.{Prepared, Local, Checkpoint}
use Rattle.fed_rules.specs.Found.{Journal}
use Rattle.fed_rules.specs.Reopened.{first_of, opened_site}
use Rattle.fed_rules.specs.Site.{site_past_on}
use Rattle.fed_rules.specs.SitePast.{SitePast}
use Rattle.fed_rules.specs.SiteRecords.{Held, Home}
use Rattle.fed_rules.specs.Usable.{IsUsableSite, home_of_first}
use Rattle.site_history.specs.Events.{AreSorted}

-- the writes of those prepared rise by key, as the format has them
abbrev pub WritesRise : SiteRecord → Type 0
WritesRise (Prepared tid epoch number ticket writes) = IsRising (λ put. put.key.0) writes
WritesRise (Checkpoint sum) = Each (λ (held : Held). IsRising (λ put. put.key.0) held.writes) sum.doubtful
WritesRise other = Unit {0}

abbrev pub IsOf : (Tx → Bool) → Bool → Option Tid → Type 0
IsOf local test None = Unit {0}
IsOf local test (Some tid) = local tid.tx ≡ test

-- the test tells the local attempts from the prepared ones
abbrev pub AreToldApart : (Tx → Bool) → SiteRecord → Type 0
AreToldApart local (Prepared tid epoch number ticket writes) = local tid.tx ≡ false
AreToldApart local (Local tid number writes) = local tid.tx ≡ true
AreToldApart local (Checkpoint sum) =
    Each (λ (held : Held). local held.tid.tx ≡ false) sum.doubtful × IsOf local false sum.owner × Each (λ (tid : Tid). local tid.tx ≡ true) sum.locals
AreToldApart local other = Unit {0}

-- the journal is usable as that of this site, and the test tells its attempts apart
pub record IsFoundSite (home : Home) (local : Tx → Bool) (journal : Journal SiteRecord) : Type 0 where
  pub number : ℕ
  pub usable : IsUsableSite number journal.records
  pub is_home : home_of_first (first_of journal.records) ≡ Some home
  pub rising : Each WritesRise journal.records
  pub told : Each (AreToldApart local) journal.records

-- the fact holds of every site on whose disk such a journal is found, whatever sorted events come then
abbrev pub OfFoundSites : (Home → SitePast → Type 0) → Type 0
OfFoundSites P =
    (home : Home) (local : Tx → Bool) (journal : Journal SiteRecord) → IsFoundSite home local journal → (events : List SiteEvent)
    → AreSorted local events → P home (site_past_on home (opened_site journal) events)

-- so every usable journal of a site is one, if its writes rise by key, as the format has them: some test tells its attempts apart
abbrev pub UsableSitesGoOn : Type 0
UsableSitesGoOn =
    (home : Home) (number : ℕ) (journal : Journal SiteRecord) → IsUsableSite number journal.records → home_of_first (first_of journal.records) ≡ Some home
    → Each WritesRise journal.records → (local : Tx → Bool) × IsFoundSite home local journal
