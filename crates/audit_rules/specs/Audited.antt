-- What a yes implies: the headline, with the printed order in place of the least merge.
use Rattle.std.specs.Prelude.{◌≡◌, ℕ, Bool, Some, List, [], map}
use Rattle.mdb_base.specs.declared.names.Key.{Key}
use Rattle.mdb_base.specs.declared.names.SiteId.{SiteId}
use Rattle.mdb_base.specs.Rows.{look_up}
use Rattle.fed_rules.specs.declared.scenario.Scenario.{Scenario}
use Rattle.fed_rules.specs.Headline.{HeadlineOf}
use Rattle.fed_rules.specs.Orders.{first_tables, programs_of, reads_of, table_of}
use Rattle.fed_rules.specs.Plans.{IsScenario}
use Rattle.fed_rules.specs.Right.{story_told}
use Rattle.fed_rules.specs.Scenarios.{home_of}
use Rattle.fed_rules.specs.Serial.{serial_reads, serial_tables}
use Rattle.fed_rules.specs.SiteRecords.{Home}
use Rattle.audit_rules.specs.declared.verdict.Verdict.TheVariants.{Agrees}
use Rattle.audit_rules.specs.Agreement.{Printed, Entry, verdict_from}
use Rattle.audit_rules.specs.Agreements.{Agreement}

-- a printed run that agrees is right, ends at rest, and has the headline with its printed order; the reads that are due in it are those of the
-- programs of this order, one at a time, and so is the table of each site
pub record Audited {A : Type 0} (read : A → Printed) (is : A → Entry → Bool) (scenario : Scenario) (texts : List A) : Type 0 where
  pub agreement : Agreement read is scenario texts
  pub headline : HeadlineOf scenario (story_told scenario agreement.lines) agreement.order
  pub reads : map (reads_of scenario (story_told scenario agreement.lines)) agreement.order ≡ serial_reads (programs_of scenario agreement.order) (first_tables scenario)
  pub tables : (site : SiteId) (home : Home) → home_of scenario site ≡ Some home → (key : Key)
      → look_up (table_of scenario (story_told scenario agreement.lines) site) key ≡ serial_tables (programs_of scenario agreement.order) (first_tables scenario) site key

-- a yes implies it, whatever the printed lines are made of
abbrev pub YesImpliesHeadline : Type 0 → Type 0
YesImpliesHeadline A =
    (read : A → Printed) (is : A → Entry → Bool) (scenario : Scenario) → IsScenario scenario → (n : ℕ) (texts : List A)
    → verdict_from read is scenario n texts [] ≡ Agrees → Audited read is scenario texts
