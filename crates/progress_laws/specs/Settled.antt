-- At rest each global transaction that committed is settled at all its sites.
use Rattle.std.specs.Prelude.{ℕ, ◌≡◌, true, None, List}
use Rattle.mdb_base.specs.declared.acts.Step.{Step}
use Rattle.mdb_base.specs.declared.names.SiteId.{SiteId}
use Rattle.mdb_base.specs.declared.names.Tid.{Tid}
use Rattle.mdb_base.specs.declared.rows.Put.{Put}
use Rattle.order_laws.specs.Chains.{In}
use Rattle.presumptions.specs.declared.Decision.TheVariants.{Commit}
use Rattle.fed_rules.specs.declared.commands.Command.{Command}
use Rattle.fed_rules.specs.declared.records.SiteRecord.TheVariants.{Ended, Prepared}
use Rattle.fed_rules.specs.declared.scenario.Scenario.{Scenario}
use Rattle.fed_rules.specs.Orders.{is_committed, records_of}
use Rattle.fed_rules.specs.Plans.{IsScenario}
use Rattle.fed_rules.specs.Scenarios.{program_of}
use Rattle.fed_rules.specs.SiteRecords.{doubt_of}
use Rattle.fed_rules.specs.Story.{Story, story_of}
use Rattle.closing_laws.specs.AtRest.{IsAtRest}

-- the site keeps a Prepared record of the attempt and one that ends it by commit, and it is in doubt of it no more
pub record IsSettledAt (scenario : Scenario) (story : Story) (site : SiteId) (tid : Tid) : Type 0 where
  pub epoch : ℕ
  pub number : ℕ
  pub ticket : ℕ
  pub writes : List Put
  pub prepared : In (Prepared tid epoch number ticket writes) (records_of scenario story site)
  pub ended : In (Ended tid Commit) (records_of scenario story site)
  pub settled : doubt_of (records_of scenario story site) tid ≡ None

-- each global attempt whose outcome is commit is settled so at each site at which its program has a step
abbrev pub CommitsAreSettled : Scenario → Story → Type 0
CommitsAreSettled scenario story =
    (tid : Tid) → is_committed story tid ≡ true → (step : Step) → In step (program_of scenario tid.tx)
    → IsSettledAt scenario story step.site tid

-- so it is in each session at rest, whatever was lost, repeated or stopped before
abbrev pub CommitsAreSettledAtRest : Type 0
CommitsAreSettledAtRest =
    (scenario : Scenario) → IsScenario scenario → (commands : List Command) → IsAtRest scenario (story_of scenario commands)
    → CommitsAreSettled scenario (story_of scenario commands)
