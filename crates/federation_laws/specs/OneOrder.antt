-- One order for all sites, and what running programs in that order gives.
use Rattle.std.specs.Prelude.{◌≡◌, ℕ, true, List, []}
use Rattle.mdb_base.specs.declared.acts.Step.{Step}
use Rattle.mdb_base.specs.declared.names.SiteId.{SiteId}
use Rattle.mdb_base.specs.declared.names.Tid.{Tid}
use Rattle.mdb_base.specs.declared.rows.Put.{Put}
use Rattle.mdb_base.specs.Names.{tid_before}
use Rattle.order_laws.specs.Chains.{Acyclic, Distinct, In}
use Rattle.order_laws.specs.Merge.{IsLeastOrder}
use Rattle.order_laws.specs.Orders.{Union}
use Rattle.fed_rules.specs.declared.commands.Command.{Command}
use Rattle.fed_rules.specs.declared.records.SiteRecord.TheVariants.{Local}
use Rattle.fed_rules.specs.declared.scenario.Scenario.{Scenario}
pub use Rattle.fed_rules.specs.Headline.{OfStories}
use Rattle.fed_rules.specs.Orders.{is_committed, records_of, order_at, orders, IsMerge, IsSerial}
use Rattle.fed_rules.specs.Reports.{printed_order}
use Rattle.fed_rules.specs.Scenarios.{program_of}
use Rattle.fed_rules.specs.Story.{Story, story_of}
use Rattle.federation_laws.specs.Parts.{CommitsAgree, MembersFollowPrograms}
use Rattle.federation_laws.specs.SiteOrders.{SitesAreSerial}

-- the orders of all sites have no cycle together; the printed order is a merge of them, the only one with the least attempt at each place;
-- each merge names each attempt once; and running the programs one at a time, in this order or any other merge, gives every read of every member and what is due at each site
pub record HasOneOrder (scenario : Scenario) (story : Story) : Type 0 where
  pub cycle_free : Acyclic (Union (orders scenario story))
  pub merge : IsMerge scenario story (printed_order scenario story)
  pub least : IsLeastOrder tid_before (orders scenario story) [] (printed_order scenario story)
  pub once : (order : List Tid) → IsMerge scenario story order → Distinct order
  pub only : (order : List Tid) → IsLeastOrder tid_before (orders scenario story) [] order → order ≡ printed_order scenario story
  pub serial : (order : List Tid) → IsMerge scenario story order → IsSerial scenario story order

-- what the order of all sites is made of
pub record Parts (scenario : Scenario) (story : Story) : Type 0 where
  pub sites : SitesAreSerial scenario story
  pub commits : CommitsAgree scenario story
  pub programs : MembersFollowPrograms scenario story

-- in the story of any commands that has these parts there is one order for all sites
abbrev pub PartsMakeOneOrder : Type 0
PartsMakeOneOrder =
    (scenario : Scenario) (commands : List Command) → Parts scenario (story_of scenario commands)
    → HasOneOrder scenario (story_of scenario commands)

-- of each transaction at most one attempt stands in the orders, whatever the sites
abbrev pub OneAttemptEach : Scenario → Story → Type 0
OneAttemptEach scenario story =
    (site other : SiteId) (a b : Tid) → In a (order_at scenario story site) → In b (order_at scenario story other)
    → a.tx ≡ b.tx → a ≡ b

-- whatever is committed stands in the orders: a local attempt that has a kept Local record in that of the site, and a global one whose
-- outcome is commit in that of each site at which its program has a step
pub record AllAreOrdered (scenario : Scenario) (story : Story) : Type 0 where
  pub locals : (site : SiteId) (tid : Tid) (number : ℕ) (writes : List Put) → In (Local tid number writes) (records_of scenario story site)
      → In tid (order_at scenario story site)
  pub globals : (tid : Tid) → is_committed story tid ≡ true → (step : Step) → In step (program_of scenario tid.tx)
      → In tid (order_at scenario story step.site)
