-- The headline: whatever the interleaving, losses, repeats and crashes at any write, the printed order holds every committed global and local
-- transaction once, and running their programs one at a time gives every printed read and every site's tables; no global transaction ends
-- differently at two sites; the coordinator forgets it exactly when its required acknowledgements are in, and an inquiry afterwards from
-- a site in doubt gets its true outcome.
use Rattle.std.specs.Prelude.{◌≡◌, ℕ, true, Some, List, []}
use Rattle.mdb_base.specs.declared.names.Key.{Key}
use Rattle.mdb_base.specs.declared.names.SiteId.{SiteId}
use Rattle.mdb_base.specs.declared.names.Tid.{Tid}
use Rattle.mdb_base.specs.declared.rows.Put.{Put}
use Rattle.mdb_base.specs.Rows.{look_up}
use Rattle.order_laws.specs.Chains.{In, Distinct}
use Rattle.fed_rules.specs.declared.commands.Command.{Command}
use Rattle.fed_rules.specs.declared.records.SiteRecord.TheVariants.{Local}
use Rattle.fed_rules.specs.declared.scenario.Scenario.{Scenario}
use Rattle.fed_rules.specs.Closing.{in_doubt_at}
use Rattle.fed_rules.specs.Endings.{AtEach, AnswersInDoubt, EndsAlike, ForgetsExactly, outcome_in}
use Rattle.fed_rules.specs.Orders.{is_committed, records_of, first_tables, programs_of, table_of, IsMerge, IsSerial}
use Rattle.fed_rules.specs.Plans.{IsScenario}
use Rattle.fed_rules.specs.Reports.{printed_order}
use Rattle.fed_rules.specs.Scenarios.{home_of}
use Rattle.fed_rules.specs.Serial.{serial_tables}
use Rattle.fed_rules.specs.SiteRecords.{Home}
use Rattle.fed_rules.specs.Story.{Story, story_of}

-- the order holds whatever is committed: each local attempt with a kept Local record, and each global one whose outcome is commit
pub record HoldsCommitted (scenario : Scenario) (story : Story) (order : List Tid) : Type 0 where
  pub locals : (site : SiteId) (tid : Tid) (number : ℕ) (writes : List Put) → In (Local tid number writes) (records_of scenario story site)
      → In tid order
  pub globals : (tid : Tid) → is_committed story tid ≡ true → In tid order

-- it names each attempt once, and of each transaction one attempt at most
pub record NamesOnce (order : List Tid) : Type 0 where
  pub attempts : Distinct order
  pub transactions : (a b : Tid) → In a order → In b order → a.tx ≡ b.tx → a ≡ b

-- running the programs of the order one after another leaves the table of each site that isn't in doubt of any attempt
abbrev pub LeavesTables : Scenario → Story → List Tid → Type 0
LeavesTables scenario story order =
    (site : SiteId) (home : Home) → home_of scenario site ≡ Some home → in_doubt_at (home_of scenario site) story ≡ [] →
    (key : Key) → serial_tables (programs_of scenario order) (first_tables scenario) site key ≡ look_up (table_of scenario story site) key

-- the headline of a story with this order, which an audited run may print in place of the least one. The order holds whatever is committed and
-- names it once; it is a merge of the site orders, so it holds nothing else and keeps their order; its programs, one at a time, give every read
-- that is due of a member and what is due at each site, which is the site's table where the site isn't in doubt; every line that settles an
-- attempt says its outcome; and the coordinator forgets it exactly when its required acknowledgements are in, and answers an inquiry
-- afterwards from a site in doubt by its outcome
pub record HeadlineOf (scenario : Scenario) (story : Story) (order : List Tid) : Type 0 where
  pub holds_committed : HoldsCommitted scenario story order
  pub names_once : NamesOnce order
  pub is_merge : IsMerge scenario story order
  pub gives_reads_and_dues : IsSerial scenario story order
  pub leaves_tables : LeavesTables scenario story order
  pub ends_alike : EndsAlike story
  pub forgets_exactly : ForgetsExactly scenario story
  pub answers_in_doubt : AtEach (AnswersInDoubt scenario (outcome_in story)) story

-- the headline of a story, with the order that is printed: the least merge
abbrev pub Headline : Scenario → Story → Type 0
Headline scenario story = HeadlineOf scenario story (printed_order scenario story)

-- the fact holds of the story of any commands of every scenario
abbrev pub OfStories : (Scenario → Story → Type 0) → Type 0
OfStories P = (scenario : Scenario) → IsScenario scenario → (commands : List Command) → P scenario (story_of scenario commands)
