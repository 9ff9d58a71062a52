-- What a session is: its commands with those that close it, its story, and what holds of it.
use Rattle.std.specs.Prelude.{ℕ, ◌≡◌, ◌⊎◌, ◌↔◌, true, Some, List, ◌++◌, reverse}
use Rattle.mdb_base.specs.declared.names.Key.{Key}
use Rattle.mdb_base.specs.declared.names.SiteId.{SiteId}
use Rattle.mdb_base.specs.declared.names.Tid.{Tid}
use Rattle.mdb_base.specs.declared.names.Tx.{Tx}
use Rattle.mdb_base.specs.declared.rows.Put.{Put}
use Rattle.mdb_base.specs.Rows.{look_up}
use Rattle.order_laws.specs.Chains.{In}
use Rattle.fed_rules.specs.declared.commands.Command.{Command}
use Rattle.fed_rules.specs.declared.records.SiteRecord.TheVariants.{Local}
use Rattle.fed_rules.specs.declared.scenario.Scenario.{Scenario}
use Rattle.fed_rules.specs.declared.scenario.TxLine.{TxLine}
use Rattle.fed_rules.specs.Closing.{closed}
use Rattle.fed_rules.specs.Headline.{Headline}
use Rattle.fed_rules.specs.Orders.{due_of, is_committed, records_of, table_of}
use Rattle.fed_rules.specs.Reports.{printed_order}
use Rattle.fed_rules.specs.Scenarios.{home_of}
use Rattle.fed_rules.specs.SiteRecords.{Home}
use Rattle.fed_rules.specs.Story.{Story, story_of}
use Rattle.closing_laws.specs.AtRest.{IsAtRest}
use Rattle.progress_laws.specs.Settled.{CommitsAreSettled}
use Rattle.scenario_text.specs.declared.session.Session.{Session}

-- the commands of a session with those that close it, the last one first
abbrev pub commands_of : Session → List Command
commands_of session = closed session.scenario (reverse session.commands)

-- what happens in a session
abbrev pub story : Session → Story
story session = story_of session.scenario (commands_of session)

-- the commands are the first ones of these, the last one of them first
abbrev pub IsFront : List Command → List Command → Type 0
IsFront done whole = (left : List Command) × (whole ≡ left ++ done)

-- a Local record of the attempt is kept at some site
pub record IsKeptLocal (scenario : Scenario) (story : Story) (tid : Tid) : Type 0 where
  pub site : SiteId
  pub number : ℕ
  pub writes : List Put
  pub kept : In (Local tid number writes) (records_of scenario story site)

-- the attempt committed: a local one has a kept Local record, and the outcome of a global one is commit
abbrev pub HasCommitted : Scenario → Story → Tid → Type 0
HasCommitted scenario story tid = IsKeptLocal scenario story tid ⊎ (is_committed story tid ≡ true)

-- an attempt of the transaction committed and stands in the printed order, and no other one does
pub record CommitsOnce (scenario : Scenario) (story : Story) (tx : Tx) : Type 0 where
  pub tid : Tid
  pub of_tx : tid.tx ≡ tx
  pub committed : HasCommitted scenario story tid
  pub ordered : In tid (printed_order scenario story)
  pub once : (other : Tid) → In other (printed_order scenario story) → other.tx ≡ tx → other ≡ tid

-- so it is with each transaction of the scenario
abbrev pub AllCommit : Scenario → Story → Type 0
AllCommit scenario story = (line : TxLine) → In line scenario.transactions → CommitsOnce scenario story line.tx

-- each declared site has what it is due
abbrev pub AreSettled : Scenario → Story → Type 0
AreSettled scenario story =
    (site : SiteId) (home : Home) → home_of scenario site ≡ Some home
    → (key : Key) → look_up (table_of scenario story site) key ≡ look_up (due_of scenario story site) key

-- what holds of the story of all commands of a session: the headline of the rules; at the end it is at rest, every actor up and nothing live, in doubt or
-- known; each site's table is what it is due; each global attempt that committed is settled at all its sites; and an attempt stands in the printed
-- order exactly where it committed
pub record IsRight (scenario : Scenario) (story : Story) : Type 0 where
  pub headline : Headline scenario story
  pub at_rest : IsAtRest scenario story
  pub settled : AreSettled scenario story
  pub commits_settled : CommitsAreSettled scenario story
  pub members : (tid : Tid) → In tid (printed_order scenario story) ↔ HasCommitted scenario story tid
