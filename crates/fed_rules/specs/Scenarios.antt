-- What a scenario says: the site of each number with its first rows, the participants with their protocols, the policy, and the transactions.
use Rattle.std.specs.Prelude.{nat_lt, cond, Option, Some, None, List, [], ◌∷◌, map}
use Rattle.mdb_base.specs.declared.acts.Step.{Step}
use Rattle.mdb_base.specs.declared.names.SiteId.{SiteId}
use Rattle.mdb_base.specs.declared.names.Tx.{Tx}
use Rattle.mdb_base.specs.declared.rows.Put.{Put}
use Rattle.mdb_base.specs.Names.{same_site, same_tx}
use Rattle.mdb_base.specs.Rows.{with_row}
use Rattle.mdb_base.specs.Words.{first_where, inserted, map_some}
use Rattle.presumptions.specs.declared.Participant.{Participant}
use Rattle.fed_rules.specs.declared.scenario.ItemLine.{ItemLine}
use Rattle.fed_rules.specs.declared.scenario.Scenario.{Scenario}
use Rattle.fed_rules.specs.declared.scenario.SiteLine.{SiteLine}
use Rattle.fed_rules.specs.declared.scenario.TxLine.{TxLine}
use Rattle.fed_rules.specs.Policies.{Policy, policy_of}
use Rattle.fed_rules.specs.SiteRecords.{Home}

-- the first rows of a site, by rising key
abbrev pub items_of : List ItemLine → SiteId → List Put
items_of [] site = []
items_of (item ∷ items) site = cond (same_site item.site site) (with_row item.put (items_of items site)) (items_of items site)

abbrev pub home_in : List SiteLine → List ItemLine → SiteId → Option Home
home_in [] items site = None
home_in (line ∷ lines) items site =
    cond (same_site line.site site)
    (Some (record { site = line.site; engine = line.engine; protocol = line.protocol; items = items_of items site }))
    (home_in lines items site)

-- the site of this number, where it is declared
abbrev pub home_of : Scenario → SiteId → Option Home
home_of scenario site = home_in scenario.sites scenario.items site

-- all sites with their protocols, by rising number
abbrev pub protocols_in : List SiteLine → List Participant
protocols_in [] = []
protocols_in (line ∷ lines) =
    inserted (λ a b. nat_lt a.site.0 b.site.0) (record { site = line.site; protocol = line.protocol }) (protocols_in lines)

abbrev pub protocols : Scenario → List Participant
protocols scenario = protocols_in scenario.sites

-- the policy of its Takes
abbrev pub policy : Scenario → Policy
policy scenario = policy_of scenario.conservative

-- the declared sites, by rising number
abbrev pub sites : Scenario → List SiteId
sites scenario = map (λ participant. participant.site) (protocols scenario)

-- the line of a transaction
abbrev pub transaction : Scenario → Tx → Option TxLine
transaction scenario tx = first_where (λ line. same_tx line.tx tx) scenario.transactions

abbrev pub program_of_line : Option TxLine → List Step
program_of_line None = []
program_of_line (Some line) = line.program

-- the program of a transaction
abbrev pub program_of : Scenario → Tx → List Step
program_of scenario tx = program_of_line (transaction scenario tx)

abbrev pub home_of_line : Option TxLine → Option SiteId
home_of_line None = None
home_of_line (Some line) = line.home

-- the site of a local transaction
abbrev pub local_site : Scenario → Tx → Option SiteId
local_site scenario tx = home_of_line (transaction scenario tx)

abbrev pub home_at : Scenario → Option SiteId → Option Home
home_at scenario None = None
home_at scenario (Some site) = home_of scenario site

-- the home of a local transaction
abbrev pub local_home : Scenario → Tx → Option Home
local_home scenario tx = home_at scenario (local_site scenario tx)

abbrev pub global_line : Option TxLine → Option TxLine
global_line None = None
global_line (Some line) = unless_homed line line.home where
  unless_homed : TxLine → Option SiteId → Option TxLine
  unless_homed line None = Some line
  unless_homed line (Some site) = None

-- the program of a global transaction
abbrev pub global_program : Scenario → Tx → Option (List Step)
global_program scenario tx = map_some (λ line. line.program) (global_line (transaction scenario tx))
