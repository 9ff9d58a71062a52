-- What every actor of a session that began with empty disks leaves on its disk, behind any commands: the journals that `Usable` asks for.
use Rattle.std.specs.Prelude.{◌≡◌, ◌≤◌, ◌<◌, ◌^◌, Some, List, length}
use Rattle.mdb_base.specs.declared.names.SiteId.{SiteId}
use Rattle.mdb_base.specs.Words.{Each}
use Rattle.order_laws.specs.Chains.{Distinct}
use Rattle.order_laws.specs.Tickets.{HasNoCycle}
use Rattle.presumptions.specs.declared.Participant.{Participant}
use Rattle.fed_rules.specs.declared.commands.Command.{Command}
use Rattle.fed_rules.specs.declared.records.CoordRecord.{CoordRecord}
use Rattle.fed_rules.specs.declared.records.SiteRecord.{SiteRecord}
use Rattle.fed_rules.specs.declared.records.SiteRecord.TheVariants.{Prepared, Local, Checkpoint}
use Rattle.fed_rules.specs.declared.scenario.Scenario.{Scenario}
use Rattle.fed_rules.specs.CoordPast as Coordinator
use Rattle.fed_rules.specs.CoordRecords.{commits}
use Rattle.fed_rules.specs.GoingOn.{IsUsable}
use Rattle.fed_rules.specs.Plans.{IsScenario}
use Rattle.fed_rules.specs.Resumed.{left_by}
use Rattle.fed_rules.specs.Scenarios.{home_of, protocols}
use Rattle.fed_rules.specs.SitePast as Site
use Rattle.fed_rules.specs.SiteRecords.{Held, Home}
use Rattle.fed_rules.specs.Story.{coord_past, past_of, story_of}
use Rattle.fed_rules.specs.Usable.{AreBehind, AreParted, AreSumsOfOpen, AreSumsOfSome, AreUnnamed, AreWithin, CommitOnce, CoordSumsFit, DoubtsApart, EpochsRise, HaveSums, IsBelow, IsCoordBelow, IsOfSite, IsUsableCoordinator, IsUsableSite, LocalsOnTop, NamesSites, OfFronts, OnceEach, SetUpFirst, StandInOrder, TicketsRise, coord_read, counted, home_of_first, numbers}
use Rattle.fed_rules.specs.Reopened.{first_of}
use Rattle.coord_laws.specs.FoundCoordinators.{MembersRise, RiseBySite}

-- the fact holds of the journal that the coordinator has in the story of any commands, which stops and Checkpoints may be among
abbrev pub OfCoordinators : (List Participant → List CoordRecord → Type 0) → Type 0
OfCoordinators P = (scenario : Scenario) (commands : List Command) → P (protocols scenario) (Coordinator.journal (coord_past (story_of scenario commands)))

-- the fact holds of the journal that each declared site has there
abbrev pub OfSites : (Home → List SiteRecord → Type 0) → Type 0
OfSites P =
    (scenario : Scenario) (commands : List Command) (site : SiteId) (home : Home) → home_of scenario site ≡ Some home
    → P home (Site.journal home (past_of home.site (story_of scenario commands)))

-- and so it is in every story of a scenario that keeps the rules of its text
abbrev pub OfGoodSites : (Home → List SiteRecord → Type 0) → Type 0
OfGoodSites P =
    (scenario : Scenario) → IsScenario scenario → (commands : List Command) (site : SiteId) (home : Home) → home_of scenario site ≡ Some home
    → P home (Site.journal home (past_of home.site (story_of scenario commands)))

-- and in every story of fewer lines than 2^30
abbrev pub OfShortSites : (Home → List SiteRecord → Type 0) → Type 0
OfShortSites P =
    (scenario : Scenario) (commands : List Command) → length commands < 2 ^ 30 → (site : SiteId) (home : Home) → home_of scenario site ≡ Some home
    → P home (Site.journal home (past_of home.site (story_of scenario commands)))

abbrev pub OfShortGoodSites : (Home → List SiteRecord → Type 0) → Type 0
OfShortGoodSites P =
    (scenario : Scenario) → IsScenario scenario → (commands : List Command) → length commands < 2 ^ 30 → (site : SiteId) (home : Home) → home_of scenario site ≡ Some home
    → P home (Site.journal home (past_of home.site (story_of scenario commands)))

abbrev pub OfShortCoordinators : (List Participant → List CoordRecord → Type 0) → Type 0
OfShortCoordinators P =
    (scenario : Scenario) → IsScenario scenario → (commands : List Command) → length commands < 2 ^ 30
    → P (protocols scenario) (Coordinator.journal (coord_past (story_of scenario commands)))

-- the tickets of the committed attempts close no cycle
abbrev pub CommitsCloseNoCycle : List Participant → List CoordRecord → Type 0
CommitsCloseNoCycle protocols journal = HasNoCycle (commits (coord_read journal))

-- each attempt has at most one Initiation, one of Commit and Abort, and one End, in this order
abbrev pub RecordsStandInOrder : List Participant → List CoordRecord → Type 0
RecordsStandInOrder protocols journal = StandInOrder (coord_read journal)

-- each transaction has at most one Commit
abbrev pub TransactionsCommitOnce : List Participant → List CoordRecord → Type 0
TransactionsCommitOnce protocols journal = CommitOnce (coord_read journal)

-- each site that a record names is declared, with the protocol that the record names
abbrev pub NamedSitesAreDeclared : List Participant → List CoordRecord → Type 0
NamedSitesAreDeclared protocols journal = Each (NamesSites protocols) journal

-- a Checkpoint behind other records is the Sum of them
abbrev pub CoordinatorsSumsFit : List Participant → List CoordRecord → Type 0
CoordinatorsSumsFit protocols journal = CoordSumsFit protocols journal

-- a Checkpoint's attempts stand by rising attempt, and none that committed is open where a commit of its participants is forgotten at once
abbrev pub SumsAreOfOpen : List Participant → List CoordRecord → Type 0
SumsAreOfOpen protocols journal = Each AreSumsOfOpen journal

-- the participants that a record names stand by rising site, where the protocols do
abbrev pub MembersStandInOrder : List Participant → List CoordRecord → Type 0
MembersStandInOrder protocols journal = RiseBySite protocols → Each MembersRise journal

-- at every front of the journal those in doubt have tickets in the order of their numbers and write no common key, and none that committed with a greater
-- number writes a key of theirs
abbrev pub DoubtsStandInOrder : Home → List SiteRecord → Type 0
DoubtsStandInOrder home journal = OfFronts DoubtsApart journal × OfFronts AreBehind journal

-- a local one has a greater number than each one committed before it that writes one of its keys
abbrev pub LocalsStandInOrder : Home → List SiteRecord → Type 0
LocalsStandInOrder home journal = LocalsOnTop journal

-- the numbers of a Checkpoint's doubtful ones are at most its counter, their tickets differ and are at most its published one, and its owner fits these
abbrev pub SumsAreWithin : Home → List SiteRecord → Type 0
SumsAreWithin home journal = Each AreWithin journal

-- a Checkpoint has an owner exactly where its published ticket isn't 0, and then its counter isn't 0; without an owner and without a local one its counter is
-- 0; and its lists stand by rising attempt
abbrev pub SumsAreOfSome : Home → List SiteRecord → Type 0
SumsAreOfSome home journal = Each AreSumsOfSome journal

-- a Checkpoint behind other records is the Sum of them
abbrev pub SitesSumsFit : Home → List SiteRecord → Type 0
SitesSumsFit home journal = HaveSums (home_of_first (first_of journal)) journal

-- the first record is a Setup or a Checkpoint of the site
abbrev pub IsFirstOfSite : Home → List SiteRecord → Type 0
IsFirstOfSite home journal = IsOfSite home.site.0 (home_of_first (first_of journal))

-- no Setup stands behind the first record
abbrev pub OneSetup : Home → List SiteRecord → Type 0
OneSetup home journal = SetUpFirst journal

-- the epochs of Start records and Checkpoints are at least 1 and rise; at a Checkpoint they may also stay
abbrev pub EpochsStandInOrder : Home → List SiteRecord → Type 0
EpochsStandInOrder home journal = EpochsRise journal

-- each attempt has at most one Prepared and one Ended behind it, and each transaction one Local
abbrev pub AttemptsAreOnce : Home → List SiteRecord → Type 0
AttemptsAreOnce home journal = OnceEach (counted journal)

-- no transaction that has a Local has a record of a global one
abbrev pub LocalsArePartedFromGlobals : Home → List SiteRecord → Type 0
LocalsArePartedFromGlobals home journal = AreParted (counted journal) journal

-- a Prepared has a greater ticket than each before it, and than the published one of each Checkpoint before it
abbrev pub TicketsStandInOrder : Home → List SiteRecord → Type 0
TicketsStandInOrder home journal = TicketsRise journal

-- numbers and tickets are at least 1
abbrev pub IsSomeHeld : Held → Type 0
IsSomeHeld held = (1 ≤ held.number) × (1 ≤ held.ticket)

abbrev pub IsSome : SiteRecord → Type 0
IsSome (Prepared tid epoch number ticket writes) = (1 ≤ number) × (1 ≤ ticket)
IsSome (Local tid number writes) = 1 ≤ number
IsSome (Checkpoint sum) = Each IsSomeHeld sum.doubtful
IsSome other = Unit {0}

abbrev pub NumbersAreSome : Home → List SiteRecord → Type 0
NumbersAreSome home journal = Each IsSome journal

-- numbers and tickets are from 1 to 2^62 - 1, and epochs below 2^31
abbrev pub SitesAreBelow : Home → List SiteRecord → Type 0
SitesAreBelow home journal = Each IsBelow journal

-- the tickets of committed attempts are below 2^62
abbrev pub CoordinatorsAreBelow : List Participant → List CoordRecord → Type 0
CoordinatorsAreBelow protocols journal = Each IsCoordBelow journal

-- the serial numbers of a journal differ, those of attempts that were prepared and aborted included
abbrev pub NumbersDiffer : Home → List SiteRecord → Type 0
NumbersDiffer home journal = Distinct (numbers journal)

-- all rules together
abbrev pub SitesAreUsable : Home → List SiteRecord → Type 0
SitesAreUsable home journal = IsUsableSite home.site.0 journal

abbrev pub CoordinatorsAreUsable : List Participant → List CoordRecord → Type 0
CoordinatorsAreUsable protocols journal = IsUsableCoordinator protocols journal

-- every disk that a session leaves that began with empty disks and has fewer lines than 2^30 is usable, at whatever line it is left, so behind every stop too
abbrev pub DisksAreUsable : Type 0
DisksAreUsable =
    (scenario : Scenario) → IsScenario scenario → (commands : List Command) → length commands < 2 ^ 30 → IsUsable scenario (left_by scenario (story_of scenario commands))

-- no transaction with a Local on a site's disk has a record on the coordinator's
abbrev pub LocalsAreNotNamed : Type 0
LocalsAreNotNamed =
    (scenario : Scenario) (commands : List Command) (site : SiteId) (home : Home) → home_of scenario site ≡ Some home
    → AreUnnamed (Coordinator.journal (coord_past (story_of scenario commands))) (Site.journal home (past_of home.site (story_of scenario commands)))
