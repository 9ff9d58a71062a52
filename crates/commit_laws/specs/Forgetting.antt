-- The coordinator forgets an attempt exactly when its required acknowledgements are in, and answers inquiries about it rightly.
use Rattle.std.specs.Prelude.{◌≡◌, false, Some, List}
use Rattle.mdb_base.specs.declared.names.SiteId.{SiteId}
use Rattle.mdb_base.specs.declared.names.Tid.{Tid}
use Rattle.presumptions.specs.Table.{presumed}
use Rattle.fed_rules.specs.declared.answers.Answer.TheVariants as Say
use Rattle.fed_rules.specs.declared.commands.Command.{Command}
use Rattle.fed_rules.specs.declared.events.CoordEvent.TheVariants as Ev
use Rattle.fed_rules.specs.declared.messages.FromSite.TheVariants as From
use Rattle.fed_rules.specs.declared.scenario.Scenario.{Scenario}
use Rattle.fed_rules.specs.Coord.{tells}
use Rattle.fed_rules.specs.CoordPast.{CoordHappening, Gone, standing}
use Rattle.fed_rules.specs.CoordRecords.{outcome}
use Rattle.fed_rules.specs.Endings as endings
use Rattle.fed_rules.specs.Happenings.{stops, is_down}
use Rattle.fed_rules.specs.Scenarios.{home_of, protocols}
use Rattle.fed_rules.specs.SitePast.{records}
use Rattle.fed_rules.specs.SiteRecords.{Home, Held, doubt_of}
use Rattle.fed_rules.specs.Story.{AtCoordinator, coord_past, past_of, happens, story_of}
use Rattle.commit_laws.specs.Outcomes.{coordinator_keeps}

-- the next command after these makes this line of the coordinator
abbrev pub IsNextOfCoordinator : Scenario → List Command → CoordHappening → Type 0
IsNextOfCoordinator scenario commands x = (command : Command) × (happens scenario (story_of scenario commands) command ≡ AtCoordinator x)

-- a decided attempt is known only while a required acknowledgement hasn't counted since the decision or the last start of the coordinator
abbrev pub KnownWhileMissing : Type 0
KnownWhileMissing =
    (scenario : Scenario) (commands : List Command) → endings.KnownWhileMissing (protocols scenario) (coord_past (story_of scenario commands))

-- a line, no stop and no start, behind which an attempt isn't known any more: no required acknowledgement is missing then
abbrev pub ForgottenWhenNoneIsMissing : Type 0
ForgottenWhenNoneIsMissing =
    (scenario : Scenario) (commands : List Command) (x : CoordHappening) → IsNextOfCoordinator scenario commands x →
    endings.ForgottenWhenNoneIsMissing (protocols scenario) x (coord_past (story_of scenario commands))

-- behind a stop or a start of the coordinator every required acknowledgement is missing: it is counted anew
abbrev pub RestartsCountAnew : Type 0
RestartsCountAnew =
    (scenario : Scenario) (commands : List Command) (x : CoordHappening) → IsNextOfCoordinator scenario commands x →
    endings.RestartsCountAnew (protocols scenario) x (coord_past (story_of scenario commands))

-- of an attempt that the coordinator doesn't know, each site whose acknowledgement of the outcome is required has sent it
abbrev pub ForgottenAreAcknowledged : Type 0
ForgottenAreAcknowledged =
    (scenario : Scenario) (commands : List Command) → endings.ForgottenAreAcknowledged scenario (story_of scenario commands)

-- the presumption of a site in doubt of an attempt that the coordinator doesn't know is the attempt's outcome
abbrev pub PresumptionsAreRight : Type 0
PresumptionsAreRight =
    (scenario : Scenario) (commands : List Command) (site : SiteId) (home : Home) → home_of scenario site ≡ Some home →
    (tid : Tid) → standing (protocols scenario) (coord_past (story_of scenario commands)) tid ≡ Gone →
    (held : Held) → doubt_of (records home (past_of site (story_of scenario commands))) tid ≡ Some held →
    presumed home.protocol ≡ outcome (coordinator_keeps scenario commands) tid

-- so a line of the coordinator that takes the inquiry of such a site answers it the outcome, through the presumption, unless the
-- coordinator is down or a stop ends the line
abbrev pub InquiriesAreAnsweredTheOutcome : Type 0
InquiriesAreAnsweredTheOutcome =
    (scenario : Scenario) (commands : List Command) (site : SiteId) (home : Home) → home_of scenario site ≡ Some home →
    (tid : Tid) → standing (protocols scenario) (coord_past (story_of scenario commands)) tid ≡ Gone →
    (held : Held) → doubt_of (records home (past_of site (story_of scenario commands))) tid ≡ Some held →
    (x : CoordHappening) → IsNextOfCoordinator scenario commands x → x.event ≡ Ev.Take site (From.Inquiry tid) →
    is_down (coord_past (story_of scenario commands)) ≡ false → stops x.answer ≡ false →
    x ≡ tells site tid (Say.Presumes (outcome (coordinator_keeps scenario commands) tid)) (outcome (coordinator_keeps scenario commands) tid)
