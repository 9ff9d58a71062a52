-- An attempt is sealed at most once at a site; an acknowledged one is over; a commit never meets a live run of the known epoch.
use Rattle.std.specs.Prelude.{◌≡◌, ℕ, ◌<◌, ◌≤◌, true, false, Some, None, List}
use Rattle.mdb_base.specs.declared.acts.Step.{Step}
use Rattle.mdb_base.specs.declared.names.SiteId.{SiteId}
use Rattle.mdb_base.specs.declared.names.Tid.{Tid}
use Rattle.mdb_base.specs.Words.{Each, Among, how_many}
use Rattle.order_laws.specs.Chains.{In}
use Rattle.presumptions.specs.declared.Decision.{Decision}
use Rattle.presumptions.specs.declared.Decision.TheVariants as Decided
use Rattle.fed_rules.specs.declared.commands.Command.{Command}
use Rattle.fed_rules.specs.declared.events.SiteEvent.TheVariants as Ev
use Rattle.fed_rules.specs.declared.messages.FromSite.TheVariants as From
use Rattle.fed_rules.specs.declared.messages.ToSite.TheVariants as To
use Rattle.fed_rules.specs.declared.scenario.Scenario.{Scenario}
use Rattle.fed_rules.specs.CoordPast.{epoch_at}
use Rattle.fed_rules.specs.Runs.{Run}
use Rattle.fed_rules.specs.Scenarios.{home_of, global_program}
use Rattle.fed_rules.specs.Site.{is_over}
use Rattle.fed_rules.specs.SitePast.{SiteHappening, records, epoch, live}
use Rattle.fed_rules.specs.SiteRecords.{Home, doubt_of}
use Rattle.fed_rules.specs.Story.{AtSite, coord_past, past_of, sent_from, happens, story_of}
use Rattle.commit_laws.specs.Records.{IsPrepared}
use Rattle.commit_laws.specs.Seals.{is_prepared, seals, IsPrepareOf}

-- the next command after these makes this line of the site
abbrev pub IsNextAt : Scenario → List Command → SiteId → SiteHappening → Type 0
IsNextAt scenario commands site x = (command : Command) × (happens scenario (story_of scenario commands) command ≡ AtSite site x)

-- a line that seals an attempt takes a Prepare of it that names the site's epoch, and no line before it sealed the attempt
abbrev pub AttemptsAreSealedOnce : Type 0
AttemptsAreSealedOnce =
    (scenario : Scenario) (commands : List Command) (site : SiteId) (home : Home) → home_of scenario site ≡ Some home →
    (x : SiteHappening) → IsNextAt scenario commands site x → (tid : Tid) → seals tid x ≡ true →
    IsPrepareOf tid (epoch home (past_of site (story_of scenario commands))) x.event
    × Each (λ y. seals tid y ≡ false) (past_of site (story_of scenario commands))

-- at most one Prepared record of an attempt is kept
abbrev pub OnePreparedIsKept : Type 0
OnePreparedIsKept =
    (scenario : Scenario) (commands : List Command) (site : SiteId) (home : Home) → home_of scenario site ≡ Some home →
    (tid : Tid) → how_many (is_prepared tid) (records home (past_of site (story_of scenario commands))) ≤ 1

-- and its epoch is the one in which the coordinator knows the attempt at the site
abbrev pub PreparedInTheKnownEpoch : Type 0
PreparedInTheKnownEpoch =
    (scenario : Scenario) (commands : List Command) (site : SiteId) (home : Home) → home_of scenario site ≡ Some home →
    (tid : Tid) (e : ℕ) → Among (IsPrepared tid e) (records home (past_of site (story_of scenario commands))) →
    e ≡ epoch_at (coord_past (story_of scenario commands)) tid site

-- behind a line of the site that takes a decision on an attempt no line seals it
abbrev pub DecidedAreNotSealed : Type 0
DecidedAreNotSealed =
    (scenario : Scenario) (commands : List Command) (site : SiteId) (home : Home) → home_of scenario site ≡ Some home →
    (tid : Tid) (decision : Decision) → Among (λ y. y.event ≡ Ev.Give (To.Decide tid decision)) (past_of site (story_of scenario commands)) →
    (x : SiteHappening) → IsNextAt scenario commands site x → seals tid x ≡ false

-- once the site has sent an acknowledgement of an attempt, it isn't in doubt of it
abbrev pub AcknowledgedAreNotInDoubt : Type 0
AcknowledgedAreNotInDoubt =
    (scenario : Scenario) (commands : List Command) (site : SiteId) (home : Home) → home_of scenario site ≡ Some home →
    (tid : Tid) → In (From.Ack tid) (sent_from site (story_of scenario commands)) →
    doubt_of (records home (past_of site (story_of scenario commands))) tid ≡ None

-- and none of its later lines seals it
abbrev pub AcknowledgedAreNotSealed : Type 0
AcknowledgedAreNotSealed =
    (scenario : Scenario) (commands : List Command) (site : SiteId) (home : Home) → home_of scenario site ≡ Some home →
    (tid : Tid) → In (From.Ack tid) (sent_from site (story_of scenario commands)) →
    (x : SiteHappening) → IsNextAt scenario commands site x → seals tid x ≡ false

-- where a commit decision meets a live run of the attempt, an older message began that run in a later epoch than the one in which the
-- coordinator knows the attempt
abbrev pub CommitsMeetNoLiveRun : Type 0
CommitsMeetNoLiveRun =
    (scenario : Scenario) (commands : List Command) (site : SiteId) (home : Home) → home_of scenario site ≡ Some home →
    (x : SiteHappening) → IsNextAt scenario commands site x → (tid : Tid) → x.event ≡ Ev.Give (To.Decide tid Decided.Commit) →
    (run : Run) → live home (past_of site (story_of scenario commands)) tid ≡ Some run →
    epoch_at (coord_past (story_of scenario commands)) tid site < epoch home (past_of site (story_of scenario commands))

-- a global attempt that is closed at a site, or that the site is in doubt of, has no live run there
abbrev pub ClosedHaveNoLiveRun : Type 0
ClosedHaveNoLiveRun =
    (scenario : Scenario) (commands : List Command) (site : SiteId) (home : Home) → home_of scenario site ≡ Some home →
    (tid : Tid) (program : List Step) → global_program scenario tid.tx ≡ Some program →
    is_over home (past_of site (story_of scenario commands)) tid ≡ true →
    live home (past_of site (story_of scenario commands)) tid ≡ None
