-- What progress is possible from wherever a session stands: every transaction can still commit, and a doubt can be ended.
use Rattle.std.specs.Prelude.{ℕ, ◌+◌, ◌≤◌, ◌≡◌, ◌⊎◌, false, Some, None, List, ◌∷◌, ◌++◌, length}
use Rattle.mdb_base.specs.declared.names.SiteId.{SiteId}
use Rattle.mdb_base.specs.declared.names.Tid.{Tid}
use Rattle.presumptions.specs.declared.Decision.{Decision}
use Rattle.fed_rules.specs.declared.answers.Answer.TheVariants as Say
use Rattle.fed_rules.specs.declared.commands.Command.{Command}
use Rattle.fed_rules.specs.declared.commands.Command.TheVariants as Cmd
use Rattle.fed_rules.specs.declared.scenario.Scenario.{Scenario}
use Rattle.fed_rules.specs.CoordPast as Coordinator
use Rattle.fed_rules.specs.CoordPast.{is_open}
use Rattle.fed_rules.specs.Endings.{outcome_in}
use Rattle.fed_rules.specs.Happenings.{is_down}
use Rattle.fed_rules.specs.Plans.{IsScenario}
use Rattle.fed_rules.specs.Scenarios.{home_of}
use Rattle.fed_rules.specs.SitePast.{records, trip}
use Rattle.fed_rules.specs.SiteRecords.{Held, Home, doubt_of}
use Rattle.fed_rules.specs.Story.{Story, answer_of, coord_past, happens, past_of, sent_from, sent_to, story_of}
use Rattle.closing_laws.specs.Bound.{most_closing}
use Rattle.closing_laws.specs.Finished.{AllFinished, HaveAttemptsLeft}

-- ---- every transaction

-- the commands that close a session, and then those that finish each of 1,024 transactions: 1,901,586
abbrev pub most_further : ℕ
most_further = most_closing + 263168

-- some further commands, and not too many, leave each transaction with a commit and the session at rest
pub record CanFinish (scenario : Scenario) (commands : List Command) : Type 0 where
  pub more : List Command
  pub few : length more ≤ most_further
  pub finished : AllFinished scenario (story_of scenario (more ++ commands))

-- so it is wherever a session stands in which of each transaction without a commit a further attempt may begin: with actors down, trips armed, messages
-- lost, and attempts live, in doubt and undecided
abbrev pub EverySessionCanFinish : Type 0
EverySessionCanFinish =
    (scenario : Scenario) → IsScenario scenario → (commands : List Command) → HaveAttemptsLeft scenario (story_of scenario commands) → CanFinish scenario commands

-- ---- a doubt

-- the site and the coordinator are up, and no trip of theirs is armed
pub record AreReady (site : SiteId) (story : Story) : Type 0 where
  pub coordinator_up : is_down (coord_past story) ≡ false
  pub coordinator_untripped : Coordinator.trip (coord_past story) ≡ None
  pub site_up : is_down (past_of site story) ≡ false
  pub site_untripped : trip (past_of site story) ≡ None

-- the site asks about the attempt; the coordinator takes the inquiry; and the site is given the answer
abbrev pub asked : SiteId → Tid → List Command → List Command
asked site tid commands = Cmd.Ask site tid ∷ commands

abbrev pub taken : Scenario → SiteId → Tid → List Command → List Command
taken scenario site tid commands = Cmd.Take site (length (sent_from site (story_of scenario commands))) ∷ asked site tid commands

abbrev pub answer_given : Scenario → SiteId → Tid → List Command → List Command
answer_given scenario site tid commands =
    Cmd.Give site (length (sent_to site (story_of scenario (asked site tid commands)))) ∷ taken scenario site tid commands

-- the last one of the three is answered that the attempt settles, by its outcome, and behind it the site isn't in doubt of it
pub record EndsDoubt (scenario : Scenario) (home : Home) (tid : Tid) (commands : List Command) : Type 0 where
  pub decision : Decision
  pub settles : answer_of (happens scenario (story_of scenario (taken scenario home.site tid commands))
      (Cmd.Give home.site (length (sent_to home.site (story_of scenario (asked home.site tid commands)))))) ≡ Say.Settles tid decision
  pub outcome : decision ≡ outcome_in (story_of scenario (answer_given scenario home.site tid commands)) tid
  pub settled : doubt_of (records home (past_of home.site (story_of scenario (answer_given scenario home.site tid commands)))) tid ≡ None

-- so it is of each attempt that a site is in doubt of, unless the coordinator hasn't decided it yet, whatever else is down, lost or on its way
abbrev pub DoubtsEndInThree : Type 0
DoubtsEndInThree =
    (scenario : Scenario) (commands : List Command) (home : Home) (tid : Tid) (held : Held) → home_of scenario home.site ≡ Some home
    → AreReady home.site (story_of scenario commands) → is_open (coord_past (story_of scenario commands)) tid ≡ false
    → doubt_of (records home (past_of home.site (story_of scenario commands))) tid ≡ Some held → EndsDoubt scenario home tid commands

-- where the coordinator may not have decided it yet, giving it up comes first: so four commands end any doubt
abbrev pub DoubtsEndInFour : Type 0
DoubtsEndInFour =
    (scenario : Scenario) (commands : List Command) (home : Home) (tid : Tid) (held : Held) → home_of scenario home.site ≡ Some home
    → AreReady home.site (story_of scenario commands) → doubt_of (records home (past_of home.site (story_of scenario commands))) tid ≡ Some held
    → EndsDoubt scenario home tid commands ⊎ EndsDoubt scenario home tid (Cmd.Late tid ∷ commands)
