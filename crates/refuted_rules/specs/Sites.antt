-- Rules of a site that look right and aren't.
use Rattle.std.specs.Prelude.{zero, ◌≡◌, true, false, Some, List}
use Rattle.mdb_base.specs.declared.acts.Step.{Step}
use Rattle.mdb_base.specs.declared.names.SiteId.{SiteId}
use Rattle.mdb_base.specs.declared.names.Tid.{Tid}
use Rattle.mdb_base.specs.declared.replies.Reply.TheVariants as Reply_is
use Rattle.fed_rules.specs.declared.answers.Answer.{Answer}
use Rattle.fed_rules.specs.declared.answers.Answer.TheVariants as Say
use Rattle.fed_rules.specs.declared.commands.Command.{Command}
use Rattle.fed_rules.specs.declared.events.SiteEvent.{SiteEvent}
use Rattle.fed_rules.specs.declared.events.SiteEvent.TheVariants as Ev
use Rattle.fed_rules.specs.declared.messages.ToSite.TheVariants as To
use Rattle.fed_rules.specs.declared.scenario.Scenario.{Scenario}
use Rattle.fed_rules.specs.Happenings.{is_down}
use Rattle.fed_rules.specs.Runs.{Run}
use Rattle.fed_rules.specs.Scenarios.{home_of, global_program}
use Rattle.fed_rules.specs.Site.{first_work, is_over, site_line}
use Rattle.fed_rules.specs.SitePast.{SiteHappening, SitePast, epoch_start, journal, live, records}
use Rattle.fed_rules.specs.SiteRecords.{Home, site_rows}
use Rattle.fed_rules.specs.SiteSums.{site_sum}
use Rattle.fed_rules.specs.Story.{past_of, story_of}
use Rattle.commit_laws.specs.WrongRules.{Rules, right_rules, story_by}

-- a site that begins a run at each first act that it would answer as unknown
abbrev pub begun_again : Home → SitePast → SiteEvent → SiteHappening → Answer → SiteHappening
begun_again home past (Ev.Give (To.Work tid zero zero act)) x (Say.Did told Reply_is.Unknown) = first_work home past (To.Work tid zero zero act) tid zero act
begun_again home past event x answer = x

abbrev pub closed_attempts_begin : Rules
closed_attempts_begin =
    record right_rules { site = λ home past event. (let x = site_line home past event in begun_again home past event x x.answer) }

-- by these rules some global attempt that is closed at a site has a live run there
pub record LeavesAClosedRunLive (rules : Rules) : Type 0 where
  pub scenario : Scenario
  pub commands : List Command  -- the last one first
  pub site : SiteId
  pub home : Home
  pub declared : home_of scenario site ≡ Some home
  pub tid : Tid
  pub program : List Step
  pub roams : global_program scenario tid.tx ≡ Some program
  pub over : is_over home (past_of site (story_by rules scenario commands)) tid ≡ true
  pub run : Run
  pub still_live : live home (past_of site (story_by rules scenario commands)) tid ≡ Some run

-- of some story the records that stand on a site's disk, read without the Checkpoint among them, don't say what all its records say
pub record MissesWhatWasTrimmed : Type 0 where
  pub scenario : Scenario
  pub commands : List Command  -- the last one first
  pub site : SiteId
  pub home : Home
  pub declared : home_of scenario site ≡ Some home
  pub missed : site_sum home (journal home (past_of site (story_of scenario commands))) ≡ site_sum home (records home (past_of site (story_of scenario commands))) → ⊥

-- of some story a site that is up hasn't the rows any more that its epoch started from
pub record LeavesItsFirstRows : Type 0 where
  pub scenario : Scenario
  pub commands : List Command  -- the last one first
  pub site : SiteId
  pub home : Home
  pub declared : home_of scenario site ≡ Some home
  pub up : is_down (past_of site (story_of scenario commands)) ≡ false
  pub moved : (epoch_start home (past_of site (story_of scenario commands))).rows ≡ site_rows home (records home (past_of site (story_of scenario commands))) → ⊥
