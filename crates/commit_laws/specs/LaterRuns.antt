-- A later run of an attempt that is finished at a site: a repeated old operation may begin one behind a restart, and it comes to nothing.
use Rattle.std.specs.Prelude.{◌≡◌, ℕ, Bool, true, false, ◌||◌, Some, List, [], ◌∷◌, ◌++◌}
use Rattle.mdb_base.specs.declared.acts.Step.{Step}
use Rattle.mdb_base.specs.declared.names.SiteId.{SiteId}
use Rattle.mdb_base.specs.declared.names.Tid.{Tid}
use Rattle.mdb_base.specs.Words.{Among, some_of}
use Rattle.presumptions.specs.declared.Decision.{Decision}
use Rattle.fed_rules.specs.declared.commands.Command.{Command}
use Rattle.fed_rules.specs.declared.events.SiteEvent.TheVariants as Ev
use Rattle.fed_rules.specs.declared.messages.ToSite.TheVariants as To
use Rattle.fed_rules.specs.declared.scenario.Scenario.{Scenario}
use Rattle.fed_rules.specs.Runs.{Run, Aborts}
use Rattle.fed_rules.specs.Scenarios.{home_of, global_program}
use Rattle.fed_rules.specs.Site.{unheld}
use Rattle.fed_rules.specs.SitePast.{SiteHappening, SitePast, records, decides_on, live}
use Rattle.fed_rules.specs.SiteRecords.{Home}
use Rattle.fed_rules.specs.Story.{past_of, story_of}
use Rattle.commit_laws.specs.Records.{IsPrepared}
use Rattle.commit_laws.specs.SealLaws.{IsNextAt}
use Rattle.commit_laws.specs.Seals.{seals}

-- whether an attempt is finished at a site: a line of it took a decision on the attempt, as each line that settles it does, or sealed it
abbrev pub is_finished : SitePast → Tid → Bool
is_finished past tid = some_of (λ y. decides_on tid y.event || seals tid y) past

-- no later line seals it
abbrev pub FinishedAreNotSealed : Type 0
FinishedAreNotSealed =
    (scenario : Scenario) (commands : List Command) (site : SiteId) (home : Home) → home_of scenario site ≡ Some home →
    (x : SiteHappening) → IsNextAt scenario commands site x → (tid : Tid) →
    is_finished (past_of site (story_of scenario commands)) tid ≡ true → seals tid x ≡ false

-- the Prepared records of it that are kept were kept when it was finished: a later run leaves none, by which it would stand in an order
abbrev pub LaterRunsLeaveNoRecord : Type 0
LaterRunsLeaveNoRecord =
    (scenario : Scenario) (commands : List Command) (site : SiteId) (home : Home) → home_of scenario site ≡ Some home →
    (newer older : SitePast) → past_of site (story_of scenario commands) ≡ newer ++ older → (tid : Tid) →
    is_finished older tid ≡ true → (e : ℕ) → Among (IsPrepared tid e) (records home (newer ++ older)) →
    Among (IsPrepared tid e) (records home older)

-- a decision on a global attempt that meets a live run of it, so of a later run too, aborts the run, is answered `unheld` and writes nothing
abbrev pub LiveRunsAreUnheld : Type 0
LiveRunsAreUnheld =
    (scenario : Scenario) (commands : List Command) (site : SiteId) (home : Home) → home_of scenario site ≡ Some home →
    (x : SiteHappening) → IsNextAt scenario commands site x → (tid : Tid) (program : List Step) → global_program scenario tid.tx ≡ Some program →
    (run : Run) → live home (past_of site (story_of scenario commands)) tid ≡ Some run →
    (decision : Decision) → x.event ≡ Ev.Give (To.Decide tid decision) →
    x ≡ unheld home tid decision (Aborts tid ∷ [])
