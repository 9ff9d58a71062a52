-- Rules that look right and aren't: a coordinator without a ticket graph, and the order by decision time.
use Rattle.std.specs.Prelude.{Option, Some, None, List, ◌∷◌}
use Rattle.mdb_base.specs.declared.names.Tid.{Tid}
use Rattle.mdb_base.specs.Words.{found}
use Rattle.presumptions.specs.declared.Decision.TheVariants as Decided
use Rattle.presumptions.specs.declared.Participant.{Participant}
use Rattle.fed_rules.specs.declared.answers.Answer.{Answer}
use Rattle.fed_rules.specs.declared.answers.Answer.TheVariants as Say
use Rattle.fed_rules.specs.declared.answers.Cause.TheVariants as For
use Rattle.fed_rules.specs.declared.commands.Command.{Command}
use Rattle.fed_rules.specs.declared.events.CoordEvent.{CoordEvent}
use Rattle.fed_rules.specs.declared.events.CoordEvent.TheVariants as Ev
use Rattle.fed_rules.specs.declared.messages.FromSite.TheVariants as From
use Rattle.fed_rules.specs.declared.scenario.Scenario.{Scenario}
use Rattle.fed_rules.specs.Coord.{coord_line, commits_it, vote_tickets}
use Rattle.fed_rules.specs.CoordPast.{CoordHappening, CoordPast, message_tid, participants, oldest_first}
use Rattle.fed_rules.specs.Happenings.{quiet}
use Rattle.fed_rules.specs.Headline.{Headline}
use Rattle.fed_rules.specs.Orders.{IsMerge}
use Rattle.fed_rules.specs.Plans.{IsScenario}
use Rattle.fed_rules.specs.Story.{Story, Happened, AtSite, AtCoordinator, Nowhere, story_of}
use Rattle.commit_laws.specs.WrongRules.{Rules, right_rules, story_by}

-- the line, or where it refuses an attempt by a cycle its commit
abbrev pub without_graph : List Participant → CoordPast → CoordEvent → CoordHappening → Answer → CoordHappening
without_graph protocols past (Ev.Take site (From.Vote tid vote)) x (Say.Decides decision (Some (For.Cycle edges)) forgets) =
    let event = Ev.Take site (From.Vote tid vote) in
    commits_it protocols past event tid (vote_tickets (quiet event Say.Voted ∷ past) tid (participants protocols past tid))
without_graph protocols past event x answer = x

-- a coordinator that commits every attempt for which all sites voted yes
abbrev pub commits_without_graph : Rules
commits_without_graph =
    record right_rules { coordinator = λ protocols policy past event. (let x = coord_line protocols policy past event in without_graph protocols past event x x.answer) }

-- by these rules a story has no order for all sites
pub record HasNoOrder (rules : Rules) : Type 0 where
  pub scenario : Scenario
  pub good : IsScenario scenario
  pub commands : List Command  -- the last one first
  pub none : (order : List Tid) → IsMerge scenario (story_by rules scenario commands) order → ⊥

-- the attempt that the line commits, a local one at its site or a global one at the coordinator
abbrev pub commits_in : CoordEvent → Answer → Option Tid
commits_in (Ev.Take site message) (Say.Decides Decided.Commit cause forgets) = Some (message_tid message)
commits_in event answer = None

abbrev pub sealed_in : Answer → Option Tid
sealed_in (Say.Sealed tid number) = Some tid
sealed_in answer = None

abbrev pub decided_in : Happened → Option Tid
decided_in (AtSite site x) = sealed_in x.answer
decided_in (AtCoordinator x) = commits_in x.event x.answer
decided_in (Nowhere answer) = None

-- the committed attempts in the order of the lines that decide them
abbrev pub by_decision_time : Scenario → Story → List Tid
by_decision_time scenario story = oldest_first (found (λ told. decided_in told.happened) story)

-- of some story this isn't an order for all sites
pub record IsNoMerge (order : Scenario → Story → List Tid) : Type 0 where
  pub scenario : Scenario
  pub good : IsScenario scenario
  pub commands : List Command  -- the last one first
  pub wrong : IsMerge scenario (story_of scenario commands) (order scenario (story_of scenario commands)) → ⊥

-- by these rules the headline doesn't hold of some story
pub record BreaksTheHeadline (rules : Rules) : Type 0 where
  pub scenario : Scenario
  pub good : IsScenario scenario
  pub commands : List Command  -- the last one first
  pub broken : Headline scenario (story_by rules scenario commands) → ⊥
