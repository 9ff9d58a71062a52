-- What finishing a transaction alone adds to the commands, message by message.
use Rattle.std.specs.Prelude.{◌≤◌, ◌+◌, ◌^◌, nat_lt, Bool, List, ◌∷◌, length}
use Rattle.fed_rules.specs.declared.commands.Command.{Command}
use Rattle.fed_rules.specs.declared.commands.Command.TheVariants as Cmd
use Rattle.fed_rules.specs.declared.commands.Place.{Place}
use Rattle.fed_rules.specs.declared.scenario.Scenario.{Scenario}
use Rattle.fed_rules.specs.declared.scenario.TxLine.{TxLine}
use Rattle.fed_rules.specs.Closing.{for_each, last_sends, one_alone, sent_next, taken}
use Rattle.fed_rules.specs.Sessions.{fresh}
use Rattle.fed_rules.specs.Story.{story_of}
use Rattle.closing_laws.specs.AtRest.{AllUp}
use Rattle.closing_laws.specs.Finished.{AllFinished, HaveAttemptsLeft}
use Rattle.fed_world.specs.FreshWorlds.{Rests}

-- a message is given, and what the site sends is taken
abbrev pub delivered_next : Place → Scenario → List Command → List Command
delivered_next place scenario commands = taken (fresh scenario) (Cmd.Give place.site place.place ∷ commands)

-- the places of what the coordinator sends at that
abbrev pub queue_after : Scenario → Place → List Command → List Place
queue_after scenario place commands =
    sent_next scenario (delivered_next place scenario commands) (last_sends (fresh scenario) (Cmd.Give place.site place.place ∷ commands))

-- each of these transactions alone
abbrev pub all_alone : List TxLine → Scenario → List Command → List Command
all_alone lines scenario = for_each (λ line. one_alone scenario line line.home) lines

-- every actor is up, and there are few enough commands that the numbers of those that finish each transaction alone fit: at most 263,168
pub record CanFinish (scenario : Scenario) (commands : List Command) : Type 0 where
  pub up : AllUp (story_of scenario commands)
  pub few : length commands + 2 ^ 20 ≤ 2 ^ 30

-- the session is at rest, and of no transaction without a commit all attempts were begun
pub record CanAllCommit (scenario : Scenario) (commands : List Command) : Type 0 where
  pub rests : Rests scenario commands
  pub left : HaveAttemptsLeft scenario (story_of scenario commands)

-- each transaction has a commit, and the session is at rest
abbrev pub AllCommit : Scenario → List Command → Type 0
AllCommit scenario commands = AllFinished scenario (story_of scenario commands)

-- the order of transactions is that of their numbers
abbrev pub before : TxLine → TxLine → Bool
before a b = nat_lt a.tx.0 b.tx.0
