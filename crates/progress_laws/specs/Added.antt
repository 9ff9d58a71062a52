-- What closing a session adds to its commands, and finishing each of its transactions alone.
use Rattle.std.specs.Prelude.{◌≡◌, Bool, true, false, List, ◌++◌}
use Rattle.mdb_base.specs.Words.{Each}
use Rattle.fed_rules.specs.declared.commands.Command.{Command}
use Rattle.fed_rules.specs.declared.commands.Command.TheVariants as Cmd
use Rattle.fed_rules.specs.declared.scenario.Scenario.{Scenario}
use Rattle.fed_rules.specs.Closing.{closed, finished_alone}

-- the commands with others in front, which are the later ones; of each of these the test holds
pub record Adds (test : Command → Bool) (whole commands : List Command) : Type 0 where
  pub front : List Command
  pub is : whole ≡ front ++ commands
  pub each : Each (λ command. test command ≡ true) front

-- whether closing makes such commands
abbrev pub is_of_closing : Command → Bool
is_of_closing (Cmd.Trip actor calls cut) = true
is_of_closing (Cmd.Back actor) = true
is_of_closing (Cmd.Late tid) = true
is_of_closing (Cmd.Abort tx) = true
is_of_closing (Cmd.Drop site tid) = true
is_of_closing (Cmd.Again tid) = true
is_of_closing (Cmd.Give site place) = true
is_of_closing (Cmd.Take site place) = true
is_of_closing (Cmd.Ask site tid) = true
is_of_closing command = false

-- whether a client makes such commands, or they pass a message on
abbrev pub is_of_clients : Command → Bool
is_of_clients (Cmd.Begin tx) = true
is_of_clients (Cmd.Step tx) = true
is_of_clients (Cmd.Commit tx) = true
is_of_clients (Cmd.Go tx) = true
is_of_clients (Cmd.Give site place) = true
is_of_clients (Cmd.Take site place) = true
is_of_clients command = false

abbrev pub ClosingAddsItsOwn : Type 0
ClosingAddsItsOwn = (scenario : Scenario) (commands : List Command) → Adds is_of_closing (closed scenario commands) commands

abbrev pub FinishingAddsItsOwn : Type 0
FinishingAddsItsOwn = (scenario : Scenario) (commands : List Command) → Adds is_of_clients (finished_alone scenario commands) commands
