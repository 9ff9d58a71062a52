-- What a line that reads well keeps, and what a draft keeps of all its lines.
use Rattle.std.specs.Prelude.{◌<◌, ◌≤◌, Bool, ◌&&◌, nat_le, Option, List, length, IsTrue}
use Rattle.mdb_base.specs.declared.names.SiteId.{SiteId}
use Rattle.mdb_base.specs.declared.names.Tid.{Tid}
use Rattle.mdb_base.specs.declared.names.Tx.{Tx}
use Rattle.mdb_base.specs.declared.acts.Step.{Step}
use Rattle.mdb_base.specs.Words.{each_of}
use Rattle.fed_rules.specs.declared.commands.Command.{Command}
use Rattle.fed_rules.specs.declared.commands.Command.TheVariants as command
use Rattle.fed_rules.specs.declared.scenario.SiteLine.{SiteLine}
use Rattle.fed_rules.specs.Plans.{IsScenario, is_between, is_declared, is_actor, is_in_place, is_link, is_stop}
use Rattle.scenario_text.specs.declared.draft.Draft.{Draft}
use Rattle.scenario_text.specs.declared.entry.Entry.{Entry}
use Rattle.scenario_text.specs.declared.entry.Entry.TheVariants as says
use Rattle.scenario_text.specs.Drafts.{most_commands, plan_of}

-- whether a transaction or an attempt is in its range
abbrev pub is_tx : Tx → Bool
is_tx tx = is_between 1 1024 tx.0

abbrev pub is_tid : Tid → Bool
is_tid tid = is_tx tid.tx && nat_le tid.attempt 31

-- whether a command's numbers are in their ranges and its site or actor is declared
abbrev pub is_command : List SiteLine → Command → Bool
is_command sites (command.Begin tx) = is_tx tx
is_command sites (command.Step tx) = is_tx tx
is_command sites (command.Commit tx) = is_tx tx
is_command sites (command.Abort tx) = is_tx tx
is_command sites (command.Fate tx) = is_tx tx
is_command sites (command.Go tx) = is_tx tx
is_command sites (command.Again tid) = is_tid tid
is_command sites (command.Late tid) = is_tid tid
is_command sites (command.Give site place) = is_declared sites site
is_command sites (command.Take site place) = is_declared sites site
is_command sites (command.Ask site tid) = is_declared sites site && is_tid tid
is_command sites (command.Drop site tid) = is_declared sites site && is_tid tid
is_command sites (command.Halt actor cut) = is_actor sites actor && nat_le cut 65535
is_command sites (command.Trip actor calls cut) = is_actor sites actor && nat_le calls 1000 && nat_le cut 65535
is_command sites (command.Back actor) = is_actor sites actor
is_command sites (command.Check actor) = is_actor sites actor

-- a transaction's number is in its range, it has a step, and its steps stand where they may
pub record IsTransaction (sites : List SiteLine) (tx : Tx) (home : Option SiteId) (steps : List Step) : Type 0 where
  pub number : IsTrue (is_tx tx)
  pub places : IsTrue (each_of (is_in_place sites home) steps)
  pub some : 0 < length steps

-- what a line keeps behind these sites
abbrev pub IsEntry : List SiteLine → Entry → Type 0
IsEntry sites (says.Site line) = IsTrue (is_between 1 8 line.site.0)
IsEntry sites (says.Item line) = IsTrue (is_between 1 8 line.site.0 && is_declared sites line.site)
IsEntry sites (says.Transaction tx home steps) = IsTransaction sites tx home steps
IsEntry sites (says.Clients n) = IsTrue (is_between 1 16 n)
IsEntry sites (says.Turns n) = IsTrue (is_between 1 100000 n)
IsEntry sites (says.Tries n) = IsTrue (is_between 1 16 n)
IsEntry sites (says.Policy conservative) = Unit {0}
IsEntry sites (says.Link line) = IsTrue (is_link sites line)
IsEntry sites (says.Stop line) = IsTrue (nat_le line.actor 8 && is_stop sites line)
IsEntry sites says.Commands = Unit {0}
IsEntry sites (says.Command c) = IsTrue (is_command sites c)

-- commands in their ranges, at declared sites and actors, and not too many
pub record AreCommands (sites : List SiteLine) (commands : List Command) : Type 0 where
  pub range : IsTrue (each_of (is_command sites) commands)
  pub few : length commands ≤ most_commands

-- what a draft keeps: it makes a scenario, and commands that fit it
pub record IsDraft (d : Draft) : Type 0 where
  pub scenario : IsScenario (plan_of d)
  pub commands : AreCommands d.sites d.commands
