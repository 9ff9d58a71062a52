-- What the lines so far have said, and whether one more may stand behind them. A line that reads well is refused, in this order,
-- where it names again what an earlier line named, where a register isn't below the number of reads before it, and where a limit is passed.
use Rattle.std.specs.Prelude.{ℕ, true, false, if◌then◌else◌, nat_le, nat_lt, is_some, Option, Some, None, List, [], ◌∷◌, ◌++◌, length, Result, Ok, Err}
use Rattle.mdb_base.specs.declared.names.Tx.{Tx}
use Rattle.mdb_base.specs.declared.names.SiteId.{SiteId}
use Rattle.mdb_base.specs.declared.acts.Step.{Step}
use Rattle.mdb_base.specs.Names.{same_tx}
use Rattle.mdb_base.specs.Programs.{bad_register, most_steps}
use Rattle.mdb_base.specs.Words.{some_of, how_many, or_else}
use Rattle.fed_rules.specs.declared.scenario.SiteLine.{SiteLine}
use Rattle.fed_rules.specs.declared.scenario.ItemLine.{ItemLine}
use Rattle.fed_rules.specs.declared.scenario.TxLine.{TxLine}
use Rattle.fed_rules.specs.declared.scenario.LinkLine.{LinkLine}
use Rattle.fed_rules.specs.declared.scenario.StopLine.{StopLine}
use Rattle.fed_rules.specs.declared.commands.Command.{Command}
use Rattle.fed_rules.specs.Plans.{Plan, most_items, most_links, most_stops, declares, has_site, stops_actor, one_row, one_message}
use Rattle.scenario_text.specs.declared.bad.BadWhy.{BadWhy}
use Rattle.scenario_text.specs.declared.bad.BadWhy.TheVariants.{Repeated, Register, Many}
use Rattle.scenario_text.specs.declared.draft.Draft.{Draft}
use Rattle.scenario_text.specs.declared.entry.Entry.{Entry}
use Rattle.scenario_text.specs.declared.entry.Entry.TheVariants as says
use Rattle.scenario_text.specs.Reads.{◌>>=◌}

-- the most commands of a text
abbrev pub most_commands : ℕ
most_commands = 65536

-- what a run is given where no line says it
abbrev pub default_clients : ℕ
default_clients = 4

abbrev pub default_turns : ℕ
default_turns = 1000

abbrev pub default_tries : ℕ
default_tries = 4

-- nothing was said yet
abbrev pub no_draft : Draft
no_draft = record { sites = []; items = []; transactions = []; clients = None; turns = None; tries = None; conservative = None; links = []; stops = []; in_commands = false; commands = [] }

-- a site once
unfoldable pub with_site : SiteLine → List SiteLine → Result (List SiteLine) BadWhy
with_site line lines = if some_of (declares line.site) lines then Err Repeated else Ok (lines ++ line ∷ [])

-- a row once, and no more rows of a site than it may have
unfoldable pub with_item : ItemLine → List ItemLine → Result (List ItemLine) BadWhy
with_item line lines =
    if some_of (one_row line) lines then Err Repeated
    else if nat_le most_items (how_many (has_site line.site) lines) then Err Many
    else Ok (lines ++ line ∷ [])

-- the steps as a program: its registers hold, and it is short enough
unfoldable pub as_program : List Step → Result (List Step) BadWhy
as_program steps =
    if is_some (bad_register 0 0 steps) then Err Register
    else if nat_lt most_steps (length steps) then Err Many
    else Ok steps

-- a transaction once, with a program
unfoldable pub with_transaction : Tx → Option SiteId → List Step → List TxLine → Result (List TxLine) BadWhy
with_transaction tx home steps lines = if some_of (λ line. same_tx line.tx tx) lines then Err Repeated else (do
  program ← as_program steps
  Ok (lines ++ record { tx = tx; home = home; program = program } ∷ []))

-- a message's fate once, and no more link lines than there may be
unfoldable pub with_link : LinkLine → List LinkLine → Result (List LinkLine) BadWhy
with_link line lines =
    if some_of (one_message line) lines then Err Repeated
    else if nat_le most_links (length lines) then Err Many
    else Ok (lines ++ line ∷ [])

-- no more stop lines of an actor than it may have
unfoldable pub with_stop : StopLine → List StopLine → Result (List StopLine) BadWhy
with_stop line lines = if nat_le most_stops (how_many (stops_actor line.actor) lines) then Err Many else Ok (lines ++ line ∷ [])

-- no more commands than there may be
unfoldable pub with_command : Command → List Command → Result (List Command) BadWhy
with_command command commands = if nat_le most_commands (length commands) then Err Many else Ok (commands ++ command ∷ [])

-- a setting once
unfoldable pub with_setting : {A : Type 0} → A → Option A → Result (Option A) BadWhy
with_setting x None = Ok (Some x)
with_setting x (Some y) = Err Repeated

-- the draft with one line more
unfoldable pub with_entry : Entry → Draft → Result Draft BadWhy
with_entry (says.Site line) d = with_site line d.sites >>= λ lines. Ok (record d { sites = lines })
with_entry (says.Item line) d = with_item line d.items >>= λ lines. Ok (record d { items = lines })
with_entry (says.Transaction tx home steps) d = with_transaction tx home steps d.transactions >>= λ lines. Ok (record d { transactions = lines })
with_entry (says.Clients n) d = with_setting n d.clients >>= λ clients. Ok (record d { clients = clients })
with_entry (says.Turns n) d = with_setting n d.turns >>= λ turns. Ok (record d { turns = turns })
with_entry (says.Tries n) d = with_setting n d.tries >>= λ tries. Ok (record d { tries = tries })
with_entry (says.Policy c) d = with_setting c d.conservative >>= λ conservative. Ok (record d { conservative = conservative })
with_entry (says.Link line) d = with_link line d.links >>= λ lines. Ok (record d { links = lines })
with_entry (says.Stop line) d = with_stop line d.stops >>= λ lines. Ok (record d { stops = lines })
with_entry says.Commands d = Ok (record d { in_commands = true })
with_entry (says.Command command) d = with_command command d.commands >>= λ commands. Ok (record d { commands = commands })

-- the scenario that a draft makes: tickets are taken by the conservative method exactly where a line says so
abbrev pub plan_of : Draft → Plan
plan_of d = record {
  sites = d.sites;
  items = d.items;
  transactions = d.transactions;
  clients = or_else d.clients default_clients;
  turns = or_else d.turns default_turns;
  tries = or_else d.tries default_tries;
  links = d.links;
  stops = d.stops;
  conservative = or_else d.conservative false;
}
