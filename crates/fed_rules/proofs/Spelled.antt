-- Short names in which the worked examples are written down: sites, transactions, commands and lines.
use Rattle.std.specs.Prelude.{ℕ, true, false, Some, None, List, [], map, reverse, take as first}
use Rattle.mdb_base.specs.declared.acts.Act.{Act}
use Rattle.mdb_base.specs.declared.acts.Act.TheVariants as Does
use Rattle.mdb_base.specs.declared.acts.Step.{Step}
use Rattle.mdb_base.specs.declared.names.Engine.{Engine}
use Rattle.mdb_base.specs.declared.names.Key.{Key}
use Rattle.mdb_base.specs.declared.names.SiteId.{SiteId}
use Rattle.mdb_base.specs.declared.names.SiteTicket.{SiteTicket}
use Rattle.mdb_base.specs.declared.names.Tid.{Tid}
use Rattle.mdb_base.specs.declared.names.Tx.{Tx}
use Rattle.mdb_base.specs.declared.replies.Edge.{Edge}
use Rattle.mdb_base.specs.declared.rows.Put.{Put}
use Rattle.mdb_base.specs.declared.rows.SiteRows.{SiteRows}
use Rattle.presumptions.specs.declared.Decision.{Decision}
use Rattle.presumptions.specs.declared.Protocol.{Protocol}
use Rattle.order_laws.specs.Tickets.{Ticketed}
use Rattle.fed_rules.specs.declared.answers.Answer.{Answer}
use Rattle.fed_rules.specs.declared.commands.Command.{Command}
use Rattle.fed_rules.specs.declared.commands.Command.TheVariants as Cmd
use Rattle.fed_rules.specs.declared.commands.Line.{Line}
use Rattle.fed_rules.specs.declared.commands.Place.{Place}
use Rattle.fed_rules.specs.declared.report.Outcome.{Outcome}
use Rattle.fed_rules.specs.declared.report.TxReads.{TxReads}
use Rattle.fed_rules.specs.declared.scenario.ItemLine.{ItemLine}
use Rattle.fed_rules.specs.declared.scenario.Scenario.{Scenario}
use Rattle.fed_rules.specs.declared.scenario.SiteLine.{SiteLine}
use Rattle.fed_rules.specs.declared.scenario.TxLine.{TxLine}

abbrev pub at : ℕ → SiteId
at s = record { 0 = s }

abbrev pub key : ℕ → Key
key k = record { 0 = k }

abbrev pub tx : ℕ → Tx
tx t = record { 0 = t }

abbrev pub tid : ℕ → ℕ → Tid
tid t a = record { tx = tx t; attempt = a }

abbrev pub edge : Tid → Tid → ℕ → Edge
edge from to s = record { from = from; to = to; site = at s }

abbrev pub get : ℕ → Act
get k = Does.Get (key k)

abbrev pub set : ℕ → ℕ → Act
set k value = Does.Set (key k) value

abbrev pub add : ℕ → ℕ → ℕ → Act
add k register amount = Does.Add (key k) register amount

abbrev pub site : ℕ → Engine → Protocol → SiteLine
site s engine protocol = record { site = at s; engine = engine; protocol = protocol }

abbrev pub item : ℕ → ℕ → ℕ → ItemLine
item s k value = record { site = at s; put = record { key = key k; value = value } }

abbrev pub step_at : ℕ → Act → Step
step_at s act = record { site = at s; act = act }

abbrev pub local : ℕ → ℕ → List Act → TxLine
local t s acts = record { tx = tx t; home = Some (at s); program = map (step_at s) acts }

abbrev pub global : ℕ → List Step → TxLine
global t steps = record { tx = tx t; home = None; program = steps }

-- a scenario with the default clients, turns, tries and policy, and no links or stops
abbrev pub scenario_of : List SiteLine → List ItemLine → List TxLine → Scenario
scenario_of sites items transactions =
    record {
      sites = sites;
      items = items;
      transactions = transactions;
      clients = 4;
      turns = 1000;
      tries = 4;
      links = [];
      stops = [];
      conservative = false;
    }

-- the scenario with the conservative policy
abbrev pub conservatively : Scenario → Scenario
conservatively scenario = record scenario { conservative = true }

abbrev pub begin : ℕ → Command
begin t = Cmd.Begin (tx t)

abbrev pub step : ℕ → Command
step t = Cmd.Step (tx t)

abbrev pub commit : ℕ → Command
commit t = Cmd.Commit (tx t)

abbrev pub abort : ℕ → Command
abort t = Cmd.Abort (tx t)

abbrev pub fate : ℕ → Command
fate t = Cmd.Fate (tx t)

abbrev pub go : ℕ → Command
go t = Cmd.Go (tx t)

abbrev pub again : Tid → Command
again attempt = Cmd.Again attempt

abbrev pub late : Tid → Command
late attempt = Cmd.Late attempt

abbrev pub give : ℕ → ℕ → Command
give s i = Cmd.Give (at s) i

abbrev pub take : ℕ → ℕ → Command
take s i = Cmd.Take (at s) i

abbrev pub ask : ℕ → Tid → Command
ask s attempt = Cmd.Ask (at s) attempt

abbrev pub drop : ℕ → Tid → Command
drop s attempt = Cmd.Drop (at s) attempt

abbrev pub halt : ℕ → ℕ → Command
halt actor cut = Cmd.Halt actor cut

abbrev pub trip : ℕ → ℕ → ℕ → Command
trip actor calls cut = Cmd.Trip actor calls cut

abbrev pub back : ℕ → Command
back actor = Cmd.Back actor

abbrev pub check : ℕ → Command
check actor = Cmd.Check actor

abbrev pub place : ℕ → ℕ → Place
place s i = record { site = at s; place = i }

abbrev pub line : Command → Answer → List Place → Line
line command answer sends = record { command = command; answer = answer; sends = sends }

abbrev pub entry : ℕ → ℕ → Put
entry k value = record { key = key k; value = value }

abbrev pub read_by : Tid → List ℕ → TxReads
read_by attempt values = record { tid = attempt; values = values }

abbrev pub ended : Tid → Decision → Outcome
ended attempt decision = record { tid = attempt; decision = decision }

abbrev pub table : ℕ → List Put → SiteRows
table s rows = record { site = at s; rows = rows }

abbrev pub ticket : ℕ → ℕ → SiteTicket
ticket s n = record { site = at s; ticket = n }

abbrev pub voted : Tid → List SiteTicket → Ticketed
voted attempt tickets = record { tid = attempt; tickets = tickets }

-- the first so many lines, the last one first
abbrev pub before : ℕ → List Line → List Line
before n lines = reverse (first n lines)
