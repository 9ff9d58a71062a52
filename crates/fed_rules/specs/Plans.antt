-- Scenarios: the lists of their lines with the settings of a run, and what every scenario keeps of them.
-- Lists stand in the order of their lines. Actor 0 is the coordinator, and a site is an actor by its number.
use Rattle.std.specs.Prelude.{ℕ, ◌≤◌, Bool, true, false, not, ◌&&◌, ◌||◌, ◌==◌, nat_le, Option, Some, None, List, [], ◌∷◌, length, IsTrue}
use Rattle.mdb_base.specs.declared.names.SiteId.{SiteId}
use Rattle.mdb_base.specs.declared.names.Fate.{Fate}
use Rattle.mdb_base.specs.declared.names.Fate.TheVariants.{Pass, Drop, Twice, Hold}
use Rattle.mdb_base.specs.declared.acts.Step.{Step}
use Rattle.mdb_base.specs.Names.{same_site, same_key, same_tx}
use Rattle.mdb_base.specs.Programs.{IsProgram}
use Rattle.mdb_base.specs.Words.{some_of, each_of, how_many, Each}
use Rattle.fed_rules.specs.declared.scenario.SiteLine.{SiteLine}
use Rattle.fed_rules.specs.declared.scenario.ItemLine.{ItemLine}
use Rattle.fed_rules.specs.declared.scenario.TxLine.{TxLine}
use Rattle.fed_rules.specs.declared.scenario.LinkLine.{LinkLine}
use Rattle.fed_rules.specs.declared.scenario.StopLine.{StopLine}

-- the lists of a scenario, and what a run is given
pub record Plan : Type 0 where
  pub sites : List SiteLine
  pub items : List ItemLine
  pub transactions : List TxLine
  pub clients : ℕ
  pub turns : ℕ
  pub tries : ℕ
  pub links : List LinkLine
  pub stops : List StopLine
  pub conservative : Bool

-- the most first rows of a site, link lines in all, and stop lines of an actor
abbrev pub most_items : ℕ
most_items = 4096

abbrev pub most_links : ℕ
most_links = 4096

abbrev pub most_stops : ℕ
most_stops = 64

-- whether the number is one from low to high, both among them
abbrev pub is_between : (low high n : ℕ) → Bool
is_between low high n = nat_le low n && nat_le n high

-- whether no two items of the list are alike by the test
abbrev pub all_differ : {A : Type 0} → (A → A → Bool) → List A → Bool
all_differ alike [] = true
all_differ alike (x ∷ xs) = not (some_of (alike x) xs) && all_differ alike xs

-- whether a line is of this site
abbrev pub declares : SiteId → SiteLine → Bool
declares site line = same_site line.site site

abbrev pub has_site : SiteId → ItemLine → Bool
has_site site line = same_site line.site site

-- whether a line is of this actor
abbrev pub stops_actor : ℕ → StopLine → Bool
stops_actor actor line = line.actor == actor

-- whether the site is declared
abbrev pub is_declared : List SiteLine → SiteId → Bool
is_declared sites site = some_of (declares site) sites

-- whether the actor is the coordinator or a declared site
abbrev pub is_actor : List SiteLine → ℕ → Bool
is_actor sites actor = (actor == 0) || is_declared sites (record { 0 = actor })

-- whether both lines are of one site
abbrev pub one_site : SiteLine → SiteLine → Bool
one_site a b = same_site a.site b.site

-- whether both lines are of one row
abbrev pub one_row : ItemLine → ItemLine → Bool
one_row a b = same_site a.site b.site && same_key a.put.key b.put.key

-- whether both lines are of one transaction
abbrev pub one_transaction : TxLine → TxLine → Bool
one_transaction a b = same_tx a.tx b.tx

-- whether both are channels to a site, or both from one
abbrev pub same_way : Bool → Bool → Bool
same_way true to = to
same_way false to = not to

-- whether both lines are of one message of one channel
abbrev pub one_message : LinkLine → LinkLine → Bool
one_message a b = same_way a.to b.to && same_site a.site b.site && (a.place == b.place)

-- whether a step of a transaction with this home stands where it may: at home, or for a global at a declared site
abbrev pub is_in_place : List SiteLine → Option SiteId → Step → Bool
is_in_place sites None step = is_declared sites step.site
is_in_place sites (Some home) step = is_declared sites home && same_site step.site home

-- whether the numbers of a line are in their ranges and its sites are declared
abbrev pub is_transaction : List SiteLine → TxLine → Bool
is_transaction sites line = is_between 1 1024 line.tx.0 && each_of (is_in_place sites line.home) line.program

abbrev pub is_fate : Fate → Bool
is_fate Pass = true
is_fate Drop = true
is_fate Twice = true
is_fate (Hold messages) = is_between 1 64 messages

abbrev pub is_link : List SiteLine → LinkLine → Bool
is_link sites line = is_declared sites line.site && nat_le line.place 65535 && is_fate line.fate

abbrev pub is_stop : List SiteLine → StopLine → Bool
is_stop sites line = is_actor sites line.actor && is_between 1 1000 line.calls && nat_le line.cut 65535

-- sites in their range, each once
pub record AreSites (sites : List SiteLine) : Type 0 where
  pub range : IsTrue (each_of (λ line. is_between 1 8 line.site.0) sites)
  pub differ : IsTrue (all_differ one_site sites)

-- first rows at declared sites, each row once, and not too many at a site
pub record AreItems (sites : List SiteLine) (items : List ItemLine) : Type 0 where
  pub declared : IsTrue (each_of (λ line. is_declared sites line.site) items)
  pub differ : IsTrue (all_differ one_row items)
  pub few : (site : SiteId) → how_many (has_site site) items ≤ most_items

-- programs at declared sites, those of locals at their homes, each transaction once
pub record AreTransactions (sites : List SiteLine) (transactions : List TxLine) : Type 0 where
  pub in_place : IsTrue (each_of (is_transaction sites) transactions)
  pub differ : IsTrue (all_differ one_transaction transactions)
  pub programs : Each (λ line. IsProgram line.program) transactions

-- fates of messages at declared sites, each message once, and not too many
pub record AreLinks (sites : List SiteLine) (links : List LinkLine) : Type 0 where
  pub range : IsTrue (each_of (is_link sites) links)
  pub differ : IsTrue (all_differ one_message links)
  pub few : length links ≤ most_links

-- stops of the coordinator and of declared sites, not too many of an actor
pub record AreStops (sites : List SiteLine) (stops : List StopLine) : Type 0 where
  pub range : IsTrue (each_of (is_stop sites) stops)
  pub few : (actor : ℕ) → how_many (stops_actor actor) stops ≤ most_stops

-- what every scenario keeps: its numbers are in their ranges, its lines name declared sites, nothing stands twice, and no limit is passed
pub record IsScenario (plan : Plan) : Type 0 where
  pub sites : AreSites plan.sites
  pub items : AreItems plan.sites plan.items
  pub transactions : AreTransactions plan.sites plan.transactions
  pub clients : IsTrue (is_between 1 16 plan.clients)
  pub turns : IsTrue (is_between 1 100000 plan.turns)
  pub tries : IsTrue (is_between 1 16 plan.tries)
  pub links : AreLinks plan.sites plan.links
  pub stops : AreStops plan.sites plan.stops
