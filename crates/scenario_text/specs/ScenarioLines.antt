-- What a line of a scenario says, by its words. First the count of the words is tested; then word by word from the left each
-- word's form, its number, its range, and whether the site or actor that it names is declared by an earlier line.
use Rattle.std.specs.Prelude.{ℕ, if◌then◌else◌, codes, Some, None, List, Result, Ok, Err}
use Rattle.std.specs.Str.{bytes_eq}
use Rattle.fed_rules.specs.declared.scenario.SiteLine.{SiteLine}
use Rattle.scenario_text.specs.declared.bad.BadWhy.{BadWhy}
use Rattle.scenario_text.specs.declared.bad.BadWhy.TheVariants.{Word}
use Rattle.scenario_text.specs.declared.entry.Entry.{Entry}
use Rattle.scenario_text.specs.declared.entry.Entry.TheVariants as says
use Rattle.scenario_text.specs.Names.{number_in, key_of, value_of, tx_of, site_number, site_of, actor_of, engine_of, protocol_of, policy_of, fate_of, way_of}
use Rattle.scenario_text.specs.Pieces.{only_two, only_four, only_five, first_and_more, first_word}
use Rattle.scenario_text.specs.Reads.{◌>>=◌, counted}
use Rattle.scenario_text.specs.Steps.{steps_of}

-- `site S ENGINE PROTOCOL`
unfoldable pub site_line : List (List ℕ) → Result Entry BadWhy
site_line words = do
  w ← counted (only_four words)
  site ← site_number w.1
  engine ← engine_of w.2
  protocol ← protocol_of w.3
  Ok (says.Site (record { site = site; engine = engine; protocol = protocol }))

-- `item S K V`
unfoldable pub item_line : List SiteLine → List (List ℕ) → Result Entry BadWhy
item_line sites words = do
  w ← counted (only_four words)
  site ← site_of sites w.1
  key ← key_of w.2
  value ← value_of w.3
  Ok (says.Item (record { site = site; put = record { key = key; value = value } }))

-- `local T S STEP ..`, with at least one step
unfoldable pub local_line : List SiteLine → List (List ℕ) → Result Entry BadWhy
local_line sites words = do
  w ← counted (first_and_more words)
  v ← counted (first_and_more w.1)
  u ← counted (first_and_more v.1)
  tx ← tx_of v.0
  home ← site_of sites u.0
  steps ← steps_of sites (Some home) u.1
  Ok (says.Transaction tx (Some home) steps)

-- `global T STEP ..`, with at least one step
unfoldable pub global_line : List SiteLine → List (List ℕ) → Result Entry BadWhy
global_line sites words = do
  w ← counted (first_and_more words)
  v ← counted (first_and_more w.1)
  tx ← tx_of v.0
  steps ← steps_of sites None v.1
  Ok (says.Transaction tx None steps)

-- `clients N`, `turns N` and `tries N`
unfoldable pub clients_line : List (List ℕ) → Result Entry BadWhy
clients_line words = do
  w ← counted (only_two words)
  n ← number_in 1 16 w.1
  Ok (says.Clients n)

unfoldable pub turns_line : List (List ℕ) → Result Entry BadWhy
turns_line words = do
  w ← counted (only_two words)
  n ← number_in 1 100000 w.1
  Ok (says.Turns n)

unfoldable pub tries_line : List (List ℕ) → Result Entry BadWhy
tries_line words = do
  w ← counted (only_two words)
  n ← number_in 1 16 w.1
  Ok (says.Tries n)

-- `policy WORD`
unfoldable pub policy_line : List (List ℕ) → Result Entry BadWhy
policy_line words = do
  w ← counted (only_two words)
  conservative ← policy_of w.1
  Ok (says.Policy conservative)

-- `link to S I FATE` and `link from S I FATE`
unfoldable pub link_line : List SiteLine → List (List ℕ) → Result Entry BadWhy
link_line sites words = do
  w ← counted (only_five words)
  to ← way_of w.1
  site ← site_of sites w.2
  place ← number_in 0 65535 w.3
  fate ← fate_of w.4
  Ok (says.Link (record { to = to; site = site; place = place; fate = fate }))

-- `stop A C B`
unfoldable pub stop_line : List SiteLine → List (List ℕ) → Result Entry BadWhy
stop_line sites words = do
  w ← counted (only_four words)
  actor ← actor_of sites w.1
  calls ← number_in 1 1000 w.2
  cut ← number_in 0 65535 w.3
  Ok (says.Stop (record { actor = actor; calls = calls; cut = cut }))

-- what a line of a scenario says, by its first word
unfoldable pub scenario_line : List SiteLine → List (List ℕ) → Result Entry BadWhy
scenario_line sites words =
    let first = first_word words in
    if bytes_eq first (codes "site") then site_line words
    else if bytes_eq first (codes "item") then item_line sites words
    else if bytes_eq first (codes "local") then local_line sites words
    else if bytes_eq first (codes "global") then global_line sites words
    else if bytes_eq first (codes "clients") then clients_line words
    else if bytes_eq first (codes "turns") then turns_line words
    else if bytes_eq first (codes "tries") then tries_line words
    else if bytes_eq first (codes "policy") then policy_line words
    else if bytes_eq first (codes "link") then link_line sites words
    else if bytes_eq first (codes "stop") then stop_line sites words
    else Err Word
