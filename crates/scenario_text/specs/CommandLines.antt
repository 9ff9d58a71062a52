-- What a command says, by its words. The tests come in the order in which those of a scenario's lines do.
use Rattle.std.specs.Prelude.{ℕ, ◌-◌, ◌^◌, if◌then◌else◌, codes, List, Result, Ok, Err}
use Rattle.std.specs.Str.{bytes_eq}
use Rattle.mdb_base.specs.declared.names.SiteId.{SiteId}
use Rattle.mdb_base.specs.declared.names.Tx.{Tx}
use Rattle.mdb_base.specs.declared.names.Tid.{Tid}
use Rattle.fed_rules.specs.declared.scenario.SiteLine.{SiteLine}
use Rattle.fed_rules.specs.declared.commands.Command.{Command}
use Rattle.fed_rules.specs.declared.commands.Command.TheVariants as command
use Rattle.scenario_text.specs.declared.bad.BadWhy.{BadWhy}
use Rattle.scenario_text.specs.declared.bad.BadWhy.TheVariants.{Word}
use Rattle.scenario_text.specs.Names.{number_in, tx_of, site_of, actor_of, tid_of}
use Rattle.scenario_text.specs.Pieces.{only_one, only_two, only_three, only_four, first_word}
use Rattle.scenario_text.specs.Reads.{◌>>=◌, counted}

-- the transaction of a line `WORD T`
unfoldable pub tx_argument : List (List ℕ) → Result Tx BadWhy
tx_argument words = do
  w ← counted (only_two words)
  tx_of w.1

-- the transaction of a line `WORD T`, by the words behind the first one
unfoldable pub tx_behind : List (List ℕ) → Result Tx BadWhy
tx_behind words = do
  word ← counted (only_one words)
  tx_of word

-- the attempt of a line `WORD T.A`
unfoldable pub tid_argument : List (List ℕ) → Result Tid BadWhy
tid_argument words = do
  w ← counted (only_two words)
  tid_of w.1

-- the site and the message of a line `WORD S I`, I being 0 to 4,294,967,295
unfoldable pub message_argument : List SiteLine → List (List ℕ) → Result (SiteId × ℕ) BadWhy
message_argument sites words = do
  w ← counted (only_three words)
  site ← site_of sites w.1
  place ← number_in 0 (2 ^ 32 - 1) w.2
  Ok (site, place)

-- the site and the message of a line `WORD S I`, by the words behind the first one
unfoldable pub message_behind : List SiteLine → List (List ℕ) → Result (SiteId × ℕ) BadWhy
message_behind sites words = do
  w ← counted (only_two words)
  site ← site_of sites w.0
  place ← number_in 0 (2 ^ 32 - 1) w.1
  Ok (site, place)

-- the site and the attempt of a line `WORD S T.A`
unfoldable pub attempt_argument : List SiteLine → List (List ℕ) → Result (SiteId × Tid) BadWhy
attempt_argument sites words = do
  w ← counted (only_three words)
  site ← site_of sites w.1
  tid ← tid_of w.2
  Ok (site, tid)

-- the actor of a line `WORD A`
unfoldable pub actor_argument : List SiteLine → List (List ℕ) → Result ℕ BadWhy
actor_argument sites words = do
  w ← counted (only_two words)
  actor_of sites w.1

-- `halt A B`
unfoldable pub halt_line : List SiteLine → List (List ℕ) → Result Command BadWhy
halt_line sites words = do
  w ← counted (only_three words)
  actor ← actor_of sites w.1
  cut ← number_in 0 65535 w.2
  Ok (command.Halt actor cut)

-- `trip A C B`
unfoldable pub trip_line : List SiteLine → List (List ℕ) → Result Command BadWhy
trip_line sites words = do
  w ← counted (only_four words)
  actor ← actor_of sites w.1
  calls ← number_in 0 1000 w.2
  cut ← number_in 0 65535 w.3
  Ok (command.Trip actor calls cut)

-- what a command says about a site's messages or an actor, by its first word
unfoldable pub actor_command : List SiteLine → List (List ℕ) → Result Command BadWhy
actor_command sites words =
    let first = first_word words in
    if bytes_eq first (codes "give") then (message_argument sites words >>= λ m. Ok (command.Give m.0 m.1))
    else if bytes_eq first (codes "take") then (message_argument sites words >>= λ m. Ok (command.Take m.0 m.1))
    else if bytes_eq first (codes "ask") then (attempt_argument sites words >>= λ a. Ok (command.Ask a.0 a.1))
    else if bytes_eq first (codes "drop") then (attempt_argument sites words >>= λ a. Ok (command.Drop a.0 a.1))
    else if bytes_eq first (codes "halt") then halt_line sites words
    else if bytes_eq first (codes "trip") then trip_line sites words
    else if bytes_eq first (codes "back") then (actor_argument sites words >>= λ actor. Ok (command.Back actor))
    else if bytes_eq first (codes "check") then (actor_argument sites words >>= λ actor. Ok (command.Check actor))
    else Err Word

-- what a command says, by its first word
unfoldable pub command_line : List SiteLine → List (List ℕ) → Result Command BadWhy
command_line sites words =
    let first = first_word words in
    if bytes_eq first (codes "begin") then (tx_argument words >>= λ tx. Ok (command.Begin tx))
    else if bytes_eq first (codes "step") then (tx_argument words >>= λ tx. Ok (command.Step tx))
    else if bytes_eq first (codes "commit") then (tx_argument words >>= λ tx. Ok (command.Commit tx))
    else if bytes_eq first (codes "abort") then (tx_argument words >>= λ tx. Ok (command.Abort tx))
    else if bytes_eq first (codes "fate") then (tx_argument words >>= λ tx. Ok (command.Fate tx))
    else if bytes_eq first (codes "go") then (tx_argument words >>= λ tx. Ok (command.Go tx))
    else if bytes_eq first (codes "again") then (tid_argument words >>= λ tid. Ok (command.Again tid))
    else if bytes_eq first (codes "late") then (tid_argument words >>= λ tid. Ok (command.Late tid))
    else actor_command sites words
