-- The steps of a transaction: `get:K`, `set:K:V` and `add:K:R:N`, in a global transaction each behind its site and a `/`.
-- The form of a step, its act's word with as many pieces as that act has, is tested first; then its pieces from the left.
use Rattle.std.specs.Prelude.{ℕ, Bool, true, false, if◌then◌else◌, codes, Option, Some, None, List, [], ◌∷◌, ◌++◌, Result, Ok, Err}
use Rattle.std.specs.Str.{bytes_eq}
use Rattle.mdb_base.specs.declared.names.SiteId.{SiteId}
use Rattle.mdb_base.specs.declared.acts.Act.{Act}
use Rattle.mdb_base.specs.declared.acts.Act.TheVariants.{Get, Set, Add}
use Rattle.mdb_base.specs.declared.acts.Step.{Step}
use Rattle.fed_rules.specs.declared.scenario.SiteLine.{SiteLine}
use Rattle.scenario_text.specs.declared.bad.BadWhy.{BadWhy}
use Rattle.scenario_text.specs.declared.bad.BadWhy.TheVariants.{Spelling}
use Rattle.scenario_text.specs.Names.{number_in, key_of, value_of, site_of}
use Rattle.scenario_text.specs.Pieces.{cut_at, pieces, only_one, only_two, only_three, slash, colon}
use Rattle.scenario_text.specs.Reads.{◌>>=◌, spelled}

-- what stands behind `get:`, `set:` and `add:`; a register is 0 to 31
unfoldable pub get_of : List ℕ → Result Act BadWhy
get_of rest = do
  word ← spelled (only_one (pieces colon rest))
  key ← key_of word
  Ok (Get key)

unfoldable pub set_of : List ℕ → Result Act BadWhy
set_of rest = do
  words ← spelled (only_two (pieces colon rest))
  key ← key_of words.0
  value ← value_of words.1
  Ok (Set key value)

unfoldable pub add_of : List ℕ → Result Act BadWhy
add_of rest = do
  words ← spelled (only_three (pieces colon rest))
  key ← key_of words.0
  register ← number_in 0 31 words.1
  amount ← value_of words.2
  Ok (Add key register amount)

-- an act by its word and what stands behind the first `:`
unfoldable pub act_by : List ℕ → List ℕ → Result Act BadWhy
act_by name rest =
    if bytes_eq name (codes "get") then get_of rest
    else if bytes_eq name (codes "set") then set_of rest
    else if bytes_eq name (codes "add") then add_of rest
    else Err Spelling

unfoldable pub act_of : List ℕ → Result Act BadWhy
act_of word = do
  parts ← spelled (cut_at colon word)
  act_by parts.0 parts.1

-- whether an act has no form
abbrev pub is_misspelled : Result Act BadWhy → Bool
is_misspelled (Err Spelling) = true
is_misspelled act = false

-- a step of a global transaction, from its site's word and its act
unfoldable pub global_step : List SiteLine → List ℕ → Result Act BadWhy → Result Step BadWhy
global_step sites word act = if is_misspelled act then Err Spelling else (do
  site ← site_of sites word
  done ← act
  Ok (record { site = site; act = done }))

-- a step of a local transaction at its home, or of a global one
unfoldable pub step_of : List SiteLine → Option SiteId → List ℕ → Result Step BadWhy
step_of sites (Some home) word = do
  act ← act_of word
  Ok (record { site = home; act = act })
step_of sites None word = do
  parts ← spelled (cut_at slash word)
  global_step sites parts.0 (act_of parts.1)

-- the steps of these words
unfoldable pub steps_of : List SiteLine → Option SiteId → List (List ℕ) → Result (List Step) BadWhy
steps_of sites home [] = Ok []
steps_of sites home (word ∷ words) = do
  step ← step_of sites home word
  steps ← steps_of sites home words
  Ok (step ∷ steps)

-- these steps, and behind them those that are read
abbrev pub behind : List Step → Result (List Step) BadWhy → Result (List Step) BadWhy
behind front read = read >>= λ rest. Ok (front ++ rest)
