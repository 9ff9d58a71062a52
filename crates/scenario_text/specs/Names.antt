-- What a word of a line spells: a number in its range, a name of a short list, a site, an actor, a transaction or an attempt.
-- A number is `0`, or decimal digits of which the first isn't `0`. Parts of a word are read from the left.
use Rattle.std.specs.Prelude.{ℕ, ◌+◌, ◌-◌, ◌*◌, ◌^◌, Bool, true, false, not, ◌&&◌, ◌==◌, if◌then◌else◌, codes, List, [], ◌∷◌, Result, Ok, Err}
use Rattle.std.specs.List.{list_all}
use Rattle.std.specs.Str.{bytes_eq}
use Rattle.mdb_base.specs.declared.names.SiteId.{SiteId}
use Rattle.mdb_base.specs.declared.names.Key.{Key}
use Rattle.mdb_base.specs.declared.names.Tx.{Tx}
use Rattle.mdb_base.specs.declared.names.Tid.{Tid}
use Rattle.mdb_base.specs.declared.names.Engine.{Engine}
use Rattle.mdb_base.specs.declared.names.Engine.TheVariants.{Locking, Timestamp, Validation, Multiversion}
use Rattle.mdb_base.specs.declared.names.Fate.{Fate}
use Rattle.mdb_base.specs.declared.names.Fate.TheVariants as fates
use Rattle.presumptions.specs.declared.Protocol.{Protocol}
use Rattle.presumptions.specs.declared.Protocol.TheVariants as protocols
use Rattle.fed_rules.specs.declared.scenario.SiteLine.{SiteLine}
use Rattle.fed_rules.specs.Plans.{is_between, is_declared, is_actor}
use Rattle.scenario_text.specs.declared.bad.BadWhy.{BadWhy}
use Rattle.scenario_text.specs.declared.bad.BadWhy.TheVariants as why
use Rattle.scenario_text.specs.Pieces.{pieces, only_two, dot, colon}
use Rattle.scenario_text.specs.Reads.{◌>>=◌, spelled}

-- a digit is one of `0` to `9`
abbrev pub is_digit : ℕ → Bool
is_digit b = is_between 48 57 b

-- whether the bytes are a number
unfoldable pub is_number : List ℕ → Bool
is_number [] = false
is_number (b ∷ []) = is_digit b
is_number (b ∷ c ∷ more) = not (b == 48) && list_all is_digit (b ∷ c ∷ more)

-- the number that digits spell behind the one that is spelled already
unfoldable pub decimal : ℕ → List ℕ → ℕ
decimal before [] = before
decimal before (b ∷ bs) = decimal (before * 10 + (b - 48)) bs

-- a number from low to high
unfoldable pub number_in : (low high : ℕ) → List ℕ → Result ℕ BadWhy
number_in low high word =
    if is_number word then (if is_between low high (decimal 0 word) then Ok (decimal 0 word) else Err why.Range) else Err why.Number

-- a key, 0 to 65,535
unfoldable pub key_of : List ℕ → Result Key BadWhy
key_of word = do
  n ← number_in 0 65535 word
  Ok (record { 0 = n })

-- a value or an amount, 0 to 2^64 - 1
unfoldable pub value_of : List ℕ → Result ℕ BadWhy
value_of word = number_in 0 (2 ^ 64 - 1) word

-- a transaction, 1 to 1,024
unfoldable pub tx_of : List ℕ → Result Tx BadWhy
tx_of word = do
  n ← number_in 1 1024 word
  Ok (record { 0 = n })

-- a site, 1 to 8
unfoldable pub site_number : List ℕ → Result SiteId BadWhy
site_number word = do
  n ← number_in 1 8 word
  Ok (record { 0 = n })

-- a declared site
unfoldable pub site_of : List SiteLine → List ℕ → Result SiteId BadWhy
site_of sites word = do
  site ← site_number word
  if is_declared sites site then Ok site else Err why.Site

-- an actor, 0 to 8: the coordinator or a declared site
unfoldable pub actor_of : List SiteLine → List ℕ → Result ℕ BadWhy
actor_of sites word = do
  actor ← number_in 0 8 word
  if is_actor sites actor then Ok actor else Err why.Site

-- an attempt `T.A`, the attempt 0 to 31
unfoldable pub tid_of : List ℕ → Result Tid BadWhy
tid_of word = do
  parts ← spelled (only_two (pieces dot word))
  tx ← tx_of parts.0
  attempt ← number_in 0 31 parts.1
  Ok (record { tx = tx; attempt = attempt })

-- a concurrency rule by its name
unfoldable pub engine_of : List ℕ → Result Engine BadWhy
engine_of word =
    if bytes_eq word (codes "locking") then Ok Locking
    else if bytes_eq word (codes "timestamp") then Ok Timestamp
    else if bytes_eq word (codes "validation") then Ok Validation
    else if bytes_eq word (codes "multiversion") then Ok Multiversion
    else Err why.Spelling

-- a commit protocol by what it presumes
unfoldable pub protocol_of : List ℕ → Result Protocol BadWhy
protocol_of word =
    if bytes_eq word (codes "nothing") then Ok protocols.Nothing
    else if bytes_eq word (codes "abort") then Ok protocols.Abort
    else if bytes_eq word (codes "commit") then Ok protocols.Commit
    else Err why.Spelling

-- when tickets may be taken, by the name of the policy: whether it is the conservative one
unfoldable pub policy_of : List ℕ → Result Bool BadWhy
policy_of word =
    if bytes_eq word (codes "always") then Ok false
    else if bytes_eq word (codes "conservative") then Ok true
    else Err why.Spelling

-- `hold:N`, 1 to 64
unfoldable pub hold_of : List ℕ → Result Fate BadWhy
hold_of word = do
  parts ← spelled (only_two (pieces colon word))
  if bytes_eq parts.0 (codes "hold") then (number_in 1 64 parts.1 >>= λ n. Ok (fates.Hold n)) else Err why.Spelling

-- the fate of a message: `drop`, `twice` or `hold:N`
unfoldable pub fate_of : List ℕ → Result Fate BadWhy
fate_of word =
    if bytes_eq word (codes "drop") then Ok fates.Drop
    else if bytes_eq word (codes "twice") then Ok fates.Twice
    else hold_of word

-- the way of a channel: `to` a site or `from` one
unfoldable pub way_of : List ℕ → Result Bool BadWhy
way_of word =
    if bytes_eq word (codes "to") then Ok true
    else if bytes_eq word (codes "from") then Ok false
    else Err why.Spelling
