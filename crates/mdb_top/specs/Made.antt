-- The words that ask for a made scenario.
use Rattle.std.specs.Prelude.{ℕ, ◌-◌, ◌^◌, cond, codes, Option, Some, None, List, [], ◌∷◌, Result, Ok, Err}
use Rattle.std.specs.Str.{bytes_eq}
use Rattle.scenario_text.specs.declared.bad.BadWhy.{BadWhy}
use Rattle.scenario_text.specs.Names.{number_in}
use Rattle.session_outputs.specs.declared.making.Making.{Making}

-- what is made of the number that a word spells, where it spells one
abbrev pub with_number : {A : Type 0} → Result ℕ BadWhy → (ℕ → Option A) → Option A
with_number (Ok n) make = make n
with_number (Err why) make = None

-- a number below 2^64, 1 to 8 sites, and 1 to 1,024 transactions, each spelled as in a scenario
abbrev pub making_of : (number sites transactions : List ℕ) → Option Making
making_of number sites transactions =
    with_number (number_in 0 (2 ^ 64 - 1) number) (λ n.
    with_number (number_in 1 8 sites) (λ s.
    with_number (number_in 1 1024 transactions) (λ t.
    Some (record { number = n; sites = s; transactions = t }))))

-- what the words `make NUMBER SITES TRANSACTIONS` ask for; other words ask for nothing made
abbrev pub made_by : List (List ℕ) → Option Making
made_by (word ∷ number ∷ sites ∷ transactions ∷ []) = cond (bytes_eq word (codes "make")) (making_of number sites transactions) None
made_by words = None
