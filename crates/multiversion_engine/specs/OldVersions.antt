-- The superseded versions of each key, by the numbers of their writers.
use Rattle.std.specs.Prelude.{ℕ, ◌≡◌, ◌<◌, ◌≤◌, ◌⊎◌, Bool, true, Option, Some, None, IsSome, List, refl}
use Rattle.std.specs.declared.cmp.Ordering.{Ordering}
use Rattle.std.specs.Ordering.{nat_cmp, ordering_then}
use Rattle.std.specs.FinMap.{FinMap, code, get}
use Rattle.std.specs.Coded.{Coded, code_by, coded×, coded_ℕ}
use Rattle.mdb_base.specs.declared.names.Key.{Key}
use Rattle.mdb_base.specs.Words.{some_of}
use Rattle.fed_rules.specs.Runs.{Access}
use Rattle.fed_rules.specs.Replies.{writes}
use Rattle.multiversion_engine.specs.declared.old_versions.Place.{Place}
use Rattle.multiversion_engine.specs.declared.old_versions.OldVersion.{OldVersion}
use Rattle.run_book.specs.Takers.{ByAge}
use Rattle.multiversion_engine.specs.Unended.{HasAgeWithin}

-- by key, and then by number
abbrev pub place_cmp : Place → Place → Ordering
place_cmp a b = ordering_then (nat_cmp a.key b.key) (nat_cmp a.number b.number)

-- at most one value of each key and number
abbrev pub Olds : Type 0
Olds = FinMap place_cmp ℕ

abbrev pub place_code : Coded Place
place_code = code_by (ℕ × ℕ) (coded× coded_ℕ coded_ℕ) (λ p. (p.key, p.number)) (λ p. record { key = p.0; number = p.1 }) (λ _. refl)

abbrev pub olds_code : Coded Olds
olds_code = code place_code coded_ℕ

abbrev pub place_of : Key → ℕ → Place
place_of key number = record { key = key.0; number = number }

-- no version of the key has a number below this one, or this is the last one that has
abbrev pub IsLastBelow : Olds → Key → ℕ → Option OldVersion → Type 0
IsLastBelow olds key below None = (n : ℕ) → n < below → get olds (place_of key n) ≡ None
IsLastBelow olds key below (Some version) =
    (get olds (place_of key version.number) ≡ Some version.value) × (version.number < below)
    × ((n : ℕ) → version.number < n → n < below → get olds (place_of key n) ≡ None)

-- the value of a version, or 0
abbrev pub value_in : Option OldVersion → ℕ
value_in None = 0
value_in (Some version) = version.value

-- the value of the last version of the key below this number, or 0
abbrev pub IsValueBelow : Olds → Key → ℕ → ℕ → Type 0
IsValueBelow olds key below value = (o : Option OldVersion) × IsLastBelow olds key below o × (value ≡ value_in o)

-- none of these runs reads the version that stands there: each is not above its number, or above the next one, which is that of another
-- version of the key, or this number
pub record IsUnread (unended : ByAge) (number : ℕ) (olds : Olds) (q : Place) : Type 0 where
  pub next : ℕ
  pub after : q.number < next
  pub is_next : (next ≡ number) ⊎ IsSome (get olds (record { key = q.key; number = next }))
  pub none : (age : ℕ) → q.number < age → (age ≤ next) → get unended age ≡ None

-- each version stays, or it is one of the keys that are written by this number, and none of these runs reads it
abbrev pub Prunes : ByAge → (ℕ → Bool) → ℕ → Olds → Olds → Type 0
Prunes unended wrote number old new =
    (q : Place) → (get new q ≡ get old q) ⊎ ((get new q ≡ None) × (wrote q.key ≡ true) × IsUnread unended number old q)

-- what is left below this number of the keys that are written by it is read by one of these runs: its age is above the number of the version, and not
-- above this one
abbrev pub AllRead : ByAge → (ℕ → Bool) → ℕ → Olds → Type 0
AllRead unended wrote number olds =
    (q : Place) (value : ℕ) → wrote q.key ≡ true → q.number < number → get olds q ≡ Some value → HasAgeWithin unended q.number number

-- whether one of these accesses writes the key of this number
abbrev pub writes_key : List Access → ℕ → Bool
writes_key acts k = some_of (writes (record { 0 = k })) acts
