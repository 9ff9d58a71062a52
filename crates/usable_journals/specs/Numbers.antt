-- The serial numbers of a site's journal, and the set that holds them.
use Rattle.std.specs.Prelude.{ℕ, ◌≡◌, ◌==◌, Bool, true, not, ◌&&◌, List, [], ◌∷◌, ◌++◌}
use Rattle.std.specs.BTreeSet.{BTreeSet, contains}
use Rattle.std.specs.Ordering.{nat_cmp}
use Rattle.mdb_base.specs.Words.{some_of}
use Rattle.fed_rules.specs.declared.records.SiteRecord.{SiteRecord}
use Rattle.fed_rules.specs.declared.records.SiteRecord.TheVariants.{Prepared, Local}

-- whether the number is among these
abbrev pub has : List ℕ → ℕ → Bool
has ns n = some_of (λ m. m == n) ns

abbrev pub differ : List ℕ → Bool
differ [] = true
differ (n ∷ ns) = not (has ns n) && differ ns

-- the set has these numbers, and no others
abbrev pub HasAll : BTreeSet ℕ → List ℕ → Type 0
HasAll set ns = (n : ℕ) → contains nat_cmp set n ≡ has ns n

-- these numbers were put into a set of different ones, the newest first, and this is whether they differ
abbrev pub Puts : BTreeSet ℕ → BTreeSet ℕ → List ℕ → Bool → Type 0
Puts before after more fits = (ns : List ℕ) → HasAll before ns → differ ns ≡ true → (fits ≡ differ (more ++ ns)) × (fits ≡ true → HasAll after (more ++ ns))

-- the number of a record
abbrev pub numbers_of : SiteRecord → List ℕ
numbers_of (Prepared tid epoch number ticket writes) = number ∷ []
numbers_of (Local tid number writes) = number ∷ []
numbers_of other = []

-- the numbers of records
abbrev pub all_numbers : List SiteRecord → List ℕ
all_numbers [] = []
all_numbers (newest ∷ older) = numbers_of newest ++ all_numbers older
