-- The table as a map, and as the hash table that keeps it.
use Rattle.std.proofs.Common.{◌≡◌, ℕ, List, [], ◌∷◌, nat_eq, refl, ◌∙◌, arith}
use Rattle.std.specs.Cmp.{nat_cmp_total}
use Rattle.std.specs.Ordering.{nat_cmp, eq_by_cmp}
use Rattle.std.specs.FinMap.{find, from_entries, get, get-from_entries, same_map, nat_cmp-IsAntisymmetric}
use Rattle.std.specs.Map.{lookup}
use Rattle.std.proofs.lemmas.Bool.Decides.{nat_tests}

pub ties : (q k : ℕ) → eq_by_cmp nat_cmp q k ≡ nat_eq q k
ties q k = grind (arith, nat_tests)

find-lookup : {X : Type 0} (q : ℕ) (es : List (ℕ × X)) → find nat_cmp q es ≡ lookup (nat_eq q) es
find-lookup q [] = refl
find-lookup q (e ∷ es) = rw (ties q e.0, find-lookup q es) refl

-- the map of some entries has at a key what a look-up finds there
pub get-lookup : {X : Type 0} (es : List (ℕ × X)) (q : ℕ) → get (from_entries {R = nat_cmp} es) q ≡ lookup (nat_eq q) es
get-lookup es q = get-from_entries nat_cmp_total es q ∙ find-lookup q es

-- entries that give the same look-ups are the same map
pub same_looks : {X : Type 0} (es fs : List (ℕ × X)) → ((q : ℕ) → lookup (nat_eq q) es ≡ lookup (nat_eq q) fs) → from_entries {R = nat_cmp} es ≡ from_entries fs
same_looks es fs same =
    same_map nat_cmp_total nat_cmp-IsAntisymmetric (from_entries es) (from_entries fs) (λ q. rw (get-lookup es q, get-lookup fs q) (same q))
