-- A tree by numbers, as a map.
use Rattle.std.proofs.Common.{◌≡◌, ℕ, ◌≤◌, Bool, true, false, cond, is_some, nat_eq, Option, Some, None, IsSome, List, [], ◌∷◌, refl, sym, ap, ◌∙◌, arith}
use Rattle.std.specs.Cmp.{nat_cmp_total}
use Rattle.std.specs.Ordering.{nat_cmp, is_lt, eq_by_cmp}
use Rattle.std.specs.FinMap.{FinMap, from_entries, find, get, get-insert, get-remove, get-from_entries, insert, remove, same_map, nat_cmp-IsAntisymmetric}
use Rattle.std.specs.Map.{lookup}
use Rattle.std.specs.BTreeMap.{is_at}
use Rattle.std.proofs.lemmas.Bool.{eqb-true}
use Rattle.std.proofs.lemmas.Bool.Decides.{nat_tests}
use Rattle.mdb_base.specs.declared.names.Tid.{Tid}
use Rattle.mdb_base.proofs.ForCallers.{is_some-true}
use Rattle.run_book.specs.Takers.{IsYoungestOf}

-- what a look-up in the tree finds
abbrev pub look : {X : Type 0} → List (ℕ × X) → ℕ → Option X
look es q = lookup (is_at (nat_cmp q)) es

find_look : {X : Type 0} (es : List (ℕ × X)) (q : ℕ) → find nat_cmp q es ≡ look es q
find_look [] q = refl
find_look (e ∷ es) q = ap (cond (is_at (nat_cmp q) e.0) (Some e.1)) (find_look es q)

pub get_look : {X : Type 0} (es : List (ℕ × X)) (q : ℕ) → get (from_entries {R = nat_cmp} es) q ≡ look es q
get_look es q = get-from_entries nat_cmp_total es q ∙ find_look es q

pub at_is : (k q : ℕ) → is_at (nat_cmp k) q ≡ nat_eq k q
at_is k q = grind (arith, nat_tests)

ties : (k q : ℕ) → eq_by_cmp nat_cmp q k ≡ nat_eq k q
ties k q = grind (arith, nat_tests)

-- what a map by numbers has after an entry is put in or taken out
pub get-put : {X : Type 0} (m : FinMap nat_cmp X) (k : ℕ) (x : X) (q : ℕ) → get (insert m k x) q ≡ cond (nat_eq k q) (Some x) (get m q)
get-put m k x q = get-insert nat_cmp_total m k x q ∙ ap (λ (b : Bool). cond b (Some x) (get m q)) (ties k q)

pub get-gone : {X : Type 0} (m : FinMap nat_cmp X) (k q : ℕ) → get (remove m k) q ≡ cond (nat_eq k q) None (get m q)
get-gone m k q = get-remove nat_cmp_total m k q ∙ ap (λ (b : Bool). cond b None (get m q)) (ties k q)

pub same_numbers : {X : Type 0} (m n : FinMap nat_cmp X) → ((q : ℕ) → get m q ≡ get n q) → m ≡ n
same_numbers m n h = same_map nat_cmp_total nat_cmp-IsAntisymmetric m n h

-- an entry that was put in where there was none is taken out again
pub put-gone : {X : Type 0} (m : FinMap nat_cmp X) (k : ℕ) (x : X) → get m k ≡ None → remove (insert m k x) k ≡ m
put-gone m k x none = same_numbers _ _ (λ q. get-gone (insert m k x) k q ∙ (ap (λ o. cond (nat_eq k q) None o) (get-put m k x q) ∙ none_at q (nat_eq k q) refl))
  where
    none_at : (q : ℕ) (b : Bool) → nat_eq k q ≡ b → cond b None (cond b (Some x) (get m q)) ≡ get m q
    none_at q true e = sym (ap (λ (n : ℕ). get m n) (sym (eqb-true k q e)) ∙ none)
    none_at q false e = refl

-- the tree of a map with an entry more, or less
pub entries_put : {X : Type 0} (es fs : List (ℕ × X)) (k : ℕ) (x : X) → ((q : ℕ) → look fs q ≡ cond (is_at (nat_cmp k) q) (Some x) (look es q)) → from_entries {R = nat_cmp} fs ≡ insert (from_entries es) k x
entries_put es fs k x h =
    same_numbers _ _ (λ q. get_look fs q ∙ (h q ∙ (ap (λ (b : Bool). cond b (Some x) (look es q)) (at_is k q)
    ∙ sym (get-put (from_entries es) k x q ∙ ap (cond (nat_eq k q) (Some x)) (get_look es q)))))

pub entries_gone : {X : Type 0} (es fs : List (ℕ × X)) (k : ℕ) → ((q : ℕ) → look fs q ≡ cond (is_at (nat_cmp k) q) None (look es q)) → from_entries {R = nat_cmp} fs ≡ remove (from_entries es) k
entries_gone es fs k h =
    same_numbers _ _ (λ q. get_look fs q ∙ (h q ∙ (ap (λ (b : Bool). cond b None (look es q)) (at_is k q)
    ∙ sym (get-gone (from_entries es) k q ∙ ap (cond (nat_eq k q) None) (get_look es q)))))

-- the greatest entry of a tree of runs is the youngest one
not_above : (x y : ℕ) → is_lt (nat_cmp x y) ≡ false → y ≤ x
not_above x y h = grind (arith, nat_tests, h)

pub youngest_is : (es : List (ℕ × Tid)) (age : ℕ) (tid : Tid) → look es age ≡ Some tid → ((q : ℕ) → IsSome (look es q) → is_lt (nat_cmp age q) ≡ false) →
    IsYoungestOf (from_entries es) (Some (record { tid = tid; rank = age }))
youngest_is es age tid at most = (
  get_look es age ∙ at,
  λ q t there. not_above age q (most q (is_some-true (look es q) (ap (λ (o : Option Tid). is_some o) (sym (get_look es q) ∙ there)))),
)

pub none_in : (es : List (ℕ × Tid)) → es ≡ [] → IsYoungestOf (from_entries es) None
none_in es is = λ age. get_look es age ∙ ap (λ (xs : List (ℕ × Tid)). look xs age) is
