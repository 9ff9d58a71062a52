-- The entries of the tree of rows, as rows.
use Rattle.std.proofs.Common.{◌≡◌, ◌++◌, Bool, true, false, cond, Some, List, [], ◌∷◌, map, refl, sym, ap, ◌∙◌, arith}
use Rattle.std.specs.Ordering.{is_eq}
use Rattle.std.specs.List.Sorted.{IsStrictlySortedBy}
use Rattle.std.specs.Map.{lookup, keys_of}
use Rattle.std.specs.BTreeMap.{is_at}
use Rattle.std.proofs.lemmas.Bool.Decides.{nat_tests}
use Rattle.std.proofs.lemmas.List.{append-nil}
use Rattle.mdb_base.specs.declared.names.Key.{Key}
use Rattle.mdb_base.specs.declared.rows.Put.{Put}
use Rattle.mdb_base.specs.Names.{same_key}
use Rattle.mdb_base.specs.Rising.{IsRising}
use Rattle.mdb_base.specs.Rows.{value_in}
use Rattle.mdb_base.proofs.ForCallers.{nat_cmp-less}
use Rattle.journal_sums.specs.declared.versions.Version.{Version}
use Rattle.journal_sums.specs.Versions.{key_cmp, row_of}

-- the row of a key and what is kept of it
abbrev pub put_of : Key × Version → Put
put_of entry = record { key = entry.0; value = entry.1.value }

-- when no entry is left, all are rows
pub rows_done : (rows : List Put) (left es : List (Key × Version)) → rows ++ map put_of left ≡ map put_of es → left ≡ [] → rows ≡ map put_of es
rows_done rows left es so_far none = sym (append-nil rows) ∙ ap (λ more. rows ++ map put_of more) (sym none) ∙ so_far

is_eq-key_cmp : (a b : Key) → is_eq (key_cmp a b) ≡ same_key b a
is_eq-key_cmp a b = grind (arith, nat_tests)

-- the rows give what a look-up finds
pub value_in-entries : (es : List (Key × Version)) (key : Key) → value_in (map put_of es) key ≡ row_of (lookup (is_at (key_cmp key)) es)
value_in-entries [] key = refl
value_in-entries (e ∷ es) key =
    ap (λ b. cond b (Some e.1.value) (value_in (map put_of es) key)) (sym (is_eq-key_cmp key e.0))
    ∙ ap (cond (is_eq (key_cmp key e.0)) (Some e.1.value)) (value_in-entries es key)
    ∙ by_test (is_eq (key_cmp key e.0))
  where
    by_test : (b : Bool) → cond b (Some e.1.value) (row_of (lookup (is_at (key_cmp key)) es)) ≡ row_of (cond b (Some e.1) (lookup (is_at (key_cmp key)) es))
    by_test true = refl
    by_test false = refl

-- they rise as the keys do
pub rising-entries : (es : List (Key × Version)) → IsStrictlySortedBy key_cmp (keys_of es) → IsRising (λ row. row.key.0) (map put_of es)
unfolding IsStrictlySortedBy
rising-entries [] sorted = tt
rising-entries (e ∷ []) sorted = tt
rising-entries (e ∷ f ∷ es) sorted = (nat_cmp-less e.0.0 f.0.0 sorted.0.0, rising-entries (f ∷ es) sorted.1)
