-- A write of one row, as a map.
use Rattle.std.proofs.Common.{◌≡◌, ℕ, Bool, true, false, cond, Some, List, [], ◌∷◌, nat_eq, refl, sym, ap, ◌∙◌}
use Rattle.std.specs.Cmp.{nat_cmp_total}
use Rattle.std.specs.FinMap.{from_entries, get, insert, get-insert, same_map, nat_cmp-IsAntisymmetric}
use Rattle.std.specs.Map.{lookup}
use Rattle.mdb_base.specs.declared.names.Key.{Key}
use Rattle.mdb_base.specs.declared.rows.Put.{Put}
use Rattle.mdb_base.specs.Rows.{value_in}
use Rattle.mdb_base.proofs.ForCallers.{nat_eq-sym}
use Rattle.site_tables.specs.declared.versions.Version.{Version}
use Rattle.site_tables.specs.Tables.{Versions, is_newer, with_row, written}
use Rattle.site_tables.proofs.Looks.{ties, get-lookup}
use Rattle.site_tables.proofs.Writes.{writes_one, keeps_one}

-- one more key, or another version of one
pub get-put : (versions : Versions) (k : ℕ) (version : Version) (q : ℕ) → get (insert versions k version) q ≡ cond (nat_eq k q) (Some version) (get versions q)
get-put versions k version q =
    get-insert nat_cmp_total versions k version q ∙ ap (λ b. cond b (Some version) (get versions q)) (ties q k ∙ nat_eq-sym q k)

-- what is kept of a key after a write of a row
pub get-with_row : (number : ℕ) (put : Put) (versions : Versions) (key : Key) → get (with_row number put versions) key.0 ≡ written number (value_in (put ∷ []) key) (get versions key.0)
get-with_row number put versions key = by_test (is_newer number (get versions put.key.0)) refl
  where
    version : Version
    version = record { value = put.value; number = number }

    by_test : (b : Bool) → is_newer number (get versions put.key.0) ≡ b →
        get (cond b (insert versions put.key.0 version) versions) key.0 ≡ written number (value_in (put ∷ []) key) (get versions key.0)
    by_test true counts =
        writes_one number put.value put.key.0 key.0 (get versions put.key.0) (get versions key.0) _ counts (λ same. ap (get versions) (sym same)) (get-put versions put.key.0 version key.0)
    by_test false late =
        keeps_one number put.value put.key.0 key.0 (get versions put.key.0) (get versions key.0) late (λ same. ap (get versions) (sym same))

-- two maps that keep the same of each key are one
pub same_versions : (a b : Versions) → ((key : Key) → get a key.0 ≡ get b key.0) → a ≡ b
same_versions a b same = same_map nat_cmp_total nat_cmp-IsAntisymmetric a b (λ q. same (record { 0 = q }))

-- a hash table after a write of a row
pub with_row-looks : (number : ℕ) (put : Put) (es fs : List (ℕ × Version)) → ((key : Key) → lookup (nat_eq key.0) fs ≡ written number (value_in (put ∷ []) key) (lookup (nat_eq key.0) es)) →
    from_entries fs ≡ with_row number put (from_entries es)
with_row-looks number put es fs looks =
    same_versions _ _ (λ key. get-lookup fs key.0 ∙ looks key
    ∙ ap (written number (value_in (put ∷ []) key)) (sym (get-lookup es key.0)) ∙ sym (get-with_row number put (from_entries es) key))
