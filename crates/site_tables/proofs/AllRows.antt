-- The rows of the table, in the order of the hash table.
use Rattle.std.proofs.Common.{◌≡◌, ℕ, Bool, true, false, cond, Option, Some, List, [], ◌∷◌, map, nat_eq, refl, ap, ◌∙◌}
use Rattle.std.specs.List.{IsDistinct}
use Rattle.std.specs.Map.{lookup, keys_of}
use Rattle.mdb_base.specs.declared.names.Key.{Key}
use Rattle.mdb_base.specs.declared.rows.Put.{Put}
use Rattle.mdb_base.specs.Rows.{HaveOwnKeys, value_in}
use Rattle.mdb_base.proofs.ForCallers.{nat_eq-sym}
use Rattle.site_tables.specs.declared.versions.Version.{Version}
use Rattle.site_tables.specs.Tables.{put_of, row_of}

row_of-cond : (b : Bool) (kept : Version) (o : Option Version) → cond b (Some kept.value) (row_of o) ≡ row_of (cond b (Some kept) o)
row_of-cond true kept o = refl
row_of-cond false kept o = refl

-- the rows of some entries give what a look-up finds
value_in-entries : (es : List (ℕ × Version)) (key : Key) → value_in (map put_of es) key ≡ row_of (lookup (nat_eq key.0) es)
value_in-entries [] key = refl
value_in-entries (e ∷ es) key =
    ap (cond (nat_eq e.0 key.0) (Some e.1.value)) (value_in-entries es key)
    ∙ ap (λ b. cond b (Some e.1.value) (row_of (lookup (nat_eq key.0) es))) (nat_eq-sym e.0 key.0)
    ∙ row_of-cond (nat_eq key.0 e.0) e.1 (lookup (nat_eq key.0) es)

put_keys : (es : List (ℕ × Version)) → keys_of es ≡ map (λ row. row.key.0) (map put_of es)
put_keys [] = refl
put_keys (e ∷ es) = ap (λ ks. e.0 ∷ ks) (put_keys es)

pub value_in-rows : (es : List (ℕ × Version)) (rows : List Put) → rows ≡ map put_of es → (key : Key) → value_in rows key ≡ row_of (lookup (nat_eq key.0) es)
value_in-rows es rows e key = ap (λ ps. value_in ps key) e ∙ value_in-entries es key

pub HaveOwnKeys-rows : (es : List (ℕ × Version)) (rows : List Put) → rows ≡ map put_of es → IsDistinct nat_eq (keys_of es) → HaveOwnKeys rows
HaveOwnKeys-rows es rows e apart = rw (e, ← put_keys es) apart
