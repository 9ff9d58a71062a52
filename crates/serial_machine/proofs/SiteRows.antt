-- The rows of one site among those of all.
use Rattle.std.proofs.Common.{◌≡◌, ℕ, Bool, true, false, cond, ◌&&◌, ◌==◌, Some, List, [], ◌∷◌, map, nat_eq, refl, sym, ap, ap₂, ◌∙◌}
use Rattle.std.specs.List.{IsDistinct, AllByRecursion}
use Rattle.std.specs.Map.{lookup, keys_of}
use Rattle.std.proofs.lemmas.Bool.{eqb-true, eq-eqb}
use Rattle.std.proofs.lemmas.Map.Keys.{IsDistinct-head, IsDistinct-tail, IsDistinct-cons}
use Rattle.mdb_base.specs.declared.names.Key.{Key}
use Rattle.mdb_base.specs.declared.names.SiteId.{SiteId}
use Rattle.mdb_base.specs.declared.rows.Put.{Put}
use Rattle.mdb_base.specs.Names.{same_key}
use Rattle.mdb_base.specs.Rows.{HaveOwnKeys, value_in}
use Rattle.mdb_base.proofs.ForCallers.{nat_eq-sym}
use Rattle.serial_machine.specs.AllTables.{is_place, rows_from}

one_row : (b : Bool) (row : Put) (rows : List Put) (key : Key) → value_in (cond b (row ∷ rows) rows) key ≡ cond (b && same_key row.key key) (Some row.value) (value_in rows key)
one_row true row rows key = refl
one_row false row rows key = refl

-- the rows of a site have the values of the map
pub value_in-rows_from : (site : SiteId) (es : List ((ℕ × ℕ) × ℕ)) (key : Key) → value_in (rows_from site es) key ≡ lookup (is_place site key) es
value_in-rows_from site [] key = refl
value_in-rows_from site (e ∷ es) key =
    one_row (e.0.0 == site.0) _ (rows_from site es) key
    ∙ ap₂ (λ a b. cond (a && b) (Some e.1) (value_in (rows_from site es) key)) (nat_eq-sym e.0.0 site.0) (nat_eq-sym e.0.1 key.0)
    ∙ ap (cond (is_place site key e.0) (Some e.1)) (value_in-rows_from site es key)

-- two places are one where sites and keys are
abbrev same_place : ℕ × ℕ → ℕ × ℕ → Bool
same_place p q = (p.0 == q.0) && (p.1 == q.1)

right_part : (a b : Bool) → a ≡ true → (a && b) ≡ false → b ≡ false
right_part true b is e = e
right_part false b is e = absurd cc

-- a place at the site that stands nowhere among these has a key of its own
apart_keys : (site : SiteId) (place : ℕ × ℕ) (es : List ((ℕ × ℕ) × ℕ)) → (place.0 == site.0) ≡ true → AllByRecursion (λ other. same_place place other ≡ false) (keys_of es)
    → AllByRecursion (λ k. nat_eq place.1 k ≡ false) (map (λ row. row.key.0) (rows_from site es))
apart_keys site place [] here apart = tt
apart_keys site place (e ∷ es) here apart = by_test (e.0.0 == site.0) refl (apart_keys site place es here apart.1)
  where
    by_test : (b : Bool) → (e.0.0 == site.0) ≡ b → AllByRecursion (λ k. nat_eq place.1 k ≡ false) (map (λ row. row.key.0) (rows_from site es))
        → AllByRecursion (λ k. nat_eq place.1 k ≡ false) (map (λ row. row.key.0) (cond b (record { key = record { 0 = e.0.1 }; value = e.1 } ∷ rows_from site es) (rows_from site es)))
    by_test true is rest =
        let one = eqb-true place.0 site.0 here in
        let two = eqb-true e.0.0 site.0 is in
        (right_part (place.0 == e.0.0) (place.1 == e.0.1) (eq-eqb place.0 e.0.0 (one ∙ sym two)) apart.0, rest)
    by_test false is rest = rest

-- no two rows of a site have one key
pub rows_from-HaveOwnKeys : (site : SiteId) (es : List ((ℕ × ℕ) × ℕ)) → IsDistinct same_place (keys_of es) → HaveOwnKeys (rows_from site es)
unfolding IsDistinct
rows_from-HaveOwnKeys site [] apart = tt
rows_from-HaveOwnKeys site (e ∷ es) apart =
    by_test (e.0.0 == site.0) refl (rows_from-HaveOwnKeys site es (IsDistinct-tail same_place e.0 (keys_of es) apart))
  where
    by_test : (b : Bool) → (e.0.0 == site.0) ≡ b → HaveOwnKeys (rows_from site es) → HaveOwnKeys (cond b (record { key = record { 0 = e.0.1 }; value = e.1 } ∷ rows_from site es) (rows_from site es))
    by_test true is rest = IsDistinct-cons nat_eq e.0.1 _ (apart_keys site e.0 es is (IsDistinct-head same_place e.0 (keys_of es) apart)) rest
    by_test false is rest = rest
