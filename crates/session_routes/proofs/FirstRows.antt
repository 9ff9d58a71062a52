-- The first rows of a site, put in order.
use Rattle.std.proofs.Common.{◌≡◌, ℕ, suc, ◌+◌, ◌<◌, Bool, true, false, cond, not, ◌&&◌, ◌||◌, nat_eq, Some, List, [], ◌∷◌, ◌++◌, length, drop, get_or, map, refl, sym, ◌∙◌, ap, subst, eq-eqb, append_assoc, drop-cons, arith}
use Rattle.std.specs.List.{AllByRecursion, IsDistinct}
use Rattle.std.proofs.lemmas.Bool.{and_parts, cond-true, cond-false, ne_eqb}
use Rattle.std.proofs.lemmas.Map.Keys.{IsDistinct-cons}
use Rattle.mdb_base.specs.declared.names.Key.{Key}
use Rattle.mdb_base.specs.declared.names.SiteId.{SiteId}
use Rattle.mdb_base.specs.declared.rows.Put.{Put}
use Rattle.mdb_base.specs.Names.{same_site, same_key}
use Rattle.mdb_base.specs.Rising.{IsRising}
use Rattle.mdb_base.specs.Rows.{HaveOwnKeys, value_in, with_row}
use Rattle.mdb_base.specs.Words.{some_of}
use Rattle.mdb_base.proofs.ForCallers.{same_rows, same_site-equal, value_in-with_row}
use Rattle.fed_rules.specs.declared.scenario.ItemLine.{ItemLine}
use Rattle.fed_rules.specs.Plans.{all_differ, one_row}
use Rattle.fed_rules.specs.Scenarios.{items_of}
use Rattle.engine_laws.proofs.ForCallers.{rising_items}
use Rattle.session_routes.specs.Rows.{rows_at, DifferInRow}

-- the rows of a site in their order are found as those of its items
value_in-items : (items : List ItemLine) (site : SiteId) (key : Key) → value_in (rows_at items site) key ≡ value_in (items_of items site) key
value_in-items [] site key = refl
value_in-items (item ∷ items) site key = by_site (same_site item.site site) (value_in-items items site key)
  where
    by_site : (b : Bool) → value_in (rows_at items site) key ≡ value_in (items_of items site) key
        → value_in (cond b (item.put ∷ rows_at items site) (rows_at items site)) key ≡ value_in (cond b (with_row item.put (items_of items site)) (items_of items site)) key
    by_site true rest = ap (cond (same_key item.put.key key) (Some item.put.value)) rest ∙ sym (value_in-with_row item.put (items_of items site) key)
    by_site false rest = rest

-- rows that rise and are found as those of the items are the site's first rows
pub first_rows_are : (items : List ItemLine) (site : SiteId) (rows sorted : List Put) → rows ≡ rows_at items site → IsRising (λ row. row.key.0) sorted
    → ((key : Key) → value_in sorted key ≡ value_in rows key) → sorted ≡ items_of items site
first_rows_are items site rows sorted e rising found =
    same_rows sorted (items_of items site) rising (rising_items items site) (λ key. found key ∙ (ap (λ rs. value_in rs key) e ∙ value_in-items items site key))

or_none : (a b : Bool) → not (a || b) ≡ true → (a ≡ false) × (not b ≡ true)
or_none true b e = absurd cc
or_none false b e = (refl, e)

-- the key of an item that no other one has
own_key : (item : ItemLine) (items : List ItemLine) (site : SiteId) → same_site item.site site ≡ true → not (some_of (one_row item) items) ≡ true
    → AllByRecursion (λ y. nat_eq item.put.key.0 y ≡ false) (map (λ (row : Put). row.key.0) (rows_at items site))
own_key item [] site here e = tt
own_key item (other ∷ items) site here e =
    let parts = or_none (one_row item other) (some_of (one_row item) items) e in
    by_site (same_site other.site site) refl parts.0 (own_key item items site here parts.1)
  where
    apart : (a b : Bool) → a ≡ true → (a && b) ≡ false → b ≡ false
    apart true b e f = f
    apart false b e f = absurd cc

    by_site : (b : Bool) → same_site other.site site ≡ b → one_row item other ≡ false
        → AllByRecursion (λ y. nat_eq item.put.key.0 y ≡ false) (map (λ (row : Put). row.key.0) (rows_at items site))
        → AllByRecursion (λ y. nat_eq item.put.key.0 y ≡ false) (map (λ (row : Put). row.key.0) (cond b (other.put ∷ rows_at items site) (rows_at items site)))
    by_site true there differ rest =
        (let both = same_site-equal item.site site here ∙ sym (same_site-equal other.site site there) in
        let same : same_site item.site other.site ≡ true = eq-eqb item.site.0 other.site.0 (ap (λ (s : SiteId). s.0) both) in
        (apart (same_site item.site other.site) (same_key item.put.key other.put.key) same differ, rest))
    by_site false there differ rest = rest

-- each row of a site has its own key
pub own_keys : (items : List ItemLine) (site : SiteId) → DifferInRow items → HaveOwnKeys (rows_at items site)
unfolding IsDistinct
own_keys [] site e = tt
own_keys (item ∷ items) site e =
    let parts = and_parts (not (some_of (one_row item) items)) (all_differ one_row items) e in
    by_site (same_site item.site site) refl parts.0 (own_keys items site parts.1)
  where
    by_site : (b : Bool) → same_site item.site site ≡ b → not (some_of (one_row item) items) ≡ true → HaveOwnKeys (rows_at items site)
        → HaveOwnKeys (cond b (item.put ∷ rows_at items site) (rows_at items site))
    by_site true here differ rest = IsDistinct-cons nat_eq item.put.key.0 _ (own_key item items site here differ) rest
    by_site false here differ rest = rest

-- the rows of the items from a place on
rows_left : (items : List ItemLine) (site : SiteId) (place : ℕ) (d : ItemLine) → place < length items
    → rows_at (drop place items) site ≡ cond (same_site (get_or items place d).site site) ((get_or items place d).put ∷ rows_at (drop (place + 1) items) site) (rows_at (drop (place + 1) items) site)
rows_left items site place d within =
    let next : suc place ≡ place + 1 = omega arith in
    ap (λ xs. rows_at xs site) (subst (λ n. drop place items ≡ get_or items place d ∷ drop n items) next (drop-cons items place d within))

-- an item of the site is put behind the rows so far, and any other one is left out
pub row_kept : (items : List ItemLine) (site : SiteId) (place : ℕ) (d : ItemLine) (old new all : List Put) → place < length items → (get_or items place d).site.0 ≡ site.0
    → old ++ rows_at (drop place items) site ≡ all → new ≡ old ++ (get_or items place d).put ∷ [] → new ++ rows_at (drop (place + 1) items) site ≡ all
row_kept items site place d old new all within here before e =
    let rest : List Put = rows_at (drop (place + 1) items) site in
    let item : ItemLine = get_or items place d in
    ap (λ xs. xs ++ rest) e ∙ append_assoc old (item.put ∷ []) rest
    ∙ sym (ap (λ xs. old ++ xs) (rows_left items site place d within ∙ cond-true _ _ _ (eq-eqb item.site.0 site.0 here))) ∙ before

pub row_left_out : (items : List ItemLine) (site : SiteId) (place : ℕ) (d : ItemLine) (old new all : List Put) → place < length items → ((get_or items place d).site.0 ≡ site.0 → ⊥)
    → old ++ rows_at (drop place items) site ≡ all → new ≡ old → new ++ rows_at (drop (place + 1) items) site ≡ all
row_left_out items site place d old new all within elsewhere before e =
    let rest : List Put = rows_at (drop (place + 1) items) site in
    let item : ItemLine = get_or items place d in
    ap (λ xs. xs ++ rest) e
    ∙ sym (ap (λ xs. old ++ xs) (rows_left items site place d within ∙ cond-false _ _ _ (ne_eqb item.site.0 site.0 elsewhere))) ∙ before
