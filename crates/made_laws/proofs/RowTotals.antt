-- What rows are worth, together and as the table that they give; and the first rows of a site that items of 100 give.
use Rattle.std.proofs.Common.{◌≡◌, ℕ, zero, suc, ◌+◌, ◌*◌, ◌<◌, ◌≤◌, Bool, true, false, cond, ◌&&◌, ◌||◌, not, List, [], ◌∷◌, refl, sym, ap, subst, ◌∙◌, arith, ne_eqb}
use Rattle.std.proofs.lemmas.Bool.{and_parts, eqb-false}
use Rattle.std.proofs.lemmas.List.Sums.{sum_by-cons}
use Rattle.std.specs.Prelude.{◌==◌, nat_lt}
use Rattle.mdb_base.specs.declared.names.Key.{Key}
use Rattle.mdb_base.specs.declared.names.SiteId.{SiteId}
use Rattle.mdb_base.specs.declared.rows.Put.{Put}
use Rattle.mdb_base.specs.Names.{same_key, same_site}
use Rattle.mdb_base.specs.Rising.{IsRising}
use Rattle.mdb_base.specs.Rows.{look_up, with_row}
use Rattle.mdb_base.specs.Words.{Each, how_many, some_of}
use Rattle.mdb_base.proofs.ForCallers.{each_with_row, rising_tail, same_site-equal}
use Rattle.fed_rules.specs.declared.scenario.ItemLine.{ItemLine}
use Rattle.fed_rules.specs.Plans.{all_differ, has_site, one_row}
use Rattle.fed_rules.specs.Scenarios.{items_of}
use Rattle.report_text.specs.Summaries.{rows_total}
use Rattle.made_laws.specs.Moves.{column}
use Rattle.made_laws.proofs.Worth.{column_in}

-- ---- rows and the table that they give

-- each row has a key below this one
abbrev pub KeysBelow : ℕ → List Put → Type 0
KeysBelow n rows = Each (λ row. row.key.0 < n) rows

-- what rises behind a key doesn't have it
none_above : (key : Key) (rows : List Put) → (row : Put) → row.key ≡ key → IsRising (λ r. r.key.0) (row ∷ rows) → look_up rows key ≡ 0
none_above key [] row same rising = refl
none_above key (other ∷ rows) row same rising =
    let less : key.0 < other.key.0 = subst (λ (k : Key). k.0 < other.key.0) same rising.0 in
    ap (λ b. cond b other.value (look_up rows key)) (ne_eqb other.key.0 key.0 (λ e. absurd (omega (arith, less, e))))
    ∙ behind key rows other less rising.1
  where
    behind : (key : Key) (rows : List Put) (row : Put) → key.0 < row.key.0 → IsRising (λ r. r.key.0) (row ∷ rows) → look_up rows key ≡ 0
    behind key [] row less rising = refl
    behind key (other ∷ rows) row less rising =
        let further : key.0 < other.key.0 = (let r = rising.0 in omega (arith, less, r)) in
        ap (λ b. cond b other.value (look_up rows key)) (ne_eqb other.key.0 key.0 (λ e. absurd (omega (arith, further, e))))
        ∙ behind key rows other further rising.1

column_zero : (n : ℕ) → column (look_up []) n ≡ 0
column_zero zero = refl
column_zero (suc n) = ap (λ m. m + 0) (column_zero n)

-- rows that rise are worth what their table is
pub rows_column : (rows : List Put) (n : ℕ) → IsRising (λ r. r.key.0) rows → KeysBelow n rows → rows_total rows ≡ column (look_up rows) n
rows_column [] n rising low = sym (column_zero n)
rows_column (row ∷ rows) n rising low =
    let first = sum_by-cons (λ (r : Put). r.value) row rows in
    let rest = rows_column rows n (rising_tail row rows rising) low.1 in
    let one = column_in row.key row.value (look_up rows) n low.0 in
    let none = none_above row.key rows row refl rising in
    joined (rows_total (row ∷ rows)) row.value (rows_total rows) (column (look_up rows) n) (column (look_up (row ∷ rows)) n) (look_up rows row.key) first rest one none
  where
    joined : (a v r c d z : ℕ) → a ≡ v + r → r ≡ c → d + z ≡ c + v → z ≡ 0 → a ≡ d
    joined a v r c d z p q s t = omega (arith, p, q, s, t)

-- a bound above all keys
abbrev pub top : List Put → ℕ
top [] = 0
top (row ∷ rows) = suc row.key.0 + top rows

pub below_top : (rows : List Put) (n : ℕ) → top rows ≤ n → KeysBelow n rows
below_top [] n most = tt
below_top (row ∷ rows) n most = (omega (arith, most), below_top rows n (omega (arith, most)))

-- ---- first rows

-- no row has this key
abbrev Lack : Key → List Put → Type 0
Lack key rows = Each (λ row. same_key row.key key ≡ false) rows

total_with_row : (row : Put) (rows : List Put) → Lack row.key rows → rows_total (with_row row rows) ≡ row.value + rows_total rows
total_with_row row [] lack = sum_by-cons (λ (r : Put). r.value) row []
total_with_row row (other ∷ rows) lack = by_test (same_key other.key row.key) (nat_lt other.key.0 row.key.0) lack.0 (total_with_row row rows lack.1)
  where
    by_test : (b c : Bool) → b ≡ false → rows_total (with_row row rows) ≡ row.value + rows_total rows
        → rows_total (cond b (row ∷ rows) (cond c (other ∷ with_row row rows) (row ∷ other ∷ rows))) ≡ row.value + rows_total (other ∷ rows)
    by_test true c e k = cc
    by_test false true e k =
        let a = sum_by-cons (λ (r : Put). r.value) other (with_row row rows) in
        let b = sum_by-cons (λ (r : Put). r.value) other rows in
        joined (rows_total (other ∷ with_row row rows)) (rows_total (with_row row rows)) (rows_total (other ∷ rows)) (rows_total rows) a b k
      where
        joined : (x w y z : ℕ) → x ≡ other.value + w → y ≡ other.value + z → w ≡ row.value + z → x ≡ row.value + y
        joined x w y z p q r = omega (arith, p, q, r)
    by_test false false e k = sum_by-cons (λ (r : Put). r.value) row (other ∷ rows)

-- a row of an item that differs from these isn't among theirs
lacks : (item : ItemLine) (items : List ItemLine) (site : SiteId) → same_site item.site site ≡ true → some_of (one_row item) items ≡ false → Lack item.put.key (items_of items site)
lacks item [] site same none = tt
lacks item (other ∷ items) site same none =
    let parts = or_none (one_row item other) (some_of (one_row item) items) none in
    by_test (same_site other.site site) refl parts.0 (lacks item items site same parts.1)
  where
    or_none : (a b : Bool) → (a || b) ≡ false → (a ≡ false) × (b ≡ false)
    or_none true b e = absurd cc
    or_none false b e = (refl, e)

    by_test : (b : Bool) → same_site other.site site ≡ b → one_row item other ≡ false → Lack item.put.key (items_of items site)
        → Lack item.put.key (cond b (with_row other.put (items_of items site)) (items_of items site))
    by_test false e apart k = k
    by_test true e apart k = each_with_row (λ row. same_key row.key item.put.key ≡ false) other.put (items_of items site) key_apart k
      where
        one : item.site ≡ other.site
        one = same_site-equal item.site site same ∙ sym (same_site-equal other.site site e)

        with_true : (a b : Bool) → a ≡ true → (a && b) ≡ false → b ≡ false
        with_true true b p q = q
        with_true false b p q = absurd cc

        site_same : same_site item.site other.site ≡ true
        site_same = ap (λ (s : SiteId). same_site item.site s) (sym one) ∙ itself item.site.0
          where
            itself : (n : ℕ) → (n == n) ≡ true
            itself n = grind arith

        turned : (m n : ℕ) → (m == n) ≡ false → (n == m) ≡ false
        turned m n e = ne_eqb n m (λ q. absurd (eqb-false m n e (sym q)))

        key_apart : same_key other.put.key item.put.key ≡ false
        key_apart = turned item.put.key.0 other.put.key.0 (with_true (same_site item.site other.site) (same_key item.put.key other.put.key) site_same apart)

-- items of 100 each that differ are worth 100 for each of a site
pub items_total : (items : List ItemLine) (site : SiteId) → Each (λ item. item.put.value ≡ 100) items → all_differ one_row items ≡ true → rows_total (items_of items site) ≡ 100 * how_many (has_site site) items
items_total [] site each differ = refl
items_total (item ∷ items) site each differ =
    let parts = and_parts (not (some_of (one_row item) items)) (all_differ one_row items) differ in
    by_test (same_site item.site site) refl (not_true (some_of (one_row item) items) parts.0) (items_total items site each.1 parts.1)
  where
    not_true : (b : Bool) → not b ≡ true → b ≡ false
    not_true true e = cc
    not_true false e = refl

    by_test : (b : Bool) → same_site item.site site ≡ b → some_of (one_row item) items ≡ false → rows_total (items_of items site) ≡ 100 * how_many (has_site site) items
        → rows_total (cond b (with_row item.put (items_of items site)) (items_of items site)) ≡ 100 * cond b (suc (how_many (has_site site) items)) (how_many (has_site site) items)
    by_test false e none k = k
    by_test true e none k =
        let t = total_with_row item.put (items_of items site) (lacks item items site e none) in
        let v = each.0 in
        joined (rows_total (with_row item.put (items_of items site))) item.put.value (rows_total (items_of items site)) (how_many (has_site site) items) t v k
      where
        joined : (a v r h : ℕ) → a ≡ v + r → v ≡ 100 → r ≡ 100 * h → a ≡ 100 * suc h
        joined a v r h p q s = omega (arith, p, q, s)

pub items_low : (items : List ItemLine) (site : SiteId) → Each (λ item. item.put.key.0 < 10) items → KeysBelow 10 (items_of items site)
items_low [] site each = tt
items_low (item ∷ items) site each = by_test (same_site item.site site) (items_low items site each.1)
  where
    by_test : (b : Bool) → KeysBelow 10 (items_of items site) → KeysBelow 10 (cond b (with_row item.put (items_of items site)) (items_of items site))
    by_test true k = each_with_row (λ row. row.key.0 < 10) item.put (items_of items site) each.0 k
    by_test false k = k
