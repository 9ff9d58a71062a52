-- What the first rows of a made scenario are worth, and where its sites stand.
use Rattle.std.proofs.Common.{◌≡◌, ℕ, zero, suc, ◌+◌, ◌*◌, ◌<◌, ◌≤◌, Bool, true, false, cond, List, [], ◌∷◌, ◌++◌, map, length, inl, inr, refl, ap, ap₂, subst, ◌∙◌, arith, ne_eqb, eqb-true}
use Rattle.std.proofs.lemmas.Bool.{eqb-false}
use Rattle.std.specs.Prelude.{◌==◌}
use Rattle.mdb_base.specs.declared.names.SiteId.{SiteId}
use Rattle.mdb_base.specs.Words.{Each, how_many}
use Rattle.mdb_base.proofs.ForCallers.{append_each, each_map, how_many_joined}
use Rattle.order_laws.specs.Chains.{In}
use Rattle.fed_rules.specs.declared.scenario.ItemLine.{ItemLine}
use Rattle.fed_rules.specs.declared.scenario.SiteLine.{SiteLine}
use Rattle.fed_rules.specs.Plans.{all_differ, has_site, one_row}
use Rattle.fed_rules.specs.Scenarios.{items_of}
use Rattle.scenario_maker.specs.Made.{behind_sites, made_item, made_items, made_rows, made_site, made_sites}
use Rattle.report_text.specs.Summaries.{rows_total}
use Rattle.made_laws.proofs.RowTotals.{KeysBelow, items_low, items_total}
use Rattle.made_laws.proofs.SiteLists.{sites_of, there_line}

-- ---- the items of a made scenario

rows_each : (P : ItemLine → Type 0) (site keys : ℕ) → ((key : ℕ) → key < keys → P (made_item site key)) → Each P (made_rows keys site)
rows_each P site zero f = tt
rows_each P site (suc keys) f = append_each P (made_rows keys site) (made_item site keys ∷ []) (rows_each P site keys (λ key less. f key (omega (arith, less)))) (f keys (omega arith), tt)

items_each : (P : ItemLine → Type 0) (n : ℕ) → ((site key : ℕ) → key < 10 → P (made_item site key)) → Each P (made_items n)
items_each P zero f = tt
items_each P (suc n) f = append_each P (made_items n) (made_rows 10 (suc n)) (items_each P n f) (rows_each P (suc n) 10 (f (suc n)))

rows_counted : (keys site : ℕ) (s : SiteId) (b : Bool) → (site == s.0) ≡ b → how_many (has_site s) (made_rows keys site) ≡ cond b keys 0
rows_counted zero site s true e = refl
rows_counted zero site s false e = refl
rows_counted (suc keys) site s b e =
    how_many_joined (has_site s) (made_rows keys site) (made_item site keys ∷ [])
    ∙ ap₂ (λ m n. m + n) (rows_counted keys site s b e) (ap (λ c. cond c 1 0) e) ∙ by_test b
  where
    by_test : (b : Bool) → cond b keys 0 + cond b 1 0 ≡ cond b (suc keys) 0
    by_test true = omega arith
    by_test false = refl

-- ten for each site
items_counted : (n : ℕ) (s : SiteId) → (n < s.0 → how_many (has_site s) (made_items n) ≡ 0) × (1 ≤ s.0 → s.0 ≤ n → how_many (has_site s) (made_items n) ≡ 10)
items_counted zero s = (λ less. refl, λ some few. absurd (omega (arith, some, few)))
items_counted (suc n) s = (
  λ less. how_many_joined (has_site s) (made_items n) (made_rows 10 (suc n))
      ∙ ap₂ (λ a b. a + b) ((items_counted n s).0 (omega (arith, less))) (rows_counted 10 (suc n) s false (ne_eqb (suc n) s.0 (λ e. absurd (omega (arith, less, e))))),
  λ some few. how_many_joined (has_site s) (made_items n) (made_rows 10 (suc n)) ∙ by_test (suc n == s.0) refl some few (items_counted n s).0 (items_counted n s).1,
)
  where
    by_test : (b : Bool) → (suc n == s.0) ≡ b → 1 ≤ s.0 → s.0 ≤ suc n → (n < s.0 → how_many (has_site s) (made_items n) ≡ 0) → (1 ≤ s.0 → s.0 ≤ n → how_many (has_site s) (made_items n) ≡ 10)
        → how_many (has_site s) (made_items n) + how_many (has_site s) (made_rows 10 (suc n)) ≡ 10
    by_test true e some few f g =
        let same : suc n ≡ s.0 = eqb-true (suc n) s.0 e in
        ap₂ (λ a b. a + b) (f (omega (arith, same))) (rows_counted 10 (suc n) s true e)
    by_test false e some few f g =
        let apart = eqb-false (suc n) s.0 e in
        ap₂ (λ a b. a + b) (g some (lower n s.0 few apart)) (rows_counted 10 (suc n) s false e)
      where
        lower : (n k : ℕ) → k ≤ suc n → (suc n ≡ k → ⊥) → k ≤ n
        lower n k a b = grind arith

-- the first rows of a site are worth 1,000
pub first_total : (n : ℕ) (s : SiteId) → 1 ≤ s.0 → s.0 ≤ n → all_differ one_row (made_items n) ≡ true → rows_total (items_of (made_items n) s) ≡ 1000
first_total n s some few differ =
    items_total (made_items n) s (items_each (λ item. item.put.value ≡ 100) n (λ site key less. refl)) differ
    ∙ ap (λ m. 100 * m) ((items_counted n s).1 some few)

pub first_low : (n : ℕ) (s : SiteId) → KeysBelow 10 (items_of (made_items n) s)
first_low n s = items_low (made_items n) s (items_each (λ item. item.put.key.0 < 10) n (λ site key less. less))

-- ---- its sites

made_range : (n x : ℕ) → Each (λ line. (1 ≤ line.site.0) × (line.site.0 ≤ n)) (made_sites n x)
made_range zero x = tt
made_range (suc n) x =
    append_each (λ line. (1 ≤ line.site.0) × (line.site.0 ≤ suc n)) (made_sites n x) (made_site (suc n) (behind_sites n x) ∷ [])
    (each_map (λ (line : SiteLine). (1 ≤ line.site.0) × (line.site.0 ≤ n)) (λ (line : SiteLine). (1 ≤ line.site.0) × (line.site.0 ≤ suc n)) (λ line h. (h.0, (let l = h.1 in omega (arith, l)))) (made_sites n x) (made_range n x))
    ((omega arith, omega arith), tt)

pub site_range : (n x : ℕ) (s : SiteId) → In s (sites_of (made_sites n x)) → (1 ≤ s.0) × (s.0 ≤ n)
site_range n x s i = from_lines (made_sites n x) (made_range n x) (there_line (made_sites n x) s i)
  where
    from_lines : (ls : List SiteLine) → Each (λ line. (1 ≤ line.site.0) × (line.site.0 ≤ n)) ls → In s (map (λ (line : SiteLine). line.site) ls) → (1 ≤ s.0) × (s.0 ≤ n)
    from_lines [] h i = absurd i
    from_lines (l ∷ ls) h (inl e) = subst (λ (z : SiteId). (1 ≤ z.0) × (z.0 ≤ n)) e h.0
    from_lines (l ∷ ls) h (inr j) = from_lines ls h.1 j

pub made_many : (n x : ℕ) → length (made_sites n x) ≡ n
made_many zero x = refl
made_many (suc n) x = pushed (made_sites n x) (made_site (suc n) (behind_sites n x)) ∙ ap suc (made_many n x)
  where
    pushed : (ls : List SiteLine) (l : SiteLine) → length (ls ++ l ∷ []) ≡ suc (length ls)
    pushed [] l = refl
    pushed (k ∷ ls) l = ap suc (pushed ls l)
