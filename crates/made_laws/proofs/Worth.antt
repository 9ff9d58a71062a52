-- Moves keep what the tables are worth together.
use Rattle.std.proofs.Common.{◌≡◌, ℕ, zero, suc, ◌+◌, ◌-◌, ◌*◌, ◌/◌, ◌%◌, ◌^◌, ◌<◌, ◌≤◌, Bool, true, false, cond, List, [], ◌∷◌, inl, inr, refl, sym, ap, ap₂, subst, ◌∙◌, arith, ne_eqb, eqb-true}
use Rattle.std.proofs.lemmas.Bool.{eqb-false}
use Rattle.std.specs.Prelude.{◌==◌}
use Rattle.std.proofs.Math.Nat.{div-add-mod, add-mul-mod_self_left, mul-add}
use Rattle.mdb_base.specs.declared.acts.Step.{Step}
use Rattle.mdb_base.specs.declared.names.Key.{Key}
use Rattle.mdb_base.specs.declared.names.SiteId.{SiteId}
use Rattle.mdb_base.specs.Names.{same_site}
use Rattle.mdb_base.specs.Rows.{Table}
use Rattle.mdb_base.proofs.ForCallers.{same_site-equal}
use Rattle.order_laws.specs.Chains.{Distinct, In}
use Rattle.fed_rules.specs.Serial.{Tables, alone, update, update_at}
use Rattle.scenario_maker.specs.Made.{transfer}
use Rattle.made_laws.specs.Moves.{IsMove, MovesKeepWorth, column, worth}

-- ---- one key

column_out : (key : Key) (value : ℕ) (table : Table) (n : ℕ) → n ≤ key.0 → column (update key value table) n ≡ column table n
column_out key value table zero most = refl
column_out key value table (suc n) most =
    ap₂ (λ a b. a + b) (column_out key value table n (omega (arith, most)))
    (ap (λ b. cond b value (table (record { 0 = n }))) (ne_eqb key.0 n (λ e. absurd (omega (arith, most, e)))))

pub column_in : (key : Key) (value : ℕ) (table : Table) (n : ℕ) → key.0 < n → column (update key value table) n + table key ≡ column table n + value
column_in key value table zero low = absurd (omega (arith, low))
column_in key value table (suc n) low = by_test (key.0 == n) refl (λ less. column_in key value table n less)
  where
    by_test : (b : Bool) → (key.0 == n) ≡ b → (key.0 < n → column (update key value table) n + table key ≡ column table n + value) → column (update key value table) n + cond (key.0 == n) value (table (record { 0 = n })) + table key ≡ column table n + table (record { 0 = n }) + value
    by_test true e more =
        let same : key.0 ≡ n = eqb-true key.0 n e in
        let out = column_out key value table n (omega (arith, same)) in
        let here : cond (key.0 == n) value (table (record { 0 = n })) ≡ value = ap (λ b. cond b value (table (record { 0 = n }))) e in
        let own : table key ≡ table (record { 0 = n }) = ap (λ m. table (record { 0 = m })) same in
        swapped (column (update key value table) n) (column table n) (cond (key.0 == n) value (table (record { 0 = n }))) value (table key) (table (record { 0 = n })) out here own
      where
        swapped : (a b c d x y : ℕ) → a ≡ b → c ≡ d → x ≡ y → a + c + x ≡ b + y + d
        swapped a b c d x y p q r = omega (arith, p, q, r)
    by_test false e more =
        let apart = eqb-false key.0 n e in
        let rest = more (lower key.0 n low apart) in
        let here : cond (key.0 == n) value (table (record { 0 = n })) ≡ table (record { 0 = n }) = ap (λ b. cond b value (table (record { 0 = n }))) e in
        joined (column (update key value table) n) (column table n) (cond (key.0 == n) value (table (record { 0 = n }))) value (table key) (table (record { 0 = n })) rest here
      where
        lower : (k n : ℕ) → k < suc n → (k ≡ n → ⊥) → k < n
        lower k n a b = grind arith

        joined : (a b c d x y : ℕ) → a + x ≡ b + d → c ≡ y → a + c + x ≡ b + y + d
        joined a b c d x y p q = omega (arith, p, q)

-- ---- all sites

module _ (bound : SiteId → ℕ) (site : SiteId) (key : Key) (value : ℕ) (tables : Tables) where
  now : Tables
  now = update_at site key value tables

  here : (s : SiteId) (b : Bool) → same_site site s ≡ b → column (update_at site key value tables s) (bound s) ≡ column (cond b (update key value (tables s)) (tables s)) (bound s)
  here s b e = ap (λ c. column (λ k. (cond c (update key value (tables s)) (tables s)) k) (bound s)) e

  worth_out : (ss : List SiteId) → (In site ss → ⊥) → worth ss bound (update_at site key value tables) ≡ worth ss bound tables
  worth_out [] none = refl
  worth_out (s ∷ ss) none = by_test (same_site site s) refl (worth_out ss (λ i. none (inr i)))
    where
      by_test : (b : Bool) → same_site site s ≡ b → worth ss bound (update_at site key value tables) ≡ worth ss bound tables → column (update_at site key value tables s) (bound s) + worth ss bound (update_at site key value tables) ≡ column (tables s) (bound s) + worth ss bound tables
      by_test true e more = absurd (none (inl (sym (same_site-equal site s e))))
      by_test false e more = ap₂ (λ a b. a + b) (here s false e) more

  worth_in : (ss : List SiteId) → Distinct ss → In site ss → key.0 < bound site → worth ss bound (update_at site key value tables) + tables site key ≡ worth ss bound tables + value
  worth_in [] apart i low = absurd i
  worth_in (s ∷ ss) apart i low = by_test (same_site site s) refl i (λ j. worth_in ss apart.1 j low)
    where
      by_test : (b : Bool) → same_site site s ≡ b → In site (s ∷ ss)
          → (In site ss → worth ss bound (update_at site key value tables) + tables site key ≡ worth ss bound tables + value)
          → column (update_at site key value tables s) (bound s) + worth ss bound (update_at site key value tables) + tables site key ≡ column (tables s) (bound s) + worth ss bound tables + value
      by_test true e i more =
          let same : site ≡ s = same_site-equal site s e in
          let rest = worth_out ss (λ j. apart.0 (subst (λ z. In z ss) same j)) in
          let own = here s true e in
          let one = column_in key value (tables s) (bound s) (subst (λ z. key.0 < bound z) same low) in
          let mine : tables site key ≡ tables s key = ap (λ z. tables z key) same in
          joined (column (update_at site key value tables s) (bound s)) (column (update key value (tables s)) (bound s)) (column (tables s) (bound s)) (worth ss bound (update_at site key value tables)) (worth ss bound tables) (tables site key) (tables s key) own rest mine one
        where
          joined : (a a' b c d x y : ℕ) → a ≡ a' → c ≡ d → x ≡ y → a' + y ≡ b + value → a + c + x ≡ b + d + value
          joined a a' b c d x y p q r t = omega (arith, p, q, r, t)
      by_test false e (inl q) more = absurd (differ e q)
        where
          differ : same_site site s ≡ false → s ≡ site → ⊥
          differ e q = eqb-false site.0 s.0 e (ap (λ (z : SiteId). z.0) (sym q))
      by_test false e (inr j) more =
          let rest = more j in
          let own = here s false e in
          joined (column (update_at site key value tables s) (bound s)) (column (tables s) (bound s)) (worth ss bound (update_at site key value tables)) (worth ss bound tables) (tables site key) own rest
        where
          joined : (a b c d x : ℕ) → a ≡ b → c + x ≡ d + value → a + c + x ≡ b + d + value
          joined a b c d x p q = omega (arith, p, q)

-- ---- one move

-- an amount is taken from one value and put to another, each modulo m
balanced : (m a x y before between after : ℕ) → 0 < m → a ≤ m → between + x ≡ before + (x + (m - a)) % m → after + y ≡ between + (y + a) % m → after % m ≡ before % m
balanced m a x y before between after some fits p q =
    let s = div-add-mod (x + (m - a)) m in
    let t = div-add-mod (y + a) m in
    let whole : after + m * (((x + (m - a)) / m) + ((y + a) / m)) ≡ before + m * 1 =
    ap (λ n. after + n) (mul-add m ((x + (m - a)) / m) ((y + a) / m))
    ∙ summed m a x y before between after (m * ((x + (m - a)) / m)) ((x + (m - a)) % m) (m * ((y + a) / m)) ((y + a) % m) fits p q s t in
    sym (add-mul-mod_self_left after m (((x + (m - a)) / m) + ((y + a) / m))) ∙ (ap (λ n. n % m) whole ∙ add-mul-mod_self_left before m 1)
  where
    summed : (m a x y before between after d r e u : ℕ) → a ≤ m → between + x ≡ before + r → after + y ≡ between + u → d + r ≡ x + (m - a) → e + u ≡ y + a
        → after + (d + e) ≡ before + m * 1
    summed m a x y before between after d r e u fits p q s t = omega (arith, fits, p, q, s, t)

move_keeps : (ss : List SiteId) (bound : SiteId → ℕ) → Distinct ss → (program : List Step) → IsMove ss bound program → (tables : Tables) → worth ss bound (alone program tables).tables % 2 ^ 64 ≡ worth ss bound tables % 2 ^ 64
move_keeps ss bound apart program move tables =
    subst (λ steps. worth ss bound (alone steps tables).tables % 2 ^ 64 ≡ worth ss bound tables % 2 ^ 64) (sym move.is) moved
  where
    taken : Tables
    taken = update_at move.from (record { 0 = move.key }) ((tables move.from (record { 0 = move.key }) + (2 ^ 64 - move.amount)) % 2 ^ 64) tables

    moved : worth ss bound (alone (transfer move.from.0 move.key move.to.0 move.other move.amount) tables).tables % 2 ^ 64 ≡ worth ss bound tables % 2 ^ 64
    moved =
        balanced (2 ^ 64) move.amount (tables move.from (record { 0 = move.key })) (taken move.to (record { 0 = move.other })) (worth ss bound tables) (worth ss bound taken)
        (worth ss bound (update_at move.to (record { 0 = move.other }) ((taken move.to (record { 0 = move.other }) + move.amount) % 2 ^ 64) taken)) (omega arith) move.fits
        (worth_in bound move.from (record { 0 = move.key }) ((tables move.from (record { 0 = move.key }) + (2 ^ 64 - move.amount)) % 2 ^ 64) tables ss apart move.from_in move.key_low)
        (worth_in bound move.to (record { 0 = move.other }) ((taken move.to (record { 0 = move.other }) + move.amount) % 2 ^ 64) taken ss apart move.to_in move.other_low)

pub moves_keep : MovesKeepWorth
moves_keep ss bound [] tables apart each = refl
moves_keep ss bound (program ∷ programs) tables apart each =
    moves_keep ss bound programs (alone program tables).tables apart each.1 ∙ elim each.0 [
      | inl none ↦ ap (λ steps. worth ss bound (alone steps tables).tables % 2 ^ 64) none
      | inr move ↦ move_keeps ss bound apart program move tables
    ]
