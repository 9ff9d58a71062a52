-- What a number makes is a scenario.
use Rattle.std.proofs.Common.{ℕ, zero, suc, ◌≡◌, ◌+◌, ◌-◌, ◌*◌, ◌/◌, ◌%◌, ◌^◌, ◌<◌, ◌≤◌, Bool, true, false, cond, ◌&&◌, ◌||◌, Option, Some, None, List, [], ◌∷◌, ◌++◌, refl, sym, ap, ap₂, ◌∙◌, subst, arith, le-leb, ltb-true, ltb-false, leb-true, eqb-true, mod-lt}
use Rattle.std.proofs.lemmas.Bool.{and_parts}
use Rattle.std.specs.Prelude.{IsTrue, nat_le, nat_lt, ◌==◌, length}
use native.Mathlib.Numerals.{unary_clauses}
use Rattle.mdb_base.specs.declared.names.SiteId.{SiteId}
use Rattle.mdb_base.specs.Names.{same_key, same_site, same_tx}
use Rattle.mdb_base.specs.Programs.{IsProgram}
use Rattle.mdb_base.specs.Words.{Each, each_of, some_of}
use Rattle.mdb_base.proofs.ForCallers.{each_map, each_pushed, how_many_at_most, is_true_both, none_some_of, some_of-push}
use Rattle.fed_rules.specs.declared.scenario.ItemLine.{ItemLine}
use Rattle.fed_rules.specs.declared.scenario.LinkLine.{LinkLine}
use Rattle.fed_rules.specs.declared.scenario.SiteLine.{SiteLine}
use Rattle.fed_rules.specs.declared.scenario.StopLine.{StopLine}
use Rattle.fed_rules.specs.declared.scenario.TxLine.{TxLine}
use Rattle.fed_rules.specs.Plans.{AreItems, AreLinks, AreSites, AreStops, AreTransactions, IsScenario, all_differ, has_site, is_between, is_declared, is_in_place, is_transaction, most_items, one_row, one_site, one_transaction}
use Rattle.scenario_text.proofs.ForCallers.{all_differ-more, each_of-more, how_many-push}
use Rattle.scenario_maker.specs.Draws.{behind, drawn, so_far}
use Rattle.scenario_maker.specs.Made.{behind_sites, behind_transactions, is_global, made, made_global, made_item, made_items, made_local, made_rows, made_site, made_sites, made_transaction, made_transactions, transfer}

between : (low high n : ℕ) → low ≤ n → n ≤ high → IsTrue (is_between low high n)
between low high n a b = is_true_both (nat_le low n) (nat_le n high) (le-leb low n a) (le-leb n high b)

-- items that are told apart by a rank, one more of which is higher than all
differ_higher : {A : Type 0} (alike : A → A → Bool) (rank : A → ℕ) → ((a b : A) → alike a b ≡ true → rank a ≡ rank b) → (xs : List A) (y : A)
    → IsTrue (all_differ alike xs) → Each (λ x. rank x < rank y) xs → IsTrue (all_differ alike (xs ++ y ∷ []))
differ_higher alike rank told xs y differ lower =
    all_differ-more alike xs y differ (none_some_of (λ x. alike x y) xs (each_map (λ x. rank x < rank y) (λ x. alike x y ≡ false) (λ x below. by_test x below (alike x y) refl) xs lower))
  where
    by_test : (x : _) → rank x < rank y → (b : Bool) → alike x y ≡ b → b ≡ false
    by_test x below true e = let same = told x y e in absurd (omega arith)
    by_test x below false e = refl

-- the sites are numbered from 1 on
sites_below : (n x : ℕ) → Each (λ line. line.site.0 < n + 1) (made_sites n x)
sites_below zero x = tt
sites_below (suc n) x =
    each_pushed (λ line. line.site.0 < suc n + 1) (made_sites n x) (made_site (suc n) (behind_sites n x))
    (each_map (λ (line : SiteLine). line.site.0 < n + 1) (λ (line : SiteLine). line.site.0 < suc n + 1) (λ line below. omega arith) (made_sites n x) (sites_below n x)) (omega arith)

same_number : (a b : SiteLine) → one_site a b ≡ true → a.site.0 ≡ b.site.0
same_number a b e = eqb-true a.site.0 b.site.0 e

pub sites_sound : (n x : ℕ) → n ≤ 8 → AreSites (made_sites n x)
sites_sound zero x few = record { range = refl; differ = refl }
sites_sound (suc n) x few =
    let older = sites_sound n x (omega arith) in
    let line = made_site (suc n) (behind_sites n x) in
    record {
      range = each_of-more (λ (line : SiteLine). is_between 1 8 line.site.0) (made_sites n x) line older.range (between 1 8 (suc n) (omega arith) few);
      differ = differ_higher one_site (λ line. line.site.0) same_number (made_sites n x) line older.differ
          (each_map (λ (line : SiteLine). line.site.0 < n + 1) (λ (line : SiteLine). line.site.0 < suc n) (λ line below. omega arith) (made_sites n x) (sites_below n x));
    }

-- each number from 1 to n is that of a site
pub declared : (n x s : ℕ) → 1 ≤ s → s ≤ n → IsTrue (is_declared (made_sites n x) (record { 0 = s }))
declared zero x s some few = absurd (omega arith)
declared (suc n) x s some few =
    some_of-push (λ (line : SiteLine). same_site line.site (record { 0 = s })) (made_sites n x) (made_site (suc n) (behind_sites n x)) ∙ by_test (suc n == s) refl (λ few. declared n x s some few)
  where
    by_test : (b : Bool) → (suc n == s) ≡ b → (s ≤ n → IsTrue (is_declared (made_sites n x) (record { 0 = s })))
        → (is_declared (made_sites n x) (record { 0 = s }) || b) ≡ true
    by_test true e rest = or_true (is_declared (made_sites n x) (record { 0 = s }))
      where
        or_true : (b : Bool) → (b || true) ≡ true
        or_true true = refl
        or_true false = refl
    by_test false e rest = ap (λ b. b || false) (rest (smaller n s few e))
      where
        smaller : (m s : ℕ) → s ≤ suc m → (suc m == s) ≡ false → s ≤ m
        smaller m s le e = grind arith

-- rows stand by rising site and key
rank : ItemLine → ℕ
rank line = line.site.0 * 10 + line.put.key.0

abbrev IsRow : ℕ → ItemLine → Type 0
IsRow most line = (1 ≤ line.site.0) × (line.site.0 ≤ most) × (line.put.key.0 < 10)

same_rank : (a b : ItemLine) → one_row a b ≡ true → rank a ≡ rank b
unfolding rank
same_rank a b e = by_parts (and_parts _ _ e)
  where
    by_parts : (same_site a.site b.site ≡ true) × (same_key a.put.key b.put.key ≡ true) → a.site.0 * 10 + a.put.key.0 ≡ b.site.0 * 10 + b.put.key.0
    by_parts (s, k) = ap₂ (λ m n. m * 10 + n) (eqb-true a.site.0 b.site.0 s) (eqb-true a.put.key.0 b.put.key.0 k)

-- what holds of the rows behind so many sites
record AreRows (most bound count : ℕ) (lines : List ItemLine) : Type 0 where
  rows : Each (IsRow most) lines
  below : Each (λ line. rank line < bound) lines
  differ : IsTrue (all_differ one_row lines)
  few : length lines ≡ count

one_more_row : (most bound count : ℕ) (lines : List ItemLine) (site key : ℕ) → AreRows most bound count lines → 1 ≤ site → site ≤ most → key < 10
    → bound ≤ site * 10 + key → AreRows most (site * 10 + (key + 1)) (count + 1) (lines ++ made_item site key ∷ [])
unfolding rank
one_more_row most bound count lines site key are some few small higher = record {
  rows = each_pushed (IsRow most) lines (made_item site key) are.rows (some, few, small);
  below = each_pushed (λ line. rank line < site * 10 + (key + 1)) lines (made_item site key)
      (each_map (λ line. rank line < bound) (λ line. rank line < site * 10 + (key + 1)) (λ line h. omega arith) lines are.below) (omega arith);
  differ = differ_higher one_row rank same_rank lines (made_item site key) are.differ
      (each_map (λ line. rank line < bound) (λ line. rank line < site * 10 + key) (λ line h. omega arith) lines are.below);
  few = length_push lines (made_item site key) ∙ ap (λ n. n + 1) are.few;
}
  where
    length_push : (xs : List ItemLine) (y : ItemLine) → length (xs ++ y ∷ []) ≡ length xs + 1
    length_push [] y = refl
    length_push (x ∷ xs) y = let rest = length_push xs y in omega (arith, rest)

append_empty : (xs : List ItemLine) → xs ++ [] ≡ xs
append_empty [] = refl
append_empty (x ∷ xs) = ap (λ ys. x ∷ ys) (append_empty xs)

append_again : (xs ys zs : List ItemLine) → (xs ++ ys) ++ zs ≡ xs ++ (ys ++ zs)
append_again [] ys zs = refl
append_again (x ∷ xs) ys zs = ap (λ us. x ∷ us) (append_again xs ys zs)

-- a site's rows behind those of the sites before it
rows_of : (keys most count site : ℕ) (lines : List ItemLine) → AreRows most (site * 10) count lines → 1 ≤ site → site ≤ most → keys ≤ 10
    → AreRows most (site * 10 + keys) (count + keys) (lines ++ made_rows keys site)
rows_of zero most count site lines are some few small =
    subst (λ xs. AreRows most (site * 10 + 0) (count + 0) xs) (sym (append_empty lines)) (simp unary_clauses are)
rows_of (suc keys) most count site lines are some few small =
    subst (λ xs. AreRows most (site * 10 + suc keys) (count + suc keys) xs) (append_again lines (made_rows keys site) (made_item site keys ∷ []))
    (subst (λ n. AreRows most (site * 10 + suc keys) n ((lines ++ made_rows keys site) ++ made_item site keys ∷ [])) (omega arith)
    (subst (λ n. AreRows most n (count + keys + 1) ((lines ++ made_rows keys site) ++ made_item site keys ∷ [])) (omega arith)
    (one_more_row most (site * 10 + keys) (count + keys) (lines ++ made_rows keys site) site keys
    (rows_of keys most count site lines are some few (omega arith)) some few (omega arith) (omega arith))))

more_sites : (most bound count : ℕ) (lines : List ItemLine) → AreRows most bound count lines → AreRows (most + 1) bound count lines
more_sites most bound count lines are = record {
  rows = each_map (IsRow most) (IsRow (most + 1)) (λ line h. (h.0, omega (arith, h.1), h.2)) lines are.rows;
  below = are.below;
  differ = are.differ;
  few = are.few;
}

items_rows : (n : ℕ) → AreRows n (suc n * 10) (n * 10) (made_items n)
items_rows zero = record { rows = tt; below = tt; differ = refl; few = refl }
items_rows (suc n) =
    subst (λ b. AreRows (suc n) b (suc n * 10) (made_items (suc n))) (omega arith)
    (subst (λ c. AreRows (suc n) (suc n * 10 + 10) c (made_items (suc n))) (omega arith)
    (rows_of 10 (suc n) (n * 10) (suc n) (made_items n)
    (subst (λ m. AreRows m (suc n * 10) (n * 10) (made_items n)) (omega arith) (more_sites n (suc n * 10) (n * 10) (made_items n) (items_rows n)))
    (omega arith) (omega arith) (omega arith)))

items_sound : (n x : ℕ) → n ≤ 8 → AreItems (made_sites n x) (made_items n)
items_sound n x few =
    let are = items_rows n in
    record {
      declared = each_true (λ (line : ItemLine). is_declared (made_sites n x) line.site) (made_items n)
          (each_map (IsRow n) (λ (line : ItemLine). is_declared (made_sites n x) line.site ≡ true) (λ line h. declared n x line.site.0 h.0 h.1) (made_items n) are.rows);
      differ = are.differ;
      few = λ site. let counted = how_many_at_most (has_site site) (made_items n) in let many = are.few in omega arith;
    }
  where
    each_true : {A : Type 0} (test : A → Bool) (xs : List A) → Each (λ x. test x ≡ true) xs → IsTrue (each_of test xs)
    each_true test [] h = refl
    each_true test (x ∷ xs) h = is_true_both (test x) (each_of test xs) h.0 (each_true test xs h.1)

-- transactions are numbered from 1 on
transactions_below : (sites n x : ℕ) → Each (λ line. line.tx.0 < n + 1) (made_transactions sites n x)
transactions_below sites zero x = tt
transactions_below sites (suc n) x =
    each_pushed (λ line. line.tx.0 < suc n + 1) (made_transactions sites n x) (made_transaction sites (suc n) (behind_transactions sites n x))
    (each_map (λ (line : TxLine). line.tx.0 < n + 1) (λ (line : TxLine). line.tx.0 < suc n + 1) (λ line below. omega arith) (made_transactions sites n x) (transactions_below sites n x))
    (by_kind (is_global sites (suc n)))
  where
    by_kind : (b : Bool) → (cond b (made_global sites (suc n) (behind_transactions sites n x)) (made_local sites (suc n) (behind_transactions sites n x))).tx.0 < suc n + 1
    by_kind true = omega arith
    by_kind false = omega arith

same_transaction : (a b : TxLine) → one_transaction a b ≡ true → a.tx.0 ≡ b.tx.0
same_transaction a b e = eqb-true a.tx.0 b.tx.0 e

-- a transfer is a program, wherever it takes from and puts to
transfer_program : (from key to other amount : ℕ) → IsProgram (transfer from key to other amount)
transfer_program from key to other amount = record { some = omega arith; few = omega arith; registers = refl }

-- what is drawn is below the bound
pub drawn_below : (x bound : ℕ) → 0 < bound → drawn x bound < bound
drawn_below x bound some = mod-lt (behind x / 2 ^ 33) some

-- a made transaction stands where it may
record IsSound (sites : List SiteLine) (line : TxLine) : Type 0 where
  in_place : IsTrue (each_of (is_in_place sites line.home) line.program)
  program : IsProgram line.program

global_sound : (sites number t x : ℕ) → 2 ≤ sites → IsSound (made_sites sites number) (made_global sites t x)
global_sound sites number t x two = record {
  in_place = all_four (is_declared (made_sites sites number) (record { 0 = from })) (is_declared (made_sites sites number) (record { 0 = to }))
      (declared sites number from (omega arith) (let h = drawn_below x sites (omega arith) in omega arith))
      (declared sites number to (omega arith) (let h = mod-lt (from + drawn (so_far 1 x) (sites - 1)) (positive sites two) in omega arith));
  program = transfer_program from (drawn (so_far 2 x) 10) to (drawn (so_far 3 x) 10) (1 + drawn (so_far 4 x) 9);
}
  where
    positive : (n : ℕ) → 2 ≤ n → 0 < n
    positive n h = omega arith

    from : ℕ
    from = 1 + drawn x sites

    to : ℕ
    to = 1 + ((1 + drawn x sites) + drawn (so_far 1 x) (sites - 1)) % sites

    all_four : (a b : Bool) → a ≡ true → b ≡ true → (a && (a && (b && (b && true)))) ≡ true
    all_four a b is_a is_b = cc

local_sound : (sites number t x : ℕ) → 1 ≤ sites → IsSound (made_sites sites number) (made_local sites t x)
local_sound sites number t x some = record {
  in_place = all_four (is_declared (made_sites sites number) (record { 0 = 1 + drawn x sites })) (same_site (record { 0 = 1 + drawn x sites }) (record { 0 = 1 + drawn x sites }))
      (declared sites number (1 + drawn x sites) (omega arith) (let h = drawn_below x sites (omega arith) in omega arith))
      (itself (1 + drawn x sites));
  program = transfer_program (1 + drawn x sites) (drawn (so_far 1 x) 10) (1 + drawn x sites) ((drawn (so_far 1 x) 10 + 1 + drawn (so_far 2 x) 9) % 10) (1 + drawn (so_far 3 x) 9);
}
  where
    all_four : (a b : Bool) → a ≡ true → b ≡ true → ((a && b) && ((a && b) && ((a && b) && ((a && b) && true)))) ≡ true
    all_four a b is_a is_b = cc

    itself : (n : ℕ) → (n == n) ≡ true
    itself n = grind arith

made_sound : (sites number t x : ℕ) → 1 ≤ sites → IsSound (made_sites sites number) (made_transaction sites t x)
made_sound sites number t x some = by_kind (is_global sites t) refl
  where
    two : (a b : Bool) → (a && b) ≡ true → a ≡ true
    two true b e = refl
    two false b e = cc

    by_kind : (b : Bool) → is_global sites t ≡ b → IsSound (made_sites sites number) (cond b (made_global sites t x) (made_local sites t x))
    by_kind true e = global_sound sites number t x (leb-true 2 sites (two (nat_le 2 sites) (t % 2 == 0) e))
    by_kind false e = local_sound sites number t x some

transactions_sound : (sites number n x : ℕ) → 1 ≤ sites → n ≤ 1024 → AreTransactions (made_sites sites number) (made_transactions sites n x)
transactions_sound sites number zero x some few = record { in_place = refl; differ = refl; programs = tt }
transactions_sound sites number (suc n) x some few =
    let older = transactions_sound sites number n x some (omega arith) in
    let state = behind_transactions sites n x in
    let line = made_transaction sites (suc n) (behind_transactions sites n x) in
    let sound = made_sound sites number (suc n) (behind_transactions sites n x) some in
    let numbered : (made_transaction sites (suc n) (behind_transactions sites n x)).tx.0 ≡ suc n = numbered_so (is_global sites (suc n)) in
    record {
      in_place = each_of-more (is_transaction (made_sites sites number)) (made_transactions sites n x) line older.in_place
          (is_true_both (is_between 1 1024 line.tx.0) (each_of (is_in_place (made_sites sites number) line.home) line.program)
          (subst (λ t. IsTrue (is_between 1 1024 t)) (sym numbered) (between 1 1024 (suc n) (omega arith) few)) sound.in_place);
      differ = differ_higher one_transaction (λ line. line.tx.0) same_transaction (made_transactions sites n x) line older.differ
          (each_map (λ (l : TxLine). l.tx.0 < n + 1) (λ (l : TxLine). l.tx.0 < line.tx.0) (λ l below. omega (arith, below, numbered)) (made_transactions sites n x) (transactions_below sites n x));
      programs = each_pushed (λ line. IsProgram line.program) (made_transactions sites n x) line older.programs sound.program;
    }
  where
    numbered_so : (b : Bool) → (cond b (made_global sites (suc n) (behind_transactions sites n x)) (made_local sites (suc n) (behind_transactions sites n x))).tx.0 ≡ suc n
    numbered_so true = refl
    numbered_so false = refl

pub made_is_scenario : (number sites transactions : ℕ) → 1 ≤ sites → sites ≤ 8 → transactions ≤ 1024 → IsScenario (made number sites transactions)
made_is_scenario number sites transactions some few count = record {
  sites = sites_sound sites number few;
  items = items_sound sites number few;
  transactions = transactions_sound sites number transactions (behind_sites sites number) some count;
  clients = refl;
  turns = refl;
  tries = refl;
  links = record { range = refl; differ = refl; few = omega arith };
  stops = record { range = refl; few = λ actor. omega arith };
}

-- so are lists that are those of what it makes
pub scenario_of : (number sites transactions : ℕ) (s : List SiteLine) (i : List ItemLine) (t : List TxLine) (l : List LinkLine) (p : List StopLine)
    → 1 ≤ sites → sites ≤ 8 → transactions ≤ 1024 → s ≡ made_sites sites number → i ≡ made_items sites
    → t ≡ made_transactions sites transactions (behind_sites sites number) → l ≡ [] → p ≡ []
    → IsScenario (record { sites = s; items = i; transactions = t; clients = 4; turns = 1000; tries = 4; links = l; stops = p; conservative = false })
scenario_of number sites transactions s i t l p some few count a b c d e =
    subst IsScenario (sym (same_plan a b c d e)) (made_is_scenario number sites transactions some few count)
  where
    same_plan : s ≡ made_sites sites number → i ≡ made_items sites → t ≡ made_transactions sites transactions (behind_sites sites number) → l ≡ [] → p ≡ []
        → (record { sites = s; items = i; transactions = t; clients = 4; turns = 1000; tries = 4; links = l; stops = p; conservative = false })
        ≡ made number sites transactions
    same_plan a b c d e = cc
