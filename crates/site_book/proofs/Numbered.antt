-- A list by number is a finite map with what stands in it.
use Rattle.std.proofs.Common.{◌≡◌, ℕ, zero, suc, ◌+◌, ◌<◌, ◌≤◌, Bool, true, false, cond, nat_eq, Option, Some, None, IsSome, List, [], ◌∷◌, ◌++◌, length, slice_get, slice_set, refl, sym, ap, ◌∙◌, subst, arith}
use Rattle.std.specs.FinMap.{get, insert, remove}
use Rattle.std.specs.BTreeMap.{is_at}
use Rattle.std.proofs.lemmas.Bool.{cond-true, cond-false}
use Rattle.std.proofs.lemmas.Bool.Decides.{nat_tests}
use Rattle.std.proofs.lemmas.Option.{slice_get_past}
use Rattle.mdb_base.specs.declared.names.Tx.{Tx}
use Rattle.mdb_base.specs.Names.{same_tx, tx_cmp}
use Rattle.mdb_base.specs.Words.{or_else}
use Rattle.site_book.specs.Numbered.{by_number, items_from}
use Rattle.mdb_base.proofs.ForCallers.{tx_ties, txs_exact, txs_total}
use Rattle.site_book.proofs.Maps.{get-gone, get-put, get_look, look, same}

-- what stands at this place, where anything does
abbrev pub item_at : {A : Type 0} → List (Option A) → ℕ → Option A
item_at items n = or_else (slice_get items n) None

same_number : (tx : Tx) (n : ℕ) → tx.0 ≡ n → is_at (tx_cmp tx) (record { 0 = n }) ≡ true
same_number tx n is = let t : Tx = record { 0 = n } in let e : nat_eq tx.0 n ≡ true = grind (arith, nat_tests) in tx_ties tx t ∙ e

lower_number : (tx : Tx) (n : ℕ) → tx.0 < n → is_at (tx_cmp tx) (record { 0 = n }) ≡ false
lower_number tx n below = let t : Tx = record { 0 = n } in let e : nat_eq tx.0 n ≡ false = grind (arith, nat_tests) in tx_ties tx t ∙ e

higher_number : (tx : Tx) (n : ℕ) → n < tx.0 → is_at (tx_cmp tx) (record { 0 = n }) ≡ false
higher_number tx n above = let t : Tx = record { 0 = n } in let e : nat_eq tx.0 n ≡ false = grind (arith, nat_tests) in tx_ties tx t ∙ e

-- below the first number nothing is found
look_below : {A : Type 0} (items : List (Option A)) (n : ℕ) (tx : Tx) → tx.0 < n → look txs_total txs_exact (items_from n items) tx ≡ None
look_below [] n tx below = refl
look_below (None ∷ items) n tx below = look_below items (suc n) tx (omega arith)
look_below (Some item ∷ items) n tx below = cond-false _ _ _ (lower_number tx n below) ∙ look_below items (suc n) tx (omega arith)

-- and from there on what stands at the place
look_from : {A : Type 0} (items : List (Option A)) (n k : ℕ) (tx : Tx) → tx.0 ≡ n + k → look txs_total txs_exact (items_from n items) tx ≡ item_at items k
look_from [] n k tx is = refl
look_from (None ∷ items) n zero tx is = look_below items (suc n) tx (omega arith)
look_from (None ∷ items) n (suc k) tx is = look_from items (suc n) k tx (omega arith)
look_from (Some item ∷ items) n zero tx is = cond-true _ _ _ (same_number tx n (omega arith))
look_from (Some item ∷ items) n (suc k) tx is = cond-false _ _ _ (higher_number tx n (omega arith)) ∙ look_from items (suc n) k tx (omega arith)

-- so the map has at a transaction what stands at its number
pub get_number : {A : Type 0} (items : List (Option A)) (tx : Tx) → get (by_number items) tx ≡ item_at items tx.0
get_number items tx = get_look txs_total txs_exact (items_from 0 items) tx ∙ look_from items 0 tx.0 tx (omega arith)

-- behind the end of the list there is nothing
pub get_past : {A : Type 0} (items : List (Option A)) (tx : Tx) → length items ≤ tx.0 → get (by_number items) tx ≡ None
get_past {A} items tx past = get_number items tx ∙ ap (λ (item : Option (Option A)). or_else item None) (slice_get_past items tx.0 past)

-- so what is there has its place in the list
pub reached_number : {A : Type 0} (items : List (Option A)) (tx : Tx) → IsSome (get (by_number items) tx) → tx.0 < length items
reached_number {A} items tx there = by_item items tx.0 (subst (λ (item : Option A). IsSome item) (get_number items tx) there)
  where
    by_item : {A : Type 0} (items : List (Option A)) (n : ℕ) → IsSome (item_at items n) → n < length items
    by_item [] n there = cc
    by_item (item ∷ items) zero there = omega arith
    by_item (item ∷ items) (suc n) there = let within : n < length items = by_item items n there in omega arith

-- lists in which the same stands are one map
pub same_numbers : {A : Type 0} (items more : List (Option A)) → ((n : ℕ) → item_at more n ≡ item_at items n) → by_number more ≡ by_number items
same_numbers items more h = same txs_total txs_exact _ _ (λ tx. get_number more tx ∙ (h tx.0 ∙ sym (get_number items tx)))

pushed_item : {A : Type 0} (items : List (Option A)) (n : ℕ) → item_at (items ++ None ∷ []) n ≡ item_at items n
pushed_item [] zero = refl
pushed_item [] (suc n) = refl
pushed_item (item ∷ items) zero = refl
pushed_item (item ∷ items) (suc n) = pushed_item items n

-- a longer list with nothing at its end is the same map
pub push_number : {A : Type 0} (items : List (Option A)) → by_number (items ++ None ∷ []) ≡ by_number items
push_number items = same_numbers items (items ++ None ∷ []) (pushed_item items)

set_item : {A : Type 0} (items : List (Option A)) (i n : ℕ) (item : Option A) → i < length items → item_at (slice_set items i item) n ≡ cond (nat_eq i n) item (item_at items n)
set_item [] i n item within = absurd (omega arith)
set_item (old ∷ items) zero zero item within = refl
set_item (old ∷ items) zero (suc n) item within = let apart : nat_eq zero (suc n) ≡ false = grind (arith, nat_tests) in sym (cond-false _ _ _ apart)
set_item (old ∷ items) (suc i) zero item within = let apart : nat_eq (suc i) zero ≡ false = grind (arith, nat_tests) in sym (cond-false _ _ _ apart)
set_item (old ∷ items) (suc i) (suc n) item within =
    let test : nat_eq i n ≡ nat_eq (suc i) (suc n) = grind (arith, nat_tests) in
    set_item items i n item (omega arith) ∙ ap (λ (b : Bool). cond b item (item_at items n)) test

-- an item that is put at a number is put into the map
pub put_number : {A : Type 0} (items : List (Option A)) (tx : Tx) (item : A) → tx.0 < length items → by_number (slice_set items tx.0 (Some item)) ≡ insert (by_number items) tx item
put_number {A} items tx item within = same txs_total txs_exact _ _ (λ q.
    get_number (slice_set items tx.0 (Some item)) q ∙ (set_item items tx.0 q.0 (Some item) within
    ∙ sym (get-put txs_total txs_exact (by_number items) tx q item ∙ (ap (λ (b : Bool). cond b (Some item) (get (by_number items) q)) (tx_ties tx q)
    ∙ ap (λ (o : Option A). cond (same_tx tx q) (Some item) o) (get_number items q)))))

-- and with nothing in its place it is taken out of it
pub gone_number : {A : Type 0} (items : List (Option A)) (tx : Tx) → tx.0 < length items → by_number (slice_set items tx.0 None) ≡ remove (by_number items) tx
gone_number {A} items tx within = same txs_total txs_exact _ _ (λ q.
    get_number (slice_set items tx.0 None) q ∙ (set_item items tx.0 q.0 None within
    ∙ sym (get-gone txs_total txs_exact (by_number items) tx q ∙ (ap (λ (b : Bool). cond b None (get (by_number items) q)) (tx_ties tx q)
    ∙ ap (λ (o : Option A). cond (same_tx tx q) None o) (get_number items q)))))

-- what isn't there needn't be taken out
pub gone_past : {A : Type 0} (items : List (Option A)) (tx : Tx) → length items ≤ tx.0 → by_number items ≡ remove (by_number items) tx
gone_past {A} items tx past = same txs_total txs_exact _ _ (λ q.
    sym (get-gone txs_total txs_exact (by_number items) tx q ∙ (ap (λ (b : Bool). cond b None (get (by_number items) q)) (tx_ties tx q) ∙ by_test q (same_tx tx q) refl)))
  where
    by_test : (q : Tx) (b : Bool) → same_tx tx q ≡ b → cond b None (get (by_number items) q) ≡ get (by_number items) q
    by_test q true is = let at : length items ≤ q.0 = grind (arith, nat_tests) in sym (get_past items q at)
    by_test q false is = refl
