-- Holders by rising age: where an age stands, one more, one less, and the first one of another age.
use Rattle.std.proofs.Common.{◌≡◌, ℕ, zero, suc, ◌<◌, ◌≤◌, Bool, true, false, not, cond, nat_eq, nat_lt, is_some, Option, Some, None, List, [], ◌∷◌, length, get_or, refl, sym, ap, ◌∙◌, arith}
use Rattle.std.specs.List.{insert, remove}
use Rattle.std.specs.List.Sorted.{IsPartitionedBy}
use Rattle.std.proofs.lemmas.Bool.{cond-false, eqb-true, eq-eqb, ltb-true, ltb-false, lt-ltb, le-ltb}
use Rattle.mdb_base.specs.declared.names.Tid.{Tid}
use Rattle.mdb_base.specs.Words.{Each, inserted, item_at, or_else}
use Rattle.mdb_base.proofs.ForCallers.{each_filtered, each_get_or, each_inserted, each_map, item_at-past, nat_eq-sym, not_equal, those_all}
use Rattle.run_book.specs.declared.rival.Rival.{Rival}
use Rattle.locking_engine.specs.ByAge.{IsByAge, count_older, of_age, first_other, is_older, with_run, without_age}

-- two ages
older_apart : (x age : ℕ) → nat_lt x age ≡ true → nat_eq x age ≡ false
older_apart x age e = let less : x < age = ltb-true x age e in not_equal x age (λ same. omega arith)

younger : (x age : ℕ) → nat_lt x age ≡ false → nat_eq x age ≡ false → age < x
younger x age e apart =
    let most : age ≤ x = ltb-false x age e in
    let differ : x ≡ age → ⊥ = λ same. let is : nat_eq x age ≡ true = eq-eqb x age same in cc in
    omega (arith, most, differ)

apart_from : (x age a : ℕ) → nat_eq x age ≡ false → nat_eq x a ≡ true → nat_eq age a ≡ false
apart_from x age a apart here = ap (λ (n : ℕ). nat_eq age n) (sym (eqb-true x a here)) ∙ (nat_eq-sym age x ∙ apart)

-- those that are older than an age stand in front
pub partitioned : (age : ℕ) (xs : List Rival) → IsByAge xs → IsPartitionedBy (λ rival. nat_lt rival.rank age) xs
partitioned age [] order i j d le lt e = absurd (omega arith)
partitioned age (x ∷ xs) order zero zero d le lt e = e
partitioned age (x ∷ xs) order zero (suc j) d le lt e =
    let first : x.rank < (get_or xs j d).rank = each_get_or (λ later. x.rank < later.rank) xs j d order.0 (omega arith) in
    let second : (get_or xs j d).rank < age = ltb-true (get_or xs j d).rank age e in
    lt-ltb x.rank age (omega (arith, first, second))
partitioned age (x ∷ xs) order (suc i) zero d le lt e = absurd (omega arith)
partitioned age (x ∷ xs) order (suc i) (suc j) d le lt e = partitioned age xs order.1 i j d (omega arith) (omega arith) e

-- so many as stand in front are older
pub count_older-place : (age : ℕ) (xs : List Rival) (i : ℕ) → i ≤ length xs → ((k : ℕ) (d : Rival) → k < i → nat_lt (get_or xs k d).rank age ≡ true) →
    ((k : ℕ) (d : Rival) → i ≤ k → k < length xs → nat_lt (get_or xs k d).rank age ≡ false) → i ≡ count_older age xs
count_older-place age [] i le front behind = omega arith
count_older-place age (x ∷ xs) zero le front behind =
    count_older-place age xs zero (omega arith) (λ k d lt. absurd (omega arith)) (λ k d le lt. behind (suc k) d (omega arith) (omega arith))
    ∙ ap (λ (b : Bool). cond b (suc (count_older age xs)) (count_older age xs)) (sym (behind zero x (omega arith) (omega arith)))
count_older-place age (x ∷ xs) (suc i) le front behind =
    ap suc (count_older-place age xs i (omega arith) (λ k d lt. front (suc k) d (omega arith)) (λ k d le lt. behind (suc k) d (omega arith) (omega arith)))
    ∙ ap (λ (b : Bool). cond b (suc (count_older age xs)) (count_older age xs)) (sym (front zero x (omega arith)))

none_older : (age : ℕ) (xs : List Rival) → Each (λ rival. nat_lt rival.rank age ≡ false) xs → count_older age xs ≡ 0
none_older age [] h = refl
none_older age (x ∷ xs) h = ap (λ (b : Bool). cond b (suc (count_older age xs)) (count_older age xs)) h.0 ∙ none_older age xs h.1

none_of_age : (age : ℕ) (xs : List Rival) → Each (λ rival. nat_eq rival.rank age ≡ false) xs → of_age age xs ≡ None
none_of_age age [] h = refl
none_of_age age (x ∷ xs) h = ap (λ (b : Bool). cond b (Some x.tid) (of_age age xs)) h.0 ∙ none_of_age age xs h.1

-- behind one that isn't older than an age there is none that is, and none of the age
module _ (age : ℕ) (x : Rival) (xs : List Rival) (first : Each (λ later. x.rank < later.rank) xs) (is : nat_lt x.rank age ≡ false) where
  most : age ≤ x.rank
  most = ltb-false x.rank age is

  behind_count : count_older age xs ≡ 0
  behind_count = none_older age xs (each_map (λ later. x.rank < later.rank) (λ y. nat_lt y.rank age ≡ false) (λ y less. le-ltb y.rank age (omega (arith, most, less))) xs first)

  behind_differ : Each (λ y. nat_eq y.rank age ≡ false) xs
  behind_differ = each_map (λ later. x.rank < later.rank) (λ y. nat_eq y.rank age ≡ false) (λ y less. not_equal y.rank age (λ same. omega (arith, most, less, same))) xs first

  behind_none : of_age age xs ≡ None
  behind_none = none_of_age age xs behind_differ

-- what stands at a place, where it is of the age
abbrev pub at_place : ℕ → Option Rival → Option Tid
at_place age None = None
at_place age (Some rival) = cond (nat_eq rival.rank age) (Some rival.tid) None

of_age-place : (age : ℕ) (xs : List Rival) → IsByAge xs → of_age age xs ≡ at_place age (item_at xs (count_older age xs))
of_age-place age [] order = refl
of_age-place age (x ∷ xs) order = by_test (nat_lt x.rank age) refl (of_age-place age xs order.1)
  where
    by_test : (b : Bool) → nat_lt x.rank age ≡ b → of_age age xs ≡ at_place age (item_at xs (count_older age xs)) →
        of_age age (x ∷ xs) ≡ at_place age (item_at (x ∷ xs) (cond b (suc (count_older age xs)) (count_older age xs)))
    by_test true is rest = ap (λ (b : Bool). cond b (Some x.tid) (of_age age xs)) (older_apart x.rank age is) ∙ rest
    by_test false is rest =
        ap (λ (o : Option Tid). cond (nat_eq x.rank age) (Some x.tid) o) (behind_none age x xs order.0 is)
        ∙ ap (λ (n : ℕ). at_place age (item_at (x ∷ xs) n)) (sym (behind_count age x xs order.0 is))

some_if : (b : Bool) (t : Tid) → is_some (cond b (Some t) None) ≡ b
some_if true t = refl
some_if false t = refl

-- whether one of the age is there, by what stands at its place
module _ (age : ℕ) (xs : List Rival) (order : IsByAge xs) (place : ℕ) (count : place ≡ count_older age xs) where
  by_place : of_age age xs ≡ at_place age (item_at xs place)
  by_place = of_age-place age xs order ∙ ap (λ (n : ℕ). at_place age (item_at xs n)) (sym count)

  pub is_there : (rival : Rival) → item_at xs place ≡ Some rival → nat_eq rival.rank age ≡ is_some (of_age age xs)
  is_there rival at = sym (ap (λ (o : Option Tid). is_some o) (by_place ∙ ap (λ (o : Option Rival). at_place age o) at) ∙ some_if (nat_eq rival.rank age) rival.tid)

  pub none_past : length xs ≤ place → false ≡ is_some (of_age age xs)
  none_past le = sym (ap (λ (o : Option Tid). is_some o) (by_place ∙ ap (λ (o : Option Rival). at_place age o) (item_at-past xs place le)))

  pub there_within : is_some (of_age age xs) ≡ true → place < length xs
  there_within there = by_test (nat_lt place (length xs)) refl
    where
      by_test : (b : Bool) → nat_lt place (length xs) ≡ b → place < length xs
      by_test true e = ltb-true place (length xs) e
      by_test false e = let no : false ≡ true = none_past (ltb-false place (length xs) e) ∙ there in cc

-- what was said of a list that is lent
pub was_there : (age : ℕ) (items held : List Rival) (b : Bool) → held ≡ items → b ≡ is_some (of_age age held) → is_some (of_age age items) ≡ b
was_there age items held b same is = ap (λ (xs : List Rival). is_some (of_age age xs)) (sym same) ∙ sym is

pub was_counted : (age : ℕ) (items held : List Rival) (n : ℕ) → held ≡ items → n ≡ count_older age held → n ≡ count_older age items
was_counted age items held n same is = is ∙ ap (λ (xs : List Rival). count_older age xs) same

-- an age that stands there, or doesn't
absent_head : (b : Bool) (t : Tid) (o : Option Tid) → cond b (Some t) o ≡ None → (b ≡ false) × (o ≡ None)
absent_head true t o e = cc
absent_head false t o e = (refl, e)

either_order : (b c : Bool) (s : Tid) (u o : Option Tid) → (c ≡ true → b ≡ false) → cond c (Some s) (cond b u o) ≡ cond b u (cond c (Some s) o)
either_order b true s u o apart = ap (λ (x : Bool). cond x u (Some s)) (sym (apart refl))
either_order b false s u o apart = refl

-- one more: its place, who is of an age with it, and that the ages rise
inserted-place : (run : Rival) (xs : List Rival) → IsByAge xs → inserted is_older run xs ≡ insert xs (count_older run.rank xs) run
inserted-place run [] order = refl
inserted-place run (x ∷ xs) order = by_test (nat_lt x.rank run.rank) refl (inserted-place run xs order.1)
  where
    by_test : (b : Bool) → nat_lt x.rank run.rank ≡ b → inserted is_older run xs ≡ insert xs (count_older run.rank xs) run →
        cond b (x ∷ inserted is_older run xs) (run ∷ x ∷ xs) ≡ insert (x ∷ xs) (cond b (suc (count_older run.rank xs)) (count_older run.rank xs)) run
    by_test true is rest = ap (λ (ys : List Rival). x ∷ ys) rest
    by_test false is rest = ap (λ (n : ℕ). insert (x ∷ xs) n run) (sym (behind_count run.rank x xs order.0 is))

of_age-inserted : (run : Rival) (a : ℕ) (xs : List Rival) → of_age run.rank xs ≡ None → of_age a (inserted is_older run xs) ≡ cond (nat_eq run.rank a) (Some run.tid) (of_age a xs)
of_age-inserted run a [] absent = refl
of_age-inserted run a (x ∷ xs) absent =
    let parts = absent_head (nat_eq x.rank run.rank) x.tid (of_age run.rank xs) absent in
    by_test parts.0 (is_older x run) (of_age-inserted run a xs parts.1)
  where
    by_test : nat_eq x.rank run.rank ≡ false → (b : Bool) → of_age a (inserted is_older run xs) ≡ cond (nat_eq run.rank a) (Some run.tid) (of_age a xs) →
        of_age a (cond b (x ∷ inserted is_older run xs) (run ∷ x ∷ xs)) ≡ cond (nat_eq run.rank a) (Some run.tid) (of_age a (x ∷ xs))
    by_test apart true rest =
        ap (λ (o : Option Tid). cond (nat_eq x.rank a) (Some x.tid) o) rest
        ∙ either_order (nat_eq run.rank a) (nat_eq x.rank a) x.tid (Some run.tid) (of_age a xs) (apart_from x.rank run.rank a apart)
    by_test apart false rest = refl

inserted-by_age : (run : Rival) (xs : List Rival) → IsByAge xs → of_age run.rank xs ≡ None → IsByAge (inserted is_older run xs)
inserted-by_age run [] order absent = (tt, tt)
inserted-by_age run (x ∷ xs) order absent =
    let parts = absent_head (nat_eq x.rank run.rank) x.tid (of_age run.rank xs) absent in
    by_test parts.0 (is_older x run) refl (inserted-by_age run xs order.1 parts.1)
  where
    by_test : nat_eq x.rank run.rank ≡ false → (b : Bool) → is_older x run ≡ b → IsByAge (inserted is_older run xs) → IsByAge (cond b (x ∷ inserted is_older run xs) (run ∷ x ∷ xs))
    by_test apart true is rest = (each_inserted (λ later. x.rank < later.rank) is_older run xs (ltb-true x.rank run.rank is) order.0, rest)
    by_test apart false is rest =
        let first : run.rank < x.rank = younger x.rank run.rank is apart in
        ((first, each_map (λ later. x.rank < later.rank) (λ y. run.rank < y.rank) (λ y less. omega (arith, first, less)) xs order.0), order)

-- a run that is put in where none of its age is
pub of_age-with_run : (run : Rival) (a : ℕ) (xs : List Rival) → of_age a (with_run run xs) ≡ cond (nat_eq run.rank a) (Some (or_else (of_age run.rank xs) run.tid)) (of_age a xs)
of_age-with_run run a xs = by_there (of_age run.rank xs) refl
  where
    same : (u : Tid) (b : Bool) → nat_eq run.rank a ≡ b → of_age run.rank xs ≡ Some u → of_age a xs ≡ cond b (Some u) (of_age a xs)
    same u true e is = ap (λ (n : ℕ). of_age n xs) (sym (eqb-true run.rank a e)) ∙ is
    same u false e is = refl

    by_there : (o : Option Tid) → of_age run.rank xs ≡ o → of_age a (cond (is_some o) xs (inserted is_older run xs)) ≡ cond (nat_eq run.rank a) (Some (or_else o run.tid)) (of_age a xs)
    by_there None none = of_age-inserted run a xs none
    by_there (Some u) is = same u (nat_eq run.rank a) refl is

pub with_run-by_age : (run : Rival) (xs : List Rival) → IsByAge xs → IsByAge (with_run run xs)
with_run-by_age run xs order = by_there (of_age run.rank xs) refl
  where
    by_there : (o : Option Tid) → of_age run.rank xs ≡ o → IsByAge (cond (is_some o) xs (inserted is_older run xs))
    by_there None none = inserted-by_age run xs order none
    by_there (Some u) is = order

-- and it is put in at its place
pub entered : (run : Rival) (old new : List Rival) (place : ℕ) → IsByAge old → place ≡ count_older run.rank old → is_some (of_age run.rank old) ≡ false → new ≡ insert old place run → new ≡ with_run run old
entered run old new place order count absent made =
    made ∙ (ap (λ (n : ℕ). insert old n run) count ∙ (sym (inserted-place run old order) ∙ sym (cond-false _ _ _ absent)))

-- to take out what stands at the place of an age leaves the others
pub without-place : (age : ℕ) (xs : List Rival) → IsByAge xs → is_some (of_age age xs) ≡ true → without_age age xs ≡ remove xs (count_older age xs)
without-place age [] order there = cc
without-place age (x ∷ xs) order there = by_test (nat_lt x.rank age) refl (without-place age xs order.1)
  where
    own : nat_lt x.rank age ≡ false → (b : Bool) → nat_eq x.rank age ≡ b → is_some (cond b (Some x.tid) None) ≡ true → without_age age (x ∷ xs) ≡ remove (x ∷ xs) (count_older age xs)
    own is true here f =
        ap (λ (b : Bool). cond (not b) (x ∷ without_age age xs) (without_age age xs)) here
        ∙ those_all (λ rival. not (nat_eq rival.rank age)) xs
        (each_map (λ y. nat_eq y.rank age ≡ false) (λ y. not (nat_eq y.rank age) ≡ true) (λ y e. ap not e) xs (behind_differ age x xs order.0 is))
        ∙ ap (λ (n : ℕ). remove (x ∷ xs) n) (sym (behind_count age x xs order.0 is))
    own is false here f = cc

    by_test : (b : Bool) → nat_lt x.rank age ≡ b → (is_some (of_age age xs) ≡ true → without_age age xs ≡ remove xs (count_older age xs)) →
        without_age age (x ∷ xs) ≡ remove (x ∷ xs) (cond b (suc (count_older age xs)) (count_older age xs))
    by_test true is rest =
        let apart = older_apart x.rank age is in
        ap (λ (b : Bool). cond (not b) (x ∷ without_age age xs) (without_age age xs)) apart
        ∙ ap (λ (ys : List Rival). x ∷ ys) (rest (sym (ap (λ (b : Bool). is_some (cond b (Some x.tid) (of_age age xs))) apart) ∙ there))
    by_test false is rest =
        own is (nat_eq x.rank age) refl (sym (ap (λ (o : Option Tid). is_some (cond (nat_eq x.rank age) (Some x.tid) o)) (behind_none age x xs order.0 is)) ∙ there)

-- of an age that isn't there nothing is taken out
pub without-absent : (age : ℕ) (xs : List Rival) → is_some (of_age age xs) ≡ false → without_age age xs ≡ xs
without-absent age [] e = refl
without-absent age (x ∷ xs) e = by_test (nat_eq x.rank age) e (without-absent age xs)
  where
    by_test : (b : Bool) → is_some (cond b (Some x.tid) (of_age age xs)) ≡ false → (is_some (of_age age xs) ≡ false → without_age age xs ≡ xs) →
        cond (not b) (x ∷ without_age age xs) (without_age age xs) ≡ x ∷ xs
    by_test true e rest = cc
    by_test false e rest = ap (λ (ys : List Rival). x ∷ ys) (rest e)

pub of_age-without : (age a : ℕ) (xs : List Rival) → of_age a (without_age age xs) ≡ cond (nat_eq age a) None (of_age a xs)
of_age-without age a [] = none (nat_eq age a)
  where
    none : (b : Bool) → ◌≡◌ {A = Option Tid} None (cond b None None)
    none true = refl
    none false = refl
of_age-without age a (x ∷ xs) = by_test (nat_eq x.rank age) refl (of_age-without age a xs)
  where
    passed : (b c : Bool) (o : Option Tid) → c ≡ b → cond b None o ≡ cond b None (cond c (Some x.tid) o)
    passed true c o e = refl
    passed false c o e = sym (cond-false _ _ _ e)

    by_test : (b : Bool) → nat_eq x.rank age ≡ b → of_age a (without_age age xs) ≡ cond (nat_eq age a) None (of_age a xs) →
        of_age a (cond (not b) (x ∷ without_age age xs) (without_age age xs)) ≡ cond (nat_eq age a) None (cond (nat_eq x.rank a) (Some x.tid) (of_age a xs))
    by_test true same rest = rest ∙ passed (nat_eq age a) (nat_eq x.rank a) (of_age a xs) (ap (λ (n : ℕ). nat_eq n a) (eqb-true x.rank age same))
    by_test false apart rest =
        ap (λ (o : Option Tid). cond (nat_eq x.rank a) (Some x.tid) o) rest
        ∙ either_order (nat_eq age a) (nat_eq x.rank a) x.tid None (of_age a xs) (apart_from x.rank age a apart)

pub without-by_age : (age : ℕ) (xs : List Rival) → IsByAge xs → IsByAge (without_age age xs)
without-by_age age [] order = tt
without-by_age age (x ∷ xs) order = by_test (nat_eq x.rank age) (without-by_age age xs order.1)
  where
    by_test : (b : Bool) → IsByAge (without_age age xs) → IsByAge (cond (not b) (x ∷ without_age age xs) (without_age age xs))
    by_test true rest = rest
    by_test false rest = (each_filtered (λ later. x.rank < later.rank) (λ rival. not (nat_eq rival.rank age)) xs order.0, rest)

-- the first one of another age is the oldest
abbrev pub IsOldestBut : ℕ → List Rival → Option Rival → Type 0
IsOldestBut me xs None = (age : ℕ) → nat_eq age me ≡ false → of_age age xs ≡ None
IsOldestBut me xs (Some rival) =
    (of_age rival.rank xs ≡ Some rival.tid) × (nat_eq rival.rank me ≡ false) × ((age : ℕ) → nat_eq age me ≡ false → age < rival.rank → of_age age xs ≡ None)

pub first_oldest : (me : ℕ) (xs : List Rival) → IsByAge xs → IsOldestBut me xs (first_other me xs)
first_oldest me [] order = λ age apart. refl
first_oldest me (x ∷ xs) order = by_test (nat_eq x.rank me) refl (first_other me xs) (first_oldest me xs order.1)
  where
    passed : (age : ℕ) → nat_eq x.rank me ≡ true → nat_eq age me ≡ false → of_age age (x ∷ xs) ≡ of_age age xs
    passed age same apart =
        cond-false _ _ _ (ap (λ (n : ℕ). nat_eq n age) (eqb-true x.rank me same) ∙ (nat_eq-sym me age ∙ apart))

    none_before : (age : ℕ) → age < x.rank → of_age age (x ∷ xs) ≡ None
    none_before age less =
        cond-false _ _ _ (not_equal x.rank age (λ same. omega (arith, less, same)))
        ∙ none_of_age age xs
        (each_map (λ later. x.rank < later.rank) (λ y. nat_eq y.rank age ≡ false) (λ y more. not_equal y.rank age (λ same. omega (arith, less, more, same))) xs order.0)

    by_test : (b : Bool) → nat_eq x.rank me ≡ b → (o : Option Rival) → IsOldestBut me xs o → IsOldestBut me (x ∷ xs) (cond (not b) (Some x) o)
    by_test true same None rest = λ age apart. passed age same apart ∙ rest age apart
    by_test true same (Some rival) rest =
        (passed rival.rank same rest.1 ∙ rest.0, rest.1, λ age apart less. passed age same apart ∙ rest.2 age apart less)
    by_test false apart o rest =
        (ap (λ (b : Bool). cond b (Some x.tid) (of_age x.rank xs)) (eq-eqb x.rank x.rank refl), apart, λ age other less. none_before age less)
