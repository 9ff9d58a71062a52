-- Runs by serial number: what one more run leaves of the tables and of the reads of the others.
use Rattle.std.proofs.Common.{◌≡◌, ℕ, ◌<◌, ◌⊎◌, Bool, true, false, cond, List, [], ◌∷◌, refl, sym, ap, ◌∙◌, subst, inl, inr, arith, ltb-true, ltb-false, lt-ltb, le-ltb}
use Rattle.std.specs.Prelude.{nat_lt}
use Rattle.mdb_base.specs.declared.names.Key.{Key}
use Rattle.mdb_base.specs.Rows.{Table}
use Rattle.mdb_base.specs.Words.{Each, those, inserted}
use Rattle.mdb_base.proofs.ForCallers.{each_inserted, each_map, those_all}
use Rattle.fed_rules.specs.Runs.{Access, Run, number, after, table_of}
use Rattle.fed_rules.specs.SerialRuns.{ReadsAlone, IsSerial, NumbersFall}
use Rattle.engine_laws.specs.Unended.{has_write, IsClear}
use Rattle.engine_laws.proofs.Tables.{after_same, after_unwritten, after_written, reads_clear, clear_unwritten}

-- whether the first has the greater number
abbrev pub is_later : Run → Run → Bool
is_later a b = nat_lt (number b) (number a)

-- the runs with a smaller number
abbrev pub below : ℕ → List Run → List Run
below n runs = those (λ run. nat_lt (number run) n) runs

-- a run has another number than these accesses, and where it is greater, it keeps clear of what they write
abbrev pub StaysClear : List Access → ℕ → Run → Type 0
StaysClear acts n run = (number run < n) ⊎ ((n < number run) × IsClear acts run.acts)

-- a key that the inserted run doesn't write keeps its value
pub table_inserted : (items : Table) (before : Run → Run → Bool) (run : Run) (runs : List Run) (key : Key)
    → has_write key run.acts ≡ false
    → table_of items (inserted before run runs) key ≡ table_of items runs key
table_inserted items before run [] key h = after_unwritten run.acts items key h
table_inserted items before run (x ∷ xs) key h = by_test (before x run) (table_inserted items before run xs key h)
  where
    by_test : (b : Bool) → table_of items (inserted before run xs) key ≡ table_of items xs key
        → table_of items (cond b (x ∷ inserted before run xs) (run ∷ x ∷ xs)) key ≡ table_of items (x ∷ xs) key
    by_test true rest = after_same x.acts _ _ key rest
    by_test false rest = after_unwritten run.acts (table_of items (x ∷ xs)) key h

-- so it does among those that pass a test
pub table_those_inserted : (items : Table) (test : Run → Bool) (before : Run → Run → Bool) (run : Run) (runs : List Run)
    (key : Key) → has_write key run.acts ≡ false
    → table_of items (those test (inserted before run runs)) key ≡ table_of items (those test runs) key
table_those_inserted items test before run [] key h = by_run (test run)
  where
    by_run : (b : Bool) → table_of items (cond b (run ∷ []) []) key ≡ items key
    by_run true = after_unwritten run.acts items key h
    by_run false = refl
table_those_inserted items test before run (x ∷ xs) key h =
    by_test (before x run) (table_those_inserted items test before run xs key h)
  where
    by_x : (b : Bool) → table_of items (those test (inserted before run xs)) key ≡ table_of items (those test xs) key
        → table_of items (cond b (x ∷ those test (inserted before run xs)) (those test (inserted before run xs))) key ≡ table_of
        items (cond b (x ∷ those test xs) (those test xs)) key
    by_x true rest = after_same x.acts _ _ key rest
    by_x false rest = rest

    by_run : (b : Bool) → table_of items (cond b (run ∷ those test (x ∷ xs)) (those test (x ∷ xs))) key ≡ table_of items
        (those test (x ∷ xs)) key
    by_run true = after_unwritten run.acts (table_of items (those test (x ∷ xs))) key h
    by_run false = refl

    by_test : (b : Bool) → table_of items (those test (inserted before run xs)) key ≡ table_of items (those test xs) key
        → table_of items (those test (cond b (x ∷ inserted before run xs) (run ∷ x ∷ xs))) key ≡ table_of items
        (those test (x ∷ xs)) key
    by_test true rest = by_x (test x) rest
    by_test false rest = by_run (test run)

pub below_all : (n : ℕ) (runs : List Run) → Each (λ run. number run < n) runs → below n runs ≡ runs
below_all n runs h = those_all (λ run. nat_lt (number run) n) runs
    (each_map _ (λ run. nat_lt (number run) n ≡ true) (λ run. lt-ltb (number run) n) runs h)

-- a greater number than the first one's is greater than every one's
pub above_all : (n : ℕ) (run : Run) (runs : List Run) → number run < n → NumbersFall (run ∷ runs)
    → Each (λ other. number other < n) (run ∷ runs)
above_all n run runs h falls = (h, each_map _ (λ other. number other < n) (λ other less. omega arith) runs falls.0)

-- one more run, put by its number, leaves the numbers falling
pub falls_inserted : (run : Run) (runs : List Run) → Each (StaysClear run.acts (number run)) runs → NumbersFall runs
    → NumbersFall (inserted is_later run runs)
falls_inserted run [] clear falls = (tt, tt)
falls_inserted run (x ∷ xs) clear falls = by_test (is_later x run) refl clear.0 (falls_inserted run xs clear.1 falls.1)
  where
    by_test : (b : Bool) → is_later x run ≡ b → StaysClear run.acts (number run) x → NumbersFall (inserted is_later run xs)
        → NumbersFall (cond b (x ∷ inserted is_later run xs) (run ∷ x ∷ xs))
    by_test true is clear rest = (
      each_inserted (λ other. number other < number x) is_later run xs
          (ltb-true (number run) (number x) is) falls.0,
      rest,
    )
    by_test false is (inl less) rest = (above_all (number run) x xs less falls, falls)
    by_test false is (inr (more, clear)) rest = absurd (omega (arith, ltb-false (number run) (number x) is))

-- one more run, put by its number, leaves the runs serial: it reads alone on those with smaller numbers, and the others keep clear of it
pub serial_inserted : (items : Table) (run : Run) (runs : List Run) → Each (StaysClear run.acts (number run)) runs
    → NumbersFall runs
    → ReadsAlone run.acts (table_of items (below (number run) runs)) → IsSerial items runs
    → IsSerial items (inserted is_later run runs)
serial_inserted items run [] clear falls reads serial = (reads, tt)
serial_inserted items run (x ∷ xs) clear falls reads serial =
    by_test (is_later x run) refl clear.0 (serial_inserted items run xs clear.1 falls.1)
  where
    by_test : (b : Bool) → is_later x run ≡ b → StaysClear run.acts (number run) x
        → (ReadsAlone run.acts (table_of items (below (number run) xs)) → IsSerial items xs
        → IsSerial items (inserted is_later run xs))
        → IsSerial items (cond b (x ∷ inserted is_later run xs) (run ∷ x ∷ xs))
    by_test true is (inl less) rest = absurd (omega (arith, ltb-true (number run) (number x) is))
    by_test true is (inr (more, clear)) rest =
        let less : number run < number x = ltb-true (number run) (number x) is in
        let skipped : below (number run) (x ∷ xs) ≡ below (number run) xs =
        ap (λ b. cond b (x ∷ below (number run) xs) (below (number run) xs)) (le-ltb (number x) (number run) (omega arith)) in
        let reads_x : ReadsAlone x.acts (table_of items (inserted is_later run xs)) =
        reads_clear run.acts x.acts (table_of items xs) (table_of items (inserted is_later run xs))
        (λ key h. sym (table_inserted items is_later run xs key h)) clear serial.0 in
        (reads_x, rest (subst (λ runs. ReadsAlone run.acts (table_of items runs)) skipped reads) serial.1)
    by_test false is (inl less) rest =
        let all : below (number run) (x ∷ xs) ≡ x ∷ xs =
        below_all (number run) (x ∷ xs) (above_all (number run) x xs less falls) in
        (subst (λ runs. ReadsAlone run.acts (table_of items runs)) all reads, serial)
    by_test false is (inr (more, clear)) rest = absurd (omega (arith, ltb-false (number run) (number x) is))

-- one more run, put by its number, leaves its writes as the last ones of their keys
pub table_inserted_last : (items : Table) (run : Run) (runs : List Run) (key : Key) → Each (StaysClear run.acts (number run)) runs
    → table_of items (inserted is_later run runs) key ≡ after run.acts (table_of items runs) key
table_inserted_last items run [] key clear = refl
table_inserted_last items run (x ∷ xs) key clear =
    by_test (is_later x run) refl clear.0 (table_inserted_last items run xs key clear.1)
  where
    by_write : (b : Bool) → has_write key run.acts ≡ b → IsClear run.acts x.acts
        → table_of items (inserted is_later run xs) key ≡ after run.acts (table_of items xs) key
        → after x.acts (table_of items (inserted is_later run xs)) key ≡ after run.acts (table_of items (x ∷ xs)) key
    by_write true is clear rest =
        after_unwritten x.acts _ key (clear_unwritten run.acts x.acts key clear is) ∙ rest ∙ after_written run.acts _ _ key is
    by_write false is clear rest =
        after_same x.acts _ (table_of items xs) key (rest ∙ after_unwritten run.acts _ key is)
        ∙ sym (after_unwritten run.acts _ key is)

    by_test : (b : Bool) → is_later x run ≡ b → StaysClear run.acts (number run) x
        → table_of items (inserted is_later run xs) key ≡ after run.acts (table_of items xs) key
        → table_of items (cond b (x ∷ inserted is_later run xs) (run ∷ x ∷ xs)) key ≡ after run.acts (table_of items (x ∷ xs)) key
    by_test true is (inl less) rest = absurd (omega (arith, ltb-true (number run) (number x) is))
    by_test true is (inr (more, clear)) rest = by_write (has_write key run.acts) refl clear rest
    by_test false is clear rest = refl

-- a key that no run with a greater number writes has the value that those with smaller numbers leave
pub table_below : (items : Table) (n : ℕ) (runs : List Run) (key : Key)
    → Each (λ run. (number run < n) ⊎ (has_write key run.acts ≡ false)) runs
    → table_of items runs key ≡ table_of items (below n runs) key
table_below items n [] key h = refl
table_below items n (x ∷ xs) key h = by_test (nat_lt (number x) n) refl h.0 (table_below items n xs key h.1)
  where
    by_test : (b : Bool) → nat_lt (number x) n ≡ b → (number x < n) ⊎ (has_write key x.acts ≡ false)
        → table_of items xs key ≡ table_of items (below n xs) key
        → table_of items (x ∷ xs) key ≡ table_of items (cond b (x ∷ below n xs) (below n xs)) key
    by_test true is h rest = after_same x.acts _ _ key rest
    by_test false is (inl less) rest = absurd (omega (arith, ltb-false (number x) n is))
    by_test false is (inr none) rest = after_unwritten x.acts _ key none ∙ rest
