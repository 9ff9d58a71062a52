-- What the runs with smaller numbers leave of a key, and what a commit makes of it.
use Rattle.std.proofs.Common.{◌≡◌, ℕ, ◌<◌, ◌≤◌, Bool, true, false, ◌||◌, cond, nat_lt, Option, Some, None, List, [], ◌∷◌, inl, inr, refl, sym, ap, ◌∙◌, arith}
use Rattle.std.proofs.lemmas.Bool.{ltb-true, ltb-false, lt-ltb}
use Rattle.mdb_base.specs.declared.names.Key.{Key}
use Rattle.mdb_base.specs.declared.rows.Put.{Put}
use Rattle.mdb_base.specs.Names.{same_key}
use Rattle.mdb_base.specs.Words.{Each, inserted}
use Rattle.mdb_base.proofs.ForCallers.{each_filtered, each_map, those_inserted, those_pass}
use Rattle.fed_rules.specs.Runs.{Access, Got, Wrote, Run, number, by_number}
use Rattle.fed_rules.specs.SerialRuns.{NumbersFall}
use Rattle.engine_laws.specs.Unended.{has_write}
use Rattle.engine_laws.proofs.ForCallers.{StaysClear, below, clear_unwritten, falls_inserted, is_later}
use Rattle.site_tables.specs.declared.versions.Version.{Version}
use Rattle.site_tables.specs.Numbers.{number_of}
use Rattle.site_tables.specs.Tables.{is_newer, written}
use Rattle.run_book.specs.Held.{own_write}
use Rattle.run_book.specs.Tables.{or_kept, kept_after}
use Rattle.run_book.proofs.ForCallers.{kept-by_number, newer-after}

-- a version with a smaller number is one that a write of this number replaces
pub newer_number : (n : ℕ) (kept : Option Version) → 0 < n → is_newer n kept ≡ nat_lt (number_of kept) n
newer_number n None some = sym (lt-ltb 0 n some)
newer_number n (Some version) some = refl

pub newer_less : (n : ℕ) (kept : Option Version) → 0 < n → is_newer n kept ≡ true → number_of kept < n
newer_less n kept some h = ltb-true (number_of kept) n (sym (newer_number n kept some) ∙ h)

pub not_newer : (n : ℕ) (kept : Option Version) → 0 < n → is_newer n kept ≡ false → n ≤ number_of kept
not_newer n kept some h = ltb-false (number_of kept) n (sym (newer_number n kept some) ∙ h)

-- who is above the number of the newest version reads that one
pub newest-below : (n : ℕ) (rows : List Put) (runs : List Run) (key : Key) → is_newer n (kept_after rows runs key) ≡ true → kept_after rows (below n runs) key ≡ kept_after rows runs key
newest-below n rows [] key newer = refl
newest-below n rows (run ∷ runs) key newer = by_tests (own_write key run.acts) refl (nat_lt (number run) n) refl newer (newest-below n rows runs key)
  where
    by_tests : (o : Option ℕ) → own_write key run.acts ≡ o → (b : Bool) → nat_lt (number run) n ≡ b → is_newer n (or_kept (number run) o (kept_after rows runs key)) ≡ true →
        (is_newer n (kept_after rows runs key) ≡ true → kept_after rows (below n runs) key ≡ kept_after rows runs key) →
        kept_after rows (cond b (run ∷ below n runs) (below n runs)) key ≡ or_kept (number run) o (kept_after rows runs key)
    by_tests None own true less newer more = ap (λ (o : Option ℕ). or_kept (number run) o (kept_after rows (below n runs) key)) own ∙ more newer
    by_tests None own false less newer more = more newer
    by_tests (Some value) own true less newer more = ap (λ (o : Option ℕ). or_kept (number run) o (kept_after rows (below n runs) key)) own
    by_tests (Some value) own false less newer more = cc

-- a version that a run reads has a smaller number than the run
pub below-less : (n : ℕ) (rows : List Put) (runs : List Run) (key : Key) → 0 < n → number_of (kept_after rows (below n runs) key) < n
below-less n rows runs key some =
    newer_less n (kept_after rows (below n runs) key) some
    (newer-after n rows (below n runs) key some
    (each_map _ (λ run. number run < n) (λ run. ltb-true (number run) n) (below n runs) (those_pass (λ run. nat_lt (number run) n) runs)))

-- the version of a key only gets newer, and one that is written has at least the number of its writer
pub written-grows : (m : ℕ) (o : Option ℕ) (kept : Option Version) → number_of kept ≤ number_of (written m o kept)
written-grows m None kept = omega arith
written-grows m (Some value) None = omega arith
written-grows m (Some value) (Some version) = by_test (nat_lt version.number m) refl
  where
    by_test : (b : Bool) → nat_lt version.number m ≡ b → version.number ≤ number_of (cond b (Some (record { value = value; number = m })) (Some version))
    by_test true less = let lt = ltb-true version.number m less in omega arith
    by_test false less = omega arith

pub written-least : (m value : ℕ) (kept : Option Version) → m ≤ number_of (written m (Some value) kept)
written-least m value None = omega arith
written-least m value (Some version) = by_test (nat_lt version.number m) refl
  where
    by_test : (b : Bool) → nat_lt version.number m ≡ b → m ≤ number_of (cond b (Some (record { value = value; number = m })) (Some version))
    by_test true less = omega arith
    by_test false less = ltb-false version.number m less

-- a run below the number is put among those below it
below_inserted : (n : ℕ) (run : Run) (runs : List Run) → number run < n → below n (inserted is_later run runs) ≡ inserted is_later run (below n runs)
below_inserted n run [] less = ap (λ b. cond b (run ∷ []) []) (lt-ltb (number run) n less)
below_inserted n run (x ∷ xs) less = by_test (is_later x run) refl (below_inserted n run xs less)
  where
    by_x : (t : Bool) → is_later x run ≡ true → below n (inserted is_later run xs) ≡ inserted is_later run (below n xs)
        → cond t (x ∷ below n (inserted is_later run xs)) (below n (inserted is_later run xs)) ≡ inserted is_later run (cond t (x ∷ below n xs) (below n xs))
    by_x true is ih = ap (λ zs. x ∷ zs) ih ∙ sym (ap (λ b. cond b (x ∷ inserted is_later run (below n xs)) (run ∷ x ∷ below n xs)) is)
    by_x false is ih = ih

    by_test : (b : Bool) → is_later x run ≡ b → below n (inserted is_later run xs) ≡ inserted is_later run (below n xs)
        → below n (cond b (x ∷ inserted is_later run xs) (run ∷ x ∷ xs)) ≡ inserted is_later run (below n (x ∷ xs))
    by_test true is ih = by_x (nat_lt (number x) n) is ih
    by_test false is ih =
        let passes : nat_lt (number x) n ≡ true = lt-ltb (number x) n (omega (arith, ltb-false (number run) (number x) is)) in
        ap (λ b. cond b (run ∷ below n (x ∷ xs)) (below n (x ∷ xs))) (lt-ltb (number run) n less)
        ∙ ap (λ b. run ∷ cond b (x ∷ below n xs) (below n xs)) passes
        ∙ sym (ap (λ b. cond b (x ∷ inserted is_later run (below n xs)) (run ∷ x ∷ below n xs)) is)
        ∙ sym (ap (λ b. inserted is_later run (cond b (x ∷ below n xs) (below n xs))) passes)

falls_below : (n : ℕ) (runs : List Run) → NumbersFall runs → NumbersFall (below n runs)
falls_below n [] falls = tt
falls_below n (x ∷ xs) falls = by_test (nat_lt (number x) n) (falls_below n xs falls.1)
  where
    by_test : (b : Bool) → NumbersFall (below n xs) → NumbersFall (cond b (x ∷ below n xs) (below n xs))
    by_test true rest = (each_filtered (λ other. number other < number x) (λ run. nat_lt (number run) n) xs falls.0, rest)
    by_test false rest = rest

-- a run that commits writes to what the runs above it read
pub kept-below : (rows : List Put) (run : Run) (runs : List Run) (n : ℕ) (key : Key) → 0 < number run → Each (StaysClear run.acts (number run)) runs → NumbersFall runs →
    kept_after rows (below n (by_number (Some run) runs)) key
    ≡ cond (nat_lt (number run) n) (written (number run) (own_write key run.acts) (kept_after rows (below n runs) key)) (kept_after rows (below n runs) key)
kept-below rows run runs n key some clear falls = by_test (nat_lt (number run) n) refl
  where
    by_test : (b : Bool) → nat_lt (number run) n ≡ b → kept_after rows (below n (by_number (Some run) runs)) key
        ≡ cond b (written (number run) (own_write key run.acts) (kept_after rows (below n runs) key)) (kept_after rows (below n runs) key)
    by_test true less =
        ap (λ xs. kept_after rows xs key) (below_inserted n run runs (ltb-true (number run) n less))
        ∙ kept-by_number rows run (below n runs) key some
        (falls_inserted run (below n runs) (each_filtered (StaysClear run.acts (number run)) (λ other. nat_lt (number other) n) runs clear) (falls_below n runs falls))
    by_test false less = ap (λ xs. kept_after rows xs key) (those_inserted (λ other. nat_lt (number other) n) is_later run runs less)

-- an own write is there where the key is written
pub no_own : (key : Key) (acts : List Access) → has_write key acts ≡ false → own_write key acts ≡ None
no_own key [] h = refl
no_own key (Got k value ∷ acts) h = no_own key acts h
no_own key (Wrote k value ∷ acts) h = by_test (same_key k key) h (no_own key acts)
  where
    by_test : (b : Bool) → (b || has_write key acts) ≡ false → (has_write key acts ≡ false → own_write key acts ≡ None) → cond b (Some value) (own_write key acts) ≡ None
    by_test true h rest = cc
    by_test false h rest = rest h

pub some_own : (key : Key) (acts : List Access) → has_write key acts ≡ true → (value : ℕ) × (own_write key acts ≡ Some value)
some_own key [] h = cc
some_own key (Got k value ∷ acts) h = some_own key acts h
some_own key (Wrote k value ∷ acts) h = by_test (same_key k key) h (some_own key acts)
  where
    by_test : (b : Bool) → (b || has_write key acts) ≡ true → (has_write key acts ≡ true → (v : ℕ) × (own_write key acts ≡ Some v)) → (v : ℕ) × (cond b (Some value) (own_write key acts) ≡ Some v)
    by_test true h rest = (value, refl)
    by_test false h rest = rest h

-- who is clear of later runs is newer than what is kept of the keys that it writes
pub newer_clear : (rows : List Put) (acts : List Access) (m : ℕ) (runs : List Run) (key : Key) → 0 < m → Each (StaysClear acts m) runs
    → has_write key acts ≡ true → is_newer m (kept_after rows runs key) ≡ true
newer_clear rows acts m [] key some clear own = newer-after m rows [] key some tt
newer_clear rows acts m (d ∷ ds) key some clear own = by_place clear.0 (newer_clear rows acts m ds key some clear.1 own)
  where
    by_write : (o : Option ℕ) → number d < m → is_newer m (kept_after rows ds key) ≡ true → is_newer m (or_kept (number d) o (kept_after rows ds key)) ≡ true
    by_write None less rest = rest
    by_write (Some w) less rest = lt-ltb (number d) m less

    by_place : StaysClear acts m d → is_newer m (kept_after rows ds key) ≡ true → is_newer m (or_kept (number d) (own_write key d.acts) (kept_after rows ds key)) ≡ true
    by_place (inl less) rest = by_write (own_write key d.acts) less rest
    by_place (inr (more, also)) rest =
        ap (λ o. is_newer m (or_kept (number d) o (kept_after rows ds key))) (no_own key d.acts (clear_unwritten acts d.acts key also own)) ∙ rest
