-- What the table keeps of a key, through the writes of a run and through commits by number.
use Rattle.std.proofs.Common.{◌≡◌, ℕ, ◌<◌, Bool, true, false, cond, nat_eq, nat_lt, Option, Some, None, List, [], ◌∷◌, refl, sym, ap, ◌∙◌, arith}
use Rattle.std.specs.Ordering.{nat_cmp}
use Rattle.std.specs.FinMap.{get, get-empty}
use Rattle.std.proofs.lemmas.Bool.{cond-true, cond-false, ltb-true, lt-ltb, le-ltb}
use Rattle.mdb_base.specs.declared.names.Key.{Key}
use Rattle.mdb_base.specs.declared.rows.Put.{Put}
use Rattle.mdb_base.specs.Names.{same_key}
use Rattle.mdb_base.specs.Rows.{look_up, value_in}
use Rattle.mdb_base.specs.Words.{Each, or_else}
use Rattle.mdb_base.proofs.ForCallers.{first_of, look_up-value_in}
use Rattle.fed_rules.specs.Runs.{Access, Got, Wrote, Run, number, by_number, table_of}
use Rattle.fed_rules.specs.SerialRuns.{NumbersFall}
use Rattle.site_tables.specs.declared.versions.Version.{Version}
use Rattle.site_tables.specs.Tables.{Versions, is_newer, value_of, written}
use Rattle.site_tables.proofs.ForCallers.{get-put, get-with_row, same_versions, written-either}
use Rattle.run_book.specs.Held.{own_write}
use Rattle.run_book.specs.Tables.{first_versions, with_writes, or_kept, kept_after}
use Rattle.run_book.proofs.ValueLemmas.{after-own_write}

first-cond : (b : Bool) (value : ℕ) (o : Option ℕ) → cond b (Some (record { value = value; number = 0 })) (written 0 o None) ≡ written 0 (cond b (Some value) o) None
first-cond true value o = refl
first-cond false value o = refl

-- what the first rows keep of a key
pub get-first : (rows : List Put) (key : Key) → get (first_versions rows) key.0 ≡ written 0 (value_in rows key) None
get-first [] key = get-empty nat_cmp key.0
get-first (row ∷ rows) key =
    let version : Version = record { value = row.value; number = 0 } in
    get-put (first_versions rows) row.key.0 version key.0
    ∙ ap (cond (nat_eq row.key.0 key.0) (Some version)) (get-first rows key) ∙ first-cond (same_key row.key key) row.value (value_in rows key)

pub versions-first : (rows : List Put) (versions : Versions) → ((key : Key) → get versions key.0 ≡ written 0 (value_in rows key) None) → versions ≡ first_versions rows
versions-first rows versions h = same_versions versions (first_versions rows) (λ key. h key ∙ sym (get-first rows key))

either-first : (b : Bool) (value : ℕ) (o : Option ℕ) → first_of (cond b (Some value) None) o ≡ cond b (Some value) o
either-first true value o = refl
either-first false value o = refl

-- the writes of a run, the newest first, write its last one of each key
pub get-with_writes : (n : ℕ) (acts : List Access) (versions : Versions) (key : Key) → get (with_writes n acts versions) key.0 ≡ written n (own_write key acts) (get versions key.0)
get-with_writes n [] versions key = refl
get-with_writes n (Got k value ∷ acts) versions key = get-with_writes n acts versions key
get-with_writes n (Wrote k value ∷ acts) versions key =
    let put : Put = record { key = k; value = value } in
    get-with_writes n acts _ key ∙ ap (written n (own_write key acts)) (get-with_row n put versions key)
    ∙ sym (written-either n (value_in (put ∷ []) key) (own_write key acts) (get versions key.0))
    ∙ ap (λ o. written n o (get versions key.0)) (either-first (same_key k key) value (own_write key acts))

newer-first : (n : ℕ) (o : Option ℕ) → 0 < n → is_newer n (written 0 o None) ≡ true
newer-first n None some = refl
newer-first n (Some value) some = lt-ltb 0 n some

newer-kept : (n m : ℕ) (o : Option ℕ) (kept : Option Version) → m < n → is_newer n kept ≡ true → is_newer n (or_kept m o kept) ≡ true
newer-kept n m None kept less newer = newer
newer-kept n m (Some value) kept less newer = lt-ltb m n less

-- a number above those of all runs is newer than what is kept
pub newer-after : (n : ℕ) (rows : List Put) (runs : List Run) (key : Key) → 0 < n → Each (λ run. number run < n) runs → is_newer n (kept_after rows runs key) ≡ true
newer-after n rows [] key some low = newer-first n (value_in rows key) some
newer-after n rows (run ∷ runs) key some low =
    newer-kept n (number run) (own_write key run.acts) (kept_after rows runs key) low.0 (newer-after n rows runs key some low.1)

-- a write of a newer number counts
written-newer : (n : ℕ) (o : Option ℕ) (kept : Option Version) → is_newer n kept ≡ true → or_kept n o kept ≡ written n o kept
written-newer n None kept newer = refl
written-newer n (Some value) kept newer = sym (cond-true _ _ _ newer)

-- one of an older number counts behind the newer one
written-older : (n m : ℕ) (own o : Option ℕ) (kept : Option Version) → n < m → or_kept m o (written n own kept) ≡ written n own (or_kept m o kept)
written-older n m own None kept less = refl
written-older n m None (Some value) kept less = refl
written-older n m (Some w) (Some value) kept less = sym (cond-false _ _ _ (le-ltb m n (omega arith)))

-- a run that commits, wherever its number puts it, writes to what is kept by its number
pub kept-by_number : (rows : List Put) (run : Run) (runs : List Run) (key : Key) → 0 < number run → NumbersFall (by_number (Some run) runs) →
    kept_after rows (by_number (Some run) runs) key ≡ written (number run) (own_write key run.acts) (kept_after rows runs key)
kept-by_number rows run [] key some falls =
    written-newer (number run) (own_write key run.acts) (kept_after rows [] key) (newer-first (number run) (value_in rows key) some)
kept-by_number rows run (x ∷ xs) key some falls = by_test (nat_lt (number run) (number x)) refl falls (kept-by_number rows run xs key some)
  where
    own : Option ℕ
    own = own_write key run.acts

    by_test : (b : Bool) → nat_lt (number run) (number x) ≡ b → NumbersFall (cond b (x ∷ by_number (Some run) xs) (run ∷ x ∷ xs)) →
        (NumbersFall (by_number (Some run) xs) → kept_after rows (by_number (Some run) xs) key ≡ written (number run) own (kept_after rows xs key)) →
        kept_after rows (cond b (x ∷ by_number (Some run) xs) (run ∷ x ∷ xs)) key ≡ written (number run) own (kept_after rows (x ∷ xs) key)
    by_test true is falls rest =
        ap (or_kept (number x) (own_write key x.acts)) (rest falls.1)
        ∙ written-older (number run) (number x) own (own_write key x.acts) (kept_after rows xs key) (ltb-true (number run) (number x) is)
    by_test false is falls rest =
        written-newer (number run) own (kept_after rows (x ∷ xs) key) (newer-after (number run) rows (x ∷ xs) key some falls.0)

value_of-kept : (n : ℕ) (o : Option ℕ) (kept : Option Version) → value_of (or_kept n o kept) ≡ or_else o (value_of kept)
value_of-kept n None kept = refl
value_of-kept n (Some value) kept = refl

value_of-first : (o : Option ℕ) → value_of (written 0 o None) ≡ or_else o 0
value_of-first None = refl
value_of-first (Some value) = refl

-- the value that is kept is the one that the runs leave
pub value-kept_after : (rows : List Put) (runs : List Run) (key : Key) → value_of (kept_after rows runs key) ≡ table_of (look_up rows) runs key
value-kept_after rows [] key = value_of-first (value_in rows key) ∙ sym (look_up-value_in rows key)
value-kept_after rows (run ∷ runs) key =
    value_of-kept (number run) (own_write key run.acts) (kept_after rows runs key)
    ∙ ap (or_else (own_write key run.acts)) (value-kept_after rows runs key) ∙ sym (after-own_write key run.acts (table_of (look_up rows) runs))
