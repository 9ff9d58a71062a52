-- What is kept of each key: with one more transaction, and as the rows that all of them leave.
use Rattle.std.proofs.Common.{◌≡◌, ℕ, zero, suc, ◌<◌, ◌≤◌, Bool, true, false, cond, nat_lt, Option, Some, None, List, [], ◌∷◌, ◌+◌, length, get_or, drop, refl, sym, ap, ◌∙◌, subst, arith}
use Rattle.std.proofs.lemmas.Bool.{cond-true, cond-false, ltb-true, ltb-false, le-ltb, eqb-true, ne_eqb}
use Rattle.std.proofs.lemmas.List.{at_drop_more}
use Rattle.mdb_base.specs.declared.names.Key.{Key}
use Rattle.mdb_base.specs.declared.rows.Put.{Put}
use Rattle.mdb_base.specs.Names.{same_key}
use Rattle.mdb_base.specs.Rising.{IsRising}
use Rattle.mdb_base.specs.Rows.{value_in}
use Rattle.mdb_base.specs.Words.{Each}
use Rattle.mdb_base.proofs.ForCallers.{each_inserted, each_map, first_of, value_in-with_rows}
use Rattle.presumptions.specs.declared.Decision.TheVariants as Decided
use Rattle.fed_rules.specs.declared.records.SiteRecord.{SiteRecord}
use Rattle.fed_rules.specs.declared.records.SiteRecord.TheVariants.{Setup, Start, Prepared, Ended, Local, Checkpoint}
use Rattle.fed_rules.specs.SiteRecords.{Held, Install, by_number, doubt_of, install_held, installs, rows_after}
use Rattle.journal_sums.specs.declared.versions.Version.{Version}
use Rattle.journal_sums.specs.Versions.{first_version, is_kept_from, later_or, or_else_by, row_of, version_after, version_in}

-- behind each transaction none has a greater number
abbrev pub NumbersFall : List Install → Type 0
NumbersFall [] = Unit {0}
NumbersFall (install ∷ installs) = Each (λ older. older.number ≤ install.number) installs × NumbersFall installs

falls-by_number : (install : Install) (installs : List Install) → NumbersFall installs → NumbersFall (by_number install installs)
falls-by_number install [] falls = (tt, tt)
falls-by_number install (x ∷ xs) falls = by_test (nat_lt install.number x.number) refl (falls-by_number install xs falls.1)
  where
    by_test : (b : Bool) → nat_lt install.number x.number ≡ b → NumbersFall (by_number install xs) → NumbersFall (cond b (x ∷ by_number install xs) (install ∷ x ∷ xs))
    by_test true is rest =
        let less = ltb-true install.number x.number is in
        (each_inserted (λ (older : Install). older.number ≤ x.number) (λ (a b : Install). nat_lt b.number a.number) install xs (omega arith) falls.0, rest)
    by_test false is rest =
        let most = ltb-false install.number x.number is in
        ((most, each_map (λ (older : Install). older.number ≤ x.number) (λ (older : Install). older.number ≤ install.number) (λ older few. omega arith) xs falls.0), falls)

falls-install_held : (held : Option Held) (before : List Install) → NumbersFall before → NumbersFall (install_held held before)
falls-install_held None before falls = falls
falls-install_held (Some held) before falls = falls-by_number _ before falls

-- the committed ones stand by falling number
pub falls-installs : (records : List SiteRecord) → NumbersFall (installs records)
falls-installs [] = tt
falls-installs (Setup site engine protocol items ∷ records) = falls-installs records
falls-installs (Start epoch ∷ records) = falls-installs records
falls-installs (Prepared tid epoch number ticket writes ∷ records) = falls-installs records
falls-installs (Ended tid Decided.Commit ∷ records) = falls-install_held (doubt_of records tid) (installs records) (falls-installs records)
falls-installs (Ended tid Decided.Abort ∷ records) = falls-installs records
falls-installs (Local tid number writes ∷ records) = falls-by_number _ (installs records) (falls-installs records)
falls-installs (Checkpoint sum ∷ records) = falls-installs records

first_kept : (n : ℕ) (row : Option ℕ) → is_kept_from n (first_version row) ≡ false
first_kept n None = refl
first_kept n (Some value) = le-ltb n 0 (omega arith)

-- nothing is kept by a greater number than all these have
none_greater : (n : ℕ) (rows : List Put) (installs : List Install) (key : Key) → Each (λ older. older.number ≤ n) installs → is_kept_from n (version_in rows installs key) ≡ false
none_greater n rows [] key few = first_kept n (value_in rows key)
none_greater n rows (x ∷ xs) key few = by_write (value_in x.writes key) (none_greater n rows xs key few.1)
  where
    by_write : (o : Option ℕ) → is_kept_from n (version_in rows xs key) ≡ false → is_kept_from n (or_else_by o x.number (version_in rows xs key)) ≡ false
    by_write None rest = rest
    by_write (Some value) rest = le-ltb n x.number few.0

newer_wins : (n : ℕ) (o : Option ℕ) (kept : Option Version) → is_kept_from n kept ≡ false → or_else_by o n kept ≡ version_after n o kept
newer_wins n None kept free = refl
newer_wins n (Some value) kept free = sym (cond-false _ _ _ free)

stays_under : (n m : ℕ) (o p : Option ℕ) (kept : Option Version) → nat_lt n m ≡ true → or_else_by p m (version_after n o kept) ≡ version_after n o (or_else_by p m kept)
stays_under n m o None kept less = refl
stays_under n m None (Some w) kept less = refl
stays_under n m (Some v) (Some w) kept less = sym (cond-true _ _ _ less)

-- one more transaction counts by its number, and before those with the same one
pub version_in-by_number : (rows : List Put) (install : Install) (installs : List Install) (key : Key) → NumbersFall installs →
    version_in rows (by_number install installs) key ≡ version_after install.number (value_in install.writes key) (version_in rows installs key)
version_in-by_number rows install [] key falls =
    newer_wins install.number (value_in install.writes key) (first_version (value_in rows key)) (first_kept install.number (value_in rows key))
version_in-by_number rows install (x ∷ xs) key falls = by_test (nat_lt install.number x.number) refl (version_in-by_number rows install xs key falls.1)
  where
    by_test : (b : Bool) → nat_lt install.number x.number ≡ b →
        version_in rows (by_number install xs) key ≡ version_after install.number (value_in install.writes key) (version_in rows xs key) →
        version_in rows (cond b (x ∷ by_number install xs) (install ∷ x ∷ xs)) key ≡ version_after install.number (value_in install.writes key) (version_in rows (x ∷ xs) key)
    by_test true is rest =
        ap (or_else_by (value_in x.writes key) x.number) rest
        ∙ stays_under install.number x.number (value_in install.writes key) (value_in x.writes key) (version_in rows xs key) is
    by_test false is rest =
        let most = ltb-false install.number x.number is in
        newer_wins install.number (value_in install.writes key) (version_in rows (x ∷ xs) key)
        (none_greater install.number rows (x ∷ xs) key
        (most, each_map (λ (older : Install). older.number ≤ x.number) (λ (older : Install). older.number ≤ install.number) (λ older few. omega arith) xs falls.0))

-- the rows that all of them leave
pub value_in-rows_after : (rows : List Put) (installs : List Install) (key : Key) → value_in (rows_after rows installs) key ≡ row_of (version_in rows installs key)
value_in-rows_after rows [] key = by_row (value_in rows key)
  where
    by_row : (o : Option ℕ) → o ≡ row_of (first_version o)
    by_row None = refl
    by_row (Some value) = refl
value_in-rows_after rows (x ∷ xs) key =
    value_in-with_rows x.writes (rows_after rows xs) key ∙ ap (first_of (value_in x.writes key)) (value_in-rows_after rows xs key)
    ∙ by_write (value_in x.writes key)
  where
    by_write : (o : Option ℕ) → first_of o (row_of (version_in rows xs key)) ≡ row_of (or_else_by o x.number (version_in rows xs key))
    by_write None = refl
    by_write (Some value) = refl

-- rows behind a row have other keys
none_behind : (row : Put) (rows : List Put) (key : Key) → IsRising (λ row. row.key.0) (row ∷ rows) → key.0 ≤ row.key.0 → value_in rows key ≡ None
none_behind row [] key rising few = refl
none_behind row (next ∷ rows) key rising few =
    let less = rising.0 in
    let apart : same_key next.key key ≡ false = ne_eqb next.key.0 key.0 (omega (arith, less)) in
    ap (λ b. cond b (Some next.value) (value_in rows key)) apart ∙ none_behind next rows key rising.1 (omega (arith, less))

pub rising_behind : (rows : List Put) (n : ℕ) → IsRising (λ row. row.key.0) rows → IsRising (λ row. row.key.0) (drop n rows)
rising_behind rows zero rising = rising
rising_behind [] (suc n) rising = tt
rising_behind (row ∷ []) (suc n) rising = rising_behind [] n tt
rising_behind (row ∷ next ∷ rows) (suc n) rising = rising_behind (next ∷ rows) n rising.1

-- one write, and then those behind it
one_first : (n : ℕ) (row : Put) (rows : List Put) (key : Key) (kept : Option Version) → IsRising (λ row. row.key.0) (row ∷ rows) →
    version_after n (value_in rows key) (version_after n (value_in (row ∷ []) key) kept) ≡ version_after n (value_in (row ∷ rows) key) kept
one_first n row rows key kept rising = by_test (same_key row.key key) refl
  where
    by_test : (b : Bool) → same_key row.key key ≡ b →
        version_after n (value_in rows key) (version_after n (cond b (Some row.value) None) kept) ≡ version_after n (cond b (Some row.value) (value_in rows key)) kept
    by_test true is =
        ap (λ o. version_after n o (version_after n (Some row.value) kept))
        (none_behind row rows key rising (let same = eqb-true row.key.0 key.0 is in omega (arith, same)))
    by_test false is = refl

-- the next of the writes changes what is kept, and not what all of them leave
pub next_write : (writes : List Put) (i : ℕ) (d : Put) (n : ℕ) (key : Key) (kept now : Option Version) → IsRising (λ row. row.key.0) writes → i < length writes →
    now ≡ version_after n (value_in (get_or writes i d ∷ []) key) kept →
    version_after n (value_in (drop (i + 1) writes) key) now ≡ version_after n (value_in (drop i writes) key) kept
next_write writes i d n key kept now rising within done =
    let row : Put = get_or writes i d in
    let split : drop i writes ≡ row ∷ drop (i + 1) writes = at_drop_more (λ rows. rows) writes i d within in
    ap (version_after n (value_in (drop (i + 1) writes) key)) done
    ∙ one_first n row (drop (i + 1) writes) key kept (subst (IsRising (λ row. row.key.0)) split (rising_behind writes i rising))
    ∙ ap (λ rows. version_after n (value_in rows key) kept) (sym split)

-- a later write counts before the first row, whatever its number
pub later_write : (n : ℕ) (write row : Option ℕ) (later : Option Version) → later_or (version_after n write later) row ≡ version_after n write (later_or later row)
later_write n None row later = refl
later_write n (Some value) row None = sym (cond-false _ _ _ (first_kept n row))
later_write n (Some value) row (Some version) = by_test (is_kept_from n (Some version))
  where
    by_test : (b : Bool) → later_or (cond b (Some version) (Some (record { number = n; value = value }))) row ≡ cond b (Some version) (Some (record { number = n; value = value }))
    by_test true = refl
    by_test false = refl

-- the row of a key, from the rows written later and the first ones
pub row_kept : (later : Option Version) (row : Option ℕ) → first_of (row_of later) row ≡ row_of (later_or later row)
row_kept None None = refl
row_kept None (Some value) = refl
row_kept (Some version) row = refl
