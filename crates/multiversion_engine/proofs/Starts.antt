-- A multiversion engine as an epoch starts.
use Rattle.std.proofs.Common.{◌≡◌, ℕ, Bool, true, false, ◌||◌, cond, nat_lt, Option, Some, None, List, [], ◌∷◌, refl, sym, ap, ◌∙◌, subst, arith}
use Rattle.std.specs.FinMap.{empty, get, get-empty}
use Rattle.std.proofs.lemmas.Bool.{cond-true, lt-ltb}
use Rattle.std.proofs.lemmas.Option.{same_Some}
use Rattle.mdb_base.specs.declared.names.Engine.TheVariants.{Multiversion}
use Rattle.mdb_base.specs.declared.names.Key.{Key}
use Rattle.mdb_base.specs.declared.names.Tid.{Tid}
use Rattle.mdb_base.specs.declared.rows.Put.{Put}
use Rattle.mdb_base.specs.Names.{same_tid, same_key}
use Rattle.mdb_base.specs.Rising.{IsRising}
use Rattle.mdb_base.proofs.ForCallers.{same_key-equal}
use Rattle.fed_rules.specs.declared.runs.Kept.{Kept}
use Rattle.fed_rules.specs.Runs.{Start, Run, run_at, restored, restored_at}
use Rattle.fed_rules.specs.Replies.{has_written}
use Rattle.fed_rules.specs.EngineLines.{IsStart, has_row}
use Rattle.engine_contract.specs.Calls.{start_from}
use Rattle.engine_laws.proofs.ForCallers.{has_write_written}
use Rattle.run_book.specs.Ages.{no_ages, restored_writer}
use Rattle.run_book.specs.Takers.{no_takers, restored_takers, ByAge}
use Rattle.run_book.specs.AgeLaws.{AreNow}
use Rattle.run_book.proofs.ForCallers.{follows_starts, starts_well}
use Rattle.site_tables.specs.declared.versions.Version.{Version}
use Rattle.site_tables.specs.Numbers.{number_of}
use Rattle.site_tables.specs.Tables.{is_newer}
use Rattle.site_tables.specs.Tables.{written as written_row}
use Rattle.run_book.specs.Book.{Book, started, table_in, number_in}
use Rattle.run_book.specs.Tables.{kept_after}
use Rattle.multiversion_engine.specs.declared.engine.MultiversionEngine.{MultiversionEngine}
use Rattle.multiversion_engine.specs.declared.old_versions.Place.{Place}
use Rattle.multiversion_engine.specs.OldVersions.{Olds, place_of, place_cmp}
use Rattle.multiversion_engine.specs.Noted.{with_newest, with_rows, with_written}
use Rattle.multiversion_engine.specs.Unended.{AreUnended}
use Rattle.multiversion_engine.specs.Versions.{AreVersions, IsThere, newest}
use Rattle.multiversion_engine.specs.Stands.{Stands}
use Rattle.multiversion_engine.proofs.Ages.{unended_restored}
use Rattle.multiversion_engine.proofs.KeptBelow.{newer_number}
use Rattle.multiversion_engine.proofs.Places.{same_place, place-equal, self_place, version-put}
use Rattle.multiversion_engine.proofs.Versions.{age_some}

-- the version of a key in the table of a book
abbrev kept_in : Book → Key → Option Version
kept_in book key = get book.versions key.0

-- the newest version that is noted stands there, and what stood there stands there still
noted_here : (book : Book) (key : Key) (olds : Olds) → IsThere (with_newest book key olds) key (kept_in book key)
noted_here book key olds = version-put olds (place_of key (number_in book key)) (place_of key (number_in book key)) (table_in book key) ∙ cond-true _ _ _ (self_place (place_of key (number_in book key)))

noted_still : (book : Book) (key k : Key) (olds : Olds) → IsThere olds k (kept_in book k) → IsThere (with_newest book key olds) k (kept_in book k)
noted_still book key k olds there = version-put olds p (place_of k (number_in book k)) (table_in book key) ∙ by_place (same_place (place_of k (number_in book k)) p) refl
  where
    p : Place
    p = place_of key (number_in book key)

    by_place : (b : Bool) → same_place (place_of k (number_in book k)) p ≡ b → cond b (Some (table_in book key)) (get olds (place_of k (number_in book k))) ≡ Some (table_in book k)
    by_place true e =
        let k_is : k ≡ key = ap (λ (q : Place). let x : Key = record { 0 = q.key } in x) (place-equal (place_of k (number_in book k)) p e) in
        ap (λ (x : Key). Some (table_in book x)) (sym k_is)
    by_place false e = there

rows_still : (book : Book) (rows : List Put) (k : Key) (olds : Olds) → IsThere olds k (kept_in book k) → IsThere (with_rows book rows olds) k (kept_in book k)
rows_still book [] k olds there = there
rows_still book (row ∷ rows) k olds there = rows_still book rows k (with_newest book row.key olds) (noted_still book row.key k olds there)

rows_here : (book : Book) (rows : List Put) (k : Key) (olds : Olds) → has_row k rows ≡ true → IsThere (with_rows book rows olds) k (kept_in book k)
rows_here book [] k olds h = cc
rows_here book (row ∷ rows) k olds h = by_test (same_key row.key k) refl h (rows_here book rows k (with_newest book row.key olds))
  where
    by_test : (b : Bool) → same_key row.key k ≡ b → (b || has_row k rows) ≡ true →
        (has_row k rows ≡ true → IsThere (with_rows book rows (with_newest book row.key olds)) k (kept_in book k)) → IsThere (with_rows book rows (with_newest book row.key olds)) k (kept_in book k)
    by_test true e any rest =
        rows_still book rows k (with_newest book row.key olds)
        (subst (λ (x : Key). IsThere (with_newest book row.key olds) x (kept_in book x)) (same_key-equal row.key k e) (noted_here book row.key olds))
    by_test false e any rest = rest any

written_still : (book : Book) (doubtful : List Kept) (k : Key) (olds : Olds) → IsThere olds k (kept_in book k) → IsThere (with_written book doubtful olds) k (kept_in book k)
written_still book [] k olds there = there
written_still book (kept ∷ more) k olds there = written_still book more k (with_rows book kept.writes olds) (rows_still book kept.writes k olds there)

-- and so does that of a key that one of them wrote
written_here : (book : Book) (doubtful : List Kept) (t : Tid) (run : Run) (k : Key) (olds : Olds) → restored_at doubtful t ≡ Some run → has_written k run ≡ true →
    IsThere (with_written book doubtful olds) k (kept_in book k)
written_here book [] t run k olds at has = cc
written_here book (kept ∷ more) t run k olds at has = by_test (same_tid kept.tid t) at (λ rest. written_here book more t run k (with_rows book kept.writes olds) rest has)
  where
    by_test : (b : Bool) → cond b (Some (restored kept)) (restored_at more t) ≡ Some run →
        (restored_at more t ≡ Some run → IsThere (with_written book more (with_rows book kept.writes olds)) k (kept_in book k)) →
        IsThere (with_written book more (with_rows book kept.writes olds)) k (kept_in book k)
    by_test true at rest =
        let same = same_Some (restored kept) run at in
        let wrote : has_row k kept.writes ≡ true = sym (has_write_written k kept.writes) ∙ (ap (λ (r : Run). has_written k r) same ∙ has) in
        written_still book more k (with_rows book kept.writes olds) (rows_here book kept.writes k olds wrote)
    by_test false at rest = rest at

-- all versions that are noted have the number 0, where the table's have
abbrev AllFirst : Olds → Type 0
AllFirst olds = (key : Key) (n value : ℕ) → get olds (place_of key n) ≡ Some value → n ≡ 0

module _ (book : Book) (zero_in : (key : Key) → number_in book key ≡ 0) where
  newest_first : (key : Key) (olds : Olds) → AllFirst olds → AllFirst (with_newest book key olds)
  newest_first key olds h k n value at = by_place (same_place (place_of k n) p) refl (sym (version-put olds p (place_of k n) (table_in book key)) ∙ at)
    where
      p : Place
      p = place_of key (number_in book key)

      by_place : (b : Bool) → same_place (place_of k n) p ≡ b → cond b (Some (table_in book key)) (get olds (place_of k n)) ≡ Some value → n ≡ 0
      by_place true e at = ap (λ (q : Place). q.number) (place-equal (place_of k n) p e) ∙ zero_in key
      by_place false e at = h k n value at

  rows_first : (rows : List Put) (olds : Olds) → AllFirst olds → AllFirst (with_rows book rows olds)
  rows_first [] olds h = h
  rows_first (row ∷ rows) olds h = rows_first rows (with_newest book row.key olds) (newest_first row.key olds h)

  written_first : (doubtful : List Kept) (olds : Olds) → AllFirst olds → AllFirst (with_written book doubtful olds)
  written_first [] olds h = h
  written_first (kept ∷ more) olds h = written_first more (with_rows book kept.writes olds) (rows_first kept.writes olds h)

first_number : (o : Option ℕ) → number_of (written_row 0 o None) ≡ 0
first_number None = refl
first_number (Some value) = refl

-- the versions of the transactions in doubt
versions_start : (book : Book) (start : Start) → IsStart start → ((key : Key) → get book.versions key.0 ≡ kept_after start.rows [] key) → AreVersions (with_written book start.doubtful empty) start []
versions_start book start starts kept = record {
  ordered = λ key n value age at less. let is = all_first key n value at in omega arith;
  kept = λ tid run key at older.
      let some = age_some start [] tid run starts tt at in
      let newer : is_newer run.age (newest start [] key) ≡ true =
      newer_number run.age (newest start [] key) some ∙ (ap (λ (n : ℕ). nat_lt n run.age) (first key) ∙ lt-ltb 0 run.age some) in
      let bad : true ≡ false = sym newer ∙ older in cc;
  noted = λ tid run key at has. subst (λ (v : Option Version). IsThere (with_written book start.doubtful empty) key v) (kept key) (written_here book start.doubtful tid run key empty at has);
}
  where
    first : (key : Key) → number_of (newest start [] key) ≡ 0
    first key = first_number _

    all_first : AllFirst (with_written book start.doubtful empty)
    all_first = written_first book (λ key. ap number_of (kept key) ∙ first key) start.doubtful empty
        (λ key n value at. let bad : None ≡ Some value = sym (get-empty place_cmp (place_of key n)) ∙ at in cc)

-- an epoch starts
pub stands_started : (new : MultiversionEngine) (rows : List Put) (doubtful : List Kept) (counter published : ℕ) (owner : Option Tid) → IsRising (λ row. row.key.0) rows →
    IsStart (start_from Multiversion rows doubtful counter published owner) → new.book.book ≡ started rows doubtful (record { counter = counter; published = published; owner = owner }) →
    AreNow new.accesses (λ key. record no_ages { writer = restored_writer doubtful key None }) → new.takers ≡ record no_takers { unended = restored_takers doubtful empty } →
    new.unended ≡ restored_takers doubtful empty → new.olds ≡ with_written new.book.book doubtful empty → Stands new (start_from Multiversion rows doubtful counter published owner) []
stands_started new rows doubtful c p o rising starts book accesses takers unended olds =
    let start = start_from Multiversion rows doubtful c p o in
    let keeps = starts_well Multiversion new.book rows doubtful c p o rising starts book in
    record {
      keeps = keeps;
      ages = follows_starts new.accesses new.takers start accesses takers;
      unended = subst (λ (m : ByAge). AreUnended m (run_at start [])) (sym unended) (unended_restored doubtful starts.apart);
      versions = subst (λ (x : Olds). AreVersions x start []) (sym olds) (versions_start new.book.book start starts keeps.keeps.versions);
    }
