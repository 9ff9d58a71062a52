-- Who wrote each key: the last writer that ended by commit, and the sealed one that hasn't ended.
use Rattle.std.specs.Prelude.{ℕ, ◌≡◌, Bool, cond, is_some, Option, Some, None, List, [], ◌∷◌, refl}
use Rattle.std.specs.Ordering.{nat_cmp}
use Rattle.std.specs.FinMap.{FinMap, code, get, insert}
use Rattle.std.specs.Coded.{Coded, code_by, coded×, coded_option, coded_ℕ}
use Rattle.mdb_base.specs.declared.names.Key.{Key}
use Rattle.mdb_base.specs.declared.names.Tid.{Tid}
use Rattle.mdb_base.specs.declared.rows.Put.{Put}
use Rattle.mdb_base.specs.Words.{some_of, map_some, or_else}
use Rattle.fed_rules.specs.declared.runs.Kept.{Kept}
use Rattle.fed_rules.specs.Runs.{Access}
use Rattle.fed_rules.specs.Replies.{writes}
use Rattle.run_book.specs.declared.rival.Rival.{Rival}
use Rattle.run_book.specs.Held.{tid_code}
use Rattle.validation_engine.specs.declared.index.Ended.{Ended}
use Rattle.validation_engine.specs.declared.index.Writers.{Writers}
use Rattle.validation_engine.specs.declared.index.Change.{Change}
use Rattle.validation_engine.specs.declared.index.Change.TheVariants.{Sealed, Withdrawn, Committed}

-- the writers of each key that has an entry
abbrev pub Index : Type 0
Index = FinMap nat_cmp Writers

abbrev pub rival_code : Coded Rival
rival_code = code_by (Tid × ℕ) (coded× tid_code coded_ℕ) (λ r. (r.tid, r.rank)) (λ p. record { tid = p.0; rank = p.1 }) (λ _. refl)

abbrev pub ended_code : Coded Ended
ended_code =
    code_by (Tid × (ℕ × ℕ)) (coded× tid_code (coded× coded_ℕ coded_ℕ)) (λ e. (e.tid, (e.number, e.moment)))
    (λ p. record { tid = p.0; number = p.1.0; moment = p.1.1 }) (λ _. refl)

abbrev pub writers_code : Coded Writers
writers_code =
    code_by (Option Ended × Option Rival) (coded× (coded_option ended_code) (coded_option rival_code)) (λ w. (w.last, w.sealed))
    (λ p. record { last = p.0; sealed = p.1 }) (λ _. refl)

abbrev pub index_code : Coded Index
index_code = code coded_ℕ writers_code

abbrev pub nobody : Writers
nobody = record { last = None; sealed = None }

-- the writers of a key
abbrev pub writers_at : Index → Key → Writers
writers_at index key = or_else (get index key.0) nobody

-- the last writer of a key that ended by commit
abbrev pub last_at : Index → Key → Option Ended
last_at index key = (writers_at index key).last

-- the sealed writer of a key that hasn't ended
abbrev pub sealed_at : Index → Key → Option Rival
sealed_at index key = (writers_at index key).sealed

-- whether a key has an entry
abbrev pub has_entry : Index → Key → Bool
has_entry index key = is_some (get index key.0)

-- where a key had no entry, it has one without writers
abbrev pub with_key : Key → Index → Index
with_key key index = cond (has_entry index key) index (insert index key.0 nobody)

-- the writers of a key after a change
abbrev pub changed_by : Change → Writers → Writers
changed_by (Sealed writer) writers = record { last = writers.last; sealed = Some writer }
changed_by Withdrawn writers = record { last = writers.last; sealed = None }
changed_by (Committed ended) writers = record { last = Some ended; sealed = None }

-- the keys that these accesses wrote are changed, and the others stay
abbrev pub IsChanged : Change → List Access → Index → Index → Type 0
IsChanged change acts old new =
    (key : Key) → get new key.0 ≡ cond (some_of (writes key) acts) (map_some (changed_by change) (get old key.0)) (get old key.0)

-- this sealed run is the writer of the keys of these rows
abbrev pub with_rows_sealed : Rival → List Put → Index → Index
with_rows_sealed writer [] index = index
with_rows_sealed writer (row ∷ rows) index =
    with_rows_sealed writer rows (insert index row.key.0 (record { last = None; sealed = Some writer }))

-- the transactions in doubt are the sealed writers of the keys of their records
abbrev pub with_restored : List Kept → Index → Index
with_restored [] index = index
with_restored (kept ∷ more) index =
    with_restored more (with_rows_sealed (record { tid = kept.tid; rank = kept.number }) kept.writes index)
