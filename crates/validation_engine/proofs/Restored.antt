-- After a restart the index has the transactions in doubt as the sealed writers of the keys of their records, and nothing else.
use Rattle.std.proofs.Common.{◌≡◌, ℕ, ◌⊎◌, inl, inr, Bool, true, false, ◌||◌, cond, is_some, Option, Some, None, List, [], ◌∷◌, refl, sym, ap, ◌∙◌, subst}
use Rattle.std.specs.Ordering.{nat_cmp}
use Rattle.std.specs.FinMap.{empty, get, insert, get-empty}
use Rattle.std.proofs.lemmas.Bool.{cond-true, cond-false}
use Rattle.std.proofs.lemmas.Option.{same_Some}
use Rattle.mdb_base.specs.declared.names.Engine.TheVariants.{Validation}
use Rattle.mdb_base.specs.declared.names.Key.{Key}
use Rattle.mdb_base.specs.declared.names.Tid.{Tid}
use Rattle.mdb_base.specs.declared.rows.Put.{Put}
use Rattle.mdb_base.specs.Names.{same_tid, same_key}
use Rattle.mdb_base.specs.Rising.{IsRising}
use Rattle.mdb_base.specs.Words.{Each, or_else}
use Rattle.mdb_base.proofs.ForCallers.{same_key-equal, same_tid-equal, same_tid-refl}
use Rattle.fed_rules.specs.declared.runs.Kept.{Kept}
use Rattle.fed_rules.specs.Runs.{Run, restored, restored_at, run_at}
use Rattle.fed_rules.specs.Replies.{has_written}
use Rattle.fed_rules.specs.EngineLines.{AreApart, AllApart, IsStart, has_row}
use Rattle.engine_contract.specs.Calls.{start_from}
use Rattle.engine_laws.proofs.ForCallers.{restored_one, written_rows}
use Rattle.run_book.specs.declared.rival.Rival.{Rival}
use Rattle.run_book.specs.Book.{started}
use Rattle.run_book.proofs.ForCallers.{starts_well}
use Rattle.validation_engine.specs.declared.index.Writers.{Writers}
use Rattle.validation_engine.specs.declared.engine.ValidationEngine.{ValidationEngine}
use Rattle.validation_engine.specs.Index.{Index, nobody, sealed_at, last_at, with_rows_sealed, with_restored}
use Rattle.validation_engine.specs.Stands.{IsSealedWriter, AreSealed, HaveEntries, Stands}
use Rattle.validation_engine.proofs.Entries.{entry-put}

-- the entry of a sealed writer
abbrev prepared : Rival → Writers
prepared writer = record { last = None; sealed = Some writer }

-- the entries of the keys of the rows
rows-sealed : (writer : Rival) (rows : List Put) (m : Index) (key : Key) → get (with_rows_sealed writer rows m) key.0 ≡ cond (has_row key rows) (Some (prepared writer)) (get m key.0)
rows-sealed writer [] m key = refl
rows-sealed writer (row ∷ rows) m key =
    rows-sealed writer rows (insert m row.key.0 (prepared writer)) key
    ∙ (ap (λ (o : Option Writers). cond (has_row key rows) (Some (prepared writer)) o) (entry-put m row.key.0 key.0 (prepared writer)) ∙ by_tests (has_row key rows) (same_key row.key key))
  where
    by_tests : (b c : Bool) → cond b (Some (prepared writer)) (cond c (Some (prepared writer)) (get m key.0)) ≡ cond (c || b) (Some (prepared writer)) (get m key.0)
    by_tests true true = refl
    by_tests true false = refl
    by_tests false true = refl
    by_tests false false = refl

-- a key of the one is no key of the others
apart_row : (key : Key) (rows : List Put) (other : Kept) → Each (λ put. has_row put.key other.writes ≡ false) rows → has_row key rows ≡ true → has_row key other.writes ≡ false
apart_row key [] other apart has = cc
apart_row key (row ∷ rows) other apart has = by_key (same_key row.key key) refl has (apart_row key rows other apart.1)
  where
    by_key : (b : Bool) → same_key row.key key ≡ b → (b || has_row key rows) ≡ true → (has_row key rows ≡ true → has_row key other.writes ≡ false) → has_row key other.writes ≡ false
    by_key true e any rest = ap (λ (k : Key). has_row k other.writes) (sym (same_key-equal row.key key e)) ∙ apart.0
    by_key false e any rest = rest any

more-other : (kept : Kept) (more : List Kept) (m : Index) (key : Key) → Each (AreApart kept) more → has_row key kept.writes ≡ true → get (with_restored more m) key.0 ≡ get m key.0
more-other kept [] m key apart has = refl
more-other kept (other ∷ more) m key apart has =
    more-other kept more _ key apart.1 has
    ∙ (rows-sealed (record { tid = other.tid; rank = other.number }) other.writes m key ∙ cond-false _ _ _ (apart_row key kept.writes other apart.0.keys has))

-- each entry is of a transaction in doubt, and stood there before or is its own
restored_there : (doubtful : List Kept) (m : Index) (key : Key) → (P : Option Writers → Type 0) → P (get m key.0) →
    ((kept : Kept) → P (Some (prepared (record { tid = kept.tid; rank = kept.number })))) → P (get (with_restored doubtful m) key.0)
restored_there [] m key P before own = before
restored_there (kept ∷ more) m key P before own =
    restored_there more (with_rows_sealed (record { tid = kept.tid; rank = kept.number }) kept.writes m) key P
    (subst P (sym (rows-sealed (record { tid = kept.tid; rank = kept.number }) kept.writes m key)) (by_row (has_row key kept.writes))) own
  where
    by_row : (b : Bool) → P (cond b (Some (prepared (record { tid = kept.tid; rank = kept.number }))) (get m key.0))
    by_row true = own kept
    by_row false = before

-- the sealed writer of a key is the one in doubt with a row of the key
restored_writer : (doubtful : List Kept) (m : Index) (key : Key) (u : Tid) (n : ℕ) → AllApart doubtful → IsSealedWriter (restored_at doubtful u) key n →
    get (with_restored doubtful m) key.0 ≡ Some (prepared (record { tid = u; rank = n }))
restored_writer [] m key u n apart w = let bad = w.at in cc
restored_writer (kept ∷ more) m key u n apart w =
    by_tid (same_tid kept.tid u) refl w.at
    (λ at. restored_writer more (with_rows_sealed (record { tid = kept.tid; rank = kept.number }) kept.writes m) key u n apart.1 (record { run = w.run; at = at; sealed = w.sealed; wrote = w.wrote }))
  where
    by_tid : (b : Bool) → same_tid kept.tid u ≡ b → cond b (Some (restored kept)) (restored_at more u) ≡ Some w.run →
        (restored_at more u ≡ Some w.run → get (with_restored (kept ∷ more) m) key.0 ≡ Some (prepared (record { tid = u; rank = n }))) → get (with_restored (kept ∷ more) m) key.0 ≡ Some (prepared (record { tid = u; rank = n }))
    by_tid true e is rest =
        let one = same_Some (restored kept) w.run is in
        let has : has_row key kept.writes ≡ true = sym (written_rows key kept.writes) ∙ (ap (λ (r : Run). has_written key r) one ∙ w.wrote) in
        let number : kept.number ≡ n = same_Some kept.number n (ap (λ (r : Run). r.sealed) one ∙ w.sealed) in
        more-other kept more _ key apart.0 has
        ∙ (rows-sealed (record { tid = kept.tid; rank = kept.number }) kept.writes m key ∙ (cond-true _ _ _ has
        ∙ (ap (λ (t : Tid). Some (prepared (record { tid = t; rank = kept.number }))) (same_tid-equal kept.tid u e)
        ∙ ap (λ (k : ℕ). Some (prepared (record { tid = u; rank = k }))) number)))
    by_tid false e is rest = rest is

-- and each sealed writer is one of those in doubt
writer_there : (doubtful : List Kept) (m : Index) (key : Key) → AllApart doubtful → (u : Tid) (n : ℕ) → sealed_at (with_restored doubtful m) key ≡ Some (record { tid = u; rank = n }) →
    (sealed_at m key ≡ Some (record { tid = u; rank = n })) ⊎ IsSealedWriter (restored_at doubtful u) key n
writer_there [] m key apart u n is = inl is
writer_there (kept ∷ more) m key apart u n is =
    elim (writer_there more (with_rows_sealed (record { tid = kept.tid; rank = kept.number }) kept.writes m) key apart.1 u n is) [
      | inl before ↦ by_row (has_row key kept.writes) refl
          (sym (ap (λ (o : Option Writers). (or_else o nobody).sealed) (rows-sealed (record { tid = kept.tid; rank = kept.number }) kept.writes m key)) ∙ before)
      | inr later ↦ inr (record { run = later.run; at = by_tid (same_tid kept.tid u) refl later.at; sealed = later.sealed; wrote = later.wrote })
    ]
  where
    by_tid : {run : Run} (b : Bool) → same_tid kept.tid u ≡ b → restored_at more u ≡ Some run → cond b (Some (restored kept)) (restored_at more u) ≡ Some run
    by_tid {run} true e at = let bad : None ≡ Some run = sym (restored_one kept more u apart.0 e) ∙ at in cc
    by_tid {run} false e at = at

    by_row : (b : Bool) → has_row key kept.writes ≡ b → (or_else (cond b (Some (prepared (record { tid = kept.tid; rank = kept.number }))) (get m key.0)) nobody).sealed ≡ Some (record { tid = u; rank = n }) →
        (sealed_at m key ≡ Some (record { tid = u; rank = n })) ⊎ IsSealedWriter (restored_at (kept ∷ more) u) key n
    by_row true has is =
        let r = same_Some _ _ is in
        let here : kept.tid ≡ u = ap (λ (x : Rival). x.tid) r in
        let number : kept.number ≡ n = ap (λ (x : Rival). x.rank) r in
        inr (record {
          run = restored kept;
          at = cond-true _ _ _ (ap (λ (t : Tid). same_tid kept.tid t) (sym here) ∙ same_tid-refl kept.tid);
          sealed = ap (λ (k : ℕ). Some k) number;
          wrote = written_rows key kept.writes ∙ has;
        })
    by_row false has is = inl is

abbrev nothing : Index
nothing = empty

empty_at : (key : Key) → get nothing key.0 ≡ None
empty_at key = get-empty nat_cmp key.0

pub restored_sealed : (doubtful : List Kept) → AllApart doubtful → AreSealed (with_restored doubtful empty) (restored_at doubtful)
restored_sealed doubtful apart = record {
  there = λ key u n is. elim (writer_there doubtful empty key apart u n is) [
    | inl none ↦
        let bad : None ≡ Some (record { tid = u; rank = n }) = sym (ap (λ (o : Option Writers). (or_else o nobody).sealed) (empty_at key)) ∙ none in cc
    | inr writer ↦ writer
  ];
  back = λ key u n w. ap (λ (o : Option Writers). (or_else o nobody).sealed) (restored_writer doubtful empty key u n apart w);
}

-- nobody has ended yet
pub restored_last : (doubtful : List Kept) (key : Key) → last_at (with_restored doubtful empty) key ≡ None
restored_last doubtful key =
    restored_there doubtful empty key (λ o. (or_else o nobody).last ≡ None) (ap (λ (o : Option Writers). (or_else o nobody).last) (empty_at key)) (λ kept. refl)

restored_number : (doubtful : List Kept) (u : Tid) (run : Run) → restored_at doubtful u ≡ Some run → (n : ℕ) × (run.sealed ≡ Some n)
restored_number [] u run at = cc
restored_number (kept ∷ more) u run at = by_tid (same_tid kept.tid u) at (restored_number more u run)
  where
    by_tid : (b : Bool) → cond b (Some (restored kept)) (restored_at more u) ≡ Some run → (restored_at more u ≡ Some run → (n : ℕ) × (run.sealed ≡ Some n)) → (n : ℕ) × (run.sealed ≡ Some n)
    by_tid true is rest = (kept.number, ap (λ (r : Run). r.sealed) (sym (same_Some (restored kept) run is)))
    by_tid false is rest = rest is

pub restored_entries : (doubtful : List Kept) → AllApart doubtful → HaveEntries (with_restored doubtful empty) (restored_at doubtful)
restored_entries doubtful apart u run key at done =
    let number = restored_number doubtful u run at in
    ap (λ (o : Option Writers). is_some o) (restored_writer doubtful empty key u number.0 apart (record { run = run; at = at; sealed = number.1; wrote = done }))

-- an epoch starts
pub stands_started : (new : ValidationEngine) (rows : List Put) (doubtful : List Kept) (counter published : ℕ) (owner : Option Tid) → IsRising (λ row. row.key.0) rows →
    IsStart (start_from Validation rows doubtful counter published owner) → new.book.book ≡ started rows doubtful (record { counter = counter; published = published; owner = owner }) →
    new.index ≡ with_restored doubtful empty → Stands new (start_from Validation rows doubtful counter published owner) []
stands_started new rows doubtful c p o rising starts book index =
    let start = start_from Validation rows doubtful c p o in
    record {
      keeps = starts_well Validation new.book rows doubtful c p o rising starts book;
      sealed = subst (λ (i : Index). AreSealed i (run_at start [])) (sym index) (restored_sealed doubtful starts.apart);
      last = λ key. ap (λ (i : Index). last_at i key) index ∙ restored_last doubtful key;
      entries = subst (λ (i : Index). HaveEntries i (run_at start [])) (sym index) (restored_entries doubtful starts.apart);
    }
