-- After a restart the holders are the transactions in doubt, at the keys that they wrote.
use Rattle.std.proofs.Common.{◌≡◌, ℕ, ◌⊎◌, Bool, true, false, ◌||◌, ◌&&◌, not, cond, is_some, nat_eq, Option, Some, None, List, [], ◌∷◌, inl, inr, refl, sym, ap, ◌∙◌, subst, arith}
use Rattle.std.specs.FinMap.{empty, get, insert, get-empty}
use Rattle.std.proofs.lemmas.Bool.{cond-true, cond-false, cases_Bool, eqb-true, eq-eqb}
use Rattle.mdb_base.specs.declared.names.Key.{Key}
use Rattle.mdb_base.specs.declared.names.Tid.{Tid}
use Rattle.mdb_base.specs.declared.rows.Put.{Put}
use Rattle.mdb_base.specs.Names.{same_tid, same_key}
use Rattle.mdb_base.specs.Words.{Each}
use Rattle.mdb_base.proofs.ForCallers.{same_tid-equal, same_tid-refl}
use Rattle.fed_rules.specs.declared.runs.Kept.{Kept}
use Rattle.fed_rules.specs.Runs.{Run, restored, restored_at, has_ticket, is_sealed}
use Rattle.fed_rules.specs.Replies.{has_written, has_read}
use Rattle.fed_rules.specs.EngineLines.{AreApart, AllApart, has_row}
use Rattle.engine_laws.proofs.ForCallers.{read_none, restored_one, written_rows}
use Rattle.locking_engine.specs.Places.{Place}
use Rattle.locking_engine.specs.Holders.{Holders, place_cmp, place_of, held_by, with_rows_held, with_restored}
use Rattle.locking_engine.specs.Stands.{HasDone, AreHolders}
use Rattle.locking_engine.proofs.Holding.{self_place, some_is}
use Rattle.locking_engine.proofs.Places.{same_place, place-equal, holder-put}

-- a holder that is put in leaves the other places
held-other : (m : Holders) (p q : Place) (t : Tid) → same_place q p ≡ false → get (held_by p t m) q ≡ get m q
held-other m p q t e = by_test (is_some (get m p))
  where
    by_test : (b : Bool) → get (cond b m (insert m p t)) q ≡ get m q
    by_test true = refl
    by_test false = holder-put m p q t ∙ cond-false _ _ _ e

-- and stands at its own where nobody else stood
held-own : (m : Holders) (p : Place) (t : Tid) → (get m p ≡ None) ⊎ (get m p ≡ Some t) → get (held_by p t m) p ≡ Some t
held-own m p t (inl none) = ap (λ (o : Option Tid). get (cond (is_some o) m (insert m p t)) p) none ∙ (holder-put m p p t ∙ cond-true _ _ _ (self_place p))
held-own m p t (inr here) = ap (λ (o : Option Tid). get (cond (is_some o) m (insert m p t)) p) here ∙ here

-- the places of another age stay
rows-other : (t : Tid) (age : ℕ) (rows : List Put) (m : Holders) (q : Place) → (q.age ≡ age → ⊥) → get (with_rows_held t age rows m) q ≡ get m q
rows-other t age [] m q apart = refl
rows-other t age (row ∷ rows) m q apart =
    rows-other t age rows (held_by (place_of row.key age) t m) q apart
    ∙ held-other m (place_of row.key age) q t (by_test (same_place q (place_of row.key age)) refl)
  where
    by_test : (b : Bool) → same_place q (place_of row.key age) ≡ b → b ≡ false
    by_test true e = absurd (apart (ap (λ (p : Place). p.age) (place-equal q (place_of row.key age) e)))
    by_test false e = refl

-- nobody else stands at this age
abbrev pub IsFor : Holders → ℕ → Tid → Type 0
IsFor m age t = (key : Key) → (get m (place_of key age) ≡ None) ⊎ (get m (place_of key age) ≡ Some t)

is_for-held : (m : Holders) (age : ℕ) (t : Tid) (key : Key) → IsFor m age t → IsFor (held_by (place_of key age) t m) age t
is_for-held m age t key free k =
    elim (cases_Bool (same_place (place_of k age) (place_of key age))) [
      | inl e ↦ inr (ap (λ (q : Place). get (held_by (place_of key age) t m) q) (place-equal (place_of k age) (place_of key age) e) ∙ held-own m (place_of key age) t (free key))
      | inr e ↦ elim (free k) [
        | inl none ↦ inl (held-other m (place_of key age) (place_of k age) t e ∙ none)
        | inr here ↦ inr (held-other m (place_of key age) (place_of k age) t e ∙ here)
      ]
    ]

pub other_place : (key other : Key) (age : ℕ) → same_key other key ≡ false → same_place (place_of key age) (place_of other age) ≡ false
other_place key other age e = by_test (same_place (place_of key age) (place_of other age)) refl
  where
    by_test : (b : Bool) → same_place (place_of key age) (place_of other age) ≡ b → b ≡ false
    by_test true f =
        let same = ap (λ (q : Place). q.key) (place-equal (place_of key age) (place_of other age) f) in
        let bad : same_key other key ≡ true = eq-eqb other.0 key.0 (sym same) in cc
    by_test false f = refl

-- who stands at a key of this age behind the rows stood there before, or wrote a row of the key
rows-there : (t : Tid) (age : ℕ) (rows : List Put) (m : Holders) (key : Key) (u : Tid) → IsFor m age t → get (with_rows_held t age rows m) (place_of key age) ≡ Some u →
    (get m (place_of key age) ≡ Some u) ⊎ ((u ≡ t) × (has_row key rows ≡ true))
rows-there t age [] m key u free at = inl at
rows-there t age (row ∷ rows) m key u free at =
    elim (rows-there t age rows (held_by (place_of row.key age) t m) key u (is_for-held m age t row.key free) at) [
      | inl before ↦ elim (cases_Bool (same_key row.key key)) [
        | inl e ↦
            let place : place_of key age ≡ place_of row.key age = ap (λ (n : ℕ). let q : Place = record { key = n; age = age } in q) (sym (eqb-true row.key.0 key.0 e)) in
            let here = held-own m (place_of row.key age) t (free row.key) in
            let is : Some u ≡ Some t = sym before ∙ (ap (λ (q : Place). get (held_by (place_of row.key age) t m) q) place ∙ here) in
            let one : u ≡ t = cc in
            inr (one, ap (λ (b : Bool). b || has_row key rows) e)
        | inr e ↦ inl (sym (held-other m (place_of row.key age) (place_of key age) t (other_place key row.key age e)) ∙ before)
      ]
      | inr is ↦ inr (is.0, later (same_key row.key key) (has_row key rows) is.1)
    ]
  where
    later : (x y : Bool) → y ≡ true → (x || y) ≡ true
    later true y e = refl
    later false y e = e

rows-kept : (t : Tid) (age : ℕ) (rows : List Put) (m : Holders) (key : Key) → IsFor m age t → get m (place_of key age) ≡ Some t → get (with_rows_held t age rows m) (place_of key age) ≡ Some t
rows-kept t age [] m key free at = at
rows-kept t age (row ∷ rows) m key free at =
    rows-kept t age rows (held_by (place_of row.key age) t m) key (is_for-held m age t row.key free) (stays (same_key row.key key) refl)
  where
    stays : (b : Bool) → same_key row.key key ≡ b → get (held_by (place_of row.key age) t m) (place_of key age) ≡ Some t
    stays true e =
        ap (λ (n : ℕ). get (held_by (place_of row.key age) t m) (record { key = n; age = age })) (sym (eqb-true row.key.0 key.0 e)) ∙ held-own m (place_of row.key age) t (free row.key)
    stays false e = held-other m (place_of row.key age) (place_of key age) t (other_place key row.key age e) ∙ at

-- and who wrote a row stands at its key
rows-back : (t : Tid) (age : ℕ) (rows : List Put) (m : Holders) (key : Key) → IsFor m age t → has_row key rows ≡ true → get (with_rows_held t age rows m) (place_of key age) ≡ Some t
rows-back t age [] m key free has = cc
rows-back t age (row ∷ rows) m key free has =
    by_key (same_key row.key key) refl has (λ any. rows-back t age rows (held_by (place_of row.key age) t m) key (is_for-held m age t row.key free) any)
  where
    by_key : (b : Bool) → same_key row.key key ≡ b → (b || has_row key rows) ≡ true → (has_row key rows ≡ true → get (with_rows_held t age rows (held_by (place_of row.key age) t m)) (place_of key age) ≡ Some t) → get (with_rows_held t age (row ∷ rows) m) (place_of key age) ≡ Some t
    by_key true e any rest =
        rows-kept t age rows (held_by (place_of row.key age) t m) key (is_for-held m age t row.key free)
        (ap (λ (n : ℕ). get (held_by (place_of row.key age) t m) (record { key = n; age = age })) (sym (eqb-true row.key.0 key.0 e)) ∙ held-own m (place_of row.key age) t (free row.key))
    by_key false e any rest = rest any

-- the numbers of those in doubt differ
numbers_differ : (kept other : Kept) → AreApart kept other → kept.number ≡ other.number → ⊥
numbers_differ kept other apart same = elim apart.order [ inl lt ↦ let l = lt.0 in omega arith | inr gt ↦ let l = gt.0 in omega arith ]

more-other : (kept : Kept) (more : List Kept) (m : Holders) (key : Key) → Each (AreApart kept) more → get (with_restored more m) (place_of key kept.number) ≡ get m (place_of key kept.number)
more-other kept [] m key apart = refl
more-other kept (other ∷ more) m key apart =
    more-other kept more (with_rows_held other.tid other.number other.writes m) key apart.1
    ∙ rows-other other.tid other.number other.writes m (place_of key kept.number) (numbers_differ kept other apart.0)

-- nobody stands at the ages of those that are still to come
abbrev pub AreFree : List Kept → Holders → Type 0
AreFree doubtful m = Each (λ kept. (key : Key) → get m (place_of key kept.number) ≡ None) doubtful

free-after : (kept : Kept) (more : List Kept) (m : Holders) → Each (AreApart kept) more → AreFree more m → AreFree more (with_rows_held kept.tid kept.number kept.writes m)
free-after kept [] m apart free = tt
free-after kept (other ∷ more) m apart free =
    ((λ key. rows-other kept.tid kept.number kept.writes m (place_of key other.number) (λ same. numbers_differ kept other apart.0 (sym same)) ∙ free.0 key), free-after kept more m apart.1 free.1)

restored_there : (doubtful : List Kept) (m : Holders) (key : Key) (age : ℕ) (u : Tid) → AllApart doubtful → AreFree doubtful m → get (with_restored doubtful m) (place_of key age) ≡ Some u →
    (get m (place_of key age) ≡ Some u) ⊎ HasDone has_written (restored_at doubtful) u key age
restored_there [] m key age u apart free at = inl at
restored_there (kept ∷ more) m key age u apart free at =
    elim (restored_there more (with_rows_held kept.tid kept.number kept.writes m) key age u apart.1 (free-after kept more m apart.0 free.1) at) [
      | inl before ↦ elim (cases_Bool (nat_eq age kept.number)) [
        | inl e ↦
            let is = eqb-true age kept.number e in
            let none : IsFor m kept.number kept.tid = λ k. inl (free.0 k) in
            elim (rows-there kept.tid kept.number kept.writes m key u none (ap (λ (n : ℕ). get (with_rows_held kept.tid kept.number kept.writes m) (place_of key n)) (sym is) ∙ before)) [
              | inl there ↦ let bad : None ≡ Some u = sym (free.0 key) ∙ there in cc
              | inr here ↦ inr (record {
                run = restored kept;
                at = ap (λ (t : Tid). restored_at (kept ∷ more) t) here.0 ∙ cond-true _ _ _ (same_tid-refl kept.tid);
                done = written_rows key kept.writes ∙ here.1;
                aged = sym is;
              })
            ]
        | inr e ↦ inl (sym (rows-other kept.tid kept.number kept.writes m (place_of key age) (λ same. let bad : nat_eq age kept.number ≡ true = eq-eqb age kept.number same in cc)) ∙ before)
      ]
      | inr had ↦ inr (record {
        run = had.run;
        at = by_tid (same_tid kept.tid u) refl had.run had.at;
        done = had.done;
        aged = had.aged;
      })
    ]
  where
    by_tid : (b : Bool) → same_tid kept.tid u ≡ b → (run : Run) → restored_at more u ≡ Some run → cond b (Some (restored kept)) (restored_at more u) ≡ Some run
    by_tid true e run at = let bad : None ≡ Some run = sym (restored_one kept more u apart.0 e) ∙ at in cc
    by_tid false e run at = at

restored_back : (doubtful : List Kept) (m : Holders) (u : Tid) (run : Run) (key : Key) → AllApart doubtful → AreFree doubtful m → restored_at doubtful u ≡ Some run → has_written key run ≡ true →
    get (with_restored doubtful m) (place_of key run.age) ≡ Some u
restored_back [] m u run key apart free at done = cc
restored_back (kept ∷ more) m u run key apart free at done =
    by_tid (same_tid kept.tid u) refl at
    (λ is. restored_back more (with_rows_held kept.tid kept.number kept.writes m) u run key apart.1 (free-after kept more m apart.0 free.1) is done)
  where
    by_tid : (b : Bool) → same_tid kept.tid u ≡ b → cond b (Some (restored kept)) (restored_at more u) ≡ Some run →
        (restored_at more u ≡ Some run → get (with_restored (kept ∷ more) m) (place_of key run.age) ≡ Some u) → get (with_restored (kept ∷ more) m) (place_of key run.age) ≡ Some u
    by_tid true e is rest =
        let one = some_is (restored kept) run is in
        let has : has_row key kept.writes ≡ true = sym (written_rows key kept.writes) ∙ (ap (λ (r : Run). has_written key r) one ∙ done) in
        ap (λ (n : ℕ). get (with_restored (kept ∷ more) m) (place_of key n)) (ap (λ (r : Run). r.age) (sym one))
        ∙ (more-other kept more (with_rows_held kept.tid kept.number kept.writes m) key apart.0
        ∙ (rows-back kept.tid kept.number kept.writes m key (λ k. inl (free.0 k)) has ∙ ap (λ (t : Tid). Some t) (same_tid-equal kept.tid u e)))
    by_tid false e is rest = rest is

free_first : (doubtful : List Kept) → AreFree doubtful empty
free_first [] = tt
free_first (kept ∷ more) = ((λ key. get-empty place_cmp (place_of key kept.number)), free_first more)

pub restored_writers : (doubtful : List Kept) → AllApart doubtful → AreHolders has_written (with_restored doubtful empty) (restored_at doubtful)
restored_writers doubtful apart = record {
  there = λ key age u at. elim (restored_there doubtful empty key age u apart (free_first doubtful) at) [
    | inl none ↦ let bad : None ≡ Some u = sym (get-empty place_cmp (place_of key age)) ∙ none in cc
    | inr had ↦ had
  ];
  back = λ u run key at done. restored_back doubtful empty u run key apart (free_first doubtful) at done;
}

-- nobody in doubt has read a key, or holds the ticket
restored_is : (doubtful : List Kept) (P : Run → Type 0) → ((kept : Kept) → P (restored kept)) → (u : Tid) (run : Run) → restored_at doubtful u ≡ Some run → P run
restored_is [] P all u run at = cc
restored_is (kept ∷ more) P all u run at = by_tid (same_tid kept.tid u) at (λ is. restored_is more P all u run is)
  where
    by_tid : (b : Bool) → cond b (Some (restored kept)) (restored_at more u) ≡ Some run → (restored_at more u ≡ Some run → P run) → P run
    by_tid true is rest = subst P (some_is (restored kept) run is) (all kept)
    by_tid false is rest = rest is

pub restored_readers : (doubtful : List Kept) → AreHolders has_read empty (restored_at doubtful)
restored_readers doubtful = record {
  there = λ key age u at. let bad : None ≡ Some u = sym (get-empty place_cmp (place_of key age)) ∙ at in cc;
  back = λ u run key at done.
      let none : has_read key run ≡ false = restored_is doubtful (λ r. has_read key r ≡ false) (λ kept. read_none key kept.writes) u run at in cc;
}

pub restored_takers : (doubtful : List Kept) (u : Tid) (run : Run) → restored_at doubtful u ≡ Some run → (has_ticket run && not (is_sealed run)) ≡ false
restored_takers doubtful u run at = restored_is doubtful (λ r. (has_ticket r && not (is_sealed r)) ≡ false) (λ kept. refl) u run at
