-- The rows that runs leave give their table, and rise by their keys.
use Rattle.std.proofs.Common.{◌≡◌, ℕ, ◌<◌, Bool, true, false, cond, List, [], ◌∷◌, refl, sym, ap, ◌∙◌, subst, arith, ltb-true, ltb-false, ne_eqb, le-ltb}
use Rattle.std.specs.Prelude.{nat_lt}
use Rattle.std.proofs.lemmas.Bool.{eqb-false}
use Rattle.mdb_base.specs.declared.names.Key.{Key}
use Rattle.mdb_base.specs.declared.rows.Put.{Put}
use Rattle.mdb_base.specs.Names.{same_key, same_site}
use Rattle.mdb_base.specs.Rows.{Table, look_up, with_row, with_rows}
use Rattle.mdb_base.specs.Rising.{IsRising}
use Rattle.mdb_base.specs.declared.names.SiteId.{SiteId}
use Rattle.mdb_base.proofs.ForCallers.{same_key-equal, same_key-refl}
use Rattle.fed_rules.specs.Runs.{Start, EngineLine, Access, Got, Wrote, Run, committed, written, after, table_of, puts_of, rows_of}
use Rattle.fed_rules.specs.declared.scenario.ItemLine.{ItemLine}
use Rattle.fed_rules.specs.Scenarios.{items_of}
use Rattle.fed_rules.specs.SiteRecords.{Install, rows_after}
use Rattle.engine_laws.specs.Laws.{HasRowsOfTable}
use Rattle.engine_laws.proofs.Tables.{after_same}

-- what a key has with one more row
pub after_with_row : (row : Put) (puts : List Put) (items : Table) (key : Key)
    → after (written (with_row row puts)) items key ≡ cond (same_key row.key key) row.value (after (written puts) items key)
after_with_row row [] items key = refl
after_with_row row (other ∷ puts) items key =
    by_same (same_key other.key row.key) refl (after_with_row row puts items key)
  where
    result : ℕ
    result = cond (same_key row.key key) row.value (after (written (other ∷ puts)) items key)

    over : (x y : Bool) (a b c : ℕ) → (x ≡ true → y ≡ true → ⊥) → cond x a (cond y b c) ≡ cond y b (cond x a c)
    over true true a b c apart = absurd (apart refl refl)
    over true false a b c apart = refl
    over false y a b c apart = refl

    keeps : (x y : Bool) (a b c : ℕ) → x ≡ y → cond y b c ≡ cond y b (cond x a c)
    keeps true true a b c e = refl
    keeps false false a b c e = refl
    keeps true false a b c e = cc
    keeps false true a b c e = refl

    by_less : (b : Bool) → same_key other.key row.key ≡ false
        → after (written (with_row row puts)) items key ≡ cond (same_key row.key key) row.value (after (written puts) items key)
        → after (written (cond b (other ∷ with_row row puts) (row ∷ other ∷ puts))) items key ≡ cond (same_key row.key key)
        row.value (after (written (other ∷ puts)) items key)
    by_less true apart rest =
        ap (cond (same_key other.key key) other.value) rest
        ∙ over (same_key other.key key) (same_key row.key key) other.value row.value (after (written puts) items key)
        (λ is_other is_row.
        let one : same_key other.key row.key ≡ true =
        subst (λ k. same_key k row.key ≡ true) (same_key-equal row.key key is_row ∙ sym (same_key-equal other.key key is_other))
        (same_key-refl row.key) in
        cc)
    by_less false apart rest = refl

    by_same : (b : Bool) → same_key other.key row.key ≡ b
        → after (written (with_row row puts)) items key ≡ cond (same_key row.key key) row.value (after (written puts) items key)
        → after (written (cond b (row ∷ puts) (cond (nat_lt other.key.0 row.key.0) (other ∷ with_row row puts)
        (row ∷ other ∷ puts)))) items key
        ≡ cond (same_key row.key key) row.value (after (written (other ∷ puts)) items key)
    by_same true same rest =
        keeps (same_key other.key key) (same_key row.key key) other.value row.value (after (written puts) items key)
        (ap (λ k. same_key k key) (same_key-equal other.key row.key same))
    by_same false apart rest = by_less (nat_lt other.key.0 row.key.0) apart rest

-- the last writes leave what all of them leave
pub after_puts : (acts : List Access) (items : Table) (key : Key)
    → after (written (puts_of acts)) items key ≡ after acts items key
after_puts [] items key = refl
after_puts (Got k value ∷ acts) items key = after_puts acts items key
after_puts (Wrote k value ∷ acts) items key =
    after_with_row (record { key = k; value = value }) (puts_of acts) items key
    ∙ ap (cond (same_key k key) value) (after_puts acts items key)

-- rows are what they write on a table of zeros
pub look_up_written : (puts : List Put) (key : Key) → look_up puts key ≡ after (written puts) (λ k. 0) key
look_up_written [] key = refl
look_up_written (put ∷ puts) key = ap (cond (same_key put.key key) put.value) (look_up_written puts key)

pub look_up_with_row : (row : Put) (puts : List Put) (key : Key)
    → look_up (with_row row puts) key ≡ cond (same_key row.key key) row.value (look_up puts key)
look_up_with_row row puts key =
    look_up_written (with_row row puts) key ∙ after_with_row row puts (λ k. 0) key
    ∙ ap (cond (same_key row.key key) row.value) (sym (look_up_written puts key))

pub look_up_with_rows : (puts others : List Put) (key : Key)
    → look_up (with_rows puts others) key ≡ after (written puts) (look_up others) key
look_up_with_rows [] others key = refl
look_up_with_rows (put ∷ puts) others key =
    look_up_with_row put (with_rows puts others) key
    ∙ ap (cond (same_key put.key key) put.value) (look_up_with_rows puts others key)

look_up_rows : (items : List Put) (runs : List Run) (key : Key)
    → look_up (rows_of items runs) key ≡ table_of (look_up items) runs key
look_up_rows items [] key = refl
look_up_rows items (run ∷ runs) key =
    look_up_with_rows (puts_of run.acts) (rows_of items runs) key ∙ after_puts run.acts (look_up (rows_of items runs)) key
    ∙ after_same run.acts (look_up (rows_of items runs)) (table_of (look_up items) runs) key (look_up_rows items runs key)

-- the first of the rows, if there is one, has a greater key
abbrev IsBelow : ℕ → List Put → Type 0
IsBelow n [] = Unit {0}
IsBelow n (row ∷ puts) = n < row.key.0

rising_cons : (row : Put) (puts : List Put) → IsBelow row.key.0 puts → IsRising (λ r. r.key.0) puts
    → IsRising (λ r. r.key.0) (row ∷ puts)
rising_cons row [] below rising = tt
rising_cons row (other ∷ puts) below rising = (below, rising)

rising_parts : (row : Put) (puts : List Put) → IsRising (λ r. r.key.0) (row ∷ puts)
    → IsBelow row.key.0 puts × IsRising (λ r. r.key.0) puts
rising_parts row [] rising = (tt, tt)
rising_parts row (other ∷ puts) rising = rising

below_with_row : (n : ℕ) (row : Put) (puts : List Put) → n < row.key.0 → IsBelow n puts → IsBelow n (with_row row puts)
below_with_row n row [] less below = less
below_with_row n row (other ∷ puts) less below = by_same (same_key other.key row.key)
  where
    by_less : (b : Bool) → IsBelow n (cond b (other ∷ with_row row puts) (row ∷ other ∷ puts))
    by_less true = below
    by_less false = less

    by_same : (b : Bool) → IsBelow n (cond b (row ∷ puts)
        (cond (nat_lt other.key.0 row.key.0) (other ∷ with_row row puts) (row ∷ other ∷ puts)))
    by_same true = less
    by_same false = by_less (nat_lt other.key.0 row.key.0)

-- one more row leaves them rising
pub rising_with_row : (row : Put) (puts : List Put) → IsRising (λ r. r.key.0) puts → IsRising (λ r. r.key.0) (with_row row puts)
rising_with_row row [] rising = tt
rising_with_row row (other ∷ puts) rising = by_same (same_key other.key row.key) refl
    (rising_with_row row puts (rising_parts other puts rising).1)
  where
    parts : IsBelow other.key.0 puts × IsRising (λ r. r.key.0) puts
    parts = rising_parts other puts rising

    by_less : (b : Bool) → same_key other.key row.key ≡ false → nat_lt other.key.0 row.key.0 ≡ b
        → IsRising (λ r. r.key.0) (with_row row puts)
        → IsRising (λ r. r.key.0) (cond b (other ∷ with_row row puts) (row ∷ other ∷ puts))
    by_less true apart is rest =
        rising_cons other (with_row row puts) (below_with_row other.key.0 row puts (ltb-true other.key.0 row.key.0 is) parts.0)
        rest
    by_less false apart is rest =
        let differ = eqb-false other.key.0 row.key.0 apart in
        let most = ltb-false other.key.0 row.key.0 is in
        (omega arith, rising)

    by_same : (b : Bool) → same_key other.key row.key ≡ b → IsRising (λ r. r.key.0) (with_row row puts)
        → IsRising (λ r. r.key.0) (cond b (row ∷ puts)
        (cond (nat_lt other.key.0 row.key.0) (other ∷ with_row row puts) (row ∷ other ∷ puts)))
    by_same true same rest =
        rising_cons row puts (subst (λ k. IsBelow k.0 puts) (same_key-equal other.key row.key same) parts.0) parts.1
    by_same false apart rest = by_less (nat_lt other.key.0 row.key.0) apart refl rest

pub rising_with_rows : (puts others : List Put) → IsRising (λ r. r.key.0) others → IsRising (λ r. r.key.0) (with_rows puts others)
rising_with_rows [] others rising = rising
rising_with_rows (put ∷ puts) others rising = rising_with_row put (with_rows puts others) (rising_with_rows puts others rising)

-- the last writes rise by their keys
pub rising_puts : (acts : List Access) → IsRising (λ r. r.key.0) (puts_of acts)
rising_puts [] = tt
rising_puts (Got key value ∷ acts) = rising_puts acts
rising_puts (Wrote key value ∷ acts) = rising_with_row (record { key = key; value = value }) (puts_of acts) (rising_puts acts)

pub rising_rows : (items : List Put) (runs : List Run) → IsRising (λ r. r.key.0) items → IsRising (λ r. r.key.0) (rows_of items runs)
rising_rows items [] rising = rising
rising_rows items (run ∷ runs) rising = rising_with_rows (puts_of run.acts) (rows_of items runs) (rising_rows items runs rising)

pub rows_of_table : (start : Start) (lines : List EngineLine) → HasRowsOfTable start lines
rows_of_table start lines = record {
  values = look_up_rows start.rows (committed start lines);
  rising = rising_rows start.rows (committed start lines);
}

-- rows that rise are their own last writes
pub puts_of_written : (puts : List Put) → IsRising (λ r. r.key.0) puts → puts_of (written puts) ≡ puts
puts_of_written [] rising = refl
puts_of_written (put ∷ puts) rising =
    ap (with_row put) (puts_of_written puts (rising_parts put puts rising).1) ∙ first puts (rising_parts put puts rising).0
  where
    first : (others : List Put) → IsBelow put.key.0 others → with_row put others ≡ put ∷ others
    first [] below = refl
    first (other ∷ others) below =
        let differ : same_key other.key put.key ≡ false = ne_eqb other.key.0 put.key.0 (λ e. absurd (omega arith)) in
        let greater : nat_lt other.key.0 put.key.0 ≡ false = le-ltb other.key.0 put.key.0 (omega arith) in
        ap (λ b. cond b (put ∷ others) (cond (nat_lt other.key.0 put.key.0) (other ∷ with_row put others) (put ∷ other ∷ others)))
        differ
        ∙ ap (λ b. cond b (other ∷ with_row put others) (put ∷ other ∷ others)) greater

pub rising_items : (items : List ItemLine) (site : SiteId) → IsRising (λ row. row.key.0) (items_of items site)
rising_items [] site = tt
rising_items (item ∷ items) site = by_site (same_site item.site site) (rising_items items site)
  where
    by_site : (b : Bool) → IsRising (λ (row : Put). row.key.0) (items_of items site) → IsRising (λ (row : Put). row.key.0) (cond b (with_row item.put (items_of items site)) (items_of items site))
    by_site true rest = rising_with_row item.put (items_of items site) rest
    by_site false rest = rest

pub rising_rows_after : (items : List Put) (xs : List Install) → IsRising (λ put. put.key.0) items → IsRising (λ put. put.key.0) (rows_after items xs)
rising_rows_after items [] r = r
rising_rows_after items (x ∷ xs) r = rising_with_rows x.writes (rows_after items xs) (rising_rows_after items xs r)
