-- Two lists of rows by rising key, merged row by row.
use Rattle.std.proofs.Common.{◌≡◌, ◌==◌, ℕ, ◌<◌, ◌≤◌, ◌⊎◌, inl, inr, true, false, nat_lt, List, [], ◌∷◌, ◌++◌, length, get_or, take, drop, ◌-◌, length-drop, refl, sym, ap, ◌∙◌, subst, arith, append_assoc}
use Rattle.std.proofs.Math.Seq.{drop-cons}
use Rattle.std.proofs.lemmas.Bool.{eqb-false, lt-ltb, le-ltb, ne_eqb, eq-eqb}
use Rattle.std.proofs.lemmas.List.{append-nil, nil_from_length, take_all}
use Rattle.mdb_base.specs.declared.rows.Put.{Put}
use Rattle.mdb_base.specs.Names.{same_key}
use Rattle.mdb_base.specs.Rising.{IsRising}
use Rattle.mdb_base.specs.Rows.{with_row, with_rows}
use Rattle.mdb_base.proofs.ForCallers.{rising_tail}
use Rattle.engine_laws.proofs.ForCallers.{rising_with_rows}
use Rattle.journal_sums.proofs.VersionLaws.{rising_behind}

-- the rows rise by their keys
abbrev pub Rise : List Put → Type 0
Rise rows = IsRising (λ row. row.key.0) rows

-- without the second one the rows still rise
rise_past : (x y : Put) (ys : List Put) → Rise (x ∷ y ∷ ys) → Rise (x ∷ ys)
rise_past x y [] rising = tt
rise_past x y (z ∷ ys) rising = let less = rising.0 in let more = rising.1.0 in (omega arith, rising.1.1)

-- a row with a key below those of all others is put in front
with_row-first : (row : Put) (rows : List Put) → Rise (row ∷ rows) → with_row row rows ≡ row ∷ rows
with_row-first row [] rising = refl
with_row-first row (other ∷ rows) rising =
    let less = rising.0 in
    let apart : same_key other.key row.key ≡ false = ne_eqb other.key.0 row.key.0 (omega arith) in
    let not_less : nat_lt other.key.0 row.key.0 ≡ false = le-ltb other.key.0 row.key.0 (omega arith) in
    rw (apart, not_less) refl

-- a first row with a smaller key stays in front
with_row-behind : (row first : Put) (rows : List Put) → first.key.0 < row.key.0 → with_row row (first ∷ rows) ≡ first ∷ with_row row rows
with_row-behind row first rows less =
    let apart : same_key first.key row.key ≡ false = ne_eqb first.key.0 row.key.0 (omega arith) in
    let is_less : nat_lt first.key.0 row.key.0 ≡ true = lt-ltb first.key.0 row.key.0 less in
    rw (apart, is_less) refl

-- so it does when several rows with greater keys are put
with_rows-behind : (first : Put) (rows later : List Put) → Rise (first ∷ later) → with_rows later (first ∷ rows) ≡ first ∷ with_rows later rows
with_rows-behind first rows [] rising = refl
with_rows-behind first rows (row ∷ later) rising =
    ap (with_row row) (with_rows-behind first rows later (rise_past first row later rising)) ∙ with_row-behind row first (with_rows later rows) rising.0

-- below all others a row stays in front of what is written
rise_with_rows : (row : Put) (rows later : List Put) → Rise (row ∷ rows) → Rise (row ∷ later) → Rise (row ∷ with_rows later rows)
rise_with_rows row rows later first second =
    subst Rise (with_rows-behind row rows later second) (rising_with_rows later (row ∷ rows) first)

-- where its key is below those of all the others, a row is put in front of what the later ones leave
with_rows-first : (row : Put) (rows later : List Put) → Rise (row ∷ rows) → Rise (row ∷ later) → with_rows (row ∷ later) rows ≡ row ∷ with_rows later rows
with_rows-first row rows later first second = with_row-first row (with_rows later rows) (rise_with_rows row rows later first second)

-- rows by rising key over no others
with_rows-alone : (later : List Put) → Rise later → with_rows later [] ≡ later
with_rows-alone [] rising = refl
with_rows-alone (row ∷ later) rising =
    with_rows-first row [] later tt rising ∙ ap (λ (rows : List Put). row ∷ rows) (with_rows-alone later (rising_tail row later rising))

-- a newer row takes the place of the first one with its key
with_rows-same : (row newer : Put) (rows later : List Put) → Rise (newer ∷ later) → row.key.0 ≡ newer.key.0 → with_rows (newer ∷ later) (row ∷ rows) ≡ newer ∷ with_rows later rows
with_rows-same row newer rows later rising same =
    let here : same_key row.key newer.key ≡ true = eq-eqb row.key.0 newer.key.0 same in
    ap (with_row newer) (with_rows-behind row rows later (rise_at row newer later same rising)) ∙ rw here refl
  where
    rise_at : (row newer : Put) (later : List Put) → row.key.0 ≡ newer.key.0 → Rise (newer ∷ later) → Rise (row ∷ later)
    rise_at row newer [] same rising = tt
    rise_at row newer (next ∷ later) same rising = let less = rising.0 in (omega arith, rising.1)

-- what was merged so far, with the rest of both lists
pub record IsMerging (first later rows left right : List Put) : Type 0 where
  pub merged : rows ++ with_rows right left ≡ with_rows later first
  pub left_rises : Rise left
  pub right_rises : Rise right

-- the first row of what is left is moved to the end of what was merged
moved : (rows : List Put) (row : Put) (rest all : List Put) → all ≡ row ∷ rest → (rows ++ row ∷ []) ++ rest ≡ rows ++ all
moved rows row rest all is = append_assoc rows (row ∷ []) rest ∙ ap (λ (more : List Put). rows ++ more) (sym is)

-- the first row of the left list is the next one
pub takes_left : (first later rows left right : List Put) (d e : Put) → 0 < length left → 0 < length right → (get_or left 0 d).key.0 < (get_or right 0 e).key.0 →
    IsMerging first later rows left right → IsMerging first later (rows ++ get_or left 0 d ∷ []) (drop 1 left) right
takes_left first later rows left right d e some_left some_right less m = record {
  merged = moved rows row (with_rows right (drop 1 left)) (with_rows right left)
      (ap (with_rows right) (drop-cons left 0 d some_left) ∙ with_rows-behind row (drop 1 left) right
      (subst (λ (rs : List Put). Rise (row ∷ rs)) (sym (drop-cons right 0 e some_right)) (less, subst Rise (drop-cons right 0 e some_right) m.right_rises))) ∙ m.merged;
  left_rises = rising_behind left 1 m.left_rises;
  right_rises = m.right_rises;
}
  where
    row : Put
    row = get_or left 0 d

-- the first row of the right list is
pub takes_right : (first later rows left right : List Put) (d e : Put) → 0 < length left → 0 < length right → (get_or right 0 e).key.0 < (get_or left 0 d).key.0 →
    IsMerging first later rows left right → IsMerging first later (rows ++ get_or right 0 e ∷ []) left (drop 1 right)
takes_right first later rows left right d e some_left some_right less m = record {
  merged = moved rows row (with_rows (drop 1 right) left) (with_rows right left)
      (ap (λ (rs : List Put). with_rows rs left) (drop-cons right 0 e some_right) ∙ with_rows-first row left (drop 1 right)
      (subst (λ (rs : List Put). Rise (row ∷ rs)) (sym (drop-cons left 0 d some_left)) (less, subst Rise (drop-cons left 0 d some_left) m.left_rises))
      (subst Rise (drop-cons right 0 e some_right) m.right_rises)) ∙ m.merged;
  left_rises = m.left_rises;
  right_rises = rising_behind right 1 m.right_rises;
}
  where
    row : Put
    row = get_or right 0 e

-- it takes the place of the first row of the left list
pub takes_both : (first later rows left right : List Put) (d e : Put) → 0 < length left → 0 < length right → (get_or right 0 e).key.0 ≤ (get_or left 0 d).key.0 → (get_or left 0 d).key.0 ≤ (get_or right 0 e).key.0 →
    IsMerging first later rows left right → IsMerging first later (rows ++ get_or right 0 e ∷ []) (drop 1 left) (drop 1 right)
takes_both first later rows left right d e some_left some_right least most m = record {
  merged = moved rows row (with_rows (drop 1 right) (drop 1 left)) (with_rows right left)
      (ap (λ (rs : List Put). with_rows rs left) (drop-cons right 0 e some_right) ∙ ap (with_rows (row ∷ drop 1 right)) (drop-cons left 0 d some_left)
      ∙ with_rows-same (get_or left 0 d) row (drop 1 left) (drop 1 right) (subst Rise (drop-cons right 0 e some_right) m.right_rises) (omega arith)) ∙ m.merged;
  left_rises = rising_behind left 1 m.left_rises;
  right_rises = rising_behind right 1 m.right_rises;
}
  where
    row : Put
    row = get_or right 0 e

-- the rest of a list behind its first row, as a slice of it
rest_is : (rows : List Put) → take (length rows - 1) (drop 1 rows) ≡ drop 1 rows
rest_is rows = take_all (length rows - 1) (drop 1 rows) (simp length-drop (omega arith))

-- a merging goes on with the rest of the left list
pub left_moved : (first later rows more left right : List Put) → more ≡ rows → IsMerging first later rows (drop 1 left) right → IsMerging first later more (take (length left - 1) (drop 1 left)) right
left_moved first later rows more left right is m =
    subst (λ (rs : List Put). IsMerging first later more rs right) (sym (rest_is left)) (subst (λ (rs : List Put). IsMerging first later rs (drop 1 left) right) (sym is) m)

-- and with the rest of the right one
pub right_moved : (first later rows more left right : List Put) → more ≡ rows → IsMerging first later rows left (drop 1 right) → IsMerging first later more left (take (length right - 1) (drop 1 right))
right_moved first later rows more left right is m =
    subst (λ (rs : List Put). IsMerging first later more left rs) (sym (rest_is right)) (subst (λ (rs : List Put). IsMerging first later rs left (drop 1 right)) (sym is) m)

-- of a list that is not empty one item is left, at least
pub one_left : (n : ℕ) → false ≡ (n == 0) → 0 < n
one_left n e = let some = eqb-false n 0 (sym e) in omega (arith, some)

-- where one of the lists has ended, the other one is the rest
pub merging_ends : (first later rows left right : List Put) → IsMerging first later rows left right → (length left < 1) ⊎ (length right < 1) →
    (rows ++ left) ++ right ≡ with_rows later first
merging_ends first later rows left right m (inl none) =
    let nothing : left ≡ [] = nil_from_length left (omega arith) in
    ap (λ (rs : List Put). (rows ++ rs) ++ right) nothing ∙ (ap (λ (rs : List Put). rs ++ right) (append-nil rows)
    ∙ (ap (λ (rs : List Put). rows ++ rs) (sym (ap (with_rows right) nothing ∙ with_rows-alone right m.right_rises)) ∙ m.merged))
merging_ends first later rows left right m (inr none) =
    let nothing : right ≡ [] = nil_from_length right (omega arith) in
    ap (λ (rs : List Put). (rows ++ left) ++ rs) nothing ∙ (append-nil (rows ++ left)
    ∙ (ap (λ (rs : List Put). rows ++ with_rows rs left) (sym nothing) ∙ m.merged))

-- rows that are put into rising ones leave them rising
pub merged_rises : (first later rows : List Put) → rows ≡ with_rows later first → Rise first → Rise rows
merged_rises first later rows is rising = subst Rise (sym is) (rising_with_rows later first rising)
