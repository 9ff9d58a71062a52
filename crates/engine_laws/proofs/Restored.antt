-- The runs that a start restores: they have writes and no reads, and each two are apart.
use Rattle.std.proofs.Common.{◌≡◌, Bool, true, false, cond, ◌||◌, Some, List, [], ◌∷◌, refl, ap, ◌∙◌, subst}
use Rattle.std.proofs.lemmas.Bool.{or_parts}
use Rattle.mdb_base.specs.declared.names.Tid.{Tid}
use Rattle.mdb_base.specs.declared.names.Key.{Key}
use Rattle.mdb_base.specs.declared.rows.Put.{Put}
use Rattle.mdb_base.specs.Names.{same_tid, same_key}
use Rattle.mdb_base.specs.Rows.{Table}
use Rattle.mdb_base.specs.Words.{Each}
use Rattle.mdb_base.proofs.ForCallers.{each_map, none_some_of, same_key-sym, same_tid-equal}
use Rattle.fed_rules.specs.declared.runs.Kept.{Kept}
use Rattle.fed_rules.specs.Runs.{Run, written, restored, restored_at}
use Rattle.fed_rules.specs.EngineLines.{AreApart, AllApart, has_row}
use Rattle.fed_rules.specs.SerialRuns.{ReadsAlone}
use Rattle.engine_laws.specs.Unended.{has_write, IsClear}
use Rattle.engine_laws.proofs.Runs.{each_restored}

-- writes alone read nothing
pub reads_written : (puts : List Put) (table : Table) → ReadsAlone (written puts) table
reads_written [] table = tt
reads_written (put ∷ puts) table = reads_written puts table

-- a key is written where one of the rows has it
pub has_write_written : (key : Key) (puts : List Put) → has_write key (written puts) ≡ has_row key puts
has_write_written key [] = refl
has_write_written key (put ∷ puts) = ap (λ b. same_key put.key key || b) (has_write_written key puts)

-- rows of which none has a key of the others are written clear of those
pub clear_written : (puts others : List Put) → Each (λ put. has_row put.key others ≡ false) puts
    → IsClear (written others) (written puts)
clear_written [] others h = tt
clear_written (put ∷ puts) others h = (has_write_written put.key others ∙ h.0, clear_written puts others h.1)

-- that no row has a key of the others goes both ways
pub rows_apart : (puts others : List Put) → Each (λ put. has_row put.key others ≡ false) puts
    → Each (λ put. has_row put.key puts ≡ false) others
rows_apart puts [] h = tt
rows_apart puts (other ∷ others) h =
    let parts = each_map _ (λ put. (same_key other.key put.key ≡ false) × (has_row put.key others ≡ false))
    (λ put none. or_parts (same_key other.key put.key) (has_row put.key others) none) puts h in
    let here = each_map _ (λ put. same_key put.key other.key ≡ false) (λ put both. same_key-sym put.key other.key ∙ both.0) puts
    parts in
    let rest = each_map _ (λ put. has_row put.key others ≡ false) (λ put both. both.1) puts parts in
    (none_some_of (λ put. same_key put.key other.key) puts here, rows_apart puts others rest)

-- a fact of each two restored runs
pub each_restored_pair : (Q : Run → Run → Type 0)
    → ((a b : Kept) → AreApart a b → Q (restored a) (restored b) × Q (restored b) (restored a))
    → (doubtful : List Kept) → AllApart doubtful
    → (t u : Tid) (a b : Run) → same_tid t u ≡ false → restored_at doubtful t ≡ Some a → restored_at doubtful u ≡ Some b → Q a b
each_restored_pair Q f [] h t u a b apart ea eb = cc
each_restored_pair Q f (kept ∷ more) h t u a b apart ea eb =
    by_t (same_tid kept.tid t) refl ea (same_tid kept.tid u) refl eb (each_restored_pair Q f more h.1 t u a b apart)
  where
    with_more : (v : Tid) (r : Run) → restored_at more v ≡ Some r → Q (restored kept) r × Q r (restored kept)
    with_more = each_restored (λ r. Q (restored kept) r × Q r (restored kept)) more
        (each_map (AreApart kept) (λ other. Q (restored kept) (restored other) × Q (restored other) (restored kept)) (f kept) more
        h.0)

    by_t : (x : Bool) → same_tid kept.tid t ≡ x → cond x (Some (restored kept)) (restored_at more t) ≡ Some a
        → (y : Bool) → same_tid kept.tid u ≡ y → cond y (Some (restored kept)) (restored_at more u) ≡ Some b
        → (restored_at more t ≡ Some a → restored_at more u ≡ Some b → Q a b) → Q a b
    by_t true is_t ea true is_u eb rest =
        let one : same_tid t u ≡ true = subst (λ x. same_tid x u ≡ true) (same_tid-equal kept.tid t is_t) is_u in cc
    by_t true is_t ea false is_u eb rest =
        let same : restored kept ≡ a = cc in subst (λ x. Q x b) same (with_more u b eb).0
    by_t false is_t ea true is_u eb rest =
        let same : restored kept ≡ b = cc in subst (λ x. Q a x) same (with_more t a ea).1
    by_t false is_t ea false is_u eb rest = rest ea eb
