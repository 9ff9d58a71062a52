-- What accesses leave of a table, and what they read on it.
use Rattle.std.proofs.Common.{◌≡◌, Bool, true, false, cond, ◌||◌, List, [], ◌∷◌, refl, ap, ◌∙◌, subst}
use Rattle.mdb_base.specs.declared.names.Key.{Key}
use Rattle.mdb_base.specs.Names.{same_key}
use Rattle.mdb_base.specs.Rows.{Table}
use Rattle.mdb_base.specs.Words.{Each}
use Rattle.mdb_base.proofs.ForCallers.{each_map, same_key-equal}
use Rattle.fed_rules.specs.Runs.{Access, Got, Wrote, after}
use Rattle.fed_rules.specs.Replies.{access_key}
use Rattle.fed_rules.specs.SerialRuns.{ReadsAlone}
use Rattle.engine_laws.specs.Unended.{has_write, IsClear}

-- tables that agree on a key agree on it afterwards
pub after_same : (acts : List Access) (T U : Table) (key : Key) → T key ≡ U key → after acts T key ≡ after acts U key
after_same [] T U key h = h
after_same (Got k value ∷ acts) T U key h = after_same acts T U key h
after_same (Wrote k value ∷ acts) T U key h = ap (cond (same_key k key) value) (after_same acts T U key h)

-- a key that isn't written keeps its value
pub after_unwritten : (acts : List Access) (T : Table) (key : Key) → has_write key acts ≡ false → after acts T key ≡ T key
after_unwritten [] T key h = refl
after_unwritten (Got k value ∷ acts) T key h = after_unwritten acts T key h
after_unwritten (Wrote k value ∷ acts) T key h = by_test (same_key k key) h (after_unwritten acts T key)
  where
    by_test : (b : Bool) → (b || has_write key acts) ≡ false → (has_write key acts ≡ false → after acts T key ≡ T key)
        → cond b value (after acts T key) ≡ T key
    by_test true h rest = cc
    by_test false h rest = rest h

-- of a key that is written nothing is left
pub after_written : (acts : List Access) (T U : Table) (key : Key) → has_write key acts ≡ true
    → after acts T key ≡ after acts U key
after_written [] T U key h = cc
after_written (Got k value ∷ acts) T U key h = after_written acts T U key h
after_written (Wrote k value ∷ acts) T U key h = by_test (same_key k key) h (after_written acts T U key)
  where
    by_test : (b : Bool) → (b || has_write key acts) ≡ true → (has_write key acts ≡ true → after acts T key ≡ after acts U key)
        → cond b value (after acts T key) ≡ cond b value (after acts U key)
    by_test true h rest = refl
    by_test false h rest = rest h

-- tables that agree on the keys of the accesses are read alike
pub reads_on : (acts : List Access) (T U : Table) → Each (λ access. T (access_key access) ≡ U (access_key access)) acts
    → ReadsAlone acts T → ReadsAlone acts U
reads_on [] T U same h = tt
reads_on (Got key value ∷ acts) T U same h = (h.0 ∙ after_same acts T U key same.0, reads_on acts T U same.1 h.1)
reads_on (Wrote key value ∷ acts) T U same h = reads_on acts T U same.1 h

-- accesses that are clear of others read alike on tables that differ by the writes of those
pub reads_clear : (first acts : List Access) (T U : Table) → ((key : Key) → has_write key first ≡ false → T key ≡ U key)
    → IsClear first acts → ReadsAlone acts T → ReadsAlone acts U
reads_clear first acts T U same clear =
    reads_on acts T U (each_map _ (λ access. T (access_key access) ≡ U (access_key access)) (λ access. same (access_key access))
    acts clear)

-- a key that the first ones write isn't written by others that are clear of them
pub clear_unwritten : (first acts : List Access) (key : Key) → IsClear first acts → has_write key first ≡ true
    → has_write key acts ≡ false
clear_unwritten first [] key clear h = refl
clear_unwritten first (Got k value ∷ acts) key clear h = clear_unwritten first acts key clear.1 h
clear_unwritten first (Wrote k value ∷ acts) key clear h =
    by_test (same_key k key) refl (clear_unwritten first acts key clear.1 h)
  where
    by_test : (b : Bool) → same_key k key ≡ b → has_write key acts ≡ false → (b || has_write key acts) ≡ false
    by_test true is rest =
        let none : has_write key first ≡ false = subst (λ x. has_write x first ≡ false) (same_key-equal k key is) clear.0 in cc
    by_test false is rest = rest

-- only writes leave nothing to be read
pub clear_none : (acts : List Access) → IsClear [] acts
clear_none [] = tt
clear_none (access ∷ acts) = (refl, clear_none acts)
