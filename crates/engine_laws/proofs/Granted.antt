-- What a granted access tells of the other runs.
use Rattle.std.proofs.Common.{◌≡◌, ℕ, Bool, true, false, cond, not, ◌&&◌, ◌||◌, Option, Some, None, List, [], ◌∷◌, refl, sym, ap, ◌∙◌, subst}
use Rattle.std.proofs.lemmas.Bool.{or_parts, or_from}
use Rattle.mdb_base.specs.declared.names.Tid.{Tid}
use Rattle.mdb_base.specs.declared.names.Key.{Key}
use Rattle.mdb_base.specs.declared.acts.PlainAct.TheVariants.{Read, Write}
use Rattle.mdb_base.specs.declared.replies.Reply.{Reply}
use Rattle.mdb_base.specs.declared.replies.Reply.TheVariants.{Done, Value, Ticket, Wait, Refused, Unknown}
use Rattle.mdb_base.specs.declared.replies.Why.TheVariants.{Die}
use Rattle.mdb_base.specs.Names.{same_tid, same_key}
use Rattle.mdb_base.specs.Words.{Each, some_of, least, greatest}
use Rattle.mdb_base.proofs.ForCallers.{same_key-sym, same_tid-sym}
use Rattle.fed_rules.specs.Runs.{Start, EngineLine, Access, Got, Wrote, Run, run_at}
use Rattle.fed_rules.specs.Replies.{conflicts, access_key, is_other, is_younger, age_of, wait_die, late_or_wait, or_reply}
use Rattle.fed_rules.specs.EngineLines.{IsRight}
use Rattle.engine_laws.specs.Unended.{has_write, IsClear}
use Rattle.engine_laws.proofs.Runs.{tid_is}

-- a value, a done or a ticket
abbrev pub is_grant : Reply → Bool
is_grant Done = true
is_grant (Value value) = true
is_grant (Ticket n) = true
is_grant (Wait by) = false
is_grant (Refused why) = false
is_grant Unknown = false

-- wait-die grants only where nobody stands in the way
pub wait_die_grants : (me : Run) (runs : List Run) (grant reply : Reply) → is_grant reply ≡ true
    → reply ≡ or_reply (wait_die me (least age_of runs)) grant → (runs ≡ []) × (reply ≡ grant)
wait_die_grants me [] grant reply h e = (refl, e)
wait_die_grants me (x ∷ xs) grant reply h e = absurd (stopped (least age_of (x ∷ xs)) refl e)
  where
    by_age : (b : Bool) (by : Tid) → reply ≡ cond b (Wait by) (Refused (Die by)) → ⊥
    by_age true by e = let none : is_grant reply ≡ false = ap is_grant e in cc
    by_age false by e = let none : is_grant reply ≡ false = ap is_grant e in cc

    stopped : (o : Option Run) → least age_of (x ∷ xs) ≡ o → reply ≡ or_reply (wait_die me o) grant → ⊥
    stopped None is e = cc
    stopped (Some oldest) is e = by_age (is_younger me oldest) oldest.tid e

-- timestamp order grants only where nobody younger and nobody older stands in the way
pub late_or_wait_grants : (younger older : List Run) (grant reply : Reply) → is_grant reply ≡ true
    → reply ≡ or_reply (late_or_wait (greatest age_of younger) (greatest age_of older)) grant
    → (younger ≡ []) × (older ≡ []) × (reply ≡ grant)
late_or_wait_grants [] [] grant reply h e = (refl, refl, e)
late_or_wait_grants (x ∷ xs) older grant reply h e = let none : is_grant reply ≡ false = ap is_grant e in cc
late_or_wait_grants [] (x ∷ xs) grant reply h e = let none : is_grant reply ≡ false = ap is_grant e in cc

-- the run of another attempt is another one
pub is_other_run : (start : Start) (lines : List EngineLine) → IsRight start lines → (t u : Tid) (a b : Run)
    → same_tid t u ≡ false → run_at start lines t ≡ Some a → run_at start lines u ≡ Some b → is_other a b ≡ true
is_other_run start lines right t u a b apart ea eb =
    ap not (subst (λ x. same_tid x a.tid ≡ false) (sym (tid_is start lines right u b eb))
    (subst (λ x. same_tid u x ≡ false) (sym (tid_is start lines right t a ea)) (same_tid-sym u t ∙ apart)))

-- the rest of a conjunction whose first part holds
pub and_rest : (x y : Bool) → (x && y) ≡ false → x ≡ true → y ≡ false
and_rest true y h e = h
and_rest false y h e = cc

-- a run that isn't in the way of a read hasn't written the key
pub unwritten : (key : Key) (acts : List Access) → some_of (conflicts (Read key)) acts ≡ false → has_write key acts ≡ false
unwritten key [] h = refl
unwritten key (Got k value ∷ acts) h = unwritten key acts h
unwritten key (Wrote k value ∷ acts) h = by_test (same_key k key) h (unwritten key acts)
  where
    by_test : (b : Bool) → (b || some_of (conflicts (Read key)) acts) ≡ false
        → (some_of (conflicts (Read key)) acts ≡ false → has_write key acts ≡ false)
        → (b || has_write key acts) ≡ false
    by_test true h rest = cc
    by_test false h rest = rest h

-- a run that isn't in the way of a write has no access of the key
pub untouched : (key : Key) (value : ℕ) (acts : List Access) → some_of (conflicts (Write key value)) acts ≡ false
    → Each (λ access. same_key (access_key access) key ≡ false) acts
untouched key value [] h = tt
untouched key value (Got k v ∷ acts) h = let parts =
    or_parts (same_key k key) (some_of (conflicts (Write key value)) acts) h in (parts.0, untouched key value acts parts.1)
untouched key value (Wrote k v ∷ acts) h = let parts =
    or_parts (same_key k key) (some_of (conflicts (Write key value)) acts) h in (parts.0, untouched key value acts parts.1)

-- it hasn't written the key then
pub untouched_unwritten : (key : Key) (acts : List Access) → Each (λ access. same_key (access_key access) key ≡ false) acts
    → has_write key acts ≡ false
untouched_unwritten key [] h = refl
untouched_unwritten key (Got k v ∷ acts) h = untouched_unwritten key acts h.1
untouched_unwritten key (Wrote k v ∷ acts) h =
    or_from (same_key k key) (has_write key acts) h.0 (untouched_unwritten key acts h.1)

-- and keeps clear of a write of it
pub clear_of_write : (key : Key) (value : ℕ) (first acts : List Access)
    → Each (λ access. same_key (access_key access) key ≡ false) acts
    → IsClear first acts → IsClear (Wrote key value ∷ first) acts
clear_of_write key value first [] h clear = tt
clear_of_write key value first (access ∷ acts) h clear = (
  or_from (same_key key (access_key access)) (has_write (access_key access) first) (same_key-sym key (access_key access) ∙ h.0)
      clear.0,
  clear_of_write key value first acts h.1 clear.1,
)
