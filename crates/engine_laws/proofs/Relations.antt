-- What the computed replies say, in the words of the field: runs in the way, the oldest and the youngest of them.
use Rattle.std.proofs.Common.{◌≡◌, ◌≤◌, ◌⊎◌, Bool, true, false, cond, Option, Some, None, List, [], ◌∷◌, ◌++◌, refl, sym, ap, ◌∙◌, subst, inl, inr, arith, ltb-true, ltb-false}
use Rattle.mdb_base.specs.declared.names.Tid.{Tid}
use Rattle.mdb_base.specs.declared.replies.Reply.{Reply}
use Rattle.mdb_base.specs.declared.replies.Reply.TheVariants.{Wait, Refused}
use Rattle.mdb_base.specs.declared.replies.Why.{Why}
use Rattle.mdb_base.specs.declared.replies.Why.TheVariants.{Die, Late}
use Rattle.mdb_base.specs.Words.{Each, those, found, with_some, least, greatest}
use Rattle.mdb_base.proofs.ForCallers.{append_each, each_among, each_append, each_map, each_self, each_those, greatest_among, greatest_greatest, greatest_none, least_among, least_least, least_none, those_each}
use Rattle.fed_rules.specs.Runs.{Start, EngineLine, Run, run_at, attempts, unended}
use Rattle.fed_rules.specs.Replies.{age_of, is_younger, wait_die, late_or_wait, or_reply}
use Rattle.fed_rules.specs.EngineLines.{IsRight}
use Rattle.engine_laws.specs.ReplyLaws.{IsUnended, IsAmong, IsOldest, IsYoungest, IsNone, IsWaitDie, IsInTime}
use Rattle.engine_laws.proofs.Runs.{tid_is, each_unended}
use Rattle.engine_laws.proofs.Granted.{is_grant}

-- the list has the runs of which the fact holds
pub record Lists (runs : List Run) (P : Run → Type 0) : Type 0 where
  pub only : Each P runs
  pub all : (run : Run) → P run → IsAmong run runs

-- a fact of each listed run holds of each run of which the other fact holds
pub each_listed : (runs : List Run) (P Q : Run → Type 0) → Lists runs P → Each Q runs → (run : Run) → P run → Q run
each_listed runs P Q h each run p = each_among Q run runs each (h.all run p)

-- the runs of which a fact holds are of one attempt where they are of one age
abbrev pub OfOneAge : (Run → Type 0) → Type 0
OfOneAge P = (a b : Run) → P a → P b → a.age ≡ b.age → a.tid ≡ b.tid

-- the unended runs
pub lists_unended : (start : Start) (lines : List EngineLine) → IsRight start lines
    → Lists (unended start lines) (IsUnended start lines)
lists_unended start lines right = record {
  only = found_unended (attempts start lines);
  all = λ run at. each_unended start lines right (λ r. IsAmong r (unended start lines)) (each_self (unended start lines)) run.tid
      run at;
}
  where
    found_unended : (tids : List Tid) → Each (IsUnended start lines) (found (run_at start lines) tids)
    found_unended [] = tt
    found_unended (tid ∷ tids) = by_run (run_at start lines tid) refl (found_unended tids)
      where
        by_run : (o : Option Run) → run_at start lines tid ≡ o → Each (IsUnended start lines) (found (run_at start lines) tids)
            → Each (IsUnended start lines) (with_some o (found (run_at start lines) tids))
        by_run None is rest = rest
        by_run (Some run) is rest = (ap (run_at start lines) (tid_is start lines right tid run is) ∙ is, rest)

-- the runs of a list
pub lists_self : (runs : List Run) → Lists runs (λ run. IsAmong run runs)
lists_self runs = record { only = each_self runs; all = λ run among. among }

-- those that pass a test
pub lists_those : (runs : List Run) (P : Run → Type 0) (test : Run → Bool) → Lists runs P
    → Lists (those test runs) (λ run. P run × (test run ≡ true))
lists_those runs P test h = record {
  only = those_each P test runs h.only;
  all = λ run both.
      let here = those test runs in
      each_among (λ r. test r ≡ true → IsAmong r here) run runs (each_those (λ r. IsAmong r here) test runs (each_self here))
      (h.all run both.0) both.1;
}

pub lists_append : (xs ys : List Run) (P Q : Run → Type 0) → Lists xs P → Lists ys Q → Lists (xs ++ ys) (λ run. P run ⊎ Q run)
lists_append xs ys P Q left right = record {
  only = append_each (λ run. P run ⊎ Q run) xs ys (each_map P (λ run. P run ⊎ Q run) (λ run. inl) xs left.only)
      (each_map Q (λ run. P run ⊎ Q run) (λ run. inr) ys right.only);
  all = λ run either.
      let parts = each_append (λ r. IsAmong r (xs ++ ys)) xs ys (each_self (xs ++ ys)) in
      elim either [
        | inl p ↦ each_listed xs P (λ r. IsAmong r (xs ++ ys)) left parts.0 run p
        | inr q ↦ each_listed ys Q (λ r. IsAmong r (xs ++ ys)) right parts.1 run q
      ];
}

-- the same runs by another fact
pub lists_as : (runs : List Run) (P Q : Run → Type 0) → ((run : Run) → P run → Q run) → ((run : Run) → Q run → P run)
    → Lists runs P → Lists runs Q
lists_as runs P Q f g h = record {
  only = each_map P Q f runs h.only;
  all = λ run q. h.all run (g run q);
}

-- of no run the fact holds where the list is empty
pub lists_none : (runs : List Run) (P : Run → Type 0) → Lists runs P → runs ≡ [] → IsNone P
lists_none runs P h e run p = each_listed runs P (λ r. ⊥) h (subst (Each (λ r. ⊥)) (sym e) tt) run p

oldest_of : (runs : List Run) (P : Run → Type 0) (m : Run) → Lists runs P → least age_of runs ≡ Some m → IsOldest P m
oldest_of runs P m h e = record {
  holds = least_among P age_of runs m h.only e;
  oldest = each_listed runs P (λ r. m.age ≤ r.age) h (least_least age_of runs m e);
}

youngest_of : (runs : List Run) (P : Run → Type 0) (m : Run) → Lists runs P → greatest age_of runs ≡ Some m → IsYoungest P m
youngest_of runs P m h e = record {
  holds = greatest_among P age_of runs m h.only e;
  youngest = each_listed runs P (λ r. r.age ≤ m.age) h (greatest_greatest age_of runs m e);
}

-- a grant is neither a wait nor a refusal
pub no_wait : (grant : Reply) (by : Tid) → is_grant grant ≡ true → grant ≡ Wait by → ⊥
no_wait grant by h e = let none : is_grant grant ≡ false = ap is_grant e in cc

pub no_refusal : (grant : Reply) (why : Why) → is_grant grant ≡ true → grant ≡ Refused why → ⊥
no_refusal grant why h e = let none : is_grant grant ≡ false = ap is_grant e in cc

-- wait-die over a list of runs says what it says of the runs in the way
pub wait_die_is : (P : Run → Type 0) (me : Run) (grant : Reply) (runs : List Run) → Lists runs P → OfOneAge P
    → is_grant grant ≡ true
    → IsWaitDie P me grant (or_reply (wait_die me (least age_of runs)) grant)
wait_die_is P me grant runs h one_age is = by_oldest (least age_of runs) refl
  where
    by_age : (m : Run) → IsOldest P m → (b : Bool) → is_younger me m ≡ b
        → IsWaitDie P me grant (cond b (Wait m.tid) (Refused (Die m.tid)))
    by_age m first true younger = record {
      granted = (λ e. absurd (no_wait grant m.tid is (sym e)), λ none. absurd (none m first.holds));
      waits = λ by. (
        λ e. (
          m,
          first,
          cc,
          λ other p. let least = first.oldest other p in let less =
              ltb-true me.age m.age younger in omega arith,
        ),
        λ (run, old, is_by, older).
            ap Wait (one_age m run first.holds old.holds
            (let x = first.oldest run old.holds in let y = old.oldest m first.holds in omega arith) ∙ sym is_by),
      );
      dies = λ by. (
        λ e. cc,
        λ (run, old, is_by, most). let x = first.oldest run old.holds in let less =
            ltb-true me.age m.age younger in absurd (omega arith),
      );
    }
    by_age m first false younger = record {
      granted = (λ e. absurd (no_refusal grant (Die m.tid) is (sym e)), λ none. absurd (none m first.holds));
      waits = λ by. (
        λ e. cc,
        λ (run, old, is_by, older). let less = older m first.holds in let most =
            ltb-false me.age m.age younger in absurd (omega arith),
      );
      dies = λ by. (
        λ e. (m, first, cc, ltb-false me.age m.age younger),
        λ (run, old, is_by, most).
            ap (λ t. Refused (Die t)) (one_age m run first.holds old.holds
            (let x = first.oldest run old.holds in let y = old.oldest m first.holds in omega arith) ∙ sym is_by),
      );
    }

    by_oldest : (o : Option Run) → least age_of runs ≡ o → IsWaitDie P me grant (or_reply (wait_die me o) grant)
    by_oldest None e =
        let none = lists_none runs P h (least_none age_of runs e) in
        record {
          granted = (λ e. none, λ none. refl);
          waits = λ by. (λ e. absurd (no_wait grant by is e), λ (run, old, is_by, rest). absurd (none run old.holds));
          dies = λ by. (λ e. absurd (no_refusal grant (Die by) is e), λ (run, old, is_by, rest). absurd (none run old.holds));
        }
    by_oldest (Some m) e = by_age m (oldest_of runs P m h e) (is_younger me m) refl

-- timestamp order over the lists of younger and of older runs says what it says of the runs in the way
pub in_time_is : (Y O : Run → Type 0) (grant : Reply) (younger older : List Run) → Lists younger Y → Lists older O → OfOneAge Y
    → ((a b : Run) → O a → O b → a.tid ≡ b.tid) → is_grant grant ≡ true
    → IsInTime Y O grant (or_reply (late_or_wait (greatest age_of younger) (greatest age_of older)) grant)
in_time_is Y O grant younger older listed_y listed_o one_age one_older is = by_youngest (greatest age_of younger) refl
  where
    by_older : (o : Option Run) → greatest age_of older ≡ o → IsNone Y → IsInTime Y O grant (or_reply (late_or_wait None o) grant)
    by_older None e no_y =
        let no_o = lists_none older O listed_o (greatest_none age_of older e) in
        record {
          granted = (λ e. (no_y, no_o), λ none. refl);
          late = λ by. (λ e. absurd (no_refusal grant (Late by) is e), λ (run, young, is_by). absurd (no_y run young.holds));
          waits = λ by. (λ e. absurd (no_wait grant by is e), λ (none, (run, o, is_by)). absurd (no_o run o));
        }
    by_older (Some m) e no_y =
        let first = greatest_among O age_of older m listed_o.only e in
        record {
          granted = (λ e. absurd (no_wait grant m.tid is (sym e)), λ none. absurd (none.1 m first));
          late = λ by. (λ e. cc, λ (run, young, is_by). absurd (no_y run young.holds));
          waits = λ by. (
            λ e. (no_y, (m, first, cc)),
            λ (none, (run, o, is_by)). ap Wait (one_older m run first o ∙ sym is_by),
          );
        }

    by_youngest : (o : Option Run) → greatest age_of younger ≡ o
        → IsInTime Y O grant (or_reply (late_or_wait o (greatest age_of older)) grant)
    by_youngest None e = by_older (greatest age_of older) refl (lists_none younger Y listed_y (greatest_none age_of younger e))
    by_youngest (Some m) e =
        let last = youngest_of younger Y m listed_y e in
        record {
          granted = (λ e. absurd (no_refusal grant (Late m.tid) is (sym e)), λ none. absurd (none.0 m last.holds));
          late = λ by. (
            λ e. (m, last, cc),
            λ (run, young, is_by).
                ap (λ t. Refused (Late t)) (one_age m run last.holds young.holds
                (let x = last.youngest run young.holds in let y = young.youngest m last.holds in omega arith) ∙ sym is_by),
          );
          waits = λ by. (λ e. cc, λ (none, rest). absurd (none m last.holds));
        }
