-- Which marks are of members, and which attempts are refused, item by item.
use Rattle.std.proofs.Common.{◌≡◌, ℕ, ◌+◌, ◌<◌, Bool, true, false, not, cond, ◌&&◌, ◌||◌, List, [], ◌∷◌, ◌++◌, drop, get_or, length, take, refl, sym, ◌∙◌, ap}
use Rattle.std.specs.BTreeMap.{is_at}
use Rattle.std.proofs.lemmas.List.{take_more, drop_more}
use Rattle.mdb_base.specs.declared.names.Tid.{Tid}
use Rattle.mdb_base.specs.Names.{same_tid, tid_cmp}
use Rattle.mdb_base.specs.Words.{those}
use Rattle.mdb_base.proofs.ForCallers.{append_nil, tid_ties}
use Rattle.fed_rules.specs.declared.report.Outcome.{Outcome}
use Rattle.session_report.specs.declared.marks.Mark.{Mark}
use Rattle.session_report.specs.Outcomes.{is_abort, is_refused, refuses}
use Rattle.session_report.specs.Ranks.{unrefused}

those_push : {A : Type 0} (test : A → Bool) (xs : List A) (y : A) → those test (xs ++ y ∷ []) ≡ those test xs ++ cond (test y) (y ∷ []) []
those_push test [] y = refl
those_push test (x ∷ xs) y = by_test (test x) (those_push test xs y)
  where
    by_test : (b : Bool) → those test (xs ++ y ∷ []) ≡ those test xs ++ cond (test y) (y ∷ []) []
        → cond b (x ∷ those test (xs ++ y ∷ [])) (those test (xs ++ y ∷ [])) ≡ cond b (x ∷ those test xs) (those test xs) ++ cond (test y) (y ∷ []) []
    by_test true h = ap (λ ys. x ∷ ys) h
    by_test false h = h

-- one mark more that isn't refused
pub unrefused_one : (refused : Tid → Bool) (xs : List Mark) (n : ℕ) (d : Mark) → n < length xs → refused (get_or xs n d).tid ≡ false
    → unrefused refused (take (n + 1) xs) ≡ unrefused refused (take n xs) ++ get_or xs n d ∷ []
unrefused_one refused xs n d lt e =
    ap (unrefused refused) (take_more xs n d lt)
    ∙ (those_push (λ (mark : Mark). not (refused mark.tid)) (take n xs) (get_or xs n d)
    ∙ ap (λ b. unrefused refused (take n xs) ++ cond (not b) (get_or xs n d ∷ []) []) e)

-- one that is refused
pub unrefused_none : (refused : Tid → Bool) (xs : List Mark) (n : ℕ) (d : Mark) → n < length xs → refused (get_or xs n d).tid ≡ true
    → unrefused refused (take (n + 1) xs) ≡ unrefused refused (take n xs)
unrefused_none refused xs n d lt e =
    ap (unrefused refused) (take_more xs n d lt)
    ∙ (those_push (λ (mark : Mark). not (refused mark.tid)) (take n xs) (get_or xs n d)
    ∙ (ap (λ b. unrefused refused (take n xs) ++ cond (not b) (get_or xs n d ∷ []) []) e ∙ append_nil (unrefused refused (take n xs))))

or_swap : (a b c : Bool) → ((a || b) || c) ≡ (b || (a || c))
or_swap true true c = refl
or_swap true false c = refl
or_swap false b c = refl

-- one outcome more that is an abort
pub refused_one : (outcomes : List Outcome) (n : ℕ) (d : Outcome) (tid : Tid) (old new all : Bool) → n < length outcomes → is_abort (get_or outcomes n d).decision ≡ true
    → new ≡ cond (is_at (tid_cmp (get_or outcomes n d).tid) tid) true old → (is_refused (drop n outcomes) tid || old) ≡ all → (is_refused (drop (n + 1) outcomes) tid || new) ≡ all
refused_one outcomes n d tid old new all lt abort is h =
    let outcome = get_or outcomes n d in
    let more = drop_more outcomes n d lt in
    let now : (is_refused (outcome ∷ drop (n + 1) outcomes) tid || old) ≡ all = sym (ap (λ os. is_refused os tid || old) more) ∙ h in
    let tested : refuses tid outcome ≡ same_tid outcome.tid tid = and_true (same_tid outcome.tid tid) (is_abort outcome.decision) abort in
    let here : new ≡ (refuses tid outcome || old) = is ∙ (ap (λ b. cond b true old) (tid_ties outcome.tid tid) ∙ (as_or (same_tid outcome.tid tid) old ∙ ap (λ b. b || old) (sym tested))) in
    ap (λ b. is_refused (drop (n + 1) outcomes) tid || b) here ∙ (sym (or_swap (refuses tid outcome) (is_refused (drop (n + 1) outcomes) tid) old) ∙ now)
  where
    as_or : (a b : Bool) → cond a true b ≡ (a || b)
    as_or true b = refl
    as_or false b = refl

    and_true : (a b : Bool) → b ≡ true → (a && b) ≡ a
    and_true true b e = e
    and_true false b e = refl

-- one that isn't
pub refused_none : (outcomes : List Outcome) (n : ℕ) (d : Outcome) (tid : Tid) (old all : Bool) → n < length outcomes → is_abort (get_or outcomes n d).decision ≡ false
    → (is_refused (drop n outcomes) tid || old) ≡ all → (is_refused (drop (n + 1) outcomes) tid || old) ≡ all
refused_none outcomes n d tid old all lt commit h =
    let outcome = get_or outcomes n d in
    let more = drop_more outcomes n d lt in
    let tested : refuses tid outcome ≡ false = and_false (same_tid outcome.tid tid) (is_abort outcome.decision) commit in
    sym (ap (λ b. (b || is_refused (drop (n + 1) outcomes) tid) || old) tested) ∙ (sym (ap (λ os. is_refused os tid || old) more) ∙ h)
  where
    and_false : (a b : Bool) → b ≡ false → (a && b) ≡ false
    and_false true b e = e
    and_false false b e = refl
