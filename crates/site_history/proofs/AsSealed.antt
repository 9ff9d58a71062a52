-- The runs of a site over several epochs: those in doubt as they were sealed, with their reads, and those that were committed.
use Rattle.std.proofs.Common.{◌≡◌, ◌⊎◌, Bool, true, false, cond, not, Option, Some, None, List, [], ◌∷◌, map, refl, sym, ap, ◌∙◌, subst, inl, inr}
use Rattle.std.specs.Prelude.{nat_lt}
use Rattle.mdb_base.specs.declared.names.Tid.{Tid}
use Rattle.mdb_base.specs.Names.{same_tid}
use Rattle.mdb_base.specs.Words.{those, inserted}
use Rattle.mdb_base.proofs.ForCallers.{same_tid-equal}
use Rattle.order_laws.specs.Chains.{In}
use Rattle.order_laws.proofs.ForCallers.{append_in, in_append, in_inserted, in_map as map_in, those-in}
use Rattle.fed_rules.specs.EngineLines.{IsRight}
use Rattle.fed_rules.specs.Runs.{Start, EngineLine, Run, run_at, number, committed, by_number}
use Rattle.engine_laws.specs.Epochs.{Epoch, AreEpochs, all_committed, new_runs, restored_tids}
use Rattle.engine_laws.specs.Laws.{with_commits}
use Rattle.engine_laws.proofs.ForCallers.{tid_is}

-- the run, or where it was restored the one that it was before
abbrev pub as_was : Start → Option Run → Option Run → Option Run
as_was start None older = None
as_was start (Some run) older = cond (nat_lt start.counter (number run)) (Some run) older

-- the sealed run of an attempt, as it was sealed
abbrev pub as_sealed : Epoch → List Epoch → Tid → Option Run
as_sealed epoch [] tid = run_at epoch.start epoch.lines tid
as_sealed epoch (before ∷ more) tid = as_was epoch.start (run_at epoch.start epoch.lines tid) (as_sealed before more tid)

-- a committed run that was restored, and the run that it was before
pub record WasRestored (epoch before : Epoch) (more : List Epoch) (run : Run) : Type 0 where
  pub now : Run
  pub among : In now (committed epoch.start epoch.lines)
  pub old : nat_lt epoch.start.counter (number now) ≡ false
  pub was : as_sealed before more now.tid ≡ Some run

-- the run was committed in one of these epochs; it stands as it was sealed
abbrev pub WasCommitted : Epoch → List Epoch → Run → Type 0
WasCommitted epoch [] run = In run (committed epoch.start epoch.lines)
WasCommitted epoch (before ∷ more) run =
    ((nat_lt epoch.start.counter (number run) ≡ true) × In run (committed epoch.start epoch.lines))
    ⊎ (WasRestored epoch before more run ⊎ WasCommitted before more run)

pub inserted_in : {A : Type 0} (test : A → A → Bool) (x y : A) (ys : List A) → (x ≡ y) ⊎ In y ys → In y (inserted test x ys)
inserted_in test x y [] i = i
inserted_in test x y (z ∷ ys) i = by_test (test z x) i (inserted_in test x y ys)
  where
    by_test : (b : Bool) → (x ≡ y) ⊎ ((z ≡ y) ⊎ In y ys) → ((x ≡ y) ⊎ In y ys → In y (inserted test x ys))
        → In y (cond b (z ∷ inserted test x ys) (x ∷ z ∷ ys))
    by_test true (inl e) rest = inr (rest (inl e))
    by_test true (inr (inl e)) rest = inl e
    by_test true (inr (inr j)) rest = inr (rest (inr j))
    by_test false i rest = i

pub those_in : {A : Type 0} (test : A → Bool) (y : A) (xs : List A) → test y ≡ true → In y xs → In y (those test xs)
those_in test y [] passes i = i
those_in test y (x ∷ xs) passes i = by_test (test x) refl i (those_in test y xs passes)
  where
    by_test : (b : Bool) → test x ≡ b → (x ≡ y) ⊎ In y xs → (In y xs → In y (those test xs)) → In y (cond b (x ∷ those test xs) (those test xs))
    by_test true is (inl e) rest = inl e
    by_test true is (inr i) rest = inr (rest i)
    by_test false is (inl e) rest = let clash = sym is ∙ ap test e ∙ passes in cc
    by_test false is (inr i) rest = rest i

-- an item whose image this is
pub record HasImage {A B : Type 0} (f : A → B) (xs : List A) (y : B) : Type 0 where
  pub item : A
  pub among : In item xs
  pub image : f item ≡ y

pub in_map : {A B : Type 0} (f : A → B) (y : B) (xs : List A) → In y (map f xs) → HasImage f xs y
in_map f y [] i = elim i [ ]
in_map f y (x ∷ xs) (inl e) = record { item = x; among = inl refl; image = e }
in_map f y (x ∷ xs) (inr i) = let r = in_map f y xs i in record { item = r.item; among = inr r.among; image = r.image }

pub in_by_number : (o : Option Run) (run : Run) (runs : List Run) → In run (by_number o runs) → (o ≡ Some run) ⊎ In run runs
in_by_number None run runs i = inr i
in_by_number (Some r) run runs i = elim (in_inserted (λ a b. nat_lt (number b) (number a)) r run runs i) [
  | inl e ↦ inl (ap Some e)
  | inr j ↦ inr j
]

pub by_number_in : (o : Option Run) (run : Run) (runs : List Run) → (o ≡ Some run) ⊎ In run runs → In run (by_number o runs)
by_number_in None run runs (inl e) = cc
by_number_in None run runs (inr i) = i
by_number_in (Some r) run runs (inl e) = inserted_in (λ a b. nat_lt (number b) (number a)) r run runs (inl (cc))
by_number_in (Some r) run runs (inr i) = inserted_in (λ a b. nat_lt (number b) (number a)) r run runs (inr i)

-- after commits the run of an attempt is gone with its commit, or as it was
record IsGone (start : Start) (lines : List EngineLine) (tids : List Tid) (tid : Tid) : Type 0 where
  none : run_at start (with_commits tids lines) tid ≡ None
  among : In tid tids

gone_or_same : (start : Start) (lines : List EngineLine) (tids : List Tid) (tid : Tid)
    → IsGone start lines tids tid ⊎ (run_at start (with_commits tids lines) tid ≡ run_at start lines tid)
gone_or_same start lines [] tid = inr refl
gone_or_same start lines (u ∷ us) tid = by_test (same_tid u tid) refl (gone_or_same start lines us tid)
  where
    by_test : (b : Bool) → same_tid u tid ≡ b
        → IsGone start lines us tid ⊎ (run_at start (with_commits us lines) tid ≡ run_at start lines tid)
        → IsGone start lines (u ∷ us) tid ⊎ (run_at start (with_commits (u ∷ us) lines) tid ≡ run_at start lines tid)
    by_test true is rest = inl (record {
      none = ap (λ b. cond b None (run_at start (with_commits us lines) tid)) is;
      among = inl (same_tid-equal u tid is);
    })
    by_test false is (inl gone) = inl (record {
      none = ap (λ b. cond b None (run_at start (with_commits us lines) tid)) is ∙ gone.none;
      among = inr gone.among;
    })
    by_test false is (inr same) = inr (ap (λ b. cond b None (run_at start (with_commits us lines) tid)) is ∙ same)

-- one of these attempts has the run
pub record IsRunOf (look : Tid → Option Run) (tids : List Tid) (run : Run) : Type 0 where
  pub tid : Tid
  pub among : In tid tids
  pub is : look tid ≡ Some run

-- with commits of these attempts those are committed that were before, and the runs of these
with_in : (start : Start) (lines : List EngineLine) (tids : List Tid) (run : Run) → In run (committed start (with_commits tids lines))
    → In run (committed start lines) ⊎ IsRunOf (run_at start lines) tids run
with_in start lines [] run i = inl i
with_in start lines (t ∷ ts) run i =
    by_origin (in_by_number (run_at start (with_commits ts lines) t) run (committed start (with_commits ts lines)) i)
    (gone_or_same start lines ts t) (with_in start lines ts run)
  where
    by_origin : (run_at start (with_commits ts lines) t ≡ Some run) ⊎ In run (committed start (with_commits ts lines))
        → IsGone start lines ts t ⊎ (run_at start (with_commits ts lines) t ≡ run_at start lines t)
        → (In run (committed start (with_commits ts lines)) → In run (committed start lines) ⊎ IsRunOf (run_at start lines) ts run)
        → In run (committed start lines) ⊎ IsRunOf (run_at start lines) (t ∷ ts) run
    by_origin (inl e) (inl gone) rest = let clash = sym gone.none ∙ e in cc
    by_origin (inl e) (inr same) rest = inr (record { tid = t; among = inl refl; is = sym same ∙ e })
    by_origin (inr j) o rest = elim (rest j) [
      | inl k ↦ inl k
      | inr r ↦ inr (record { tid = r.tid; among = inr r.among; is = r.is })
    ]

in_with : (start : Start) (lines : List EngineLine) (tids : List Tid) (run : Run)
    → In run (committed start lines) ⊎ IsRunOf (run_at start lines) tids run → In run (committed start (with_commits tids lines))
in_with start lines [] run (inl i) = i
in_with start lines [] run (inr r) = elim r.among [ ]
in_with start lines (t ∷ ts) run h = by_origin h (gone_or_same start lines ts t) (in_with start lines ts run)
  where
    put : (run_at start (with_commits ts lines) t ≡ Some run) ⊎ In run (committed start (with_commits ts lines))
        → In run (committed start (with_commits (t ∷ ts) lines))
    put = by_number_in (run_at start (with_commits ts lines) t) run (committed start (with_commits ts lines))

    here : (tid : Tid) → (t ≡ tid) ⊎ In tid ts → run_at start lines tid ≡ Some run
        → IsGone start lines ts t ⊎ (run_at start (with_commits ts lines) t ≡ run_at start lines t)
        → (In run (committed start lines) ⊎ IsRunOf (run_at start lines) ts run → In run (committed start (with_commits ts lines)))
        → In run (committed start (with_commits (t ∷ ts) lines))
    here tid (inl e) is (inl gone) rest =
        put (inr (rest (inr (record { tid = t; among = gone.among; is = ap (run_at start lines) e ∙ is }))))
    here tid (inl e) is (inr same) rest = put (inl (same ∙ ap (run_at start lines) e ∙ is))
    here tid (inr i) is o rest = put (inr (rest (inr (record { tid = tid; among = i; is = is }))))

    by_origin : In run (committed start lines) ⊎ IsRunOf (run_at start lines) (t ∷ ts) run
        → IsGone start lines ts t ⊎ (run_at start (with_commits ts lines) t ≡ run_at start lines t)
        → (In run (committed start lines) ⊎ IsRunOf (run_at start lines) ts run → In run (committed start (with_commits ts lines)))
        → In run (committed start (with_commits (t ∷ ts) lines))
    by_origin (inl i) o rest = put (inr (rest (inl i)))
    by_origin (inr r) o rest = here r.tid r.among r.is o rest

-- the lines of the newest epoch are right
pub newest_right : (epoch : Epoch) (earlier : List Epoch) → AreEpochs epoch earlier → IsRight epoch.start epoch.lines
newest_right epoch [] first = first.right
newest_right epoch (before ∷ more) (after_it, right, rest) = right

-- all committed runs, with these attempts taken as committed
pub in_all : (tids : List Tid) (epoch : Epoch) (earlier : List Epoch) (run : Run) → AreEpochs epoch earlier
    → In run (all_committed tids epoch earlier) → WasCommitted epoch earlier run ⊎ IsRunOf (as_sealed epoch earlier) tids run
in_all tids epoch [] run first i = with_in epoch.start epoch.lines tids run i
in_all tids epoch (before ∷ more) run (after_it, right, rest) i =
    by_age (in_append run (new_runs epoch.start runs) (all_committed olds before more) i)
    (in_all olds before more run rest)
  where
    runs : List Run
    runs = committed epoch.start (with_commits tids epoch.lines)

    olds : List Tid
    olds = restored_tids epoch.start runs

    of_new : (nat_lt epoch.start.counter (number run) ≡ true)
        → In run (committed epoch.start epoch.lines) ⊎ IsRunOf (run_at epoch.start epoch.lines) tids run
        → WasCommitted epoch (before ∷ more) run ⊎ IsRunOf (as_sealed epoch (before ∷ more)) tids run
    of_new new (inl i) = inl (inl (new, i))
    of_new new (inr r) = inr (record {
      tid = r.tid;
      among = r.among;
      is = ap (λ o. as_was epoch.start o (as_sealed before more r.tid)) r.is
          ∙ ap (λ b. cond b (Some run) (as_sealed before more r.tid)) new;
    })

    of_old : (now : Run) (tid : Tid) → (not (nat_lt epoch.start.counter (number now)) ≡ true) → now.tid ≡ tid
        → as_sealed before more tid ≡ Some run
        → In now (committed epoch.start epoch.lines) ⊎ IsRunOf (run_at epoch.start epoch.lines) tids now
        → WasCommitted epoch (before ∷ more) run ⊎ IsRunOf (as_sealed epoch (before ∷ more)) tids run
    of_old now tid old of_tid was (inl i) = inl (inr (inl (record {
      now = now;
      among = i;
      old = shut (nat_lt epoch.start.counter (number now)) old;
      was = ap (as_sealed before more) of_tid ∙ was;
    })))
      where
        shut : (b : Bool) → not b ≡ true → b ≡ false
        shut true e = cc
        shut false e = refl
    of_old now tid old of_tid was (inr r) = inr (record {
      tid = r.tid;
      among = r.among;
      is = ap (λ o. as_was epoch.start o (as_sealed before more r.tid)) r.is
          ∙ ap (λ b. cond b (Some now) (as_sealed before more r.tid)) (shut (nat_lt epoch.start.counter (number now)) old)
          ∙ ap (as_sealed before more) (sym (tid_is epoch.start epoch.lines right r.tid now r.is) ∙ of_tid) ∙ was;
    })
      where
        shut : (b : Bool) → not b ≡ true → b ≡ false
        shut true e = cc
        shut false e = refl

    by_old : WasCommitted before more run ⊎ IsRunOf (as_sealed before more) olds run
        → WasCommitted epoch (before ∷ more) run ⊎ IsRunOf (as_sealed epoch (before ∷ more)) tids run
    by_old (inl was) = inl (inr (inr was))
    by_old (inr r) =
        let one = in_map (λ x. x.tid) r.tid (those (λ x. not (nat_lt epoch.start.counter (number x))) runs) r.among in
        let parts = those-in (λ x. not (nat_lt epoch.start.counter (number x))) one.item runs one.among in
        of_old one.item r.tid parts.0 one.image r.is (with_in epoch.start epoch.lines tids one.item parts.1)

    by_age : In run (new_runs epoch.start runs) ⊎ In run (all_committed olds before more)
        → (In run (all_committed olds before more) → WasCommitted before more run ⊎ IsRunOf (as_sealed before more) olds run)
        → WasCommitted epoch (before ∷ more) run ⊎ IsRunOf (as_sealed epoch (before ∷ more)) tids run
    by_age (inl i) k =
        let parts = those-in (λ x. nat_lt epoch.start.counter (number x)) run runs i in
        of_new parts.0 (with_in epoch.start epoch.lines tids run parts.1)
    by_age (inr i) k = by_old (k i)

pub all_in : (tids : List Tid) (epoch : Epoch) (earlier : List Epoch) (run : Run) → AreEpochs epoch earlier
    → WasCommitted epoch earlier run ⊎ IsRunOf (as_sealed epoch earlier) tids run → In run (all_committed tids epoch earlier)
all_in tids epoch [] run first h = in_with epoch.start epoch.lines tids run h
all_in tids epoch (before ∷ more) run (after_it, right, rest) h = by_age h (all_in olds before more run rest)
  where
    runs : List Run
    runs = committed epoch.start (with_commits tids epoch.lines)

    olds : List Tid
    olds = restored_tids epoch.start runs

    new : nat_lt epoch.start.counter (number run) ≡ true → In run runs → In run (all_committed tids epoch (before ∷ more))
    new is i =
        append_in run (new_runs epoch.start runs) (all_committed olds before more)
        (inl (those_in (λ x. nat_lt epoch.start.counter (number x)) run runs is i))

    old : In run (all_committed olds before more) → In run (all_committed tids epoch (before ∷ more))
    old i = append_in run (new_runs epoch.start runs) (all_committed olds before more) (inr i)

    olds_in : (now : Run) → nat_lt epoch.start.counter (number now) ≡ false → In now runs → In now.tid olds
    olds_in now is i =
        map_in (λ x. x.tid) now (those (λ x. not (nat_lt epoch.start.counter (number x))) runs)
        (those_in (λ x. not (nat_lt epoch.start.counter (number x))) now runs (ap not is) i)

    by_run : (tid : Tid) (o : Option Run) → In tid tids → run_at epoch.start epoch.lines tid ≡ o
        → as_was epoch.start o (as_sealed before more tid) ≡ Some run
        → (WasCommitted before more run ⊎ IsRunOf (as_sealed before more) olds run → In run (all_committed olds before more))
        → In run (all_committed tids epoch (before ∷ more))
    by_run tid None among at is k = cc
    by_run tid (Some now) among at is k = by_test (nat_lt epoch.start.counter (number now)) refl is
      where
        in_runs : In now runs
        in_runs = in_with epoch.start epoch.lines tids now (inr (record { tid = tid; among = among; is = at }))

        by_test : (b : Bool) → nat_lt epoch.start.counter (number now) ≡ b → cond b (Some now) (as_sealed before more tid) ≡ Some run
            → In run (all_committed tids epoch (before ∷ more))
        by_test true newer is = let same : now ≡ run = cc in
            subst (λ r. In r (all_committed tids epoch (before ∷ more))) same
            (append_in now (new_runs epoch.start runs) (all_committed olds before more)
            (inl (those_in (λ x. nat_lt epoch.start.counter (number x)) now runs newer in_runs)))
        by_test false older is =
            let of_tid = tid_is epoch.start epoch.lines right tid now at in
            old (k (inr (record { tid = now.tid; among = olds_in now older in_runs; is = ap (as_sealed before more) of_tid ∙ is })))

    by_age : WasCommitted epoch (before ∷ more) run ⊎ IsRunOf (as_sealed epoch (before ∷ more)) tids run
        → (WasCommitted before more run ⊎ IsRunOf (as_sealed before more) olds run → In run (all_committed olds before more))
        → In run (all_committed tids epoch (before ∷ more))
    by_age (inl (inl (is, i))) k = new is (in_with epoch.start epoch.lines tids run (inl i))
    by_age (inl (inr (inl restored))) k =
        old (k (inr (record {
          tid = restored.now.tid;
          among = olds_in restored.now restored.old (in_with epoch.start epoch.lines tids restored.now (inl restored.among));
          is = restored.was;
        })))
    by_age (inl (inr (inr was))) k = old (k (inl was))
    by_age (inr r) k = by_run r.tid (run_at epoch.start epoch.lines r.tid) r.among refl r.is k
