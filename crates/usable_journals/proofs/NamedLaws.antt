-- The transactions that the coordinator's records name.
use Rattle.std.proofs.Common.{◌≡◌, ◌↔◌, Bool, true, false, not, cond, ◌||◌, List, [], ◌∷◌, ◌++◌, length, map, reverse, refl, sym, ap, ap₂, subst, ◌∙◌, arith}
use Rattle.std.specs.BTreeSet.{BTreeSet, IsDisjoint, contains}
use Rattle.std.specs.Ordering.{is_eq}
use Rattle.mdb_base.specs.declared.names.Tid.{Tid}
use Rattle.mdb_base.specs.declared.names.Tx.{Tx}
use Rattle.mdb_base.specs.Names.{same_tx, tx_cmp}
use Rattle.mdb_base.specs.Words.{some_of, those}
use Rattle.mdb_base.proofs.ForCallers.{or_assoc, or_false, same_tx-equal, same_tx-refl, some_reverse}
use Rattle.fed_rules.specs.declared.records.CoordRecord.{CoordRecord}
use Rattle.fed_rules.specs.declared.records.CoordRecord.TheVariants.{Initiation, Commit, Abort, End, Checkpoint}
use Rattle.fed_rules.specs.declared.records.SiteRecord.{SiteRecord}
use Rattle.fed_rules.specs.declared.sums.CommittedAttempt.{CommittedAttempt}
use Rattle.fed_rules.specs.declared.sums.CoordSum.{CoordSum}
use Rattle.fed_rules.specs.declared.sums.OpenAttempt.{OpenAttempt}
use Rattle.fed_rules.specs.Reopened.{commit_read, end_read, initiation_read, is_open_in}
use Rattle.fed_rules.specs.Usable.{AreUnnamed, IsAttemptOf, IsLocalOf, coord_read, counted}
use Rattle.usable_journals.specs.Named.{AddsTo, is_attempt_of, is_committed_of, is_named_in, is_open_of}
use Rattle.usable_journals.specs.SiteTests.{is_local_of}
use Rattle.usable_journals.proofs.OnceLaws.{local_tells}
use Rattle.usable_journals.proofs.PartedLaws.{apart_by, empty_has, some_append}
use Rattle.usable_journals.proofs.Recording.{read_first}
use Rattle.usable_journals.proofs.Reflected.{Tells}
use Rattle.usable_journals.proofs.Sets.{with_tx}

pub adds_one : (names after : BTreeSet Tx) (tid : Tid) → ((q : Tx) → contains tx_cmp after q ≡ cond (is_eq (tx_cmp tid.tx q)) true (contains tx_cmp names q))
    → AddsTo (λ tx. same_tx tid.tx tx) names after
adds_one names after tid put tx = with_tx tid.tx tx _ _ _ (put tx) refl

pub adds_then : (f g h : Tx → Bool) (a b c : BTreeSet Tx) → AddsTo f a b → AddsTo g b c → ((tx : Tx) → (g tx || f tx) ≡ h tx) → AddsTo h a c
adds_then f g h a b c first second all tx =
    second tx ∙ ap (λ x. g tx || x) (first tx) ∙ or_assoc (g tx) (f tx) (contains tx_cmp a tx) ∙ ap (λ x. x || contains tx_cmp a tx) (all tx)

-- ---- a first Checkpoint

implied : (a b c : Bool) → (a ≡ true → b ≡ true) → (a || (b || c)) ≡ (b || c)
implied true b c h = ap (λ x. true) (h refl) ∙ ap (λ x. x || c) (sym (h refl))
implied false b c h = refl

ends_commit : (tx : Tx) (test : CommittedAttempt → Bool) (xs : List CommittedAttempt)
    → some_of (is_attempt_of tx) (map end_read (those test xs)) ≡ true → some_of (is_committed_of tx) xs ≡ true
ends_commit tx test [] e = absurd cc
ends_commit tx test (x ∷ xs) e = by_test (test x) e (ends_commit tx test xs)
  where
    or_right : (a b : Bool) → b ≡ true → (a || b) ≡ true
    or_right true b h = refl
    or_right false b h = h

    by_tx : (s : Bool) → (s || some_of (is_attempt_of tx) (map end_read (those test xs))) ≡ true
        → (some_of (is_attempt_of tx) (map end_read (those test xs)) ≡ true → some_of (is_committed_of tx) xs ≡ true) → (s || some_of (is_committed_of tx) xs) ≡ true
    by_tx true f rest = refl
    by_tx false f rest = rest f

    by_test : (t : Bool) → some_of (is_attempt_of tx) (map end_read (cond t (x ∷ those test xs) (those test xs))) ≡ true
        → (some_of (is_attempt_of tx) (map end_read (those test xs)) ≡ true → some_of (is_committed_of tx) xs ≡ true) → (same_tx x.tid.tx tx || some_of (is_committed_of tx) xs) ≡ true
    by_test true f rest = by_tx (same_tx x.tid.tx tx) f rest
    by_test false f rest = or_right (same_tx x.tid.tx tx) (some_of (is_committed_of tx) xs) (rest f)

commits_are : (tx : Tx) (xs : List CommittedAttempt) → some_of (is_attempt_of tx) (map commit_read xs) ≡ some_of (is_committed_of tx) xs
commits_are tx [] = refl
commits_are tx (x ∷ xs) = ap (λ b. same_tx x.tid.tx tx || b) (commits_are tx xs)

opens_are : (tx : Tx) (xs : List OpenAttempt) → some_of (is_attempt_of tx) (map initiation_read xs) ≡ some_of (is_open_of tx) xs
opens_are tx [] = refl
opens_are tx (x ∷ xs) = ap (λ b. same_tx x.tid.tx tx || b) (opens_are tx xs)

sum_names : (tx : Tx) (sum : CoordSum) → some_of (is_attempt_of tx) (coord_read (Checkpoint sum ∷ [])) ≡ is_named_in tx sum
sum_names tx sum =
    let kept = those (λ (attempt : CommittedAttempt). not (is_open_in sum attempt.tid)) sum.committed in
    let ends = map end_read kept in
    some_append (is_attempt_of tx) (ends ++ map commit_read sum.committed) (map initiation_read sum.open_attempts)
    ∙ ap₂ (λ a b. a || b) (some_append (is_attempt_of tx) ends (map commit_read sum.committed)) (opens_are tx sum.open_attempts)
    ∙ sym (or_assoc (some_of (is_attempt_of tx) ends) (some_of (is_attempt_of tx) (map commit_read sum.committed)) (some_of (is_open_of tx) sum.open_attempts))
    ∙ ap (λ c. some_of (is_attempt_of tx) ends || (c || some_of (is_open_of tx) sum.open_attempts)) (commits_are tx sum.committed)
    ∙ implied (some_of (is_attempt_of tx) ends) (some_of (is_committed_of tx) sum.committed) (some_of (is_open_of tx) sum.open_attempts)
    (ends_commit tx (λ (attempt : CommittedAttempt). not (is_open_in sum attempt.tid)) sum.committed)

pub adds_first_sum : (sum : CoordSum) (a b : BTreeSet Tx) → AddsTo (λ tx. is_named_in tx sum) a b → AddsTo (λ tx. some_of (is_attempt_of tx) (coord_read (Checkpoint sum ∷ []))) a b
adds_first_sum sum a b h tx = h tx ∙ ap (λ x. x || contains tx_cmp a tx) (sym (sum_names tx sum))

first_other : (tx : Tx) (first : CoordRecord) → ((sum : CoordSum) → first ≡ Checkpoint sum → ⊥) → is_attempt_of tx first ≡ some_of (is_attempt_of tx) (coord_read (first ∷ []))
first_other tx (Initiation tid participants) other = sym (or_false (same_tx tid.tx tx))
first_other tx (Commit tid tickets) other = sym (or_false (same_tx tid.tx tx))
first_other tx (Abort tid participants) other = sym (or_false (same_tx tid.tx tx))
first_other tx (End tid) other = sym (or_false (same_tx tid.tx tx))
first_other tx (Checkpoint sum) other = absurd (other sum refl)

pub adds_first_other : (first : CoordRecord) (a b : BTreeSet Tx) → ((sum : CoordSum) → first ≡ Checkpoint sum → ⊥) → AddsTo (λ tx. is_attempt_of tx first) a b
    → AddsTo (λ tx. some_of (is_attempt_of tx) (coord_read (first ∷ []))) a b
adds_first_other first a b other h tx = h tx ∙ ap (λ x. x || contains tx_cmp a tx) (first_other tx first other)

-- ---- all records

pub names_are : (first : CoordRecord) (newer : List CoordRecord) (a b c : BTreeSet Tx) → a.keys ≡ [] → AddsTo (λ tx. some_of (is_attempt_of tx) (coord_read (first ∷ []))) a b
    → AddsTo (λ tx. some_of (is_attempt_of tx) newer) b c → (tx : Tx) → contains tx_cmp c tx ≡ some_of (is_attempt_of tx) (coord_read (reverse (first ∷ newer)))
names_are first newer a b c empty one two tx =
    two tx ∙ ap₂ (λ x y. x || y) (sym (some_reverse (is_attempt_of tx) newer))
    (one tx ∙ ap (λ x. some_of (is_attempt_of tx) (coord_read (first ∷ [])) || x) (empty_has a empty tx) ∙ or_false (some_of (is_attempt_of tx) (coord_read (first ∷ []))))
    ∙ sym (some_append (is_attempt_of tx) (reverse newer) (coord_read (first ∷ []))) ∙ ap (some_of (is_attempt_of tx)) (sym (read_first first newer))

pub no_names : (records : List CoordRecord) (set : BTreeSet Tx) → set.keys ≡ [] → length records ≡ 0 → (tx : Tx) → contains tx_cmp set tx ≡ some_of (is_attempt_of tx) (coord_read (reverse records))
no_names [] set empty none tx = empty_has set empty tx
no_names (x ∷ records) set empty none tx = absurd (omega (arith, none))

attempt_tells : (tx : Tx) → Tells (is_attempt_of tx) (IsAttemptOf tx)
attempt_tells tx = record { there = there; back = back }
  where
    there : (r : CoordRecord) → is_attempt_of tx r ≡ true → IsAttemptOf tx r
    there (Initiation tid participants) e = same_tx-equal tid.tx tx e
    there (Commit tid tickets) e = same_tx-equal tid.tx tx e
    there (Abort tid participants) e = same_tx-equal tid.tx tx e
    there (End tid) e = same_tx-equal tid.tx tx e
    there (Checkpoint sum) e = absurd cc

    back : (r : CoordRecord) → IsAttemptOf tx r → is_attempt_of tx r ≡ true
    back (Initiation tid participants) e = subst (λ t. same_tx tid.tx t ≡ true) e (same_tx-refl tid.tx)
    back (Commit tid tickets) e = subst (λ t. same_tx tid.tx t ≡ true) e (same_tx-refl tid.tx)
    back (Abort tid participants) e = subst (λ t. same_tx tid.tx t ≡ true) e (same_tx-refl tid.tx)
    back (End tid) e = subst (λ t. same_tx tid.tx t ≡ true) e (same_tx-refl tid.tx)
    back (Checkpoint sum) e = absurd e

pub unnamed_by : (coordinator : List CoordRecord) (site : List SiteRecord) (locals names : BTreeSet Tx) → ((tx : Tx) → contains tx_cmp locals tx ≡ some_of (is_local_of tx) (counted site))
    → ((tx : Tx) → contains tx_cmp names tx ≡ some_of (is_attempt_of tx) (coord_read coordinator)) → IsDisjoint tx_cmp locals names ↔ AreUnnamed coordinator site
unnamed_by coordinator site locals names ls ns =
    apart_by is_local_of IsLocalOf is_attempt_of IsAttemptOf local_tells attempt_tells (counted site) (coord_read coordinator) locals names ls ns
