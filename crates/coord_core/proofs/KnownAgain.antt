-- What a start knows of an attempt is what is kept of its entry.
use Rattle.std.proofs.Common.{◌≡◌, Bool, true, false, cond, Option, Some, None, List, [], ◌∷◌, map, refl, sym, ap, subst, ◌∙◌}
use Rattle.std.proofs.lemmas.Bool.{cond-true, cond-false}
use Rattle.mdb_base.specs.declared.names.Tid.{Tid}
use Rattle.mdb_base.specs.Names.{same_tid}
use Rattle.mdb_base.specs.Words.{Each, first_where, those}
use Rattle.mdb_base.proofs.ForCallers.{same_tid-equal, same_tid-sym}
use Rattle.fed_rules.specs.declared.sums.CommittedAttempt.{CommittedAttempt}
use Rattle.fed_rules.specs.declared.sums.OpenAttempt.{OpenAttempt}
use Rattle.protocol_table.specs.declared.known.Known.{Known}
use Rattle.protocol_table.specs.Attempts.{known_of, restored}
use Rattle.coord_tables.specs.Starting.{is_awaited, restored_by}
use Rattle.coord_core.proofs.EachOnce.{apart_from}
use Rattle.coord_core.proofs.SumRanges.{Rises}

-- what is known of an attempt is what is kept of its entry
abbrev pub known_by : List CommittedAttempt → Option OpenAttempt → Option Known
known_by committed None = None
known_by committed (Some attempt) = cond (is_awaited committed attempt) (Some (restored (restored_by committed attempt))) None

abbrev listed : List CommittedAttempt → List OpenAttempt → List Known
listed committed attempts = map restored (map (restored_by committed) (those (is_awaited committed) attempts))

unlisted : (committed : List CommittedAttempt) (tid : Tid) (attempts : List OpenAttempt) → Each (λ attempt. same_tid tid attempt.tid ≡ false) attempts → known_of tid (listed committed attempts) ≡ None
unlisted committed tid [] e = refl
unlisted committed tid (x ∷ xs) e = by_test (is_awaited committed x) (unlisted committed tid xs e.1) where
  by_test : (b : Bool) → known_of tid (listed committed xs) ≡ None
      → known_of tid (map restored (map (restored_by committed) (cond b (x ∷ those (is_awaited committed) xs) (those (is_awaited committed) xs)))) ≡ None
  by_test true h = cond-false _ _ _ e.0 ∙ h
  by_test false h = h

pub known_is : (committed : List CommittedAttempt) (tid : Tid) (attempts : List OpenAttempt) → Rises (λ attempt. attempt.tid) attempts
    → known_of tid (listed committed attempts) ≡ known_by committed (first_where (λ attempt. same_tid attempt.tid tid) attempts)
known_is committed tid [] r = refl
known_is committed tid (x ∷ xs) r = by_own (same_tid x.tid tid) refl (known_is committed tid xs r.1) where
  none_more : same_tid x.tid tid ≡ true → known_of tid (listed committed xs) ≡ None
  none_more q = unlisted committed tid xs (subst (λ (t : Tid). Each (λ (attempt : OpenAttempt). same_tid t attempt.tid ≡ false) xs) (same_tid-equal x.tid tid q) (apart_from (λ (attempt : OpenAttempt). attempt.tid) x.tid xs r.0))

  by_own : (b : Bool) → same_tid x.tid tid ≡ b → known_of tid (listed committed xs) ≡ known_by committed (first_where (λ attempt. same_tid attempt.tid tid) xs)
      → known_of tid (listed committed (x ∷ xs)) ≡ known_by committed (cond (same_tid x.tid tid) (Some x) (first_where (λ attempt. same_tid attempt.tid tid) xs))
  by_own true q h = by_test (is_awaited committed x) refl ∙ ap (known_by committed) (sym (cond-true _ (Some x) (first_where (λ attempt. same_tid attempt.tid tid) xs) q)) where
    by_test : (c : Bool) → is_awaited committed x ≡ c
        → known_of tid (map restored (map (restored_by committed) (cond (is_awaited committed x) (x ∷ those (is_awaited committed) xs) (those (is_awaited committed) xs))))
        ≡ cond (is_awaited committed x) (Some (restored (restored_by committed x))) None
    by_test true w =
        ap (λ c. known_of tid (map restored (map (restored_by committed) (cond c (x ∷ those (is_awaited committed) xs) (those (is_awaited committed) xs))))) w
        ∙ cond-true _ _ _ (same_tid-sym tid x.tid ∙ q)
        ∙ ap (λ c. cond c (Some (restored (restored_by committed x))) None) (sym w)
    by_test false w =
        ap (λ c. known_of tid (map restored (map (restored_by committed) (cond c (x ∷ those (is_awaited committed) xs) (those (is_awaited committed) xs))))) w
        ∙ none_more q
        ∙ ap (λ c. cond c (Some (restored (restored_by committed x))) None) (sym w)
  by_own false q h = by_test (is_awaited committed x) ∙ h ∙ ap (known_by committed) (sym (cond-false _ (Some x) (first_where (λ attempt. same_tid attempt.tid tid) xs) q)) where
    by_test : (c : Bool) → known_of tid (map restored (map (restored_by committed) (cond c (x ∷ those (is_awaited committed) xs) (those (is_awaited committed) xs)))) ≡ known_of tid (listed committed xs)
    by_test true = cond-false _ _ _ (same_tid-sym tid x.tid ∙ q)
    by_test false = refl
