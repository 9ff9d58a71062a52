-- What is read is spelled so, and what is spelled so is read again.
use Rattle.std.proofs.Common.{◌≡◌, ℕ, ◌==◌, Bool, true, false, cond, List, ◌++◌, Some, None, refl, ap, subst, ◌∙◌, arith}
use Rattle.std.proofs.lemmas.Bool.{and_parts, and_from, leb-true, ltb-true, le-leb, lt-ltb, eqb-true}
use Rattle.std.proofs.lemmas.List.{append_assoc}
use Rattle.std.proofs.lemmas.Option.{same_Some}
use Rattle.byte_numbers.specs.Numbers.{IsBytes, number}
use Rattle.byte_numbers.proofs.ForCallers.{Takes, number_takes}
use Rattle.mdb_base.specs.declared.names.Tid.{Tid}
use Rattle.presumptions.specs.declared.Decision.{Decision}
use Rattle.presumptions.specs.declared.Decision.TheVariants.{Commit, Abort}
use Rattle.field_bytes.specs.Fields.{IsTid, is_tid, tid_bytes, tid_at, decision_bytes, decision_at}
use Rattle.field_bytes.proofs.Steps.{bind_some, tested_some, takes_both, number_then}

IsTid-from_test : (tid : Tid) → is_tid tid.tx.0 tid.attempt ≡ true → IsTid tid
IsTid-from_test tid e =
    let first = and_parts _ _ e in
    let second = and_parts _ _ first.1 in
    record { least = leb-true _ _ first.0; greatest = leb-true _ _ second.0; attempts = ltb-true _ _ second.1 }

is_tid-true : (tid : Tid) → IsTid tid → is_tid tid.tx.0 tid.attempt ≡ true
is_tid-true tid ok = and_from _ _ (le-leb _ _ ok.least) (and_from _ _ (le-leb _ _ ok.greatest) (lt-ltb _ _ ok.attempts))

pub tid_takes : (bytes : List ℕ) (found : Tid × List ℕ) → IsBytes bytes → tid_at bytes ≡ Some found → Takes bytes (tid_bytes found.0) found.1 × IsTid found.0
unfolding tid_at
tid_takes bytes found fits e =
    let first = bind_some _ _ _ e in
    let tx = first.0 in
    let read_tx = number_takes 4 bytes tx fits first.1 in
    let second = bind_some _ _ _ first.2 in
    let attempt = second.0 in
    let read_attempt = number_takes 1 tx.1 attempt read_tx.0.fits second.1 in
    let tested = tested_some _ _ _ second.2 in
    let tid : Tid = record { tx = record { 0 = tx.0 }; attempt = attempt.0 } in
    let same = same_Some (tid, attempt.1) found tested.1 in
    subst (λ (f : Tid × List ℕ). Takes bytes (tid_bytes f.0) f.1 × IsTid f.0) same
    (takes_both bytes (number 4 tx.0) tx.1 (number 1 attempt.0) attempt.1 read_tx.0 read_attempt.0, IsTid-from_test tid tested.0)

pub tid_again : (tid : Tid) (rest : List ℕ) → IsTid tid → tid_at (tid_bytes tid ++ rest) ≡ Some (tid, rest)
unfolding tid_at
tid_again tid rest ok =
    ap tid_at (append_assoc (number 4 tid.tx.0) (number 1 tid.attempt) rest)
    ∙ number_then 4 tid.tx.0 (number 1 tid.attempt ++ rest) _ (omega (arith, ok.greatest))
    ∙ number_then 1 tid.attempt rest _ (omega (arith, ok.attempts))
    ∙ ap (λ b. cond b (Some (tid, rest)) None) (is_tid-true tid ok)

-- the byte of a decision that was read
decision_of : (kind : ℕ) (rest : List ℕ) (found : Decision × List ℕ) → cond (kind == 1) (Some (Commit, rest)) (cond (kind == 2) (Some (Abort, rest)) None) ≡ Some found → (number 1 kind ≡ decision_bytes found.0) × (rest ≡ found.1)
decision_of kind rest found e = commits (kind == 1) refl e
  where
    aborts : (b : Bool) → (kind == 2) ≡ b → cond b (Some (Abort, rest)) None ≡ Some found → (number 1 kind ≡ decision_bytes found.0) × (rest ≡ found.1)
    aborts true is f =
        subst (λ (g : Decision × List ℕ). (number 1 kind ≡ decision_bytes g.0) × (rest ≡ g.1)) (same_Some (Abort, rest) found f) (ap (number 1) (eqb-true kind 2 is), refl)
    aborts false is f = cc

    commits : (b : Bool) → (kind == 1) ≡ b → cond b (Some (Commit, rest)) (cond (kind == 2) (Some (Abort, rest)) None) ≡ Some found → (number 1 kind ≡ decision_bytes found.0) × (rest ≡ found.1)
    commits true is f =
        subst (λ (g : Decision × List ℕ). (number 1 kind ≡ decision_bytes g.0) × (rest ≡ g.1)) (same_Some (Commit, rest) found f) (ap (number 1) (eqb-true kind 1 is), refl)
    commits false is f = aborts (kind == 2) refl f

pub decision_takes : (bytes : List ℕ) (found : Decision × List ℕ) → IsBytes bytes → decision_at bytes ≡ Some found → Takes bytes (decision_bytes found.0) found.1
unfolding decision_at
decision_takes bytes found fits e =
    let first = bind_some _ _ _ e in
    let kind = first.0 in
    let read = number_takes 1 bytes kind fits first.1 in
    let parts = decision_of kind.0 kind.1 found first.2 in
    subst (λ r. Takes bytes (decision_bytes found.0) r) parts.1 (subst (λ t. Takes bytes t kind.1) parts.0 read.0)

pub decision_again : (decision : Decision) (rest : List ℕ) → decision_at (decision_bytes decision ++ rest) ≡ Some (decision, rest)
unfolding decision_at
decision_again Commit rest = number_then 1 1 rest _ (omega arith)
decision_again Abort rest = number_then 1 2 rest _ (omega arith)
