-- The parts of a Checkpoint are exact.
use Rattle.std.specs.Prelude.{ℕ, ◌≡◌, Bool, true, false, cond, List, ◌++◌, Option, Some, None, refl}
use Rattle.std.proofs.Common.{ap, subst, ◌∙◌, eqb, append_assoc, arith}
use Rattle.std.proofs.lemmas.Bool.{eqb-true}
use Rattle.byte_numbers.specs.Numbers.{Takes, number, number_at, ◌>>=◌}
use Rattle.byte_numbers.proofs.ForCallers.{number_again, number_takes}
use Rattle.field_bytes.proofs.ForCallers.{bind_some, takes_both}
use Rattle.record_fields.specs.Field.{Field, IsExact, a_number, both}
use Rattle.record_fields.specs.Exact.{some_is, exact_number, exact_both, exact_made}
use Rattle.record_fields.specs.ExactItems.{exact_rising}
use Rattle.record_fields.specs.ExactNamed.{exact_tid, exact_writes, exact_participants, exact_tickets}
use Rattle.record_fields.specs.Named.{a_tid, writes, participants, tickets}
use Rattle.record_fields.specs.Sums.{tid_number, tids, maybe_at, maybe, prepared, a_doubtful, doubtful, an_open_attempt, open_attempts, a_committed_attempt, committed_attempts}

module _ {A : Type 0} (field : Field A) (exact : IsExact field) where
  -- what was read behind the flag
  maybe_takes : (bytes : List ℕ) (flag : ℕ) (rest : List ℕ) (found : Option A × List ℕ) → Takes bytes (number 1 flag) rest → maybe_at field.reading flag rest ≡ Some found
      → Takes bytes ((maybe field).spelling found.0) found.1 × (maybe field).Fits found.0
  maybe_takes bytes flag rest found behind e = nothing (eqb flag 0) refl e
    where
      Taken : Option A × List ℕ → Type 0
      Taken x = Takes bytes ((maybe field).spelling x.0) x.1 × (maybe field).Fits x.0

      at : (n : ℕ) → eqb flag n ≡ true → Takes bytes (number 1 n) rest
      at n is = let same = eqb-true flag n is in subst (λ (k : ℕ). Takes bytes (number 1 k) rest) same behind

      something : (t : Bool) → eqb flag 1 ≡ t → cond t (field.reading rest >>= λ x. Some (Some x.0, x.1)) None ≡ Some found → Taken found
      something true is f =
          let a = bind_some (field.reading rest) (λ x. Some (Some x.0, x.1)) found f in
          let t = exact.takes rest a.0 behind.fits a.1 in
          let here : Option A × List ℕ = (Some a.0.0, a.0.1) in
          subst Taken (some_is here found a.2) (takes_both bytes (number 1 1) rest (field.spelling a.0.0) a.0.1 (at 1 is) t.0, t.1)
      something false is f = absurd cc

      nothing : (t : Bool) → eqb flag 0 ≡ t → cond t (Some (None, rest)) (cond (eqb flag 1) (field.reading rest >>= λ x. Some (Some x.0, x.1)) None) ≡ Some found → Taken found
      nothing true is f = subst Taken (some_is (None, rest) found f) (at 0 is, tt)
      nothing false is f = something (eqb flag 1) refl f

  maybe_again : (x : Option A) (rest : List ℕ) → (maybe field).Fits x → (maybe field).reading ((maybe field).spelling x ++ rest) ≡ Some (x, rest)
  maybe_again None rest fits = let flag = number_again 1 0 rest (omega arith) in rw flag refl
  maybe_again (Some x) rest fits =
      let grouped : (number 1 1 ++ field.spelling x) ++ rest ≡ number 1 1 ++ (field.spelling x ++ rest) = append_assoc (number 1 1) (field.spelling x) rest in
      let flag = number_again 1 1 (field.spelling x ++ rest) (omega arith) in
      let one = exact.again x rest fits in
      ap (maybe field).reading grouped ∙ rw (flag, one) refl

  pub exact_maybe : IsExact (maybe field)
  exact_maybe = record {
    takes = λ bytes found fits e.
        let flag = bind_some (number_at 1 bytes) (λ flag. maybe_at field.reading flag.0 flag.1) found e in
        let t = number_takes 1 bytes flag.0 fits flag.1 in
        maybe_takes bytes flag.0.0 flag.0.1 found t.0 flag.2;
    again = maybe_again;
  }

pub exact_tids : IsExact tids
exact_tids = exact_rising 2 tid_number a_tid exact_tid

pub exact_prepared : IsExact prepared
exact_prepared =
    exact_both a_tid (both (a_number 4) (both (a_number 8) (both (a_number 8) writes))) exact_tid
    (exact_both (a_number 4) (both (a_number 8) (both (a_number 8) writes)) (exact_number 4)
    (exact_both (a_number 8) (both (a_number 8) writes) (exact_number 8) (exact_both (a_number 8) writes (exact_number 8) exact_writes)))

pub exact_a_doubtful : IsExact a_doubtful
exact_a_doubtful = exact_made _ _ prepared (λ x. refl) (λ p. refl) exact_prepared

pub exact_doubtful : IsExact doubtful
exact_doubtful = exact_rising 2 (λ held. tid_number held.tid) a_doubtful exact_a_doubtful

pub exact_an_open_attempt : IsExact an_open_attempt
exact_an_open_attempt = exact_made _ _ (both a_tid participants) (λ x. refl) (λ p. refl) (exact_both a_tid participants exact_tid exact_participants)

pub exact_open_attempts : IsExact open_attempts
exact_open_attempts = exact_rising 2 (λ x. tid_number x.tid) an_open_attempt exact_an_open_attempt

pub exact_a_committed_attempt : IsExact a_committed_attempt
exact_a_committed_attempt = exact_made _ _ (both a_tid tickets) (λ x. refl) (λ p. refl) (exact_both a_tid tickets exact_tid exact_tickets)

pub exact_committed_attempts : IsExact committed_attempts
exact_committed_attempts = exact_rising 2 (λ x. tid_number x.tid) a_committed_attempt exact_a_committed_attempt
