-- What is read is spelled so, and what is spelled is read again.
use Rattle.std.specs.Prelude.{ℕ, ◌≡◌, Bool, true, false, cond, List, [], ◌++◌, Some, None, refl}
use Rattle.std.proofs.Common.{sym, ap, subst, ◌∙◌, eqb, arith}
use Rattle.std.proofs.lemmas.Bool.{eqb-true}
use Rattle.std.proofs.lemmas.List.{append-nil}
use Rattle.fed_rules.specs.declared.records.CoordRecord.{CoordRecord}
use Rattle.fed_rules.specs.declared.records.CoordRecord.TheVariants.{Initiation, Commit, Abort, End, Checkpoint}
use Rattle.byte_numbers.specs.Numbers.{IsBytes, Takes, number, number_at, ◌>>=◌}
use Rattle.byte_numbers.proofs.ForCallers.{number_takes}
use Rattle.field_bytes.proofs.ForCallers.{bind_some, number_then}
use Rattle.record_fields.specs.Field.{IsExact, both, at_end}
use Rattle.record_fields.specs.Exact.{exact_both, exact_made, variant_takes, variant_again, ends_there}
use Rattle.record_fields.specs.ExactNamed.{exact_tid, exact_participants, exact_tickets}
use Rattle.record_fields.specs.ExactSums.{exact_open_attempts, exact_committed_attempts}
use Rattle.record_fields.specs.Named.{a_tid, participants, tickets}
use Rattle.record_fields.specs.Sums.{open_attempts, committed_attempts}
use Rattle.coord_journal.specs.Spelling.{initiation, commit, checkpoint, spelling, IsRecord, initiation_at, commit_at, end_at, abort_at, checkpoint_at, tagged_at, reading}

exact_initiation : IsExact initiation
exact_initiation = exact_both a_tid participants exact_tid exact_participants

exact_commit : IsExact commit
exact_commit = exact_both a_tid tickets exact_tid exact_tickets

exact_checkpoint : IsExact checkpoint
exact_checkpoint = exact_made _ _ (both open_attempts committed_attempts) (λ x. refl) (λ p. refl) (exact_both open_attempts committed_attempts exact_open_attempts exact_committed_attempts)

-- a record that was taken from the front
abbrev TakesRecord : List ℕ → CoordRecord × List ℕ → Type 0
TakesRecord bytes found = Takes bytes (spelling found.0) found.1 × IsRecord found.0

initiation_takes : (bytes rest : List ℕ) (found : CoordRecord × List ℕ) → Takes bytes (number 1 1) rest → initiation_at rest ≡ Some found → TakesRecord bytes found
unfolding initiation_at
initiation_takes bytes rest found behind e = variant_takes 1 initiation (λ f. Initiation f.0 f.1) spelling IsRecord exact_initiation (λ f. refl) bytes rest found (λ f fits. fits) behind e

commit_takes : (bytes rest : List ℕ) (found : CoordRecord × List ℕ) → Takes bytes (number 1 2) rest → commit_at rest ≡ Some found → TakesRecord bytes found
unfolding commit_at
commit_takes bytes rest found behind e = variant_takes 2 commit (λ f. Commit f.0 f.1) spelling IsRecord exact_commit (λ f. refl) bytes rest found (λ f fits. fits) behind e

end_takes : (bytes rest : List ℕ) (found : CoordRecord × List ℕ) → Takes bytes (number 1 3) rest → end_at rest ≡ Some found → TakesRecord bytes found
unfolding end_at
end_takes bytes rest found behind e = variant_takes 3 a_tid (λ f. End f) spelling IsRecord exact_tid (λ f. refl) bytes rest found (λ f fits. fits) behind e

abort_takes : (bytes rest : List ℕ) (found : CoordRecord × List ℕ) → Takes bytes (number 1 4) rest → abort_at rest ≡ Some found → TakesRecord bytes found
unfolding abort_at
abort_takes bytes rest found behind e = variant_takes 4 initiation (λ f. Abort f.0 f.1) spelling IsRecord exact_initiation (λ f. refl) bytes rest found (λ f fits. fits) behind e

checkpoint_takes : (bytes rest : List ℕ) (found : CoordRecord × List ℕ) → Takes bytes (number 1 5) rest → checkpoint_at rest ≡ Some found → TakesRecord bytes found
unfolding checkpoint_at
checkpoint_takes bytes rest found behind e = variant_takes 5 checkpoint (λ f. Checkpoint f) spelling IsRecord exact_checkpoint (λ f. refl) bytes rest found (λ f fits. fits) behind e

tagged_takes : (bytes : List ℕ) (tag : ℕ) (rest : List ℕ) (found : CoordRecord × List ℕ) → Takes bytes (number 1 tag) rest → tagged_at tag rest ≡ Some found → TakesRecord bytes found
tagged_takes bytes tag rest found behind e = first (eqb tag 1) refl e
  where
    at : (n : ℕ) → eqb tag n ≡ true → Takes bytes (number 1 n) rest
    at n is = let same = eqb-true tag n is in subst (λ (k : ℕ). Takes bytes (number 1 k) rest) same behind

    fifth : (t : Bool) → eqb tag 5 ≡ t → cond t (checkpoint_at rest) None ≡ Some found → TakesRecord bytes found
    fifth true is f = checkpoint_takes bytes rest found (at 5 is) f
    fifth false is f = absurd cc

    fourth : (t : Bool) → eqb tag 4 ≡ t → cond t (abort_at rest) (cond (eqb tag 5) (checkpoint_at rest) None) ≡ Some found → TakesRecord bytes found
    fourth true is f = abort_takes bytes rest found (at 4 is) f
    fourth false is f = fifth (eqb tag 5) refl f

    third : (t : Bool) → eqb tag 3 ≡ t → cond t (end_at rest) (cond (eqb tag 4) (abort_at rest) (cond (eqb tag 5) (checkpoint_at rest) None)) ≡ Some found → TakesRecord bytes found
    third true is f = end_takes bytes rest found (at 3 is) f
    third false is f = fourth (eqb tag 4) refl f

    second : (t : Bool) → eqb tag 2 ≡ t
        → cond t (commit_at rest) (cond (eqb tag 3) (end_at rest) (cond (eqb tag 4) (abort_at rest) (cond (eqb tag 5) (checkpoint_at rest) None))) ≡ Some found → TakesRecord bytes found
    second true is f = commit_takes bytes rest found (at 2 is) f
    second false is f = third (eqb tag 3) refl f

    first : (t : Bool) → eqb tag 1 ≡ t
        → cond t (initiation_at rest) (cond (eqb tag 2) (commit_at rest) (cond (eqb tag 3) (end_at rest) (cond (eqb tag 4) (abort_at rest) (cond (eqb tag 5) (checkpoint_at rest) None)))) ≡ Some found
        → TakesRecord bytes found
    first true is f = initiation_takes bytes rest found (at 1 is) f
    first false is f = second (eqb tag 2) refl f

-- what a payload is read as is a record that it spells
pub read_is_spelled : (payload : List ℕ) (entry : CoordRecord) → IsBytes payload → reading payload ≡ Some entry → IsRecord entry × (payload ≡ spelling entry)
unfolding reading
read_is_spelled payload entry fits e =
    let found = bind_some (number_at 1 payload >>= λ tag. tagged_at tag.0 tag.1) (λ found. at_end found.0 found.1) entry e in
    let tag = bind_some (number_at 1 payload) (λ tag. tagged_at tag.0 tag.1) found.0 found.1 in
    let t = number_takes 1 payload tag.0 fits tag.1 in
    let r = tagged_takes payload tag.0.0 tag.0.1 found.0 t.0 tag.2 in
    let ends = ends_there found.0.0 found.0.1 entry found.2 in
    let none = ends.0 in
    let parts : payload ≡ spelling found.0.0 ++ [] = r.0.parts ∙ ap (λ (l : List ℕ). spelling found.0.0 ++ l) none in
    subst (λ (x : CoordRecord). IsRecord x × (payload ≡ spelling x)) ends.1 (r.1, parts ∙ append-nil (spelling found.0.0))

-- a record that was spelled, whatever follows it
tagged_again : (entry : CoordRecord) (rest : List ℕ) → IsRecord entry → (number_at 1 (spelling entry ++ rest) >>= λ tag. tagged_at tag.0 tag.1) ≡ Some (entry, rest)
unfolding initiation_at commit_at end_at abort_at checkpoint_at
tagged_again (Initiation tid sites) rest fits =
    number_then 1 1 (initiation.spelling (tid, sites) ++ rest) (λ tag. tagged_at tag.0 tag.1) (omega arith)
    ∙ variant_again 1 initiation (λ f. Initiation f.0 f.1) spelling IsRecord exact_initiation (λ f. refl) (tid, sites) rest fits
tagged_again (Commit tid sites) rest fits =
    number_then 1 2 (commit.spelling (tid, sites) ++ rest) (λ tag. tagged_at tag.0 tag.1) (omega arith)
    ∙ variant_again 2 commit (λ f. Commit f.0 f.1) spelling IsRecord exact_commit (λ f. refl) (tid, sites) rest fits
tagged_again (End tid) rest fits =
    number_then 1 3 (a_tid.spelling tid ++ rest) (λ tag. tagged_at tag.0 tag.1) (omega arith)
    ∙ variant_again 3 a_tid (λ f. End f) spelling IsRecord exact_tid (λ f. refl) tid rest fits
tagged_again (Abort tid sites) rest fits =
    number_then 1 4 (initiation.spelling (tid, sites) ++ rest) (λ tag. tagged_at tag.0 tag.1) (omega arith)
    ∙ variant_again 4 initiation (λ f. Abort f.0 f.1) spelling IsRecord exact_initiation (λ f. refl) (tid, sites) rest fits
tagged_again (Checkpoint sum) rest fits =
    number_then 1 5 (checkpoint.spelling sum ++ rest) (λ tag. tagged_at tag.0 tag.1) (omega arith)
    ∙ variant_again 5 checkpoint (λ f. Checkpoint f) spelling IsRecord exact_checkpoint (λ f. refl) sum rest fits

pub spelled_is_read : (entry : CoordRecord) → IsRecord entry → reading (spelling entry) ≡ Some entry
unfolding reading
spelled_is_read entry fits =
    let same : spelling entry ≡ spelling entry ++ [] = sym (append-nil (spelling entry)) in
    let again = tagged_again entry [] fits in
    rw same (rw again refl)
